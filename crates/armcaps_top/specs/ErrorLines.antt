-- The line that each ending of a run has on the error stream, status by status. The texts are this project's own.
use Rattle.std.specs.Prelude.{◌≡◌, ◌≢◌, ◌==◌, ℕ, if◌then◌else◌, List, [], ◌∷◌, ◌++◌, Option, codes}
use Rattle.std.specs.Fmt.{decimal}
use Rattle.armcaps_alt.specs.declared.patch_kind.PatchKind.{PatchKind}
use Rattle.armcaps_alt.specs.Refusals.{kind_number, kind_word}
use Rattle.armcaps_boot.specs.declared.park_or_panic.Halt.{Halt}
use Rattle.armcaps_io.specs.Causes.{Rose}
use Rattle.armcaps_io.specs.Streams.{Keeps, Appends, AppendsPrefix}
use Rattle.armcaps_report.specs.Texts.{cause_text}
use Rattle.armcaps_report.specs.UserReads.{read_refused_text}
use Rattle.armcaps_text.specs.Refusal.{refusal_text}
use Rattle.armcaps_text.specs.Texts.{texts_refusal_text}
use Rattle.armcaps_text.specs.declared.kind.TextRefused.TheVariants as refused
use Rattle.armcaps_top.specs.Elf.{elf_word}
use Rattle.armcaps_top.specs.declared.commands.jump.LabelsRefused.{LabelsRefused}
use Rattle.armcaps_top.specs.declared.commands.jump.LabelsRefused.TheVariants.{TableOutside, Entry}
use Rattle.armcaps_top.specs.declared.ending.Ending.{Ending}
use Rattle.armcaps_top.specs.declared.ending.Ending.TheVariants.{Done, ReadFault, WriteFault, Memory, NoOutput}
use Rattle.armcaps_top.specs.declared.reason.Reason.{Reason}
use Rattle.armcaps_top.specs.declared.reason.Reason.TheVariants.{Usage, Refused, Panicked, MachinePanicked, NotRead, NotPatched, NotElf, NotLoaded, NotJumped, Differs}
use Rattle.armcaps_top.specs.declared.refusal.Refusal.{Refusal}
use Rattle.armcaps_top.specs.declared.refusal.Refusal.TheVariants.{Line, TooLong, ImageShort, Trailing, Texts}

-- status 3: why an input is refused, as `line 7: kind 13 turn`
unfoldable pub refused_text : Refusal → List ℕ
refused_text (Line line kind) = refusal_text (refused.Line line kind)
refused_text (TooLong limit) = codes "input longer than " ++ decimal limit ++ codes " bytes"
refused_text (ImageShort got of) = codes "image short: " ++ decimal got ++ codes " of " ++ decimal of ++ codes " bytes"
refused_text (Trailing extra) = codes "trailing bytes: " ++ decimal extra
refused_text (Texts refused) = texts_refusal_text refused

-- status 7: what stopped the machine, as `core 1: cap 5 MTE`
unfoldable pub halt_text : Halt → List ℕ
halt_text halt = codes "core " ++ decimal halt.core ++ codes ": " ++ cause_text halt.cause

-- status 8: a refused entry of the table of alternatives, as `entry 0: kind 8 literal`
unfoldable pub entry_text : ℕ → PatchKind → List ℕ
entry_text entry kind =
    codes "entry " ++ decimal entry ++ codes ": kind " ++ decimal (kind_number kind) ++ codes " " ++ kind_word kind

-- status 10: a kind of an ELF file, as `kind 7 overlap`
unfoldable pub elf_kind_text : ℕ → List ℕ
elf_kind_text kind = codes "kind " ++ decimal kind ++ codes " " ++ elf_word kind

-- status 10: an entry that is not loaded, as `entry 0: kind 11 site`
unfoldable pub elf_entry_text : ℕ → ℕ → List ℕ
elf_entry_text entry kind = codes "entry " ++ decimal entry ++ codes ": " ++ elf_kind_text kind

-- the word of a kind of refused jump label: where its code is, where its key is, and its branch
abbrev pub label_kind_word : ℕ → List ℕ
label_kind_word kind = if kind == 1 then codes "code" else if kind == 2 then codes "key" else codes "branch"

-- status 11: why no jump labels are applied, as `table outside` or `entry 0: kind 1 code`
unfoldable pub labels_refused_text : LabelsRefused → List ℕ
labels_refused_text TableOutside = codes "table outside"
labels_refused_text (Entry entry kind) =
    codes "entry " ++ decimal entry ++ codes ": kind " ++ decimal kind ++ codes " " ++ label_kind_word kind

-- the text of a reason why nothing is written; statuses 2, 3 and 7 to 12
unfoldable pub reason_text : Reason → List ℕ
reason_text Usage = codes
    "usage: armcaps report | patch | mrs CORE WORD | demo SEED CORES | trace | elf | jump OFFSET COUNT | pool | audit"
reason_text (Refused refusal) = refused_text refusal
reason_text (Panicked halt) = codes "panic: " ++ halt_text halt
reason_text (MachinePanicked machine halt) =
    codes "machine " ++ decimal machine ++ codes ": panic: " ++ halt_text halt
reason_text (NotPatched entry kind) = codes "patch: " ++ entry_text entry kind
reason_text (NotRead refused) = codes "mrs: " ++ read_refused_text refused
reason_text (NotJumped refused) = codes "jump: " ++ labels_refused_text refused
reason_text (NotElf kind) = codes "elf: " ++ elf_kind_text kind
reason_text (NotLoaded entry kind) = codes "elf: " ++ elf_entry_text entry kind
reason_text (Differs place) = codes "audit: byte " ++ decimal place

-- the text of an ending, behind `armcaps: `; statuses 4, 5 and 6, and those of a reason
unfoldable pub ending_text : Ending → List ℕ
ending_text Done = []
ending_text ReadFault = codes "read fault"
ending_text WriteFault = codes "write fault"
ending_text Memory = codes "want of memory"
ending_text (NoOutput reason) = reason_text reason

-- the line of an ending, as `armcaps: read fault`
abbrev pub ending_line : Ending → List ℕ
ending_line ending = codes "armcaps: " ++ ending_text ending ++ 10 ∷ []

-- what the error stream got: nothing where the run is done, and else the ending's line, whole where the stream did not
-- fail in this call, and a first part of it in any case
pub record Tells (ending : Ending) (old new : Option (List ℕ)) (before now : ℕ) : Type 0 where
  pub quiet : ending ≡ Done → Keeps old new
  pub whole : ending ≢ Done → (Rose before now → ⊥) → Appends old new (ending_line ending)
  pub part : ending ≢ Done → AppendsPrefix old new (ending_line ending)

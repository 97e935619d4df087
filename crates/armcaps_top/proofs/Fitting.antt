-- Which reasons the answers of commands can have.
use Rattle.std.proofs.Common.{◌≡◌, ◌⊎◌, inl, inr, ℕ, ◌+◌, ◌*◌, ◌≤◌, Bool, true, false, cond, drop, map, nat_lt, take, length, List, [], ◌∷◌, Option, Some, None, refl, sym, ap, subst, ◌∙◌, arith}
use Rattle.std.specs.Prelude.{Result, Ok, Err}
use Rattle.std.specs.Option.{option_and_then, option_map, option_or}
use Rattle.armcaps_alt.specs.declared.table_place.Layout.{Layout}
use Rattle.armcaps_elf.specs.Images.{flat_image}
use Rattle.armcaps_alt.specs.Entries.{Features}
use Rattle.armcaps_alt.specs.Patched.{patched_image}
use Rattle.armcaps_alt.specs.Refusals as alternatives
use Rattle.armcaps_alt.specs.Refusals.{first_refusal}
use Rattle.armcaps_boot.specs.Findings.{Findings, findings_after}
use Rattle.armcaps_mrs.specs.Reading.{user_read}
use Rattle.armcaps_jump.specs.Jumped.{jump_image}
use Rattle.armcaps_jump.specs.Refusals as labels
use Rattle.armcaps_jump.specs.Refusals.{first_refusal as first_label_refusal}
use Rattle.armcaps_pool.specs.Audits.{first_difference}
use Rattle.armcaps_patch.specs.Features.{features_of_findings}
use Rattle.armcaps_boot.specs.declared.park_or_panic.Halt.{Halt}
use Rattle.armcaps_text.proofs.GeneratedReading.{generated_up}
use Rattle.armcaps_text.specs.Generator.{generated_reading}
use Rattle.armcaps_top.specs.Answer.{Answer, answer_for, findings_in, first_stop, steps_of, halt_in, of_document, of_documents, output_in, read_or_not, refused, unless_stopped, up_to_stop}
use Rattle.armcaps_top.specs.Audit.{audit_reason, yes_line}
use Rattle.armcaps_top.specs.Demo.{generated_document}
use Rattle.armcaps_top.specs.Document.{Document, document, document_pair, documents}
use Rattle.armcaps_top.specs.Elf.{elf_reason, file_kind, first_unloaded, patched_file, table_in, unloaded_at}
use Rattle.armcaps_top.specs.Statuses.{reason_status}
use Rattle.armcaps_top.specs.Inside.{AreCoresGiven}
use Rattle.armcaps_top.specs.Jump.{labelled_after, unless_label_refused}
use Rattle.armcaps_top.specs.Mrs.{read_output}
use Rattle.armcaps_top.specs.Patch.{not_patched, patch_output, refused_entry, unless, unless_entry_refused}
use Rattle.armcaps_top.specs.Pool.{pool_output}
use Rattle.armcaps_top.specs.Run.{can_end, is_some_stopped, reads_input}
use Rattle.armcaps_top.specs.declared.commands.Command.{Command}
use Rattle.armcaps_top.specs.declared.commands.Command.TheVariants.{Ask, Patch, Elf, Jump, Pool, Audit, Demo}
use Rattle.armcaps_top.specs.declared.commands.Query.TheVariants.{Report, Mrs, Trace}
use Rattle.armcaps_top.specs.declared.commands.jump.LabelsRefused.TheVariants.{TableOutside, Entry}
use Rattle.armcaps_report.specs.declared.user_reads.ReadRefused.{ReadRefused}
use Rattle.armcaps_top.specs.declared.reason.Reason.{Reason}
use Rattle.armcaps_top.specs.declared.reason.Reason.TheVariants.{Usage, Refused, Panicked, MachinePanicked, NotPatched, NotRead, NotElf, NotLoaded, NotJumped, Differs}
use Rattle.armcaps_top.specs.declared.refusal.Refusal.{Refusal}

-- what the reason says of the answer that has it
pub record Fits (command : Option Command) (answer : Answer) : Type 0 where
  pub status : (reason : Reason) → answer.output ≡ Err reason → can_end command (reason_status reason) ≡ true
  pub usage : answer.output ≡ Err Usage → command ≡ None
  pub refused : (refusal : Refusal) → answer.output ≡ Err (Refused refusal) → answer ≡ refused refusal
  pub stopped : (reason : Reason) → reason_status reason ≡ 7 → answer.output ≡ Err reason → is_some_stopped answer.machines ≡ true

-- a reason of a command's own, for which it writes nothing of a document whose machine no step stops
abbrev pub IsOwn : Option Command → Reason → Type 0
IsOwn command Usage = ⊥
IsOwn command (Refused refusal) = ⊥
IsOwn command (Panicked halt) = ⊥
IsOwn command (MachinePanicked machine halt) = ⊥
IsOwn command (NotPatched entry kind) = can_end command 8 ≡ true
IsOwn command (NotRead refused) = can_end command 9 ≡ true
IsOwn command (NotJumped refused) = can_end command 11 ≡ true
IsOwn command (NotElf kind) = can_end command 10 ≡ true
IsOwn command (NotLoaded entry kind) = can_end command 10 ≡ true
IsOwn command (Differs place) = can_end command 12 ≡ true

own_status : (command : Option Command) (reason : Reason) → IsOwn command reason → can_end command (reason_status reason) ≡ true
own_status command Usage own = absurd own
own_status command (Refused refusal) own = absurd own
own_status command (Panicked halt) own = absurd own
own_status command (MachinePanicked machine halt) own = absurd own
own_status command (NotPatched entry kind) own = own
own_status command (NotRead refused) own = own
own_status command (NotJumped refused) own = own
own_status command (NotElf kind) own = own
own_status command (NotLoaded entry kind) own = own
own_status command (Differs place) own = own

-- and no step stops the machine for it
own_goes : (command : Option Command) (reason : Reason) → IsOwn command reason → reason_status reason ≡ 7 → ⊥
own_goes command Usage own is = own
own_goes command (Refused refusal) own is = own
own_goes command (Panicked halt) own is = own
own_goes command (MachinePanicked machine halt) own is = own
own_goes command (NotPatched entry kind) own is = omega (arith, is)
own_goes command (NotRead refused) own is = omega (arith, is)
own_goes command (NotJumped refused) own is = omega (arith, is)
own_goes command (NotElf kind) own is = omega (arith, is)
own_goes command (NotLoaded entry kind) own is = omega (arith, is)
own_goes command (Differs place) own is = omega (arith, is)

some_stopped : (found : Document) (halt : Halt) → halt_in found ≡ Some halt → is_some_stopped (found ∷ []) ≡ true
some_stopped found halt is = rw is refl

-- an answer from a document
fits_by : (command : Command) (found : Document) (halt : Option Halt) → halt_in found ≡ halt → (can_end (Some command) 7 ≡ true) ⊎ (halt ≡ None)
    → ((reason : Reason) → output_in command found ≡ Err reason → IsOwn (Some command) reason)
    → Fits (Some command) (record { machines = found ∷ []; output = unless_stopped halt (output_in command found) })
fits_by command found None is seven own = record {
  status = λ reason same. own_status (Some command) reason (own reason same);
  usage = λ same. absurd (own Usage same);
  refused = λ refusal same. absurd (own (Refused refusal) same);
  stopped = λ reason seven same. absurd (own_goes (Some command) reason (own reason same) seven);
}
fits_by command found (Some halt) is (inr none) own = absurd (let no : ⊥ = cc in no)
fits_by command found (Some halt) is (inl seven) own = record {
  status = λ reason same. let is_halt : Panicked halt ≡ reason = cc in subst (λ (r : Reason). can_end (Some command) (reason_status r) ≡ true) is_halt seven;
  usage = λ same. absurd (let no : ⊥ = cc in no);
  refused = λ refusal same. absurd (let no : ⊥ = cc in no);
  stopped = λ reason seven same. some_stopped found halt is;
}

pub fits_found : (command : Command) (found : Document) → (can_end (Some command) 7 ≡ true) ⊎ (halt_in found ≡ None)
    → ((reason : Reason) → output_in command found ≡ Err reason → IsOwn (Some command) reason) → Fits (Some command) (of_document command (Ok found))
fits_found command found seven own = fits_by command found (halt_in found) refl seven own

-- an answer from an input that is none
pub fits_refused : (command : Option Command) (refusal : Refusal) → can_end command 3 ≡ true → Fits command (refused refusal)
fits_refused command refusal three = record {
  status = λ reason same. let is : Refused refusal ≡ reason = cc in subst (λ (r : Reason). can_end command (reason_status r) ≡ true) is three;
  usage = λ same. absurd (let no : ⊥ = cc in no);
  refused = λ other same. let is : refusal ≡ other = cc in ap refused is;
  stopped = λ reason seven same. let is : Refused refusal ≡ reason = cc in let three : 3 ≡ reason_status reason = ap reason_status is in absurd (omega (arith, three, seven));
}

-- the reason for which a text is not written
unless_why : (why : Option Reason) (text : List ℕ) (reason : Reason) → unless why text ≡ Err reason → why ≡ Some reason
unless_why None text reason is = absurd (let no : ⊥ = cc in no)
unless_why (Some one) text reason is = let same : one ≡ reason = cc in ap Some same

-- the first stop of documents, where the first of them is stopped so
stop_first : (number : ℕ) (found : Document) (more : List Document) (halt : Option Halt) → halt_in found ≡ halt
    → first_stop number (found ∷ more) ≡ option_or (option_map (MachinePanicked number) halt) (first_stop (number + 1) more)
stop_first number found more halt is = ap (λ (h : Option Halt). option_or (option_map (MachinePanicked number) h) (first_stop (number + 1) more)) is

-- the reason has status 7, and one of the documents up to it is stopped
record IsStop (all : List Document) (reason : Reason) : Type 0 where
  status : reason_status reason ≡ 7
  stopped : is_some_stopped (up_to_stop all) ≡ true

stop_or_later : (number : ℕ) (found : Document) (more : List Document) (reason : Reason) (halt : Option Halt) → halt_in found ≡ halt
    → option_or (option_map (MachinePanicked number) halt) (first_stop (number + 1) more) ≡ Some reason
    → (first_stop (number + 1) more ≡ Some reason → IsStop more reason) → IsStop (found ∷ more) reason
stop_or_later number found more reason (Some halt) is first later =
    let same : MachinePanicked number halt ≡ reason = cc in record { status = sym (ap reason_status same); stopped = rw is refl }
stop_or_later number found more reason None is first later = record { status = (later first).status; stopped = rw is (later first).stopped }

stop_is : (number : ℕ) (all : List Document) (reason : Reason) → first_stop number all ≡ Some reason → IsStop all reason
stop_is number [] reason is = absurd (let no : ⊥ = cc in no)
stop_is number (found ∷ more) reason is =
    stop_or_later number found more reason (halt_in found) refl (sym (stop_first number found more (halt_in found) refl) ∙ is) (stop_is (number + 1) more reason)

-- documents are refused for no reason but a stop
pub never_refused : (all : List Document) (refusal : Refusal) → (of_documents (Ok all)).output ≡ Err (Refused refusal) → ⊥
never_refused all refusal is =
    omega (arith, (stop_is 0 all (Refused refusal) (unless_why (first_stop 0 all) (pool_output (map findings_in all)) (Refused refusal) is)).status)

-- an answer from several documents
fits_documents : (read : Result (List Document) Refusal) → Fits (Some Pool) (of_documents read)
fits_documents (Err refusal) = fits_refused (Some Pool) refusal refl
fits_documents (Ok all) =
    let stop : (reason : Reason) → unless (first_stop 0 all) (pool_output (map findings_in all)) ≡ Err reason → IsStop all reason =
    λ reason same. stop_is 0 all reason (unless_why (first_stop 0 all) (pool_output (map findings_in all)) reason same) in record {
      status = λ reason same. subst (λ (n : ℕ). can_end (Some Pool) n ≡ true) (sym (stop reason same).status) refl;
      usage = λ same. absurd (omega (arith, (stop Usage same).status));
      refused = λ refusal same. absurd (omega (arith, (stop (Refused refusal) same).status));
      stopped = λ reason seven same. (stop reason same).stopped;
    }

-- an answer from an input
pub fits_input : (command : Command) (read : Result Document Refusal) → can_end (Some command) 3 ≡ true → can_end (Some command) 7 ≡ true
    → ((found : Document) (reason : Reason) → output_in command found ≡ Err reason → IsOwn (Some command) reason) → Fits (Some command) (of_document command read)
fits_input command (Ok found) three seven own = fits_found command found (inl seven) (own found)
fits_input command (Err refusal) three seven own = fits_refused (Some command) refusal three

own_read : (core word : ℕ) (read : Result (List ℕ) ReadRefused) (reason : Reason) → read_or_not read ≡ Err reason → IsOwn (Some (Ask (Mrs core word))) reason
own_read core word (Ok output) reason is = absurd (let no : ⊥ = cc in no)
own_read core word (Err refused) reason is =
    let same : NotRead refused ≡ reason = cc in subst (λ (r : Reason). IsOwn (Some (Ask (Mrs core word))) r) same refl

own_entry : (command : Command) (refusal : Option alternatives.Refusal) (image : List ℕ) (reason : Reason) → can_end (Some command) 8 ≡ true
    → unless_entry_refused refusal image ≡ Err reason → IsOwn (Some command) reason
own_entry command None image reason eight is = absurd (let no : ⊥ = cc in no)
own_entry command (Some refusal) image reason eight is =
    let same : NotPatched refusal.entry refusal.kind ≡ reason = cc in subst (λ (r : Reason). IsOwn (Some command) r) same eight

own_label : (table count : ℕ) (outside : Bool) (refusal : Option labels.Refusal) (image : List ℕ) (reason : Reason)
    → cond outside (Err (NotJumped TableOutside)) (unless_label_refused refusal image) ≡ Err reason → IsOwn (Some (Jump table count)) reason
own_label table count true refusal image reason is =
    let same : NotJumped TableOutside ≡ reason = cc in subst (λ (r : Reason). IsOwn (Some (Jump table count)) r) same refl
own_label table count false None image reason is = absurd (let no : ⊥ = cc in no)
own_label table count false (Some refusal) image reason is =
    let same : NotJumped (Entry refusal.entry refusal.kind) ≡ reason = cc in subst (λ (r : Reason). IsOwn (Some (Jump table count)) r) same refl

own_labels : (table count : ℕ) (patched : Result (List ℕ) Reason) (reason : Reason) → ((r : Reason) → patched ≡ Err r → IsOwn (Some (Jump table count)) r)
    → labelled_after table count patched ≡ Err reason → IsOwn (Some (Jump table count)) reason
own_labels table count (Ok image) reason own is =
    own_label table count (nat_lt (length image) (table + 16 * count)) (first_label_refusal image table count) (jump_image image table count) reason is
own_labels table count (Err refused) reason own is = own reason is

-- a reason that comes of one of two, or of what is found, is a command's own where each of these is
module _ (command : Command) where
  own_or : (first second : Option Reason) → ((r : Reason) → first ≡ Some r → IsOwn (Some command) r) → ((r : Reason) → second ≡ Some r → IsOwn (Some command) r)
      → (reason : Reason) → option_or first second ≡ Some reason → IsOwn (Some command) reason
  own_or None second here later reason is = later reason is
  own_or (Some one) second here later reason is = here reason is

  own_map : {A : Type 0} (f : A → Reason) (found : Option A) → ((x : A) → IsOwn (Some command) (f x)) → (reason : Reason) → option_map f found ≡ Some reason
      → IsOwn (Some command) reason
  own_map f None each reason is = absurd (let no : ⊥ = cc in no)
  own_map f (Some x) each reason is = let same : f x ≡ reason = cc in subst (λ (r : Reason). IsOwn (Some command) r) same (each x)

  own_then : {A : Type 0} (f : A → Option Reason) (found : Option A) → ((x : A) (r : Reason) → f x ≡ Some r → IsOwn (Some command) r) → (reason : Reason)
      → option_and_then f found ≡ Some reason → IsOwn (Some command) reason
  own_then f None each reason is = absurd (let no : ⊥ = cc in no)
  own_then f (Some x) each reason is = each x reason is

  own_unless : (why : Option Reason) (text : List ℕ) → ((r : Reason) → why ≡ Some r → IsOwn (Some command) r) → (reason : Reason) → unless why text ≡ Err reason
      → IsOwn (Some command) reason
  own_unless None text each reason is = absurd (let no : ⊥ = cc in no)
  own_unless (Some one) text each reason is = each reason (let same : one ≡ reason = cc in ap Some same)

-- why an ELF file isn't written
own_elf : (features : Features) (line : Layout) (file : List ℕ) (reason : Reason) → elf_reason features line file ≡ Some reason → IsOwn (Some Elf) reason
unfolding elf_reason
own_elf features line file =
    own_or Elf (option_map NotElf (file_kind line file)) _ (own_map Elf NotElf (file_kind line file) (λ kind. refl))
    (own_or Elf (refused_entry features (flat_image file) (table_in file)) (first_unloaded features file)
    (own_map Elf not_patched (first_refusal features (flat_image file) (table_in file)) (λ refusal. refl))
    (own_then Elf (λ (number : ℕ). option_map (NotLoaded number) (unloaded_at features file number)) _
    (λ number. own_map Elf (NotLoaded number) (unloaded_at features file number) (λ kind. refl))))

-- why an image is not taken
own_audit : (features : Features) (layout : Layout) (image judged : List ℕ) (reason : Reason) → audit_reason features layout image judged ≡ Some reason → IsOwn (Some Audit) reason
unfolding audit_reason
own_audit features layout image judged =
    own_or Audit (refused_entry features image layout) (option_map Differs (first_difference judged (patched_image features image layout)))
    (own_map Audit not_patched (first_refusal features image layout) (λ refusal. refl))
    (own_map Audit Differs (first_difference judged (patched_image features image layout)) (λ place. refl))

abbrev findings_of_document : Document → Findings
findings_of_document found = findings_after found.reading.board (steps_of found)

abbrev features_of_document : Document → Features
features_of_document found = features_of_findings (findings_of_document found) found.reading.names

-- no step stops a machine that is made from a seed
demo_goes : (seed cores : ℕ) → 1 ≤ cores → halt_in (generated_document seed cores) ≡ None
unfolding generated_reading
demo_goes seed cores some = generated_up seed cores some

pub fits : (command : Option Command) (bytes : List ℕ) → AreCoresGiven command → Fits command (answer_for command bytes)
fits None bytes given = record {
  status = λ reason same. let is : Usage ≡ reason = cc in subst (λ (r : Reason). can_end None (reason_status r) ≡ true) is refl;
  usage = λ same. refl;
  refused = λ refusal same. absurd (let no : ⊥ = cc in no);
  stopped = λ reason seven same. let is : Usage ≡ reason = cc in let two : 2 ≡ reason_status reason = ap reason_status is in absurd (omega (arith, two, seven));
}
fits (Some (Ask Report)) bytes given = fits_input (Ask Report) (document bytes) refl refl (λ found reason same. absurd (let no : ⊥ = cc in no))
fits (Some (Ask Trace)) bytes given = fits_input (Ask Trace) (document bytes) refl refl (λ found reason same. absurd (let no : ⊥ = cc in no))
fits (Some (Ask (Mrs core word))) bytes given = fits_input (Ask (Mrs core word)) (document bytes) refl refl (λ found. own_read core word (read_output core word (user_read (findings_of_document found) core word)))
fits (Some Patch) bytes given = fits_input Patch (document bytes) refl refl (λ found reason. own_entry Patch (first_refusal (features_of_document found) found.image found.reading.layout)
    (patched_image (features_of_document found) found.image found.reading.layout) reason refl)
fits (Some (Jump table count)) bytes given = fits_input (Jump table count) (document bytes) refl refl (λ found reason. own_labels table count
    (patch_output found.reading.board (steps_of found) found.reading found.image) reason
    (λ other. own_entry (Jump table count) (first_refusal (features_of_document found) found.image found.reading.layout)
    (patched_image (features_of_document found) found.image found.reading.layout) other refl))
fits (Some Elf) bytes given = fits_input Elf (document bytes) refl refl (λ found. own_unless Elf (elf_reason (features_of_document found) found.reading.layout found.image)
    (patched_file (features_of_document found) found.image) (own_elf (features_of_document found) found.reading.layout found.image))
fits (Some Pool) bytes given = fits_documents (documents bytes)
fits (Some Audit) bytes given = fits_input Audit (document_pair bytes) refl refl (λ found. own_unless Audit
    (audit_reason (features_of_document found) found.reading.layout (take found.reading.image found.image) (drop found.reading.image found.image)) yes_line
    (own_audit (features_of_document found) found.reading.layout (take found.reading.image found.image) (drop found.reading.image found.image)))
fits (Some (Demo seed cores)) bytes given =
    fits_found (Demo seed cores) (generated_document seed cores) (inr (demo_goes seed cores given.0)) (λ reason same. absurd (let no : ⊥ = cc in no))

-- a command can end by what its streams and the memory do
pub stream_ends : (command : Command) → (can_end (Some command) 0 ≡ true) × (can_end (Some command) 5 ≡ true) × (can_end (Some command) 6 ≡ true)
stream_ends (Ask Report) = (refl, refl, refl)
stream_ends (Ask Trace) = (refl, refl, refl)
stream_ends (Ask (Mrs core word)) = (refl, refl, refl)
stream_ends Patch = (refl, refl, refl)
stream_ends (Jump table count) = (refl, refl, refl)
stream_ends Elf = (refl, refl, refl)
stream_ends Pool = (refl, refl, refl)
stream_ends Audit = (refl, refl, refl)
stream_ends (Demo seed cores) = (refl, refl, refl)

pub read_ends : (command : Command) → reads_input (Some command) ≡ true → can_end (Some command) 4 ≡ true
read_ends (Ask Report) reads = refl
read_ends (Ask Trace) reads = refl
read_ends (Ask (Mrs core word)) reads = refl
read_ends Patch reads = refl
read_ends (Jump table count) reads = refl
read_ends Elf reads = refl
read_ends Pool reads = refl
read_ends Audit reads = refl
read_ends (Demo seed cores) reads = absurd (let no : ⊥ = cc in no)

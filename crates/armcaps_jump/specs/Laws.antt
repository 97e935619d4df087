-- What a table of jump labels makes of an image, in the words of its subject.
use Rattle.std.specs.Prelude.{◌≡◌, ◌≢◌, ◌+◌, ◌<◌, ◌≤◌, ℕ, List}
use Rattle.armcaps_insn.specs.Encodings.{nop}
use Rattle.armcaps_insn.specs.Moved.{IsBranch}
use Rattle.armcaps_image.specs.Places.{as_place}
use Rattle.armcaps_jump.specs.declared.jump_entry.JumpEntry.{JumpEntry}
use Rattle.armcaps_jump.specs.Entries.{entry_at}
use Rattle.armcaps_jump.specs.Words.{is_on}

-- the word that an entry chooses: the branch to its target where key and branch flag differ, NOP where they are the
-- same
pub record IsChosen (image : List ℕ) (entry : JumpEntry) (word : ℕ) : Type 0 where
  pub jumps : is_on image entry ≢ entry.branch → IsBranch (as_place entry.code) entry.target word
  pub stays : is_on image entry ≡ entry.branch → word ≡ nop

-- an entry of a table is the last one with its code place
pub record IsLastThere (image : List ℕ) (table count number : ℕ) : Type 0 where
  pub within : number < count
  pub last : (later : ℕ) → number < later → later < count
      → (entry_at image table later).code ≢ (entry_at image table number).code

-- no entry of a table has its code in the word of a place
abbrev pub IsElsewhere : List ℕ → ℕ → ℕ → ℕ → Type 0
IsElsewhere image table count place =
    (number : ℕ) → number < count → as_place (entry_at image table number).code ≤ place
    → as_place (entry_at image table number).code + 4 ≤ place

use Rattle.std.proofs.Common.{◌≡◌, ℕ, ◌+◌, ◌*◌, Bool, true, false, cond, nat_lt, List, length, Option, Some, None, refl, subst}
use Rattle.std.specs.Prelude.{Result, Ok, Err, slice_index}
use Rattle.armcaps_image.specs.Bytes.{word_in}
use Rattle.armcaps_image.specs.Places.{as_place}
use Rattle.armcaps_jump.specs.Entries.{entry_at}
use Rattle.armcaps_jump.specs.Jumped.{jump_image}
use Rattle.armcaps_jump.specs.Laws.{IsChosen}
use Rattle.armcaps_jump.specs.Refusals as labels
use Rattle.armcaps_jump.specs.Refusals.{first_refusal}
use Rattle.armcaps_top.specs.Answer.{output_in}
use Rattle.armcaps_top.specs.Jump.{labelled_after, unless_label_refused}
use Rattle.armcaps_top.specs.declared.commands.Command.TheVariants.{Patch}
use Rattle.armcaps_top.specs.declared.commands.jump.LabelsRefused.TheVariants.{TableOutside}
use Rattle.armcaps_top.specs.declared.reason.Reason.{Reason}
use Rattle.armcaps_top.specs.declared.reason.Reason.TheVariants.{NotJumped}
use Rattle.armcaps_top.proofs.laws.labels_choose_words.Goals as goal

-- where there are labels, no entry is refused
accepted : (image jumped text : List ℕ) (outside : Bool) (refusal : Option labels.Refusal)
    → cond outside (Err (NotJumped TableOutside)) (unless_label_refused refusal jumped) ≡ Ok text → (refusal ≡ None) × (jumped ≡ text)
accepted image jumped text true refusal is = absurd (let no : ⊥ = cc in no)
accepted image jumped text false None is = (refl, cc)
accepted image jumped text false (Some refusal) is = absurd (let no : ⊥ = cc in no)

-- and there is a patched image
made : (table count : ℕ) (patched : Result (List ℕ) Reason) (text : List ℕ) → labelled_after table count patched ≡ Ok text
    → (image : List ℕ) × ((patched ≡ Ok image) × (first_refusal image table count ≡ None) × (jump_image image table count ≡ text))
made table count (Ok image) text is =
    let found = accepted image (jump_image image table count) text (nat_lt (length image) (table + 16 * count)) (first_refusal image table count) is in
    (image, (refl, found.0, found.1))
made table count (Err reason) text is = absurd (let no : ⊥ = cc in no)

pub returns : goal.returns
returns c = λ found table count text is.
    let law = c.the_last_entry_chooses.ensures in
    let parts = made table count (output_in Patch found) text is in
    let image : List ℕ = parts.0 in record {
      patched = image;
      is_patched = parts.1.0;
      size = subst (λ (t : List ℕ). length t ≡ length image) parts.1.2 (law.length image table count);
      chosen = λ number last. subst (λ (t : List ℕ). IsChosen image (entry_at image table number) (word_in t (as_place (entry_at image table number).code))) parts.1.2
          (law.chosen image table count number parts.1.1 last);
      others = λ place within elsewhere. subst (λ (t : List ℕ). slice_index t place ≡ slice_index image place) parts.1.2
          (law.others image table count place parts.1.1 within elsewhere);
    }

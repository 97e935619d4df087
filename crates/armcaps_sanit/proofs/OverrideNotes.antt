-- An override that is not taken.
use Rattle.std.proofs.Common.{◌≡◌, ℕ, false, cond, Option, Some, ◌∙◌, ap}
use Rattle.std.specs.Prelude.{ℤ}
use Rattle.std.specs.Option.{option_map}
use Rattle.std.specs.Ordering.{int_eq}
use Rattle.armcaps_rule.specs.Rule.{merged}
use Rattle.armcaps_rule.proofs.Merging.{int_eq_not}
use Rattle.armcaps_tables.specs.Row.{Row}
use Rattle.armcaps_tables.specs.Fields.{field_in}
use Rattle.armcaps_sanit.specs.declared.noted.Note.TheVariants.{Forced, Ignored, Already}
use Rattle.armcaps_sanit.specs.Notes.{note_of}

pub note_ignored : (listed : Option Row) (override : Option ℤ) (word : ℕ) (row : Row) (value given result : ℤ) → listed ≡ Some row → override ≡ Some given
    → value ≡ field_in row word → result ≡ merged row.rule row.safe given value → (result ≡ given → ⊥)
    → option_map (λ r. note_of r.rule r.safe override (field_in r word)) listed ≡ Some Ignored
note_ignored listed override word row value given result at is read merge differs =
    let other : int_eq (merged row.rule row.safe given (field_in row word)) given ≡ false =
    int_eq_not _ given (λ e. differs (merge ∙ ap (merged row.rule row.safe given) read ∙ e)) in
    rw (at, is) (ap (λ b. Some (cond b (cond (int_eq (field_in row word) given) Already Forced) Ignored)) other)

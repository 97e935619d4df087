-- The line of a field in a pool's text.
use Rattle.std.proofs.Common.{◌≡◌, ℕ, List, [], ◌++◌, Some, sym, ap, ◌∙◌}
use Rattle.std.specs.Prelude.{Result, Ok, Err, OnOk, slice_get}
use Rattle.std.specs.Option.{option_map_or}
use Rattle.armcaps_enc.specs.declared.register.SysReg.{SysReg}
use Rattle.armcaps_tables.specs.Row.{Row}
use Rattle.armcaps_tables.specs.Rows.{rows_of}
use Rattle.armcaps_baseline.specs.Baselines.{limiting_machine}
use Rattle.armcaps_report.specs.Pooled.{field_limit, limit_line}

-- the row that was told is the one that the table has there
pub limit_told : {V E : Type 0} (result : Result V E) (machines : List (List ℕ)) (register reg : SysReg) (index : ℕ)
    (told : Row) (machine : ℕ) (old new : List ℕ) → slice_get (rows_of register) index ≡ Some told → reg ≡ register
    → limiting_machine machines register told ≡ Some machine → OnOk result (new ≡ old ++ limit_line reg told machine)
    → OnOk result ((row : Row) → slice_get (rows_of register) index ≡ Some row
    → new ≡ old ++ field_limit machines register row)
limit_told (Ok value) machines register reg index told machine old new has same limits added = λ row at.
    let both : Some told ≡ Some row = sym has ∙ at in
    let is : told ≡ row = cc in
    added ∙ ap (λ (r : SysReg). old ++ limit_line r told machine) same
    ∙ ap (λ found. old ++ option_map_or (λ m. limit_line register told m) found []) (sym limits)
    ∙ ap (λ (r : Row). old ++ field_limit machines register r) is
limit_told (Err error) machines register reg index told machine old new has same limits added = added

-- A text that has room for a part takes it.
use Rattle.std.proofs.Common.{◌≡◌, ℕ, ◌<◌, ◌+◌, List, ◌++◌, length, arith}
use Rattle.std.specs.Prelude.{Result, Ok, Err}
use Rattle.armcaps_report.specs.Extending.{Extends}

pub taken_with_room : {V E : Type 0} (result : Result V E) (refused_from : ℕ) (old new part : List ℕ) → Extends result refused_from old new part
    → length old + length part < refused_from → new ≡ old ++ part
taken_with_room (Ok value) refused_from old new part extends room = extends.taken
taken_with_room (Err error) refused_from old new part extends room = absurd (omega (arith, extends.refused))

use Rattle.std.proofs.Common.{refl}
use Rattle.armcaps_tables.specs.Overriding.{overrides_by}
use Rattle.armcaps_tables.proofs.Overriding.{none_sound}
use Rattle.armcaps_tables.proofs.overrides.Overrides.none.Goals as goal

pub invariant_of-result : goal.invariant_of-result
unfolding overrides_by
invariant_of-result c = none_sound

pub returns : goal.returns
unfolding overrides_by
returns c = refl

use Rattle.std.proofs.Common.{◌∙◌, ap, length}
use Rattle.armcaps_patch.specs.Kept.{Planned}
use Rattle.armcaps_patch.proofs.Standing.{entries_stand}
use Rattle.armcaps_patch.proofs.planning.Plan.count_entries.Goals as goal

pub returns : goal.returns
returns c = λ features image layout stands.
    ap length c.as_slice.ensures.value ∙ ap (λ (plan : Planned). length plan.kept) c.self.view_is
    ∙ entries_stand _ features image layout stands

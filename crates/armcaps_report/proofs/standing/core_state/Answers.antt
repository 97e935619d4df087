use Rattle.std.proofs.Common.{◌∙◌, ap}
use Rattle.std.specs.Option.{unwrap_or}
use Rattle.std.proofs.lemmas.Option.{unwrap_or-slice_get}
use Rattle.armcaps_boot.specs.declared.core_state.CoreState.TheVariants.{Absent}
use Rattle.armcaps_report.proofs.standing.core_state.Goals as goal

pub returns : goal.returns
returns c =
    c.unwrap_or.ensures ∙ ap (λ state. unwrap_or state Absent) c.state.ensures
    ∙ unwrap_or-slice_get c.args.boot.now.states c.args.number Absent

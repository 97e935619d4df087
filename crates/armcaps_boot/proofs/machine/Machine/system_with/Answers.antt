use Rattle.std.proofs.Common.{◌∙◌, sym}
use Rattle.armcaps_boot.specs.Machine.{world_of}
use Rattle.armcaps_boot.proofs.ComingBack.{system_back}
use Rattle.armcaps_boot.proofs.machine.Machine.system_with.Goals as goal

pub returns-then-was_admitted : goal.returns-then-was_admitted
returns-then-was_admitted c =
    sym (system_back (world_of c.args.self.now) c.requires.facts c.args.core (sym c.was_admitted.ensures ∙ c.if-was_admitted.true))

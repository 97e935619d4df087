use Rattle.std.proofs.Common.{map}
use Rattle.armcaps_text.specs.Document.{reading_of}
use Rattle.armcaps_top.specs.Inside.{AreThrough}
use Rattle.armcaps_top.proofs.commands.pool.bring_each.Given as goal

abbrev pub invariant-loop-machine : goal.invariant-loop-machine
invariant-loop-machine l = AreThrough (map reading_of l.yielded) l.machines.items

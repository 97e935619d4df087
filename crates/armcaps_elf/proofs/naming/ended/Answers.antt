use Rattle.std.proofs.Common.{arith}
use Rattle.armcaps_elf.proofs.Names.{ended_is}
use Rattle.armcaps_elf.proofs.naming.ended.Goals as goal

pub returns : goal.returns
returns c = λ place.
    ended_is c.args.names.now c.loop-index.ended place (omega arith) c.loop-index.invariant.zero_before (λ k low short.
    c.loop-index.invariant.none_behind k low (omega arith))

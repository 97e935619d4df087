use Rattle.armcaps_insn.proofs.Codes.{shr_code}
use Rattle.armcaps_insn.proofs.Offsets.{steps_near}
use Rattle.armcaps_insn.proofs.immediates.Immediate.steps.Goals as goal

pub returns-clause-value : goal.returns-clause-value
returns-clause-value c = shr_code c.args.self c.args.offset c.ranges.offset

pub returns-clause-low : goal.returns-clause-low
returns-clause-low c =
    rw (shr_code c.args.self c.args.offset c.ranges.offset) (steps_near c.args.self c.requires.holds c.args.offset c.requires.in_range).0

pub returns-clause-high : goal.returns-clause-high
returns-clause-high c =
    rw (shr_code c.args.self c.args.offset c.ranges.offset) (steps_near c.args.self c.requires.holds c.args.offset c.requires.in_range).1

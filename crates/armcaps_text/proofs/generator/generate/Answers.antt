use Rattle.armcaps_text.specs.Generator.{generated_reading}
use Rattle.armcaps_text.proofs.generator.generate.Goals as goal

pub returns-clause-reading : goal.returns-clause-reading
unfolding generated_reading
returns-clause-reading c = cc (c.in_ok-board.ensures.board, c.in_ok-board.ensures.steps, c.in_ok-make_names.ensures)

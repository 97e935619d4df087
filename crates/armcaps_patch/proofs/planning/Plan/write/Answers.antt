-- The image that a plan makes is the patched image of what it stands for.
use Rattle.armcaps_patch.proofs.Standing.{image_stands}
use Rattle.armcaps_patch.proofs.planning.Plan.write.Goals as goal

pub returns-clause-whole : goal.returns-clause-whole
returns-clause-whole g c = λ features layout stands. rw (← image_stands _ features _ layout stands) c.send_all.ensures.whole

pub returns-clause-prefix : goal.returns-clause-prefix
returns-clause-prefix g c = λ features layout stands. rw (← image_stands _ features _ layout stands) c.send_all.ensures.prefix

-- A copied choice is itself.
use Rattle.std.proofs.Common.{rules}
use Rattle.armcaps_patch.proofs.choosing.none_yet.Goals as goal

pub returns : goal.returns
returns c = c.in_ok-choices.ensures.items_if_clones_equal (λ x same. search rules)

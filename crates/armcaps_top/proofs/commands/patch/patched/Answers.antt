use Rattle.std.proofs.Common.{ℕ, List, ◌++◌, ap, ◌∙◌}
use Rattle.armcaps_alt.specs.Patched.{patched_image}
use Rattle.armcaps_top.proofs.commands.patch.patched.Goals as goal

pub returns-in-Ok : goal.returns-in-Ok
returns-in-Ok c = λ features layout stands.
    c.in-Ok.ensures.whole features layout stands
    ∙ ap (λ (bytes : List ℕ). bytes ++ patched_image features c.args.image.now layout) c.in_ok-with_capacity.ensures.items

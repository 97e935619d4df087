use Rattle.armcaps_top.proofs.Unpatched.{unpatched_image}
use Rattle.armcaps_top.proofs.commands.jump.patched_or_same.Goals as goal

pub returns-then-count_entries-eq0 : goal.returns-then-count_entries-eq0
returns-then-count_entries-eq0 c = λ features layout stands.
    unpatched_image features c.args.image.now layout c.count_entries.result c.if-count_entries-eq0.true (c.count_entries.ensures features c.args.image.now layout stands)

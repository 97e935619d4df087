use Rattle.std.proofs.Common.{◌≡◌, length, ap, arith, ◌∙◌}
use Rattle.std.specs.Cow.{cow_slice_items}
use Rattle.std.proofs.lemmas.List.FromFn.{length-map-range_with_len}
use Rattle.armcaps_alt.specs.Entries.{Features}
use Rattle.armcaps_alt.specs.Patched.{patched_image}
use Rattle.armcaps_board.specs.Steps.{history}
use Rattle.armcaps_boot.specs.Findings.{findings_after}
use Rattle.armcaps_patch.specs.Features.{features_of_findings}
use Rattle.armcaps_text.specs.Document.{Reading, reading_of}
use Rattle.armcaps_top.proofs.commands.jump.patched_for.Goals as goal

pub returns-in-Ok-clause-size : goal.returns-in-Ok-clause-size
returns-in-Ok-clause-size c =
    let reading : Reading = reading_of c.args.machine in
    let features : Features = features_of_findings (findings_after reading.board (history reading.steps)) reading.names in
    let is : cow_slice_items c.in-Ok.made ≡ patched_image features c.args.image.now reading.layout = c.in-Ok.ensures features reading.layout c.in_ok-plan.ensures.plan in
    let same : length (cow_slice_items c.in-Ok.made) ≡ length c.args.image.now = ap length is ∙ length-map-range_with_len _ 0 (length c.args.image.now) in
    omega (arith, same, c.requires.image, c.requires.sound.image)

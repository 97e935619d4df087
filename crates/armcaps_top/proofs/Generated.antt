-- What is written of a machine that is made from a number.
use Rattle.std.proofs.Common.{◌≡◌, ℕ, List, refl, sym, ap, ◌∙◌}
use Rattle.std.specs.Prelude.{Ok}
use Rattle.armcaps_board.specs.Steps.{history}
use Rattle.armcaps_boot.specs.Findings.{Findings, findings_of}
use Rattle.armcaps_boot.specs.World.{World}
use Rattle.armcaps_patch.specs.Features.{features_of, features_of_findings}
use Rattle.armcaps_text.specs.Document.{Reading}
use Rattle.armcaps_text.specs.Generator.{generated_reading}
use Rattle.armcaps_generate.specs.LargeImage.{generated_image}
use Rattle.armcaps_top.specs.Answer.{output_in}
use Rattle.armcaps_report.specs.Demo.{demo_lines}
use Rattle.armcaps_top.specs.Demo.{counts_of, demo_output, generated_document}
use Rattle.armcaps_top.specs.Inside.{IsThrough}
use Rattle.armcaps_top.specs.declared.commands.Command.TheVariants.{Demo}

-- the lines of a machine that was brought up are those of its board
lines_are : (seed cores : ℕ) (reading : Reading) (image : List ℕ) (world : World) (text : List ℕ) → IsThrough reading world
    → text ≡ demo_lines seed cores (counts_of (findings_of world) (features_of world reading.names) image reading.layout)
    → text ≡ demo_output seed cores reading.board (history reading.steps) reading image
unfolding demo_output
lines_are seed cores reading image world text through is =
    is ∙ ap (λ (found : Findings). demo_lines seed cores (counts_of found (features_of_findings found reading.names) image reading.layout)) through.found

pub document_made : (seed cores : ℕ) (reading : Reading) (image : List ℕ) → reading ≡ generated_reading seed cores → image ≡ generated_image seed cores
    → record { reading = reading; image = image } ≡ generated_document seed cores
document_made seed cores reading image reading_is image_is = rw (reading_is, image_is) refl

-- what is written of it
pub told : (seed cores : ℕ) (reading : Reading) (image : List ℕ) (world : World) (text : List ℕ)
    → IsThrough reading world → text ≡ demo_lines seed cores (counts_of (findings_of world) (features_of world reading.names) image reading.layout)
    → output_in (Demo seed cores) (record { reading = reading; image = image }) ≡ Ok text
told seed cores reading image world text through is = ap Ok (sym (lines_are seed cores reading image world text through is))

-- What `elf` makes of a machine that was brought up.
use Rattle.std.proofs.Common.{◌≡◌, ℕ, List, [], None, Option, ap, drop, subst, sym, ◌∙◌}
use Rattle.std.specs.Prelude.{Result, Ok, Err, IfOk, IfErr}
use Rattle.armcaps_alt.specs.Entries.{Features}
use Rattle.armcaps_alt.specs.Names.{NameLists}
use Rattle.armcaps_alt.specs.Patched.{patched_image}
use Rattle.armcaps_boot.specs.Findings.{Findings, findings_after}
use Rattle.armcaps_boot.specs.World.{World}
use Rattle.armcaps_elf.specs.Images.{flat_image, put_image}
use Rattle.armcaps_patch.specs.Features.{features_of, features_of_findings}
use Rattle.armcaps_text.specs.Document.{Reading}
use Rattle.armcaps_top.specs.Answer.{of_document, output_in, steps_of}
use Rattle.armcaps_top.specs.Document.{Document, document}
use Rattle.armcaps_top.specs.Elf.{elf_reason, patched_file, table_in}
use Rattle.armcaps_top.specs.Inside.{Comes, IsThrough, IsUp, IsWhy, as_bytes}
use Rattle.armcaps_top.specs.Patch.{unless}
use Rattle.armcaps_top.specs.declared.commands.Command.TheVariants.{Elf}
use Rattle.armcaps_top.specs.declared.ending.Ending.{Ending}
use Rattle.armcaps_top.specs.declared.reason.Reason.{Reason}
use Rattle.armcaps_top.specs.declared.refusal.Refusal.{Refusal}
use Rattle.armcaps_top.proofs.Performing.{came, came_why, document_is}

-- what a machine has is what its findings say
pub features_are : (found : Document) (world : World) (names : NameLists) → IsThrough found.reading world → names ≡ found.reading.names
    → features_of world names ≡ features_of_findings (findings_after found.reading.board (steps_of found)) found.reading.names
features_are found world names through same =
    ap (λ (f : Findings). features_of_findings f names) through.found
    ∙ ap (λ (n : NameLists). features_of_findings (findings_after found.reading.board (steps_of found)) n) same

-- what was made of a file
module _ {A : Type 0} (flat : A → List ℕ) (found : Document) (old new : List World) (up : IsUp found.reading old new) (none : old ≡ []) where
  made_by : (features : Features) (made : Result A Ending)
      → features ≡ features_of_findings (findings_after found.reading.board (steps_of found)) found.reading.names
      → IfOk made (λ m. elf_reason features found.reading.layout found.image ≡ None)
      → IfOk made (λ m. flat m ≡ patched_image features (flat_image found.image) (table_in found.image))
      → IfErr made (IsWhy (elf_reason features found.reading.layout found.image))
      → Comes (of_document Elf (Ok found)) new (as_bytes (λ m. put_image found.image (flat m)) made)
  made_by features (Ok m) same accepted patched refused =
      let written : output_in Elf found ≡ unless (elf_reason features found.reading.layout found.image) (patched_file features found.image) =
      ap (λ (f : Features). unless (elf_reason f found.reading.layout found.image) (patched_file f found.image)) (sym same) in
      came Elf found old new (put_image found.image (flat m)) up none
      (written ∙ (ap (λ (why : Option Reason). unless why (patched_file features found.image)) accepted
      ∙ ap (λ (image : List ℕ). Ok (put_image found.image image)) (sym patched)))
  made_by features (Err ending) same accepted patched refused =
      came_why Elf found old new (elf_reason features found.reading.layout found.image) (patched_file features found.image) ending up none
      (ap (λ (f : Features). unless (elf_reason f found.reading.layout found.image) (patched_file f found.image)) (sym same)) refused

  pub made_for : (world : World) (names : NameLists) (made : Result A Ending) → IsThrough found.reading world → names ≡ found.reading.names
      → IfOk made (λ m. elf_reason (features_of world names) found.reading.layout found.image ≡ None)
      → IfOk made (λ m. flat m ≡ patched_image (features_of world names) (flat_image found.image) (table_in found.image))
      → IfErr made (IsWhy (elf_reason (features_of world names) found.reading.layout found.image))
      → Comes (of_document Elf (Ok found)) new (as_bytes (λ m. put_image found.image (flat m)) made)
  made_for world names made through same = made_by (features_of world names) made (features_are found world names through same)

-- the same of the document that an input is
pub made_of : (reading : Reading) (file flat made bytes : List ℕ) (place : ℕ) (machines : List World)
    → document bytes ≡ Ok (record { reading = reading; image = drop place bytes }) → file ≡ drop place bytes → flat ≡ made
    → Comes (of_document Elf (Ok (record { reading = reading; image = file }))) machines (Ok (put_image file made))
    → Comes (of_document Elf (document bytes)) machines (Ok (put_image file flat))
made_of reading file flat made bytes place machines read from same comes =
    subst (λ (found : Result Document Refusal). Comes (of_document Elf found) machines (Ok (put_image file flat)))
    (sym (document_is reading file bytes place read from))
    (subst (λ (image : List ℕ). Comes (of_document Elf (Ok (record { reading = reading; image = file }))) machines (Ok (put_image file image))) (sym same) comes)

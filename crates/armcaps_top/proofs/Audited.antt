-- What `audit` writes of a machine that was brought up.
use Rattle.std.proofs.Common.{◌≡◌, ℕ, List, [], None, Option, ap, drop, sym, take, ◌∙◌}
use Rattle.std.specs.Prelude.{Result, Ok, Err, IfOk, IfErr}
use Rattle.std.specs.Option.{option_map, option_or}
use Rattle.armcaps_alt.specs.declared.table_place.Layout.{Layout}
use Rattle.armcaps_alt.specs.Entries.{Features}
use Rattle.armcaps_alt.specs.Names.{NameLists}
use Rattle.armcaps_alt.specs.Patched.{patched_image}
use Rattle.armcaps_alt.specs.Refusals as alternatives
use Rattle.armcaps_alt.specs.Refusals.{first_refusal}
use Rattle.armcaps_boot.specs.World.{World}
use Rattle.armcaps_patch.specs.Features.{features_of}
use Rattle.armcaps_pool.specs.Audits.{first_difference}
use Rattle.armcaps_top.specs.Answer.{of_document, output_in}
use Rattle.armcaps_top.specs.Audit.{audit_reason, yes_line}
use Rattle.armcaps_top.specs.Document.{Document}
use Rattle.armcaps_top.specs.Features.{features_in}
use Rattle.armcaps_top.specs.Inside.{Comes, IsThrough, IsUp, IsWhy, as_bytes}
use Rattle.armcaps_top.specs.Patch.{not_patched, refused_entry, unless}
use Rattle.armcaps_top.specs.declared.commands.Command.TheVariants.{Audit}
use Rattle.armcaps_top.specs.declared.ending.Ending.{Ending}
use Rattle.armcaps_top.specs.declared.reason.Reason.{Reason}
use Rattle.armcaps_top.specs.declared.reason.Reason.TheVariants.{Differs}
use Rattle.armcaps_top.proofs.Elves.{features_are}
use Rattle.armcaps_top.proofs.Loaded.{first_why}
use Rattle.armcaps_top.proofs.Performing.{came, came_why}

module _ (features : Features) (layout : Layout) (image judged : List ℕ) where
  -- an entry that is refused is the reason
  pub entry_first : (ending : Ending) → IsWhy (refused_entry features image layout) ending → IsWhy (audit_reason features layout image judged) ending
  unfolding audit_reason
  entry_first ending so =
      first_why (refused_entry features image layout) (option_map Differs (first_difference judged (patched_image features image layout))) ending so

  -- and where none is, the first byte that differs
  pub after_table : (place : Option ℕ) → first_refusal features image layout ≡ None → place ≡ first_difference judged (patched_image features image layout)
      → audit_reason features layout image judged ≡ option_map Differs place
  unfolding audit_reason
  after_table place accepted is =
      ap (λ (refusal : Option alternatives.Refusal). option_or (option_map not_patched refusal)
      (option_map Differs (first_difference judged (patched_image features image layout)))) accepted
      ∙ ap (option_map Differs) (sym is)

-- what was found of two images
module _ {A : Type 0} (text : A → List ℕ) (found : Document) (old new : List World) (up : IsUp found.reading old new) (none : old ≡ []) where
  audited_by : (features : Features) (image judged : List ℕ) (made : Result A Ending) → features ≡ features_in found
      → image ≡ take found.reading.image found.image → judged ≡ drop found.reading.image found.image
      → IfOk made (λ m. text m ≡ yes_line)
      → IfOk made (λ m. audit_reason features found.reading.layout image judged ≡ None)
      → IfErr made (IsWhy (audit_reason features found.reading.layout image judged))
      → Comes (of_document Audit (Ok found)) new (as_bytes text made)
  audited_by features image judged made same first second line taken refused = by made line taken refused
    where
      written : output_in Audit found ≡ unless (audit_reason features found.reading.layout image judged) yes_line
      written =
          ap (λ (f : Features). unless (audit_reason f found.reading.layout (take found.reading.image found.image) (drop found.reading.image found.image)) yes_line) (sym same)
          ∙ (ap (λ (i : List ℕ). unless (audit_reason features found.reading.layout i (drop found.reading.image found.image)) yes_line) (sym first)
          ∙ ap (λ (j : List ℕ). unless (audit_reason features found.reading.layout image j) yes_line) (sym second))

      by : (made : Result A Ending) → IfOk made (λ m. text m ≡ yes_line)
          → IfOk made (λ m. audit_reason features found.reading.layout image judged ≡ None)
          → IfErr made (IsWhy (audit_reason features found.reading.layout image judged))
          → Comes (of_document Audit (Ok found)) new (as_bytes text made)
      by (Ok m) line taken refused =
          came Audit found old new (text m) up none (written ∙ (ap (λ (why : Option Reason). unless why yes_line) taken ∙ ap Ok (sym line)))
      by (Err ending) line taken refused =
          came_why Audit found old new (audit_reason features found.reading.layout image judged) yes_line ending up none written refused

  pub audited : (world : World) (names : NameLists) (image judged : List ℕ) (made : Result A Ending) → IsThrough found.reading world → names ≡ found.reading.names
      → image ≡ take found.reading.image found.image → judged ≡ drop found.reading.image found.image
      → IfOk made (λ m. text m ≡ yes_line)
      → IfOk made (λ m. audit_reason (features_of world names) found.reading.layout image judged ≡ None)
      → IfErr made (IsWhy (audit_reason (features_of world names) found.reading.layout image judged))
      → Comes (of_document Audit (Ok found)) new (as_bytes text made)
  audited world names image judged made through same = audited_by (features_of world names) image judged made (features_are found world names through same)

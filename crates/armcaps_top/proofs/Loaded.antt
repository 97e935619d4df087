-- Entries that are loaded, and the first that isn't.
use Rattle.std.proofs.Common.{◌≡◌, ◌<◌, ℕ, List, None, Option, Some, ap, arith, find, get_or, is_some, refl, subst, sym, zero-add, ◌∙◌}
use Rattle.std.specs.List.{range_with_len}
use Rattle.std.specs.Option.{option_and_then, option_map, option_or}
use Rattle.std.proofs.lemmas.List.FromFn.{get_or-range_with_len, length-range_with_len}
use Rattle.armcaps_logic.proofs.Searches.{find_absent, find_present}
use Rattle.armcaps_alt.specs.declared.table_place.Layout.{Layout}
use Rattle.armcaps_alt.specs.Entries.{Features}
use Rattle.armcaps_alt.specs.Refusals as alternatives
use Rattle.armcaps_alt.specs.Refusals.{first_refusal}
use Rattle.armcaps_elf.specs.Images.{flat_image}
use Rattle.armcaps_top.specs.Elf.{elf_reason, file_kind, first_unloaded, table_in}
use Rattle.armcaps_top.specs.Inside.{IsWhy}
use Rattle.armcaps_top.specs.Patch.{not_patched, refused_entry}
use Rattle.armcaps_top.specs.declared.ending.Ending.{Ending}
use Rattle.armcaps_top.specs.declared.ending.Ending.TheVariants.{Done, ReadFault, WriteFault, Memory, NoOutput}
use Rattle.armcaps_top.specs.declared.reason.Reason.{Reason}
use Rattle.armcaps_top.specs.declared.reason.Reason.TheVariants.{NotElf, NotLoaded}

-- the first number below a count for which something is there, as a reason
module _ (kind : ℕ → Option ℕ) (count : ℕ) where
  abbrev first : Option Reason
  first = option_and_then (λ number. option_map (NotLoaded number) (kind number)) (find (λ number. is_some (kind number)) (range_with_len 0 count))

  pub none_first : ((k : ℕ) → k < count → kind k ≡ None) → first ≡ None
  none_first accepted =
      let none : find (λ number. is_some (kind number)) (range_with_len 0 count) ≡ None =
      find_absent _ (range_with_len 0 count) (λ k d within.
      let inside : k < count = omega (arith, length-range_with_len 0 count) in
      let here : get_or (range_with_len 0 count) k d ≡ k = get_or-range_with_len 0 count k d inside ∙ zero-add k in
      rw (here, accepted k inside) refl) in
      rw none refl

  pub one_first : (k least : ℕ) → k < count → ((j : ℕ) → j < k → kind j ≡ None) → kind k ≡ Some least → first ≡ Some (NotLoaded k least)
  one_first k least within before is =
      let here : get_or (range_with_len 0 count) k 0 ≡ k = get_or-range_with_len 0 count k 0 within ∙ zero-add k in
      let found : find (λ number. is_some (kind number)) (range_with_len 0 count) ≡ Some (get_or (range_with_len 0 count) k 0) =
      find_present _ (range_with_len 0 count) k 0 (omega (arith, length-range_with_len 0 count)) (λ j less.
      let inside : j < count = omega arith in
      let there : get_or (range_with_len 0 count) j 0 ≡ j = get_or-range_with_len 0 count j 0 inside ∙ zero-add j in
      rw (there, before j less) refl) (rw (here, is) refl) in
      rw (found, here, is) refl

-- the first of the reasons for which an ELF file isn't written
pub first_why : (first second : Option Reason) (ending : Ending) → IsWhy first ending → IsWhy (option_or first second) ending
first_why first second Done so = absurd so
first_why first second ReadFault so = absurd so
first_why first second WriteFault so = absurd so
first_why first second Memory so = tt
first_why first second (NoOutput reason) so = rw so refl

module _ (features : Features) (line : Layout) (file : List ℕ) where
  pub by_file : (ending : Ending) → IsWhy (option_map NotElf (file_kind line file)) ending → IsWhy (elf_reason features line file) ending
  unfolding elf_reason
  by_file ending so = first_why (option_map NotElf (file_kind line file)) _ ending so

  pub after_file : file_kind line file ≡ None
      → elf_reason features line file ≡ option_or (refused_entry features (flat_image file) (table_in file)) (first_unloaded features file)
  unfolding elf_reason
  after_file none = rw none refl

  pub by_entry : (ending : Ending) → file_kind line file ≡ None → IsWhy (refused_entry features (flat_image file) (table_in file)) ending
      → IsWhy (elf_reason features line file) ending
  by_entry ending none so = subst (λ (why : Option Reason). IsWhy why ending) (sym (after_file none))
      (first_why (refused_entry features (flat_image file) (table_in file)) (first_unloaded features file) ending so)

  pub after_entries : file_kind line file ≡ None → first_refusal features (flat_image file) (table_in file) ≡ None
      → elf_reason features line file ≡ first_unloaded features file
  after_entries none accepted = after_file none ∙ ap (λ (refusal : Option alternatives.Refusal). option_or (option_map not_patched refusal) (first_unloaded features file)) accepted

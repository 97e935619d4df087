-- An image of which no entry is selected.
use Rattle.std.proofs.Common.{◌≡◌, ℕ, List, [], ◌∷◌, length, map, refl, sym, ap, ◌∙◌, arith, zero-add}
use Rattle.std.specs.Prelude.{slice_index}
use Rattle.std.specs.List.{range_with_len}
use Rattle.armcaps_alt.specs.Entries.{Features, selected_of}
use Rattle.armcaps_alt.specs.Patched.{patched_byte, patched_image}
use Rattle.armcaps_alt.specs.declared.table_entry.Entry.{Entry}
use Rattle.armcaps_alt.specs.declared.table_place.Layout.{Layout}
use Rattle.armcaps_io.proofs.Sent.{piece_bytes}

unpatched : (features : Features) (image : List ℕ) (entries : List Entry) → length entries ≡ 0
    → image ≡ map (patched_byte features image entries) (range_with_len 0 (length image))
unpatched features image [] none =
    piece_bytes (patched_byte features image []) 0 (length image) image refl (λ j within. ap (λ (k : ℕ). slice_index image k) (sym (zero-add j)))
unpatched features image (entry ∷ entries) none = absurd (omega (arith, none))

-- it is the patched image as it is
pub unpatched_image : (features : Features) (image : List ℕ) (layout : Layout) (count : ℕ) → count ≡ 0 → count ≡ length (selected_of features image layout)
    → image ≡ patched_image features image layout
unpatched_image features image layout count none is = unpatched features image (selected_of features image layout) (sym is ∙ none)

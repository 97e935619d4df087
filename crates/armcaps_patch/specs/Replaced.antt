-- Why a word of a kept entry's replacement is refused.
use Rattle.std.specs.Prelude.{◌/◌, ℕ, List, [], ◌∷◌, Result, map}
use Rattle.std.specs.List.{list_any, range_with_len}
use Rattle.armcaps_insn.specs.declared.correction.FixRefused.{FixRefused}
use Rattle.armcaps_alt.specs.declared.patch_kind.PatchKind.TheVariants as kind
use Rattle.armcaps_alt.specs.Refusals.{Test, is_literal, is_out_of_range}
use Rattle.armcaps_patch.specs.declared.kept.Kept.{Kept}
use Rattle.armcaps_patch.specs.Kept.{moved_word}

-- the first words of a replacement, moved to the site
abbrev pub moved_words : List ℕ → Kept → ℕ → List (Result ℕ FixRefused)
moved_words image kept count = map (moved_word image kept) (range_with_len 0 count)

-- the kinds that are asked of a replacement's words
abbrev pub word_tests : List ℕ → Kept → List Test
word_tests image kept =
    record { kind = kind.Literal; holds = list_any is_literal (moved_words image kept (kept.len / 4)) }
    ∷ record { kind = kind.Range; holds = list_any is_out_of_range (moved_words image kept (kept.len / 4)) }
    ∷ []

-- Why an entry is refused.
use Rattle.std.specs.Prelude.{◌==◌, ◌+◌, ◌&&◌, ◌||◌, ℕ, Bool, true, false, not, List, [], ◌∷◌, Option, Some, None, Result, Ok, Err, codes, find, if◌then◌else◌, is_none, length, pos}
use Rattle.std.specs.List.{list_any}
use Rattle.std.specs.Option.{option_map, option_map_or, option_or}
use Rattle.armcaps_insn.specs.declared.correction.FixRefused.{FixRefused}
use Rattle.armcaps_insn.specs.declared.correction.FixRefused.TheVariants as refused
use Rattle.armcaps_alt.specs.declared.callback_kind.CallbackKind.{CallbackKind}
use Rattle.armcaps_alt.specs.declared.callback_kind.CallbackKind.TheVariants as callback
use Rattle.armcaps_alt.specs.declared.patch_kind.PatchKind.{PatchKind}
use Rattle.armcaps_alt.specs.declared.patch_kind.PatchKind.TheVariants as kind
use Rattle.armcaps_alt.specs.declared.table_entry.Entry.{Entry}
use Rattle.armcaps_alt.specs.declared.table_place.Layout.{Layout}
use Rattle.armcaps_alt.specs.Entries.{Features, entries_of, selection}
use Rattle.armcaps_alt.specs.Names.{NameLists, callback_named}
use Rattle.armcaps_alt.specs.Words.{replacement_words}
use Rattle.armcaps_image.specs.Places.{is_aligned, is_within}

-- Unaligned: the site, its length, or without a callback the replacement
abbrev pub is_unaligned : Entry → Bool
is_unaligned entry =
    not (is_aligned entry.site)
    || (not (is_aligned (pos entry.orig_len)) || (not entry.callback && not (is_aligned entry.repl)))

-- Length: the replacement's length isn't the site's; with a callback, it isn't 0
abbrev pub has_other_length : Entry → Bool
has_other_length entry = if entry.callback then not (entry.alt_len == 0) else not (entry.alt_len == entry.orig_len)

-- CallbackLength: a callback of this kind makes another number of bytes
abbrev pub makes_other_length : CallbackKind → ℕ → Bool
makes_other_length callback.Nops len = false
makes_other_length callback.FinalCtr len = not (len == 16)
makes_other_length callback.Conduit len = not (len == 4)
makes_other_length callback.Keep len = false

-- Literal: a word that isn't followed
abbrev pub is_literal : Result ℕ FixRefused → Bool
is_literal (Ok word) = false
is_literal (Err (refused.Literal word)) = true
is_literal (Err (refused.Range offset)) = false

-- Range: a word that can't reach its target from the site
abbrev pub is_out_of_range : Result ℕ FixRefused → Bool
is_out_of_range (Ok word) = false
is_out_of_range (Err (refused.Literal word)) = false
is_out_of_range (Err (refused.Range offset)) = true

-- whether an entry's callback makes another number of bytes than its site has
abbrev pub has_wrong_callback : NameLists → Entry → Bool
has_wrong_callback names entry =
    option_map_or (λ call. makes_other_length call entry.orig_len) (callback_named names entry.repl) false

-- a kind and whether it holds
pub record Test : Type 0 where
  pub kind : PatchKind
  pub holds : Bool

-- the test of this kind, which holds or not
abbrev test : PatchKind → Bool → Test
test kind holds = record { kind = kind; holds = holds }

-- the kinds that are asked of a selected entry, in their order
abbrev pub tests_of : NameLists → List ℕ → Entry → List Test
tests_of names image entry =
    test kind.Unaligned (is_unaligned entry)
    ∷ test kind.SiteOutside (not (is_within (length image) entry.site entry.orig_len))
    ∷ test kind.Length (has_other_length entry)
    ∷ test kind.ReplacementOutside (not entry.callback && not (is_within (length image) entry.repl entry.orig_len))
    ∷ test kind.UnknownCallback (entry.callback && is_none (callback_named names entry.repl))
    ∷ test kind.CallbackLength (entry.callback && has_wrong_callback names entry)
    ∷ test kind.Literal (not entry.callback && list_any is_literal (replacement_words image entry))
    ∷ test kind.Range (not entry.callback && list_any is_out_of_range (replacement_words image entry))
    ∷ []

-- the first kind that holds
abbrev pub first_kind : List Test → Option PatchKind
first_kind tests = option_map (λ t. t.kind) (find (λ t. t.holds) tests)

-- an entry, by its number in the table from 0 on, and why it is refused
pub record Refusal : Type 0 where
  pub entry : ℕ
  pub kind : PatchKind

-- the least kind that holds of an entry: its number isn't named, or it is selected and one of the tests holds
abbrev pub refusal_by : Option Bool → NameLists → List ℕ → Entry → Option PatchKind
refusal_by None names image entry = Some kind.UnknownCap
refusal_by (Some false) names image entry = None
refusal_by (Some true) names image entry = first_kind (tests_of names image entry)

-- the least kind that holds of an entry, where these are the names and the enabled capabilities
abbrev pub refusal_of : Features → List ℕ → Entry → Option PatchKind
refusal_of features image entry =
    refusal_by (selection features.names features.enabled entry) features.names image entry

-- the first of these entries that is refused, by its number from `index` on, with its kind
abbrev pub first_refusal_from : ℕ → Features → List ℕ → List Entry → Option Refusal
first_refusal_from index features image [] = None
first_refusal_from index features image (entry ∷ entries) =
    let here = option_map (λ kind. record { entry = index; kind = kind }) (refusal_of features image entry) in
    option_or here (first_refusal_from (index + 1) features image entries)

-- the first entry of a table that is refused, and the least kind that holds of it
abbrev pub first_refusal : Features → List ℕ → Layout → Option Refusal
first_refusal features image layout = first_refusal_from 0 features image (entries_of image layout)

-- the number by which a kind is reported
abbrev pub kind_number : PatchKind → ℕ
kind_number kind.UnknownCap = 1
kind_number kind.Unaligned = 2
kind_number kind.SiteOutside = 3
kind_number kind.Length = 4
kind_number kind.ReplacementOutside = 5
kind_number kind.UnknownCallback = 6
kind_number kind.CallbackLength = 7
kind_number kind.Literal = 8
kind_number kind.Range = 9

-- the word by which a kind is reported
unfoldable pub kind_word : PatchKind → List ℕ
kind_word kind.UnknownCap = codes "unknown-cap"
kind_word kind.Unaligned = codes "unaligned"
kind_word kind.SiteOutside = codes "site-outside"
kind_word kind.Length = codes "length"
kind_word kind.ReplacementOutside = codes "replacement-outside"
kind_word kind.UnknownCallback = codes "unknown-callback"
kind_word kind.CallbackLength = codes "callback-length"
kind_word kind.Literal = codes "literal"
kind_word kind.Range = codes "range"

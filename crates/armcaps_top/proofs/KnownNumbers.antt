-- The capabilities that a text's numbers stand for are known.
use Rattle.std.proofs.Common.{◌≡◌, ℕ, ◌+◌, List, [], ◌∷◌, map, None, Option, Some, ap, subst, sym, take, ◌∙◌}
use Rattle.std.specs.List.{All, find, range_with_len}
use Rattle.std.specs.Option.{option_map_or}
use Rattle.std.specs.Prelude.{length}
use Rattle.std.proofs.lemmas.List.{take-map}
use Rattle.armcaps_alt.specs.Names.{IsKnown, NameLists}
use Rattle.armcaps_text.specs.Before.{before}
use Rattle.armcaps_text.specs.Document.{Reading, Reads, Refuses, ends_at, kind_at, outcome, outcome_after, outcome_at, outcome_of_lines, reading_after, refused_or, unended_kind}
use Rattle.armcaps_text.specs.Formats.{format_named}
use Rattle.armcaps_text.specs.Lines.{lines_of}
use Rattle.armcaps_text.specs.Meaning.{line_of}
use Rattle.armcaps_text.specs.declared.format.Format.{Format}
use Rattle.armcaps_text.specs.declared.kind.TextKind.{TextKind}
use Rattle.armcaps_text.specs.declared.kind.TextKind.TheVariants as kind
use Rattle.armcaps_text.specs.declared.line.Line.{Line}
use Rattle.armcaps_text.proofs.KnownNames.{numbers_known}

-- the capabilities that are named are known
abbrev pub AreKnown : NameLists → Type 0
AreKnown names = All (λ e. IsKnown e.1) names.numbers

reads_same : (number : ℕ) (why : Option TextKind) (one reading : Reading) (first place : ℕ) → refused_or number why (Reads one first) ≡ Reads reading place → one ≡ reading
reads_same number None one reading first place is = cc
reads_same number (Some why) one reading first place is = absurd (let no : ⊥ = cc in no)

module _ (unended : TextKind) (header : List ℕ) (texts : List (List ℕ)) (format : Format) (reading : Reading) (place : ℕ) where
  known_at : (found : Option ℕ) → outcome_at unended header texts format found ≡ Reads reading place → AreKnown reading.names
  known_at None is = absurd (let no : ⊥ = cc in no)
  known_at (Some last) is =
      let lines : List (Line (List ℕ)) = map (line_of format) texts in
      let same : reading_after (before (take (last + 1) lines)) ≡ reading =
      reads_same (last + 2) (kind_at format lines last) (reading_after (before (take (last + 1) lines))) reading _ place is in
      subst (λ (r : Reading). AreKnown r.names)
      (ap (λ (ls : List (Line (List ℕ))). reading_after (before ls)) (sym (take-map (line_of format) (last + 1) texts)) ∙ same)
      (numbers_known format (take (last + 1) texts))

  known_after : outcome_after unended header texts format ≡ Reads reading place → AreKnown reading.names
  unfolding outcome_after
  known_after is = known_at (find (ends_at format (map (line_of format) texts)) (range_with_len 0 (length texts))) is

known_in : (unended : TextKind) (header : List ℕ) (texts : List (List ℕ)) (format : Option Format) (reading : Reading) (place : ℕ)
    → option_map_or (outcome_after unended header texts) format (Refuses 1 kind.Header) ≡ Reads reading place → AreKnown reading.names
known_in unended header texts None reading place is = absurd (let no : ⊥ = cc in no)
known_in unended header texts (Some format) reading place is = known_after unended header texts format reading place is

known_of_lines : (unended : TextKind) (lines : List (List ℕ)) (reading : Reading) (place : ℕ) → outcome_of_lines unended lines ≡ Reads reading place → AreKnown reading.names
known_of_lines unended [] reading place is = absurd (let no : ⊥ = cc in no)
known_of_lines unended (header ∷ texts) reading place is = known_in unended header texts (format_named header) reading place is

-- those of what a text reads as
pub numbers_are_known : (input : List ℕ) (reading : Reading) (place : ℕ) → outcome input ≡ Reads reading place → AreKnown reading.names
unfolding outcome
numbers_are_known input reading place is = known_of_lines (unended_kind input) (lines_of input) reading place is

-- The lines of a text after line 1, one by one.
use Rattle.std.proofs.Common.{◌≡◌, ℕ, zero, suc, ◌+◌, ◌-◌, ◌<◌, ◌≤◌, ◌||◌, Bool, true, false, List, [], ◌∷◌, ◌++◌, length, map, take, drop, find, Option, Some, None, is_some, option_and_then, refl, sym, ap, subst, ◌∙◌, arith, below_more, length-drop}
use Rattle.std.specs.List.{range_with_len, slice_get}
use Rattle.std.specs.Option.{option_map_or}
use Rattle.std.proofs.lemmas.List.{map-append}
use Rattle.std.proofs.Math.Seq.{drop-nil}
use Rattle.std.proofs.lemmas.List.Sums.{sum_by-append, sum_by-cons}
use Rattle.armcaps_text.specs.Before.{Before, before}
use Rattle.armcaps_text.specs.Document.{Reads, Refuses, bytes_of, ends_at, kind_at, refused_or, outcome_at, outcome_after, reading_after, unended_kind, outcome_of_lines, outcome, IsRefusal, IsRefusalAt}
use Rattle.armcaps_text.specs.Formats.{format_named}
use Rattle.armcaps_text.specs.KindAtLine.{kind_after}
use Rattle.armcaps_text.specs.Learned.{learned}
use Rattle.armcaps_text.specs.Lines.{ended_lines, first_mebibyte}
use Rattle.armcaps_text.specs.Meaning.{line_of, is_last}
use Rattle.armcaps_text.specs.declared.format.Format.{Format}
use Rattle.armcaps_text.specs.declared.kind.TextKind.{TextKind}
use Rattle.armcaps_text.specs.declared.kind.TextKind.TheVariants as kind
use Rattle.armcaps_text.specs.declared.kind.TextRefused.{TextRefused}
use Rattle.armcaps_text.specs.declared.kind.TextRefused.TheVariants as refused
use Rattle.armcaps_text.specs.declared.line.Line.{Line}
use Rattle.armcaps_text.proofs.OneMoreLine.{before-push}
use Rattle.std.proofs.Math.Bool.{or-true}
use Rattle.armcaps_logic.proofs.Lists.{drop-map, take-map}

-- what is known of a list that is cut before an item
record Cut {X : Type 0} (xs : List X) (n : ℕ) (x : X) (more : List X) : Type 0 where
  within : n < length xs
  here : slice_get xs n ≡ Some x
  taken : take (n + 1) xs ≡ take n xs ++ x ∷ []
  left : drop (n + 1) xs ≡ more

cut_at : {X : Type 0} (xs : List X) (n : ℕ) (x : X) (more : List X) → drop n xs ≡ x ∷ more → Cut xs n x more
cut_at {X} [] n x more h = let none : [] ≡ x ∷ more = sym (drop-nil n) ∙ h in cc
cut_at {X} (y ∷ ys) zero x more h =
    let same : y ≡ x = cc in
    let rest : ys ≡ more = cc in
    record { within = omega arith; here = ap (λ (z : X). Some z) same; taken = ap (λ (z : X). z ∷ []) same; left = rest }
cut_at {X} (y ∷ ys) (suc n) x more h =
    let cut = cut_at ys n x more h in
    let next : suc n + 1 ≡ suc (n + 1) = omega arith in
    record {
      within = omega (arith, cut.within);
      here = cut.here;
      taken = ap (λ (m : ℕ). take m (y ∷ ys)) next ∙ ap (λ (zs : List X). y ∷ zs) cut.taken;
      left = ap (λ (m : ℕ). drop m (y ∷ ys)) next ∙ cut.left;
    }

-- the first number that passes
find_first : (p : ℕ → Bool) (count start steps : ℕ) → steps < count → p (start + steps) ≡ true → ((k : ℕ) → k < steps → p (start + k) ≡ false) → find p (range_with_len start count) ≡ Some (start + steps)
find_first p zero start steps h here before = absurd (omega arith)
find_first p (suc count) start zero h here before =
    let same : start + 0 ≡ start = omega arith in
    let passes : p start ≡ true = subst (λ (n : ℕ). p n ≡ true) same here in
    rw (same, passes) refl
find_first p (suc count) start (suc steps) h here before =
    let same : start + 0 ≡ start = omega arith in
    let fails : p start ≡ false = subst (λ (n : ℕ). p n ≡ false) same (before 0 (omega arith)) in
    let next : start + 1 + steps ≡ start + suc steps = omega arith in
    let more = find_first p count (start + 1) steps (omega arith) (subst (λ (n : ℕ). p n ≡ true) (sym next) here)
    (λ k lt. let later : start + 1 + k ≡ start + suc k = omega arith in subst (λ (n : ℕ). p n ≡ false) (sym later) (before (suc k) (omega arith))) in
    rw fails (more ∙ ap (λ (n : ℕ). Some n) next)

-- no number passes
find_no : (p : ℕ → Bool) (count start : ℕ) → ((k : ℕ) → k < count → p (start + k) ≡ false) → find p (range_with_len start count) ≡ None
find_no p zero start none = refl
find_no p (suc count) start none =
    let same : start + 0 ≡ start = omega arith in
    let fails : p start ≡ false = subst (λ (n : ℕ). p n ≡ false) same (none 0 (omega arith)) in
    let more = find_no p count (start + 1) (λ k lt. let later : start + 1 + k ≡ start + suc k = omega arith in subst (λ (n : ℕ). p n ≡ false) (sym later) (none (suc k) (omega arith))) in
    rw fails more

-- the lines of a text, as what they say
abbrev said : Format → List ℕ → List (Line (List ℕ))
said format text = map (line_of format) (ended_lines text)

-- where a walk through the lines stands: so many lines have been read, what they come to is kept, none of them ends the text,
-- and the rest is left
pub record Walked (format : Format) (text rest : List ℕ) (count : ℕ) (kept : Before) : Type 0 where
  pub lines : ended_lines rest ≡ drop count (ended_lines text)
  pub learnt : kept ≡ before (map (line_of format) (take count (ended_lines text)))
  pub onward : (place : ℕ) → place < count → ends_at format (said format text) place ≡ false
  pub bytes : bytes_of (take count (ended_lines text)) + length rest ≡ length text
  pub few : count + length rest ≤ length text
  pub within : count ≤ length (ended_lines text)

pub starts : (format : Format) (text : List ℕ) → Walked format text text 0 (before [])
starts format text = record {
  lines = refl;
  learnt = refl;
  onward = λ place lt. absurd (omega arith);
  bytes = omega arith;
  few = omega arith;
  within = omega arith;
}

-- what is kept is what the lines read say
kept_said : (format : Format) (text rest : List ℕ) (count : ℕ) (kept : Before) → Walked format text rest count kept → before (take count (said format text)) ≡ kept
kept_said format text rest count kept walked = ap before (take-map (line_of format) count (ended_lines text)) ∙ sym walked.learnt

next_text : (format : Format) (text rest after : List ℕ) (count : ℕ) (kept : Before) (line : List ℕ) → Walked format text rest count kept → ended_lines rest ≡ line ∷ ended_lines after → Cut (ended_lines text) count line (ended_lines after)
next_text format text rest after count kept line walked h = cut_at (ended_lines text) count line (ended_lines after) (sym walked.lines ∙ h)

next_said : (format : Format) (text rest after : List ℕ) (count : ℕ) (kept : Before) (line : List ℕ) → Walked format text rest count kept → ended_lines rest ≡ line ∷ ended_lines after → Cut (said format text) count (line_of format line) (said format after)
next_said format text rest after count kept line walked h =
    cut_at (said format text) count (line_of format line) (said format after)
    (drop-map (line_of format) count (ended_lines text) ∙ ap (map (line_of format)) (sym walked.lines ∙ h))

-- the kind that holds at the next line
kind_next : (format : Format) (text rest after : List ℕ) (count : ℕ) (kept : Before) (line : List ℕ) → Walked format text rest count kept → ended_lines rest ≡ line ∷ ended_lines after → kind_at format (said format text) count ≡ kind_after format kept (line_of format line)
kind_next format text rest after count kept line walked h =
    ap (option_and_then (kind_after format (before (take count (said format text))))) (next_said format text rest after count kept line walked h).here
    ∙ ap (λ (so_far : Before). kind_after format so_far (line_of format line)) (kept_said format text rest count kept walked)

-- whether the text ends there
ends_next : (format : Format) (text rest after : List ℕ) (count : ℕ) (kept : Before) (line : List ℕ) → Walked format text rest count kept → ended_lines rest ≡ line ∷ ended_lines after → ends_at format (said format text) count ≡ (is_some (kind_after format kept (line_of format line)) || is_last (line_of format line))
ends_next format text rest after count kept line walked h =
    ap (λ (kind : Option TextKind). is_some kind || option_map_or is_last (slice_get (said format text) count) false) (kind_next format text rest after count kept line walked h)
    ∙ ap (λ (here : Option (Line (List ℕ))). is_some (kind_after format kept (line_of format line)) || option_map_or is_last here false) (next_said format text rest after count kept line walked h).here

-- what is kept after the next line is what the lines say then
pub learnt_next : (format : Format) (text rest after : List ℕ) (count : ℕ) (kept now : Before) (line : List ℕ) → Walked format text rest count kept → ended_lines rest ≡ line ∷ ended_lines after → now ≡ learned kept (line_of format line) → now ≡ before (map (line_of format) (take (count + 1) (ended_lines text)))
learnt_next format text rest after count kept now line walked h learns =
    learns ∙ ap (λ (so_far : Before). learned so_far (line_of format line)) walked.learnt
    ∙ sym (ap (λ (lines : List (List ℕ)). before (map (line_of format) lines)) (next_text format text rest after count kept line walked h).taken
    ∙ ap before (map-append (line_of format) (take count (ended_lines text)) (line ∷ []))
    ∙ before-push (map (line_of format) (take count (ended_lines text))) (line_of format line))

-- a line without a kind that is not the last
pub goes_on : (format : Format) (text rest after : List ℕ) (count : ℕ) (kept now : Before) (line : List ℕ) → Walked format text rest count kept → ended_lines rest ≡ line ∷ ended_lines after → length line + 1 + length after ≡ length rest → kind_after format kept (line_of format line) ≡ None → is_last (line_of format line) ≡ false → now ≡ learned kept (line_of format line) → Walked format text after (count + 1) now
goes_on format text rest after count kept now line walked h sizes kind last learns =
    let cut = next_text format text rest after count kept line walked h in
    let counted = sum_by-append (λ (one : List ℕ). length one + 1) (take count (ended_lines text)) (line ∷ []) in
    let one = sum_by-cons (λ (one : List ℕ). length one + 1) line [] in
    let taken = ap bytes_of cut.taken in
    record {
      lines = sym cut.left;
      learnt = learnt_next format text rest after count kept now line walked h learns;
      onward = below_more _ _ walked.onward (ends_next format text rest after count kept line walked h ∙ rw (kind, last) refl);
      bytes = omega (arith, walked.bytes, sizes, counted, one, taken);
      few = omega (arith, walked.few, sizes);
      within = omega (arith, cut.within);
    }

-- the text ends at the next line
ends_here : (format : Format) (text rest after : List ℕ) (count : ℕ) (kept : Before) (line : List ℕ) → Walked format text rest count kept → ended_lines rest ≡ line ∷ ended_lines after → (is_some (kind_after format kept (line_of format line)) || is_last (line_of format line)) ≡ true → find (ends_at format (said format text)) (range_with_len 0 (length (ended_lines text))) ≡ Some count
ends_here format text rest after count kept line walked h ends =
    let same : 0 + count ≡ count = omega arith in
    let p : ℕ → Bool = ends_at format (said format text) in
    find_first p (length (ended_lines text)) 0 count (next_text format text rest after count kept line walked h).within
    (subst (λ (n : ℕ). p n ≡ true) (sym same) (ends_next format text rest after count kept line walked h ∙ ends))
    (λ k lt. let later : 0 + k ≡ k = omega arith in subst (λ (n : ℕ). p n ≡ false) (sym later) (walked.onward k lt))
    ∙ ap (λ (n : ℕ). Some n) same

-- it is refused there
pub refused_next : (unended : TextKind) (header : List ℕ) (format : Format) (text rest after : List ℕ) (count : ℕ) (kept : Before) (line : List ℕ) (kind : TextKind) → Walked format text rest count kept → ended_lines rest ≡ line ∷ ended_lines after → kind_after format kept (line_of format line) ≡ Some kind → outcome_after unended header (ended_lines text) format ≡ Refuses (count + 2) kind
unfolding outcome_after
refused_next unended header format text rest after count kept line kind walked h holds =
    let found = ends_here format text rest after count kept line walked h (rw holds refl) in
    let here = kind_next format text rest after count kept line walked h ∙ holds in
    ap (outcome_at unended header (ended_lines text) format) found
    ∙ ap (λ (one : Option TextKind). refused_or (count + 2) one (Reads (reading_after (before (take (count + 1) (said format text)))) (bytes_of (header ∷ take (count + 1) (ended_lines text))))) here

-- it is read up to there
pub read : (unended : TextKind) (header : List ℕ) (format : Format) (text rest after : List ℕ) (count : ℕ) (kept now : Before) (line : List ℕ) → Walked format text rest count kept → ended_lines rest ≡ line ∷ ended_lines after → length line + 1 + length after ≡ length rest → kind_after format kept (line_of format line) ≡ None → is_last (line_of format line) ≡ true → now ≡ learned kept (line_of format line) → outcome_after unended header (ended_lines text) format ≡ Reads (reading_after now) (length header + 1 + (length text - length after))
unfolding outcome_after
read unended header format text rest after count kept now line walked h sizes kind last learns =
    let found = ends_here format text rest after count kept line walked h (rw last (or-true (is_some (kind_after format kept (line_of format line))))) in
    let here = kind_next format text rest after count kept line walked h ∙ kind in
    let said_cut = next_said format text rest after count kept line walked h in
    let text_cut = next_text format text rest after count kept line walked h in
    let all : before (take (count + 1) (said format text)) ≡ now =
    ap before said_cut.taken ∙ before-push (take count (said format text)) (line_of format line)
    ∙ ap (λ (so_far : Before). learned so_far (line_of format line)) (kept_said format text rest count kept walked) ∙ sym learns in
    let counted = sum_by-append (λ (one : List ℕ). length one + 1) (take count (ended_lines text)) (line ∷ []) in
    let one = sum_by-cons (λ (one : List ℕ). length one + 1) line [] in
    let first = sum_by-cons (λ (one : List ℕ). length one + 1) header (take (count + 1) (ended_lines text)) in
    let taken = ap bytes_of text_cut.taken in
    let bytes : bytes_of (header ∷ take (count + 1) (ended_lines text)) ≡ length header + 1 + (length text - length after) = omega (arith, walked.bytes, sizes, counted, one, first, taken) in
    ap (outcome_at unended header (ended_lines text) format) found
    ∙ ap (λ (one : Option TextKind). refused_or (count + 2) one (Reads (reading_after (before (take (count + 1) (said format text)))) (bytes_of (header ∷ take (count + 1) (ended_lines text))))) here
    ∙ (λ i. Reads (reading_after (all i)) (bytes i))

-- no line is left
pub ended : (unended : TextKind) (header : List ℕ) (format : Format) (text rest : List ℕ) (count : ℕ) (kept : Before) → Walked format text rest count kept → ended_lines rest ≡ [] → outcome_after unended header (ended_lines text) format ≡ Refuses (count + 2) unended
unfolding outcome_after
ended unended header format text rest count kept walked h =
    let left : length (drop count (ended_lines text)) ≡ 0 = ap length (sym walked.lines ∙ h) in
    let all : length (ended_lines text) ≡ count = omega (arith, left, walked.within, length-drop count (ended_lines text)) in
    let none = find_no (ends_at format (said format text)) (length (ended_lines text)) 0 (λ k lt. let later : 0 + k ≡ k = omega arith in subst (λ (n : ℕ). ends_at format (said format text) n ≡ false) (sym later) (walked.onward k (subst (λ (n : ℕ). k < n) all lt))) in
    ap (outcome_at unended header (ended_lines text) format) none ∙ ap (λ (n : ℕ). Refuses (n + 2) unended) all

-- the same by a refusal at that line
pub refused_there : (unended : TextKind) (header : List ℕ) (format : Format) (text rest after : List ℕ) (count : ℕ) (kept : Before) (line : List ℕ) (said : Line (List ℕ)) (refusal : TextRefused) → Walked format text rest count kept → ended_lines rest ≡ line ∷ ended_lines after → said ≡ line_of format line → IsRefusalAt (kind_after format kept said) count refusal → IsRefusal (outcome_after unended header (ended_lines text) format) refusal
refused_there unended header format text rest after count kept line said (refused.Line number kind) walked h same at =
    refused_next unended header format text rest after count kept line kind walked h (ap (kind_after format kept) (sym same) ∙ at.0)
    ∙ ap (λ (n : ℕ). Refuses n kind) (sym at.1)
refused_there unended header format text rest after count kept line said refused.Memory walked h same at = tt

-- an input whose first line names a format
pub outcome_named : (input text header rest : List ℕ) (format : Format) (unended : TextKind) → text ≡ first_mebibyte input → ended_lines text ≡ header ∷ ended_lines rest → format_named header ≡ Some format → unended ≡ unended_kind input → outcome input ≡ outcome_after unended header (ended_lines rest) format
unfolding outcome
outcome_named input text header rest format unended first cut named same =
    ap (outcome_of_lines (unended_kind input)) (ap ended_lines (sym first) ∙ cut)
    ∙ ap (λ (found : Option Format). option_map_or (outcome_after (unended_kind input) header (ended_lines rest)) found (Refuses 1 kind.Header)) named
    ∙ ap (λ (kind : TextKind). outcome_after kind header (ended_lines rest) format) (sym same)

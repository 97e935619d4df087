-- Machine texts that stand one after the other: what they say, or which of them is refused and why. Texts are counted
-- from 0. How many there may be is this project's own.
use Rattle.std.specs.Prelude.{◌≡◌, ℕ, zero, suc, ◌+◌, ◌++◌, ◌==◌, Bool, true, false, List, [], ◌∷◌, drop, codes, Result, Ok, Err}
use Rattle.std.specs.Fmt.{decimal}
use Rattle.armcaps_text.specs.Document.{Outcome, Reads, Refuses, Reading, outcome}
use Rattle.armcaps_text.specs.Refusal.{refusal_text}
use Rattle.armcaps_text.specs.declared.kind.TextRefused.TheVariants as text
use Rattle.armcaps_text.specs.declared.texts.TextsRefused.{TextsRefused}
use Rattle.armcaps_text.specs.declared.texts.TextsRefused.TheVariants.{Line, Image, TooMany}
use Rattle.armcaps_text.specs.declared.texts.TextsUnread.{TextsUnread}
use Rattle.armcaps_text.specs.declared.texts.TextsUnread.TheVariants.{Refused, Memory}

-- a reading before those of other texts, if these are not refused
abbrev pub before_others : Reading → Result (List Reading) TextsRefused → Result (List Reading) TextsRefused
before_others reading (Ok others) = Ok (reading ∷ others)
before_others reading (Err refused) = Err refused

-- what follows a text: nothing, or other texts
abbrev pub nothing_or : (List ℕ → Result (List Reading) TextsRefused) → List ℕ → Result (List Reading) TextsRefused
nothing_or others [] = Ok []
nothing_or others (byte ∷ bytes) = others (byte ∷ bytes)

-- a text that reads so up to this place, where its image has no byte, and what follows it
abbrev pub unless_image : Bool → ℕ → Reading → Result (List Reading) TextsRefused → Result (List Reading) TextsRefused
unless_image true number reading others = before_others reading others
unless_image false number reading others = Err (Image number)

-- texts the first of which has this number and comes to this, and what follows it
abbrev pub texts_after : (List ℕ → Result (List Reading) TextsRefused) → ℕ → List ℕ → Outcome
    → Result (List Reading) TextsRefused
texts_after others number input (Refuses line kind) = Err (Line number line kind)
texts_after others number input (Reads reading place) =
    unless_image (reading.image == 0) number reading (nothing_or others (drop place input))

-- what texts say, at most so many, the first of which has this number: each is judged by all bytes from its beginning
-- on, its kind before the length of its image, which has to be 0
abbrev pub texts_from : ℕ → ℕ → List ℕ → Result (List Reading) TextsRefused
texts_from zero number input = Err TooMany
texts_from (suc room) number input = texts_after (texts_from room (number + 1)) number input (outcome input)

-- what the texts of an input say, 1 to 64, or why they are refused: by the first of the first 64 that is refused or has
-- an image, or because bytes follow the 64th
unfoldable pub texts_of : List ℕ → Result (List Reading) TextsRefused
texts_of input = texts_from 64 0 input

-- texts the first of which has this number and comes to this are refused so, unless memory ran out
abbrev pub IsRefusedText : ℕ → Outcome → TextsUnread → Type 0
IsRefusedText number outcome (Refused refused) =
    (others : List ℕ → Result (List Reading) TextsRefused) (input : List ℕ)
    → texts_after others number input outcome ≡ Err refused
IsRefusedText number outcome Memory = Unit {0}

-- the texts are refused so, unless memory ran out
abbrev pub AreRefusedSo : Result (List Reading) TextsRefused → TextsUnread → Type 0
AreRefusedSo texts (Refused refused) = texts ≡ Err refused
AreRefusedSo texts Memory = Unit {0}

-- the text of a refusal, as `machine 1: line 7: kind 13 turn`
unfoldable pub texts_refusal_text : TextsRefused → List ℕ
texts_refusal_text (Line number line kind) =
    codes "machine " ++ decimal number ++ codes ": " ++ refusal_text (text.Line line kind)
texts_refusal_text (Image number) = codes "machine " ++ decimal number ++ codes ": image"
texts_refusal_text TooMany = codes "more than 64 machines"

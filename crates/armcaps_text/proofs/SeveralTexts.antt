-- Texts that stand one after the other, read one by one.
use Rattle.std.proofs.Common.{◌≡◌, Bool, true, ℕ, suc, ◌+◌, ◌-◌, ◌==◌, ◌<◌, ◌≤◌, List, [], ◌∷◌, ◌++◌, length, map, drop, refl, sym, ap, ◌∙◌, arith, append_assoc, length-append}
use Rattle.std.proofs.lemmas.List.{map-append}
use Rattle.std.specs.Prelude.{Result, Ok, Err}
use Rattle.std.specs.List.{All}
use Rattle.std.proofs.lemmas.List.Elements.{All-push, All-nil}
use Rattle.armcaps_text.specs.Document.{Reading, Reads, outcome, reading_of}
use Rattle.armcaps_text.specs.Sound.{IsSound}
use Rattle.armcaps_text.specs.Texts.{AreRefusedSo, IsRefusedText, before_others, nothing_or, texts_after, texts_from, texts_of, unless_image}
use Rattle.armcaps_text.specs.declared.machine.Machine.{Machine}
use Rattle.armcaps_text.specs.declared.texts.TextsRefused.{TextsRefused}
use Rattle.armcaps_text.specs.declared.texts.TextsRefused.TheVariants.{TooMany}
use Rattle.armcaps_text.specs.declared.texts.TextsUnread.{TextsUnread}
use Rattle.armcaps_text.specs.declared.texts.TextsUnread.TheVariants.{Refused, Memory}

-- the readings of some texts before those of others, if these are not refused
abbrev pub behind : List Reading → Result (List Reading) TextsRefused → Result (List Reading) TextsRefused
behind readings (Ok others) = Ok (readings ++ others)
behind readings (Err refused) = Err refused

-- the first texts of an input, as many as the number, are read, and this is left
pub record IsReadTo (input : List ℕ) (number : ℕ) (rest : List ℕ) (machines : List Machine) : Type 0 where
  pub texts : (room : ℕ) → room + number ≡ 64 → texts_from 64 0 input ≡ behind (map reading_of machines) (texts_from room number rest)
  pub count : length machines ≡ number
  pub sound : All (λ machine. IsSound (reading_of machine)) machines

behind_none : (texts : Result (List Reading) TextsRefused) → texts ≡ behind [] texts
behind_none (Ok others) = refl
behind_none (Err refused) = refl

behind_one : (readings : List Reading) (reading : Reading) (texts : Result (List Reading) TextsRefused)
    → behind readings (before_others reading texts) ≡ behind (readings ++ reading ∷ []) texts
behind_one readings reading (Ok others) = ap Ok (sym (append_assoc readings (reading ∷ []) others))
behind_one readings reading (Err refused) = refl

-- a text more
one_more : (room number : ℕ) (rest : List ℕ) (reading : Reading) (place : ℕ) → outcome rest ≡ Reads reading place → reading.image ≡ 0
    → texts_from (suc room) number rest ≡ before_others reading (nothing_or (texts_from room (number + 1)) (drop place rest))
one_more room number rest reading place is none =
    let more : Result (List Reading) TextsRefused = nothing_or (texts_from room (number + 1)) (drop place rest) in
    let empty : (reading.image == 0) ≡ true = ap (λ (n : ℕ). n == 0) none in
    ap (texts_after (texts_from room (number + 1)) number rest) is ∙ ap (λ (test : Bool). unless_image test number reading more) empty

readings_more : (machines : List Machine) (machine : Machine) → map reading_of machines ++ reading_of machine ∷ [] ≡ map reading_of (machines ++ machine ∷ [])
readings_more machines machine = sym (map-append reading_of machines (machine ∷ []))

-- before the first text
pub begun : (input : List ℕ) → IsReadTo input 0 input []
begun input = record {
  texts = λ room all. let is : room ≡ 64 = omega (arith, all) in rw is (behind_none (texts_from 64 0 input));
  count = refl;
  sound = All-nil (λ machine. IsSound (reading_of machine));
}

module _ (input : List ℕ) (number : ℕ) (rest : List ℕ) (machines : List Machine) (read : IsReadTo input number rest machines) where
  -- a text that is refused refuses all
  refused_here : (refused : TextsRefused) → number < 64
      → ((others : List ℕ → Result (List Reading) TextsRefused) (bytes : List ℕ) → texts_after others number bytes (outcome rest) ≡ Err refused)
      → texts_of input ≡ Err refused
  unfolding texts_of
  refused_here refused inside is =
      let room : ℕ = 63 - number in
      let all : suc room + number ≡ 64 = omega (arith, inside) in
      read.texts (suc room) all ∙ ap (behind (map reading_of machines)) (is (texts_from room (number + 1)) rest)

  pub refused_so : (unread : TextsUnread) → number < 64 → IsRefusedText number (outcome rest) unread → AreRefusedSo (texts_of input) unread
  refused_so (Refused refused) inside is = refused_here refused inside is
  refused_so Memory inside is = tt

  -- bytes after the 64th text
  pub too_many : 64 ≤ number → number ≤ 64 → texts_of input ≡ Err TooMany
  unfolding texts_of
  too_many low high = read.texts 0 (omega (arith, low, high))

  -- a text that reads
  module _ (machine : Machine) (place : ℕ) (is : outcome rest ≡ Reads (reading_of machine) place) (none : machine.image ≡ 0) where
    after_one : (room : ℕ) → room + (number + 1) ≡ 64
        → texts_from 64 0 input ≡ behind (map reading_of (machines ++ machine ∷ [])) (nothing_or (texts_from room (number + 1)) (drop place rest))
    after_one room all =
        let more : Result (List Reading) TextsRefused = nothing_or (texts_from room (number + 1)) (drop place rest) in
        read.texts (suc room) (omega (arith, all)) ∙ ap (behind (map reading_of machines)) (one_more room number rest (reading_of machine) place is none)
        ∙ behind_one (map reading_of machines) (reading_of machine) more ∙ ap (λ readings. behind readings more) (readings_more machines machine)

    -- and is the last
    pub ended : (left : List ℕ) → drop place rest ≡ left → length left ≡ 0 → number < 64 → texts_of input ≡ Ok (map reading_of (machines ++ machine ∷ []))
    unfolding texts_of
    ended left is_left none_left inside =
        let room : ℕ = 63 - number in
        let all : room + (number + 1) ≡ 64 = omega (arith, inside) in
        let readings : List Reading = map reading_of (machines ++ machine ∷ []) in
        after_one room all ∙ ap (λ (bytes : List ℕ). behind readings (nothing_or (texts_from room (number + 1)) bytes)) is_left
        ∙ ap (behind readings) (nothing (texts_from room (number + 1)) left none_left) ∙ ap Ok (all_of readings)
      where
        nothing : (others : List ℕ → Result (List Reading) TextsRefused) (bytes : List ℕ) → length bytes ≡ 0 → nothing_or others bytes ≡ Ok []
        nothing others [] none = refl
        nothing others (byte ∷ bytes) none = absurd (omega (arith, none))

        all_of : (readings : List Reading) → readings ++ [] ≡ readings
        all_of [] = refl
        all_of (one ∷ more) = ap (λ others. one ∷ others) (all_of more)

    -- or others follow
    pub goes_on : (left : List ℕ) → drop place rest ≡ left → 0 < length left → IsSound (reading_of machine) → IsReadTo input (number + 1) left (machines ++ machine ∷ [])
    goes_on left is_left some sound = record {
      texts = λ room all. after_one room all ∙ ap (λ bytes. behind (map reading_of (machines ++ machine ∷ [])) (nothing_or (texts_from room (number + 1)) bytes)) is_left
          ∙ ap (behind (map reading_of (machines ++ machine ∷ []))) (something (texts_from room (number + 1)) left some);
      count = omega (arith, length-append machines (machine ∷ []), read.count);
      sound = All-push (λ one. IsSound (reading_of one)) machines machine read.sound sound;
    }
      where
        something : (others : List ℕ → Result (List Reading) TextsRefused) (bytes : List ℕ) → 0 < length bytes → nothing_or others bytes ≡ others bytes
        something others [] some = absurd (omega (arith, some))
        something others (byte ∷ bytes) some = refl

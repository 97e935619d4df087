-- What is gathered before finalisation: the capabilities noted, and the vector lengths that all early cores have.
use Rattle.std.proofs.Common.{◌≡◌, ◌<◌, inl, inr, ℕ, zero, suc, ◌-◌, Bool, true, false, ◌&&◌, ◌||◌, List, ◌∷◌, ◌++◌, refl, sym, ◌∙◌, ap, subst, arith, min}
use Rattle.std.specs.Prelude.{◌==◌, bit_and}
use Rattle.std.specs.Int.{bit_at}
use Rattle.std.proofs.lemmas.Nat.Bits.{bit_at_and, bit_at-lt, bit_at-zero}
use Rattle.std.specs.List.{list_any, list_all}
use Rattle.armcaps_tables.specs.Core.{Core}
use Rattle.armcaps_tables.specs.Overriding.{FieldOverrides}
use Rattle.armcaps_board.specs.Board.{Board}
use Rattle.armcaps_boot.specs.Causes.{has_capability, has_length}
use Rattle.armcaps_boot.specs.Numbers.{is_in, numbers}
use Rattle.armcaps_sanit.specs.System.{IsSystemOf, merged_words}
use Rattle.armcaps_caps.specs.Capabilities.{is_local_scope}
use Rattle.armcaps_boot.proofs.ChosenCores.{Added, any-added, all-added}
use Rattle.armcaps_boot.proofs.FirstNumbers.{is_in-numbers, numbers-same}
use Rattle.armcaps_sanit.proofs.SystemWords.{is_system_insert, is_system_again}

-- the local capabilities that some of these cores have
abbrev pub local_of : Board → List Core → List Bool
local_of board cores = numbers 53 (λ n. is_local_scope n && list_any (λ core. has_capability board core n) cores)

distributed : (l a h : Bool) → ((l && a) || (l && h)) ≡ (l && (h || a))
distributed true true true = refl
distributed true true false = refl
distributed true false true = refl
distributed true false false = refl
distributed false a h = refl

-- one more core's local capabilities
pub noted-added : (board : Board) (core : Core) (less more : List Core) (noted : List Bool) → Added less more core → noted ≡ local_of board less
    → numbers 53 (λ n. is_in noted n || (is_local_scope n && has_capability board core n)) ≡ local_of board more
noted-added board core less more noted added is = numbers-same _ _ 53 at where
  at : (n : ℕ) → n < 53 → (is_in noted n || (is_local_scope n && has_capability board core n)) ≡ (is_local_scope n && list_any (λ c. has_capability board c n) more)
  at n within =
      ap (λ (set : List Bool). is_in set n || (is_local_scope n && has_capability board core n)) is
      ∙ ap (λ b. b || (is_local_scope n && has_capability board core n)) (is_in-numbers (λ m. is_local_scope m && list_any (λ c. has_capability board c m) less) 53 n within)
      ∙ distributed (is_local_scope n) (list_any (λ c. has_capability board c n) less) (has_capability board core n)
      ∙ ap (λ b. is_local_scope n && b) (sym (any-added (λ c. has_capability board c n) less more core added))

both_bits : (x y : ℕ) → x < 2 → y < 2 → (min x y == 1) ≡ ((y == 1) && (x == 1))
both_bits zero zero h k = refl
both_bits zero (suc zero) h k = refl
both_bits (suc zero) zero h k = refl
both_bits (suc zero) (suc zero) h k = refl
both_bits (suc (suc x)) y h k = absurd (omega arith)
both_bits x (suc (suc y)) h k = absurd (omega arith)

-- the lengths in both of two sets
pub has_length-both : (a b q : ℕ) → has_length (bit_and a b) q ≡ (has_length b q && has_length a q)
has_length-both a b q =
    ap (λ x. x == 1) (bit_at_and a b (q - 1)) ∙ both_bits (bit_at a (q - 1)) (bit_at b (q - 1)) (bit_at-lt a (q - 1)) (bit_at-lt b (q - 1))

pub has_length-none : (q : ℕ) → has_length 0 q ≡ false
has_length-none q = ap (λ x. x == 1) (bit_at-zero (q - 1))

-- the lengths that one more core has too
pub kept-added : (core : Core) (less more : List Core) (kept q : ℕ) → Added less more core → has_length kept q ≡ list_all (λ c. has_length c.lengths q) less
    → has_length (bit_and kept core.lengths) q ≡ list_all (λ c. has_length c.lengths q) more
kept-added core less more kept q added is =
    has_length-both kept core.lengths q ∙ ap (λ b. has_length core.lengths q && b) is ∙ sym (all-added (λ c. has_length c.lengths q) less more core added)

-- the words over some cores, after one more core is merged
pub system-added : (o : FieldOverrides) (less more : List Core) (core : Core) (words : List ℕ) → Added less more core → IsSystemOf o less words
    → IsSystemOf o more (merged_words words core)
system-added o less more core words a stands = elim a.short as (λ _. IsSystemOf o more (merged_words words core)) [
  | inl s ↦ subst (λ (l : List Core). IsSystemOf o l (merged_words words core)) (sym a.long)
      (is_system_insert o a.before a.after core words (subst (λ (l : List Core). IsSystemOf o l words) s stands))
  | inr s ↦ again (subst (λ (l : List Core). IsSystemOf o l words) s stands)
] where
  again : IsSystemOf o (a.before ++ core ∷ a.after) words → IsSystemOf o more (merged_words words core)
  again h =
      subst (λ (l : List Core). IsSystemOf o l (merged_words words core)) (sym a.long)
      (subst (λ (w : List ℕ). IsSystemOf o (a.before ++ core ∷ a.after) w) (sym (is_system_again o a.before a.after core words h)) h)

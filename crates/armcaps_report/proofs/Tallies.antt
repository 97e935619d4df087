-- Counts and sums over numbers from 0 on, one more at a time.
use Rattle.std.proofs.Common.{◌≡◌, ℕ, ◌+◌, ◌≤◌, Bool, true, false, cond, List, [], ◌∷◌, ◌++◌, sym, ap, ◌∙◌, arith, append_assoc}
use Rattle.std.specs.List.{count_by, range_with_len, sum_by}
use Rattle.std.proofs.lemmas.List.{map-id}
use Rattle.std.proofs.lemmas.List.FromFn.{map-range_with_len_more}
use Rattle.std.proofs.lemmas.List.Sums.{sum_by_push}

range-more : (n : ℕ) → range_with_len 0 (n + 1) ≡ range_with_len 0 n ++ n ∷ []
range-more n =
    sym (map-id (range_with_len 0 (n + 1))) ∙ map-range_with_len_more (λ (k : ℕ). k) 0 n n (omega arith)
    ∙ ap (λ (ks : List ℕ). ks ++ n ∷ []) (map-id (range_with_len 0 n))

pub sum-more : (f : ℕ → ℕ) (n now one : ℕ) → now ≡ sum_by f (range_with_len 0 n) → one ≡ f n → now + one ≡ sum_by f (range_with_len 0 (n + 1))
sum-more f n now one so_far is = omega (arith, so_far, is, ap (sum_by f) (range-more n), sum_by_push f (range_with_len 0 n) n)

pub count-more : (p : ℕ → Bool) (n now one : ℕ) → now ≡ count_by p (range_with_len 0 n) → one ≡ cond (p n) 1 0 → now + one ≡ count_by p (range_with_len 0 (n + 1))
count-more p n now one so_far is = sum-more (λ (k : ℕ). cond (p k) 1 0) n now one so_far is

pub at_most_one : (b : Bool) (one : ℕ) → one ≡ cond b 1 0 → one ≤ 1
at_most_one true one is = omega (arith, is)
at_most_one false one is = omega (arith, is)

-- a line with one number, and a line with two
pub one_number : (first number last : List ℕ) → first ++ (number ++ last) ≡ first ++ number ++ last
one_number first number last = sym (append_assoc first number last)

pub two_numbers : (first number middle other last : List ℕ) → first ++ (number ++ (middle ++ (other ++ last))) ≡ first ++ number ++ middle ++ other ++ last
two_numbers first number middle other last =
    sym (append_assoc (first ++ number ++ middle) other last ∙ append_assoc (first ++ number) middle (other ++ last) ∙ append_assoc first number (middle ++ (other ++ last)))

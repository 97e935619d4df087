-- How many words things cover, of which no two overlap.
use Rattle.std.proofs.Common.{◌≡◌, ℕ, zero, suc, ◌+◌, ◌-◌, ◌<◌, ◌≤◌, ◌||◌, Bool, true, false, cond, List, [], ◌∷◌, ◌++◌, refl, ap, ◌∙◌, arith}
use Rattle.std.specs.List.{count_by, list_any, range_with_len, sum_by}
use Rattle.std.proofs.lemmas.Bool.{or_from, or_left}
use Rattle.std.proofs.lemmas.List.Sums.{sum_by-append, sum_by-cons}

-- a range in two parts, and in three
range-parts : (start n m : ℕ) → range_with_len start (n + m) ≡ range_with_len start n ++ range_with_len (start + n) m
range-parts start zero m =
    let same : 0 + m ≡ m = omega arith in
    let here : start ≡ start + 0 = omega arith in
    ap (range_with_len start) same ∙ ap (λ (s : ℕ). range_with_len s m) here
range-parts start (suc n) m =
    let same : suc n + m ≡ suc (n + m) = omega arith in
    let there : start + 1 + n ≡ start + suc n = omega arith in
    ap (range_with_len start) same
    ∙ ap (λ (ks : List ℕ). start ∷ ks) (range-parts (start + 1) n m ∙ ap (λ (s : ℕ). range_with_len (start + 1) n ++ range_with_len s m) there)

count-parts : (p : ℕ → Bool) (start n m : ℕ) → count_by p (range_with_len start (n + m)) ≡ count_by p (range_with_len start n) + count_by p (range_with_len (start + n) m)
count-parts p start n m = ap (count_by p) (range-parts start n m) ∙ sum_by-append (λ (k : ℕ). cond (p k) 1 0) (range_with_len start n) (range_with_len (start + n) m)

count-three : (p : ℕ → Bool) (start n from m to rest count : ℕ) → start + n ≡ from → from + m ≡ to → n + (m + rest) ≡ count
    → count_by p (range_with_len start count) ≡ count_by p (range_with_len start n) + (count_by p (range_with_len from m) + count_by p (range_with_len to rest))
count-three p start n from m to rest count from_is to_is count_is =
    rw (← count_is, ← to_is, ← from_is) (omega (arith, count-parts p start n (m + rest), count-parts p (start + n) m rest))

-- two tests that agree in a range count alike there
count-same : (p q : ℕ → Bool) (start n : ℕ) → ((k : ℕ) → start ≤ k → k < start + n → p k ≡ q k) → count_by p (range_with_len start n) ≡ count_by q (range_with_len start n)
count-same p q start zero same = refl
count-same p q start (suc n) same =
    let others = count-same p q (start + 1) n (λ k low high. same k (omega (arith, low)) (omega (arith, high))) in
    let first : cond {A = ℕ} (p start) 1 0 ≡ cond (q start) 1 0 = ap (λ (b : Bool). cond b 1 0) (same start (omega arith) (omega arith)) in
    omega (
      arith,
      first,
      others,
      sum_by-cons (λ (k : ℕ). cond (p k) 1 0) start (range_with_len (start + 1) n),
      sum_by-cons (λ (k : ℕ). cond (q k) 1 0) start (range_with_len (start + 1) n),
    )

count-none : (start n : ℕ) → count_by (λ (k : ℕ). false) (range_with_len start n) ≡ 0
count-none start zero = refl
count-none start (suc n) = omega (arith, count-none (start + 1) n, sum_by-cons (λ (k : ℕ). 0) start (range_with_len (start + 1) n))

count-all : (start n : ℕ) → count_by (λ (k : ℕ). true) (range_with_len start n) ≡ n
count-all start zero = refl
count-all start (suc n) = omega (arith, count-all (start + 1) n, sum_by-cons (λ (k : ℕ). 1) start (range_with_len (start + 1) n))

-- a thing that covers as many words as it has, from one on, and none from `size` on
pub record LiesAt {X : Type 0} (covers : ℕ → X → Bool) (words : X → ℕ) (size from : ℕ) (x : X) : Type 0 where
  pub within : from + words x ≤ size
  pub before : (word : ℕ) → word < from → covers word x ≡ false
  pub inside : (word : ℕ) → from ≤ word → word < from + words x → covers word x ≡ true
  pub after : (word : ℕ) → from + words x ≤ word → covers word x ≡ false

-- things none of which begins before `low` or before the one before it has ended
abbrev pub AreApart : {X : Type 0} → (ℕ → X → Bool) → (X → ℕ) → ℕ → ℕ → List X → Type 0
AreApart covers words size low [] = Unit {0}
AreApart covers words size low (x ∷ xs) = (from : ℕ) × (low ≤ from) × LiesAt covers words size from x × AreApart covers words size (from + words x) xs

pub from_lower : {X : Type 0} (covers : ℕ → X → Bool) (words : X → ℕ) (size lower low : ℕ) (xs : List X) → lower ≤ low → AreApart covers words size low xs → AreApart covers words size lower xs
from_lower covers words size lower low [] down apart = tt
from_lower covers words size lower low (x ∷ xs) down (from, later, lies, apart) = (from, omega (arith, later), lies, apart)

none_before : {X : Type 0} (covers : ℕ → X → Bool) (words : X → ℕ) (size low : ℕ) (xs : List X) → AreApart covers words size low xs → (word : ℕ) → word < low → list_any (covers word) xs ≡ false
none_before covers words size low [] apart word early = refl
none_before covers words size low (x ∷ xs) (from, later, lies, apart) word early =
    or_from (covers word x) (list_any (covers word) xs) (lies.before word (omega (arith, later)))
    (none_before covers words size (from + words x) xs apart word (omega (arith, later)))

-- as many words are covered as they have
pub covered_apart : {X : Type 0} (covers : ℕ → X → Bool) (words : X → ℕ) (size low count : ℕ) (xs : List X) → low + count ≡ size → AreApart covers words size low xs
    → count_by (λ (word : ℕ). list_any (covers word) xs) (range_with_len low count) ≡ sum_by words xs
covered_apart covers words size low count [] all apart = count-none low count
covered_apart covers words size low count (x ∷ xs) all (from, later, lies, apart) =
    let to = from + words x in
    let rest = size - to in
    let test : ℕ → Bool = λ (word : ℕ). list_any (covers word) (x ∷ xs) in
    let parts = count-three test low (from - low) from (words x) to rest count (omega (arith, later)) refl (omega (arith, later, lies.within, all)) in
    let before = count-same test (λ word. false) low (from - low) (λ word start end.
    or_from (covers word x) (list_any (covers word) xs) (lies.before word (omega (arith, later, end)))
    (none_before covers words size to xs apart word (omega (arith, later, end)))) in
    let inside = count-same test (λ word. true) from (words x) (λ word start end. or_left (covers word x) (list_any (covers word) xs) (lies.inside word start end)) in
    let after = count-same test (λ (word : ℕ). list_any (covers word) xs) to rest (λ word start end. ap (λ (b : Bool). b || list_any (covers word) xs) (lies.after word start)) in
    let others = covered_apart covers words size to rest xs (omega (arith, lies.within)) apart in
    omega (arith, parts, before, inside, after, others, count-none low (from - low), count-all from (words x), sum_by-cons words x xs)

-- Lists of chosen cores: which tests choose the same, and what one more core adds.
use Rattle.std.proofs.Common.{◌≡◌, ◌<◌, ◌⊎◌, inl, inr, ℕ, zero, suc, Bool, true, false, cond, ◌&&◌, ◌||◌, List, [], ◌∷◌, ◌++◌, length, refl, sym, ◌∙◌, ap, arith}
use Rattle.std.specs.List.{list_any, list_all}
use Rattle.armcaps_tables.specs.Core.{Core}
use Rattle.armcaps_board.specs.Board.{core_at}
use Rattle.armcaps_boot.specs.Choosing.{chosen}
use Rattle.armcaps_logic.proofs.Searches.{list_all-between, list_any-between}

pub chosen-same : (p q : ℕ → Bool) (cores : List Core) → ((k : ℕ) → p k ≡ q k) → chosen p cores ≡ chosen q cores
chosen-same p q [] same = refl
chosen-same p q (x ∷ xs) same =
    let here = same 0 in
    let more = chosen-same (λ n. p (suc n)) (λ n. q (suc n)) xs (λ k. same (suc k)) in
    rw (here, more)

-- the longer list is the shorter one with one more core, which may be in it already
pub record Added (less more : List Core) (core : Core) : Type 0 where
  pub before : List Core
  pub after : List Core
  pub long : more ≡ before ++ core ∷ after
  pub short : (less ≡ before ++ after) ⊎ (less ≡ before ++ core ∷ after)

at_front : (b c : Bool) (l m : List Core) (x : Core) → c ≡ true → l ≡ m → Added (cond b (x ∷ l) l) (cond c (x ∷ m) m) x
at_front true c l m x e same = record { before = []; after = m; long = rw e; short = inr (rw same) }
at_front false c l m x e same = record { before = []; after = m; long = rw e; short = inl same }

further : (b c : Bool) (l m : List Core) (x y : Core) → b ≡ c → Added l m x → Added (cond b (y ∷ l) l) (cond c (y ∷ m) m) x
further true c l m x y e a = record {
  before = y ∷ a.before;
  after = a.after;
  long = rw (← e) (ap (λ r. y ∷ r) a.long);
  short = elim a.short as (λ _. (y ∷ l ≡ (y ∷ a.before) ++ a.after) ⊎ (y ∷ l ≡ (y ∷ a.before) ++ x ∷ a.after))
      [ inl s ↦ inl (ap (λ r. y ∷ r) s) | inr s ↦ inr (ap (λ r. y ∷ r) s) ];
}
further false c l m x y e a = record { before = a.before; after = a.after; long = rw (← e) a.long; short = a.short }

-- a test that chooses one more core, and else as another
pub chosen-added : (p q : ℕ → Bool) (cores : List Core) (k : ℕ) → k < length cores → q k ≡ true
    → ((j : ℕ) → (j ≡ k → ⊥) → p j ≡ q j) → Added (chosen p cores) (chosen q cores) (core_at cores k)
chosen-added p q [] k within chooses agree = absurd (omega arith)
chosen-added p q (x ∷ xs) zero within chooses agree =
    at_front (p 0) (q 0) (chosen (λ n. p (suc n)) xs) (chosen (λ n. q (suc n)) xs) x chooses
    (chosen-same (λ n. p (suc n)) (λ n. q (suc n)) xs (λ j. agree (suc j) (λ e. absurd (omega arith))))
chosen-added p q (x ∷ xs) (suc k) within chooses agree =
    further (p 0) (q 0) (chosen (λ n. p (suc n)) xs) (chosen (λ n. q (suc n)) xs) (core_at xs k) x (agree 0 (λ e. absurd (omega arith)))
    (chosen-added (λ n. p (suc n)) (λ n. q (suc n)) xs k (omega arith) chooses (λ j ne. agree (suc j) (λ e. ne (omega arith))))

-- a chosen core stands in the list
pub record Among (cores : List Core) (core : Core) : Type 0 where
  pub before : List Core
  pub after : List Core
  pub is : cores ≡ before ++ core ∷ after

pub chosen-among : (p : ℕ → Bool) (cores : List Core) (k : ℕ) → k < length cores → p k ≡ true → Among (chosen p cores) (core_at cores k)
chosen-among p cores k within chooses =
    let a = chosen-added p p cores k within chooses (λ j ne. refl) in record { before = a.before; after = a.after; is = a.long }

or_same : (a b : Bool) → (a || (a || b)) ≡ (a || b)
or_same true b = refl
or_same false b = refl

and_same : (a b : Bool) → (a && (a && b)) ≡ (a && b)
and_same true b = refl
and_same false b = refl

-- whether some core passes a test, with one more core
pub any-added : (f : Core → Bool) (less more : List Core) (x : Core) → Added less more x → list_any f more ≡ (f x || list_any f less)
any-added f less more x a = elim a.short as (λ _. list_any f more ≡ (f x || list_any f less)) [
  | inl s ↦ ap (list_any f) a.long ∙ list_any-between f a.before a.after x ∙ ap (λ l. f x || list_any f l) (sym s)
  | inr s ↦ ap (list_any f) a.long ∙ list_any-between f a.before a.after x ∙ sym (or_same (f x) (list_any f (a.before ++ a.after)))
      ∙ ap (λ b. f x || b) (sym (list_any-between f a.before a.after x) ∙ ap (list_any f) (sym s))
]

-- whether all cores pass a test, with one more core
pub all-added : (f : Core → Bool) (less more : List Core) (x : Core) → Added less more x → list_all f more ≡ (f x && list_all f less)
all-added f less more x a = elim a.short as (λ _. list_all f more ≡ (f x && list_all f less)) [
  | inl s ↦ ap (list_all f) a.long ∙ list_all-between f a.before a.after x ∙ ap (λ l. f x && list_all f l) (sym s)
  | inr s ↦ ap (list_all f) a.long ∙ list_all-between f a.before a.after x ∙ sym (and_same (f x) (list_all f (a.before ++ a.after)))
      ∙ ap (λ b. f x && b) (sym (list_all-between f a.before a.after x) ∙ ap (list_all f) (sym s))
]

-- a core of a list that passes a test, or a list all of which pass it
pub any-among : (f : Core → Bool) (cores : List Core) (x : Core) → Among cores x → f x ≡ true → list_any f cores ≡ true
any-among f cores x m h = ap (list_any f) m.is ∙ list_any-between f m.before m.after x ∙ ap (λ b. b || list_any f (m.before ++ m.after)) h

pub all-among : (f : Core → Bool) (cores : List Core) (x : Core) → Among cores x → list_all f cores ≡ true → f x ≡ true
all-among f cores x m h = left (f x) (list_all f (m.before ++ m.after)) (sym (ap (list_all f) m.is ∙ list_all-between f m.before m.after x) ∙ h) where
  left : (a b : Bool) → (a && b) ≡ true → a ≡ true
  left true b e = refl
  left false b e = e

-- The value that leads a list: found where it occurs and passes against every value, one step at a time.
use Rattle.std.proofs.Common.{◌≡◌, ◌<◌, length, subst, Bool, true, false, cond, List, [], ◌∷◌, ◌++◌, Some, refl, sym, arith}
use Rattle.std.specs.Prelude.{ℤ, find, unwrap_or, int_le}
use Rattle.std.specs.List.{list_all, list_any}
use Rattle.std.specs.Ordering.{int_eq}
use Rattle.std.proofs.lemmas.Int.{ints}
use Rattle.std.proofs.lemmas.List.Folds.{list_all-append, list_any-append}
use Rattle.armcaps_rule.specs.Rule.{leading}

pub int_eq_self : (a : ℤ) → int_eq a a ≡ true
int_eq_self a = grind (arith, ints)

pub int_eq_true : (a b : ℤ) → int_eq a b ≡ true → a ≡ b
int_eq_true a b h = grind (arith, ints)

pub int_le_self : (a : ℤ) → int_le a a ≡ true
int_le_self a = grind (arith, ints)

pub int_le_both : (a b : ℤ) → int_le a b ≡ true → int_le b a ≡ true → a ≡ b
int_le_both a b h k = grind (arith, ints)

pub int_le_steps : (a b c : ℤ) → int_le a b ≡ true → int_le b c ≡ true → int_le a c ≡ true
int_le_steps a b c h k = grind (arith, ints)

pub int_le_other : (a b : ℤ) → int_le a b ≡ false → int_le b a ≡ true
int_le_other a b h = grind (arith, ints)

-- what leads a list occurs in it and passes against each value
pub record Leads (test : ℤ → ℤ → Bool) (values : List ℤ) (m : ℤ) : Type 0 where
  pub occurs : list_any (int_eq m) values ≡ true
  pub passes : list_all (test m) values ≡ true

later : (m x : ℤ) (xs : List ℤ) → list_any (int_eq m) xs ≡ true → list_any (int_eq m) (x ∷ xs) ≡ true
later m x xs h = grind (arith, h)

pub all_at : (p : ℤ → Bool) (values : List ℤ) (m : ℤ) → list_all p values ≡ true → list_any (int_eq m) values ≡ true → p m ≡ true
all_at p [] m all any = cc
all_at p (x ∷ xs) m all any = at (int_eq m x) (p x) refl refl (all_at p xs m) where
  at : (same here : Bool) → int_eq m x ≡ same → p x ≡ here
      → (list_all p xs ≡ true → list_any (int_eq m) xs ≡ true → p m ≡ true) → p m ≡ true
  at true true e h more = rw (int_eq_true m x e) h
  at true false e h more = let all' = (rw h at all) in cc
  at false true e h more = more (rw h at all) (rw e at any)
  at false false e h more = let all' = (rw h at all) in cc

pub found : (p : ℤ → Bool) (values : List ℤ) (m : ℤ) → list_any (int_eq m) values ≡ true → p m ≡ true
    → ((y : ℤ) → p y ≡ true → list_any (int_eq y) values ≡ true → y ≡ m) → find p values ≡ Some m
found p [] m any at only = cc
found p (x ∷ xs) m any at only =
    on (p x) (int_eq m x) refl refl (λ h. found p xs m h at (λ y e f. only y e (later y x xs f))) where
      on : (here same : Bool) → p x ≡ here → int_eq m x ≡ same → (list_any (int_eq m) xs ≡ true → find p xs ≡ Some m)
          → find p (x ∷ xs) ≡ Some m
      on true same h e more = let first : list_any (int_eq x) (x ∷ xs) ≡ true = rw (int_eq_self x) in rw (h, only x h first)
      on false true h e more = let s = int_eq_true m x e in let h' : p m ≡ false = (rw s h) in cc
      on false false h e more = rw h (more (rw e at any))

-- the item that is found passes and occurs
pub found_passes : (p : ℤ → Bool) (values : List ℤ) (m : ℤ) → find p values ≡ Some m → p m ≡ true
found_passes p [] m e = cc
found_passes p (x ∷ xs) m e = on (p x) refl (found_passes p xs m) where
  on : (here : Bool) → p x ≡ here → (find p xs ≡ Some m → p m ≡ true) → p m ≡ true
  on true h more = let e' : Some x ≡ Some m = (rw h at e) in let s : x ≡ m = cc in rw (← s) h
  on false h more = more (rw h at e)

pub found_occurs : (p : ℤ → Bool) (values : List ℤ) (m : ℤ) → find p values ≡ Some m → list_any (int_eq m) values ≡ true
found_occurs p [] m e = cc
found_occurs p (x ∷ xs) m e = on (p x) refl (found_occurs p xs m) where
  on : (here : Bool) → p x ≡ here → (find p xs ≡ Some m → list_any (int_eq m) xs ≡ true) → list_any (int_eq m) (x ∷ xs) ≡ true
  on true h more = let e' : Some x ≡ Some m = (rw h at e) in let s : x ≡ m = cc in rw (s, int_eq_self m)
  on false h more = later m x xs (more (rw h at e))

pub leads_found : (test : ℤ → ℤ → Bool) → ((a b : ℤ) → test a b ≡ true → test b a ≡ true → a ≡ b)
    → (values : List ℤ) (m : ℤ) → Leads test values m → leading test values ≡ Some m
leads_found test anti values m l =
    found (λ v. list_all (test v) values) values m l.occurs l.passes
    (λ y h f. anti y m (all_at (test y) values m h l.occurs) (all_at (test m) values y l.passes f))

pub found_leads : (test : ℤ → ℤ → Bool) (values : List ℤ) (m : ℤ) → leading test values ≡ Some m → Leads test values m
found_leads test values m e = record {
  occurs = found_occurs (λ v. list_all (test v) values) values m e;
  passes = found_passes (λ v. list_all (test v) values) values m e;
}

-- what leads more values passes against one more, in whatever place
pub stays : (test : ℤ → ℤ → Bool) (before after : List ℤ) (m x : ℤ) → Leads test (before ++ after) m → test m x ≡ true
    → Leads test (before ++ x ∷ after) m
stays test before after m x l h = record {
  occurs = grind (arith, list_any-append, l.occurs);
  passes = grind (arith, list_all-append, l.passes, h);
}

wider : (p q : ℤ → Bool) → ((y : ℤ) → p y ≡ true → q y ≡ true) → (xs : List ℤ) → list_all p xs ≡ true → list_all q xs ≡ true
wider p q to [] h = refl
wider p q to (x ∷ xs) h = on (p x) refl (wider p q to xs) where
  on : (here : Bool) → p x ≡ here → (list_all p xs ≡ true → list_all q xs ≡ true) → list_all q (x ∷ xs) ≡ true
  on true e more = let r = more (rw e at h) in let t = to x e in rw (t, r)
  on false e more = let h' = (rw e at h) in cc

-- an order in which any two values can be compared
pub record Orders (test : ℤ → ℤ → Bool) : Type 0 where
  pub self : (a : ℤ) → test a a ≡ true
  pub both : (a b : ℤ) → test a b ≡ true → test b a ≡ true → a ≡ b
  pub steps : (a b c : ℤ) → test a b ≡ true → test b c ≡ true → test a c ≡ true
  pub other : (a b : ℤ) → test a b ≡ false → test b a ≡ true

-- of two values the one that leads
abbrev pub first_of_two : (ℤ → ℤ → Bool) → ℤ → ℤ → ℤ
first_of_two test m x = cond (test m x) m x

-- the value that comes leads, where it passes against what led
pub takes : (test : ℤ → ℤ → Bool) → Orders test → (before after : List ℤ) (m x : ℤ) → Leads test (before ++ after) m
    → test x m ≡ true → Leads test (before ++ x ∷ after) x
takes test o before after m x l h =
    let all : list_all (test x) (before ++ after) ≡ true = wider (test m) (test x) (λ y e. o.steps x m y h e) (before ++ after) l.passes in
    let same = int_eq_self x in
    let self = o.self x in
    record {
      occurs = grind (arith, list_any-append, same);
      passes = grind (arith, list_all-append, all, self);
    }

pub one_more : (test : ℤ → ℤ → Bool) → Orders test → (before after : List ℤ) (m x : ℤ) → Leads test (before ++ after) m
    → Leads test (before ++ x ∷ after) (first_of_two test m x)
one_more test o before after m x l = on (test m x) refl where
  on : (here : Bool) → test m x ≡ here → Leads test (before ++ x ∷ after) (cond here m x)
  on true e = stays test before after m x l e
  on false e = takes test o before after m x l (o.other m x e)

pub alone : (test : ℤ → ℤ → Bool) (m : ℤ) → test m m ≡ true → Leads test (m ∷ []) m
alone test m self = let same = int_eq_self m in record { occurs = rw same; passes = rw self }

-- some value leads a list that isn't empty
pub some_leads : (test : ℤ → ℤ → Bool) → Orders test → (values : List ℤ) → 0 < length values → (m : ℤ) × Leads test values m
some_leads test o [] h = absurd (omega arith)
some_leads test o (x ∷ []) h = (x, alone test x (o.self x))
some_leads test o (x ∷ y ∷ ys) h = on (some_leads test o (y ∷ ys) (omega arith)) where
  on : ((m : ℤ) × Leads test (y ∷ ys) m) → (m : ℤ) × Leads test (x ∷ y ∷ ys) m
  on (m, l) = (first_of_two test m x, one_more test o [] (y ∷ ys) m x l)

pub leading_more : (test : ℤ → ℤ → Bool) → Orders test → (before after : List ℤ) (m x : ℤ) → Leads test (before ++ after) m
    → leading test (before ++ x ∷ after) ≡ Some (first_of_two test m x)
leading_more test o before after m x l = leads_found test o.both _ _ (one_more test o before after m x l)

pub leading_two : (test : ℤ → ℤ → Bool) → Orders test → (m x : ℤ) → leading test (m ∷ x ∷ []) ≡ Some (first_of_two test m x)
leading_two test o m x = leading_more test o (m ∷ []) [] m x (alone test m (o.self m))

-- adding a value in whatever place is the lead of two
pub leading_insert : (test : ℤ → ℤ → Bool) → Orders test → (safe : ℤ) (before after : List ℤ) (x : ℤ) → 0 < length (before ++ after)
    → unwrap_or (leading test (before ++ x ∷ after)) safe
    ≡ unwrap_or (leading test (unwrap_or (leading test (before ++ after)) safe ∷ x ∷ [])) safe
leading_insert test o safe before after x h = on (some_leads test o (before ++ after) h) where
  on : ((m : ℤ) × Leads test (before ++ after) m)
      → unwrap_or (leading test (before ++ x ∷ after)) safe
      ≡ unwrap_or (leading test (unwrap_or (leading test (before ++ after)) safe ∷ x ∷ [])) safe
  on (m, l) =
      let was = leads_found test o.both (before ++ after) m l in
      let now = leading_more test o before after m x l in
      let two = leading_two test o m x in
      subst (λ v. unwrap_or v safe ≡ unwrap_or (leading test (unwrap_or (leading test (before ++ after)) safe ∷ x ∷ [])) safe) (sym now)
      (subst (λ v. unwrap_or (Some (first_of_two test m x)) safe ≡ unwrap_or (leading test (unwrap_or v safe ∷ x ∷ [])) safe) (sym was)
      (subst (λ v. unwrap_or (Some (first_of_two test m x)) safe ≡ unwrap_or v safe) (sym two) refl))

pub le_orders : Orders int_le
le_orders = record { self = int_le_self; both = int_le_both; steps = int_le_steps; other = int_le_other }

pub ge_orders : Orders (λ a b. int_le b a)
ge_orders = record {
  self = int_le_self;
  both = λ a b h k. int_le_both a b k h;
  steps = λ a b c h k. int_le_steps c b a k h;
  other = λ a b h. int_le_other b a h;
}

-- Options: their two cases, and what an `or` of two and a test of one say of them.
use Rattle.std.proofs.Common.{◌≡◌, ◌⊎◌, inl, inr, Bool, true, false, Option, Some, None, IfSome, refl}
use Rattle.std.specs.Option.{option_map, option_map_or, option_or}
use Rattle.std.proofs.lemmas.Bool.{false≢true}

-- there is nothing or something
pub option_cases : {X : Type 0} (o : Option X) → (o ≡ None) ⊎ ((x : X) × (o ≡ Some x))
option_cases None = inl refl
option_cases (Some x) = inr (x, refl)

-- what is never something is nothing
pub none_from_never : {X : Type 0} (o : Option X) → ((x : X) → o ≡ Some x → ⊥) → o ≡ None
none_from_never None never = refl
none_from_never (Some x) never = absurd (never x refl)

-- what is not nothing is something
pub some_from_not_none : {X : Type 0} (o : Option X) → (o ≡ None → ⊥) → (x : X) × (o ≡ Some x)
some_from_not_none None some = absurd (some refl)
some_from_not_none (Some x) some = (x, refl)

-- nothing in the second place changes nothing
pub option_or-none : {X : Type 0} (o : Option X) → option_or o None ≡ o
option_or-none None = refl
option_or-none (Some x) = refl

-- the first of two is nothing where neither is something, and so is the second
pub option_or_first : {X : Type 0} (first second : Option X) → option_or first second ≡ None → first ≡ None
option_or_first None second none = refl
option_or_first (Some x) second none = none

pub option_or_second : {X : Type 0} (first second : Option X) → option_or first second ≡ None → second ≡ None
option_or_second None second none = none
option_or_second (Some x) second none = cc

pub option_or-assoc : {X : Type 0} (a b c : Option X) → option_or a (option_or b c) ≡ option_or (option_or a b) c
option_or-assoc None b c = refl
option_or-assoc (Some x) b c = refl

-- a test that an option passes is passed by what it holds
pub some_from_passing : {X : Type 0} (test : X → Bool) (found : Option X) → option_map_or test found false ≡ true
    → (x : X) × (found ≡ Some x) × (test x ≡ true)
some_from_passing test None passes = absurd (false≢true passes)
some_from_passing test (Some x) passes = (x, refl, passes)

-- a fact of what an option holds, seen through a function
pub IfSome-option_map : {A B : Type 0} (f : A → B) (P : B → Type 0) (found : Option A) → IfSome (option_map f found) P
    → IfSome found (λ x. P (f x))
IfSome-option_map f P None holds = holds
IfSome-option_map f P (Some x) holds = holds

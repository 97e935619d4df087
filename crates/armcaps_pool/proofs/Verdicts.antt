-- What a verdict says of two images.
use Rattle.std.proofs.Common.{◌≡◌, ℕ, ◌<◌, ◌==◌, ◌↔◌, Bool, true, false, not, cond, nat_eq, List, None, Some, find, length, get_or, refl, sym, ap, ◌∙◌, inl, inr, arith, eq-eqb}
use Rattle.std.specs.List.{range_with_len}
use Rattle.std.proofs.lemmas.Bool.{cases_eq, eqb-true, false_from_ne_true, false≢true, ne_eqb}
use Rattle.std.proofs.lemmas.List.{ext_get_or}
use Rattle.armcaps_pool.specs.declared.verdict.Verdict.{Verdict}
use Rattle.armcaps_pool.specs.Audits.{IsFirstDifference, differs_at, first_difference, named_place}
use Rattle.armcaps_pool.specs.Judging.{IsFirst}
use Rattle.armcaps_baseline.proofs.Firsts.{first_is_found, found_is_first, none_found, some_first}

-- the first place is found, or there is none
found_first : (test : ℕ → Bool) (size place : ℕ) → IsFirst test size place
    → (cond (nat_eq place size) None (Some place)) ≡ find test (range_with_len 0 size)
found_first test size place first =
    let most = first.most in
    elim (cases_eq place size) [
      | inl past ↦
          ap (λ b. cond b None (Some place)) (eq-eqb place size past)
          ∙ sym (none_found test 0 size (λ k low high. first.before k (omega arith)))
      | inr inside ↦
          ap (λ b. cond b None (Some place)) (ne_eqb place size inside)
          ∙ sym (first_is_found test 0 size place (record {
            low = omega arith;
            high = omega arith;
            passes = first.passes (omega arith);
            before = λ k from below. first.before k below;
          }))
    ]

-- a verdict names the first place at which the images differ
pub names_first : (one other : List ℕ) (size place : ℕ) (verdict : Verdict) → length one ≡ size
    → IsFirst (differs_at one other) size place
    → named_place verdict ≡ (cond (nat_eq place size) None (Some place))
    → named_place verdict ≡ first_difference one other
names_first one other size place verdict long first named =
    named ∙ found_first (differs_at one other) size place first
    ∙ ap (λ n. find (differs_at one other) (range_with_len 0 n)) (sym long)

-- bytes that don't differ are equal
equal_bytes : (one other : List ℕ) (place : ℕ) → differs_at one other place ≡ false → get_or one place 0 ≡ get_or other place 0
equal_bytes one other place same =
    eqb-true (get_or one place 0) (get_or other place 0) (kept (get_or one place 0 == get_or other place 0) same) where
      kept : (b : Bool) → not b ≡ false → b ≡ true
      kept true fails = refl
      kept false fails = cc

no_difference : (one : List ℕ) (place : ℕ) → differs_at one one place ≡ false
no_difference one place = ap not (eq-eqb (get_or one place 0) (get_or one place 0) refl)

-- where nothing is found, no number of the range passes
all_fail : (test : ℕ → Bool) (size : ℕ) → find test (range_with_len 0 size) ≡ None → (place : ℕ) → place < size
    → test place ≡ false
all_fail test size none place within = false_from_ne_true (test place) (λ passes.
    let found = some_first test 0 size place (omega arith) (omega arith) passes in
    let wrong : None ≡ Some found.0 = sym none ∙ found.1 in
    cc)

pub told_equal : (one other : List ℕ) → length one ≡ length other → (first_difference one other ≡ None) ↔ (one ≡ other)
told_equal one other long = (
  λ none. ext_get_or 0 one other long (λ k within.
      equal_bytes one other k (all_fail (differs_at one other) (length one) none k within)),
  λ same. ap (first_difference one) (sym same)
      ∙ none_found (differs_at one one) 0 (length one) (λ k low high. no_difference one k),
)

pub told_first : (one other : List ℕ) (place : ℕ) → first_difference one other ≡ Some place
    → IsFirstDifference one other place
told_first one other place found =
    let first = found_is_first (differs_at one other) 0 (length one) place found in
    record {
      within = (let high = first.high in omega arith);
      here = λ same.
          false≢true (sym (ap not (eq-eqb (get_or one place 0) (get_or other place 0) same)) ∙ first.passes);
      before = λ earlier below. equal_bytes one other earlier (first.before earlier (omega arith) below);
    }

-- Whether some chosen core passes a test, and whether all states do, as a loop over the numbers of cores finds it.
use Rattle.std.proofs.Common.{◌≡◌, ℕ, suc, ◌+◌, ◌<◌, Bool, true, false, cond, ◌&&◌, List, [], ◌∷◌, length, refl, sym, subst, arith, ⊎_elim}
use Rattle.std.specs.List.{list_any}
use Rattle.std.proofs.lemmas.Bool.{cases_eq, cases_lt}
use Rattle.std.proofs.lemmas.List.{get_or_past}
use Rattle.armcaps_tables.specs.Core.{Core}
use Rattle.armcaps_boot.specs.declared.core_state.CoreState.{CoreState}
use Rattle.armcaps_boot.specs.declared.core_state.CoreState.TheVariants.{Absent}
use Rattle.armcaps_board.specs.Board.{core_at}
use Rattle.armcaps_boot.specs.Choosing.{chosen}
use Rattle.armcaps_boot.specs.World.{state_at}
use Rattle.armcaps_boot.proofs.ChosenCores.{any-among, chosen-among}
use Rattle.armcaps_report.specs.Settled.{is_settled, AreSettled}

-- each number below the next one has the same answer to a test
pub below_more : (test : ℕ → Bool) (answer : Bool) (n : ℕ) → test n ≡ answer → ((k : ℕ) → k < n → test k ≡ answer)
    → (k : ℕ) → k < n + 1 → test k ≡ answer
below_more test answer n here before = λ k below.
    ⊎_elim (λ same. subst (λ (i : ℕ). test i ≡ answer) (sym same) here) (λ apart. before k (omega arith)) (cases_eq k n)

at_front : (b : Bool) (f : Core → Bool) (x : Core) (xs : List Core) → (b && f x) ≡ false → list_any f xs ≡ false
    → list_any f (cond b (x ∷ xs) xs) ≡ false
at_front true f x xs here after = rw (here, after) refl
at_front false f x xs here after = after

-- no chosen core passes
pub none_chosen : (p : ℕ → Bool) (f : Core → Bool) (cores : List Core)
    → ((k : ℕ) → k < length cores → (p k && f (core_at cores k)) ≡ false) → list_any f (chosen p cores) ≡ false
none_chosen p f [] none = refl
none_chosen p f (x ∷ xs) none =
    at_front (p 0) f x (chosen (λ n. p (suc n)) xs) (none 0 (omega arith))
    (none_chosen (λ n. p (suc n)) f xs (λ k below. none (suc k) (omega arith)))

both : (a b : Bool) → (a && b) ≡ true → (a ≡ true) × (b ≡ true)
both true b is = (refl, is)
both false b is = (is, cc)

-- a chosen core passes
pub some_chosen : (p : ℕ → Bool) (f : Core → Bool) (cores : List Core) (k : ℕ) → k < length cores
    → (p k && f (core_at cores k)) ≡ true → list_any f (chosen p cores) ≡ true
some_chosen p f cores k within passes =
    let each = both (p k) (f (core_at cores k)) passes in
    any-among f (chosen p cores) (core_at cores k) (chosen-among p cores k within each.0) each.1

-- states are settled where those of all cores are: behind them stands the state of an absent core
pub settled_all : (states : List CoreState) → ((k : ℕ) → k < length states → is_settled (state_at states k) ≡ true) → AreSettled states
settled_all states below number =
    ⊎_elim (λ within. below number within)
    (λ past. subst (λ (state : CoreState). is_settled state ≡ true) (sym (get_or_past states number Absent past)) refl)
    (cases_lt number (length states))

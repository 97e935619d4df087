-- The code compares a core's cache type with that of the system word, which moves as cores are admitted. Before and after
-- finalisation this decides the same as the comparison with the boot core.
use Rattle.std.proofs.Common.{◌≡◌, ◌<◌, ◌⊎◌, inl, inr, ℕ, suc, Bool, true, false, not, cond, ◌&&◌, ◌||◌, List, [], ◌∷◌, length, Option, Some, None, refl, sym, ◌∙◌, ap, arith, lit<}
use Rattle.std.proofs.lemmas.Bool.{cases_eq}
use Rattle.std.specs.List.{list_any}
use Rattle.std.specs.Option.{option_or, option_map}
use Rattle.armcaps_enc.specs.declared.register.SysReg.TheVariants.{CtrEl0}
use Rattle.armcaps_tables.specs.Core.{Core, core_word, word_at}
use Rattle.armcaps_sanit.specs.System.{system_words}
use Rattle.armcaps_caps.specs.Capabilities.{conflicts, core_has_capability, is_boot_scope, is_local_scope, is_optional, is_permitted}
use Rattle.armcaps_hwcap.specs.Hwcaps.{core_has_hwcap}
use Rattle.armcaps_boot.specs.declared.cause.Cause.{Cause}
use Rattle.armcaps_boot.specs.declared.cause.Cause.TheVariants.{Cap, Hwcap, Vector}
use Rattle.armcaps_board.specs.Board.{Board, boot_core, core_at}
use Rattle.armcaps_boot.specs.Causes.{capability_enabled, first_conflict, has_capability, has_length, misfit}
use Rattle.armcaps_boot.specs.Choosing.{chosen}
use Rattle.armcaps_boot.specs.Facts.{Facts, noted_cores}
use Rattle.armcaps_boot.specs.Numbers.{first_of, is_in}
use Rattle.armcaps_boot.specs.States.{is_admitted, is_early, is_updated}
use Rattle.armcaps_boot.specs.World.{World, admitted_cores, early_cores, state_at}
use Rattle.armcaps_boot.proofs.ChosenCores.{chosen-among}
use Rattle.armcaps_boot.proofs.Finalising.{all_early}
use Rattle.armcaps_boot.proofs.FirstNumbers.{is_in-numbers, first_of-fails}
use Rattle.armcaps_boot.proofs.Below.{cache_type_stays, local_alone, erratum_is_local, cache_type_is_erratum}
use Rattle.armcaps_caps.proofs.Shared.{core_has_capability-ctr}
use Rattle.armcaps_caps.proofs.Classes.{conflicts-both, conflicts-lacking, conflicts-bringing}

-- no core of those that a narrower test chooses passes what none of a wider one's does
pub any-narrower : (f : Core → Bool) (p q : ℕ → Bool) (cores : List Core) → ((k : ℕ) → p k ≡ true → q k ≡ true)
    → list_any f (chosen q cores) ≡ false → list_any f (chosen p cores) ≡ false
any-narrower f p q [] wider none = refl
any-narrower f p q (x ∷ xs) wider none =
    by (p 0) (q 0) (wider 0) none (any-narrower f (λ n. p (suc n)) (λ n. q (suc n)) xs (λ k. wider (suc k))) where
      or_none : (a b : Bool) → (a || b) ≡ false → (a ≡ false) × (b ≡ false)
      or_none true b e = absurd (let no : ⊥ = cc in no)
      or_none false b e = (refl, e)

      by : (b c : Bool) → (b ≡ true → c ≡ true)
          → list_any f (cond c (x ∷ chosen (λ n. q (suc n)) xs) (chosen (λ n. q (suc n)) xs)) ≡ false
          → (list_any f (chosen (λ n. q (suc n)) xs) ≡ false → list_any f (chosen (λ n. p (suc n)) xs) ≡ false)
          → list_any f (cond b (x ∷ chosen (λ n. p (suc n)) xs) (chosen (λ n. p (suc n)) xs)) ≡ false
      by true true w e more = let parts = or_none (f x) _ e in let here = parts.0 in rw here (more parts.1)
      by true false w e more = absurd (let bad = w refl in let no : ⊥ = cc in no)
      by false true w e more = more ((or_none (f x) _ e).1)
      by false false w e more = more e

-- none of the chosen cores passes a test where each of them does not
pub any-none : (f : Core → Bool) (p : ℕ → Bool) (cores : List Core) → ((k : ℕ) → k < length cores → p k ≡ true → f (core_at cores k) ≡ false)
    → list_any f (chosen p cores) ≡ false
any-none f p [] none = refl
any-none f p (x ∷ xs) none =
    by (p 0) refl (any-none f (λ n. p (suc n)) xs (λ k within chosen. none (suc k) (omega arith) chosen)) where
      by : (b : Bool) → p 0 ≡ b → list_any f (chosen (λ n. p (suc n)) xs) ≡ false
          → list_any f (cond b (x ∷ chosen (λ n. p (suc n)) xs) (chosen (λ n. p (suc n)) xs)) ≡ false
      by true is more = let here = none 0 (omega arith) is in rw here more
      by false is more = more

-- where no admitted core differs from the boot core, the system word compares as the boot core's
pub no_core_differs : (w : World) → Facts w → list_any (λ c. has_capability w.board c 42) (admitted_cores w.board w.states) ≡ false → (core : Core)
    → core_has_capability w.board.overrides (boot_core w.board) (word_at w.system CtrEl0) core 42 ≡ has_capability w.board core 42
no_core_differs w f none core =
    let among = chosen-among (λ n. is_admitted (state_at w.states n)) w.board.cores w.board.boot f.within (ap is_admitted f.boot) in
    ap (λ (words : List ℕ). core_has_capability w.board.overrides (boot_core w.board) (word_at words CtrEl0) core 42)
    (f.system.words ∙ ap (system_words w.board.overrides) among.is)
    ∙ cache_type_stays w.board.overrides (boot_core w.board) core among.before among.after f.system.fit f.plain_ctr
    (ap (list_any (λ c. has_capability w.board c 42)) (sym among.is) ∙ none)

is_local_42 : is_local_scope 42 ≡ true
is_local_42 = (erratum_is_local 42 (lit< tt) cache_type_is_erratum).is_local

pub is_not_boot_42 : is_boot_scope 42 ≡ false
is_not_boot_42 = (local_alone 42 (lit< tt) is_local_42).not_boot

or_noted : (noted a b : Bool) → (noted ≡ false → a ≡ b) → (noted || a) ≡ (noted || b)
or_noted true a b same = refl
or_noted false a b same = same refl

early_shows : (a b : Bool) → a ≡ true → (a || b) ≡ true
early_shows true b e = refl
early_shows false b e = absurd (let no : ⊥ = cc in no)

-- before finalisation: where the cache type is not noted yet, no admitted core differs from the boot core
pub early_cache_type : (w : World) → Facts w → w.final ≡ false → (core : Core) (n : ℕ) → n < 53
    → (is_in w.noted n || (is_local_scope n && core_has_capability w.board.overrides (boot_core w.board) (word_at w.system CtrEl0) core n))
    ≡ (is_in w.noted n || (is_local_scope n && has_capability w.board core n))
early_cache_type w f final core n within = or_noted (is_in w.noted n) _ _ (λ unnoted. ap (λ b. is_local_scope n && b) (by (cases_eq n 42) unnoted)) where
  none : is_in w.noted 42 ≡ false → list_any (λ c. has_capability w.board c 42) (admitted_cores w.board w.states) ≡ false
  none unnoted =
      let listed : (is_local_scope 42 && list_any (λ c. has_capability w.board c 42) (noted_cores w)) ≡ false =
      sym (is_in-numbers (λ m. is_local_scope m && list_any (λ c. has_capability w.board c m) (noted_cores w)) 53 42 (lit< tt))
      ∙ ap (λ (set : List Bool). is_in set 42) (sym (f.gathering final).noted) ∙ unnoted in
      let none_noted : list_any (λ c. has_capability w.board c 42) (noted_cores w) ≡ false = rw is_local_42 at listed in
      ap (list_any (λ c. has_capability w.board c 42)) (all_early w f final)
      ∙ any-narrower (λ c. has_capability w.board c 42) (λ k. is_early (state_at w.states k)) (λ k. is_early (state_at w.states k) || is_updated (state_at w.states k)) w.board.cores
      (λ k early. early_shows (is_early (state_at w.states k)) (is_updated (state_at w.states k)) early) none_noted

  by : (n ≡ 42) ⊎ (n ≡ 42 → ⊥) → is_in w.noted n ≡ false
      → core_has_capability w.board.overrides (boot_core w.board) (word_at w.system CtrEl0) core n ≡ has_capability w.board core n
  by (inl here) unnoted = rw here (no_core_differs w f (none (ap (is_in w.noted) (sym here) ∙ unnoted)) core)
  by (inr other) unnoted = core_has_capability-ctr w.board.overrides (boot_core w.board) core (word_at w.system CtrEl0) (core_word (boot_core w.board) CtrEl0) n other

-- whatever a core is like, an optional capability that is enabled is in no conflict
optional_enabled : (n : ℕ) (has : Bool) → is_optional n ≡ true → conflicts n true has ≡ false
optional_enabled n true optional = conflicts-both n
optional_enabled n false optional = conflicts-lacking n ∙ ap not optional

brings_nothing : (n : ℕ) (has : Bool) → is_permitted n ≡ false → conflicts n false has ≡ false → has ≡ false
brings_nothing n false strict e = refl
brings_nothing n true strict e = absurd (let bad : true ≡ false = sym (conflicts-bringing n ∙ ap not strict) ∙ e in let no : ⊥ = cc in no)

no_conflict_of : (scope conflict : Bool) → scope ≡ false → (not scope && conflict) ≡ false → conflict ≡ false
no_conflict_of true conflict e h = absurd (let no : ⊥ = cc in no)
no_conflict_of false conflict e h = h

-- a core without a late cause is in no conflict with a capability of another scope than the boot core's
pub none_in_conflict : (enabled advertised told : ℕ → Bool) (board : Board) (core : Core) → misfit enabled advertised told board core ≡ None
    → (n : ℕ) → n < 53 → is_boot_scope n ≡ false → conflicts n (enabled n) (has_capability board core n) ≡ false
unfolding misfit
none_in_conflict enabled advertised told board core none n within scope =
    no_conflict_of (is_boot_scope n) _ scope
    (first_of-fails (λ m. not (is_boot_scope m) && conflicts m (enabled m) (has_capability board core m)) 0 53
    (by (first_conflict (λ m. not (is_boot_scope m)) enabled (has_capability board core))
    (option_or (option_map Hwcap (first_of 0 57 (λ index. advertised index && not (core_has_hwcap board.overrides core index))))
    (option_map Vector (first_of 1 16 (λ q. told q && not (has_length core.lengths q))))) none) n (omega arith) (omega arith)) where
      by : (cap : Option ℕ) (rest : Option Cause) → option_or (option_map Cap cap) rest ≡ None → cap ≡ None
      by None rest e = refl
      by (Some m) rest e = absurd (let no : ⊥ = cc in no)

-- after finalisation: where the cache type is not enabled, no admitted core differs from the boot core, and where it is, it is
-- optional
pub late_cache_type : (w : World) → Facts w → w.final ≡ true → (core : Core) (n : ℕ) → n < 53
    → conflicts n (capability_enabled w.board (early_cores w.board w.states) n) (core_has_capability w.board.overrides (boot_core w.board) (word_at w.system CtrEl0) core n)
    ≡ conflicts n (capability_enabled w.board (early_cores w.board w.states) n) (has_capability w.board core n)
late_cache_type w f final core n within = by (cases_eq n 42) where
  none : capability_enabled w.board (early_cores w.board w.states) 42 ≡ false → list_any (λ c. has_capability w.board c 42) (admitted_cores w.board w.states) ≡ false
  none off =
      any-none (λ c. has_capability w.board c 42) (λ k. is_admitted (state_at w.states k)) w.board.cores (λ k inside admitted.
      brings_nothing 42 (has_capability w.board (core_at w.board.cores k) 42) ((erratum_is_local 42 (lit< tt) cache_type_is_erratum).strict)
      (ap (λ b. conflicts 42 b (has_capability w.board (core_at w.board.cores k) 42)) (sym off)
      ∙ none_in_conflict _ _ _ w.board (core_at w.board.cores k) ((f.states k).verified final admitted) 42 (lit< tt) is_not_boot_42))

  at : (on : Bool) → capability_enabled w.board (early_cores w.board w.states) 42 ≡ on
      → conflicts 42 on (core_has_capability w.board.overrides (boot_core w.board) (word_at w.system CtrEl0) core 42) ≡ conflicts 42 on (has_capability w.board core 42)
  at true is =
      let optional = (local_alone 42 (lit< tt) is_local_42).optional in
      optional_enabled 42 _ optional ∙ sym (optional_enabled 42 _ optional)
  at false is = ap (conflicts 42 false) (no_core_differs w f (none is) core)

  by : (n ≡ 42) ⊎ (n ≡ 42 → ⊥)
      → conflicts n (capability_enabled w.board (early_cores w.board w.states) n) (core_has_capability w.board.overrides (boot_core w.board) (word_at w.system CtrEl0) core n)
      ≡ conflicts n (capability_enabled w.board (early_cores w.board w.states) n) (has_capability w.board core n)
  by (inl here) = rw here (at (capability_enabled w.board (early_cores w.board w.states) 42) refl)
  by (inr other) =
      ap (conflicts n (capability_enabled w.board (early_cores w.board w.states) n))
      (core_has_capability-ctr w.board.overrides (boot_core w.board) core (word_at w.system CtrEl0) (core_word (boot_core w.board) CtrEl0) n other)

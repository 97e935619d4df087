-- What follows from that no admitted core has a late cause.
use Rattle.std.proofs.Common.{◌≡◌, ◌<◌, ◌≤◌, ◌⊎◌, inl, inr, ℕ, Bool, true, false, not, ◌&&◌, List, refl, sym, ◌∙◌, ap}
use Rattle.std.specs.Prelude.{nat_lt}
use Rattle.std.proofs.lemmas.Bool.{cases_lt, le-ltb}
use Rattle.std.proofs.lemmas.Bool.Decides.{Decides-ltb, not_from_Decides}
use Rattle.armcaps_caps.specs.Capabilities.{conflicts, is_boot_scope, is_optional, is_permitted, is_system_scope, is_workaround}
use Rattle.armcaps_caps.specs.Set.{holds}
use Rattle.armcaps_board.specs.Board.{boot_core, core_at}
use Rattle.armcaps_boot.specs.Causes.{capability_enabled, has_capability}
use Rattle.armcaps_boot.specs.Facts.{Facts}
use Rattle.armcaps_boot.specs.Numbers.{is_in, numbers}
use Rattle.armcaps_boot.specs.Safety.{WasAdmitted, core_has, is_enabled, is_enabled_at_first}
use Rattle.armcaps_boot.specs.World.{World, early_cores}
use Rattle.armcaps_boot.proofs.CacheType.{none_in_conflict}
use Rattle.armcaps_boot.proofs.FirstNumbers.{is_in-numbers, is_in-past}
use Rattle.armcaps_boot.proofs.Below.{boot_scope-past, enabled-past, system_alone, system_is_counted, erratum_is_counted, erratum_is_local, local_alone}
use Rattle.armcaps_caps.proofs.Classes.{conflicts-lacking, conflicts-bringing}

lacks_nothing : (n : ℕ) (has : Bool) → is_optional n ≡ false → conflicts n true has ≡ false → has ≡ true
lacks_nothing n true needed none = refl
lacks_nothing n false needed none = absurd (let bad : true ≡ false = sym (conflicts-lacking n ∙ ap not needed) ∙ none in let no : ⊥ = cc in no)

brings_enabled : (n : ℕ) (enabled : Bool) → is_permitted n ≡ false → conflicts n enabled true ≡ false → enabled ≡ true
brings_enabled n true strict none = refl
brings_enabled n false strict none = absurd (let bad : true ≡ false = sym (conflicts-bringing n ∙ ap not strict) ∙ none in let no : ⊥ = cc in no)

-- each admitted core has each system capability that is enabled
pub enabled_is_supported : (w : World) → Facts w → w.final ≡ true → (n : ℕ) → is_system_scope n ≡ true → is_enabled w n ≡ true
    → (core : ℕ) → WasAdmitted w core → core_has w core n ≡ true
enabled_is_supported w f final n scope on core admitted =
    let within = system_is_counted n scope in
    let alone = system_alone n within scope in
    lacks_nothing n (core_has w core n) alone.needed
    (ap (λ b. conflicts n b (core_has w core n)) (sym on)
    ∙ none_in_conflict _ _ _ w.board (core_at w.board.cores core) ((f.states core).verified final admitted) n within alone.not_boot)

-- each workaround that an admitted core needs is enabled
pub needed_is_enabled : (w : World) → Facts w → w.final ≡ true → (n : ℕ) → is_workaround n ≡ true
    → (core : ℕ) → WasAdmitted w core → core_has w core n ≡ true → is_enabled w n ≡ true
needed_is_enabled w f final n erratum core admitted has =
    let within = erratum_is_counted n erratum in
    let scope = erratum_is_local n within erratum in
    brings_enabled n (is_enabled w n) scope.strict
    (ap (conflicts n (is_enabled w n)) (sym has)
    ∙ none_in_conflict _ _ _ w.board (core_at w.board.cores core) ((f.states core).verified final admitted) n within ((local_alone n within scope.is_local).not_boot))

-- a set of the numbers below 53 has those that pass, and no other
in_set : (test : ℕ → Bool) (n : ℕ) → is_in (numbers 53 test) n ≡ (nat_lt n 53 && test n)
in_set test n = by (nat_lt n 53) refl where
  on : (n < 53) ⊎ (53 ≤ n) → nat_lt n 53 ≡ false → 53 ≤ n
  on (inl less) past = absurd (not_from_Decides (nat_lt n 53) (Decides-ltb n 53) past less)
  on (inr more) past = more

  by : (b : Bool) → nat_lt n 53 ≡ b → is_in (numbers 53 test) n ≡ (b && test n)
  by true within = is_in-numbers test 53 n ((Decides-ltb n 53).0 within)
  by false past = is_in-past test 53 n (on (cases_lt n 53) past)

-- a test that no number from 53 on passes
in_set_whole : (test : ℕ → Bool) (n : ℕ) → (53 ≤ n → test n ≡ false) → is_in (numbers 53 test) n ≡ test n
in_set_whole test n none = by (cases_lt n 53) where
  by : (n < 53) ⊎ (53 ≤ n) → is_in (numbers 53 test) n ≡ test n
  by (inl within) = is_in-numbers test 53 n within
  by (inr past) = is_in-past test 53 n past ∙ sym (none past)

pub enabled_after : (w : World) → Facts w → w.final ≡ true → (n : ℕ) → is_in w.enabled n ≡ is_enabled w n
enabled_after w f final n =
    ap (λ (s : List Bool). is_in s n) (f.decided final).enabled
    ∙ in_set_whole (capability_enabled w.board (early_cores w.board w.states)) n (enabled-past w.board (early_cores w.board w.states) n)

pub enabled_before : (w : World) → Facts w → w.final ≡ false → (n : ℕ) → is_in w.enabled n ≡ is_enabled_at_first w n
enabled_before w f final n =
    ap (λ (s : List Bool). is_in s n) (f.gathering final).enabled
    ∙ in_set_whole (λ m. is_boot_scope m && has_capability w.board (boot_core w.board) m) n
    (λ past. ap (λ (b : Bool). b && has_capability w.board (boot_core w.board) n) (boot_scope-past n past))

-- a member below the count of what is kept as bits
pub member_of : (bits n : ℕ) → (nat_lt n 53 && holds bits n) ≡ is_in (numbers 53 (holds bits)) n
member_of bits n = sym (in_set (holds bits) n)

-- no number from 53 on is a member
pub else_none : (n : ℕ) (b : Bool) → 53 ≤ n → nat_lt n 53 ≡ (nat_lt n 53 && b)
else_none n b past = let no : nat_lt n 53 ≡ false = le-ltb n 53 past in rw no

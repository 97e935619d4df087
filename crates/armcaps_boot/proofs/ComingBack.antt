-- A core that was admitted and comes back meets no cause, and changes nothing of what the system is.
use Rattle.std.proofs.Common.{◌≡◌, ◌<◌, ℕ, Bool, true, false, cond, ◌&&◌, ◌||◌, List, length, None, Ok, refl, sym, ◌∙◌, ap, subst}
use Rattle.std.specs.Prelude.{◌==◌, nat_lt, bit_and}
use Rattle.std.specs.List.{list_any}
use Rattle.std.proofs.lemmas.Bool.{false≢true}
use Rattle.std.proofs.lemmas.Bool.Decides.{Decides-ltb, Decides-eqb}
use Rattle.armcaps_tables.specs.Core.{Core}
use Rattle.armcaps_sanit.specs.System.{IsSystemOf, merged_words}
use Rattle.armcaps_sanit.proofs.SystemWords.{is_system_again}
use Rattle.armcaps_caps.specs.Capabilities.{is_local_scope}
use Rattle.armcaps_boot.specs.declared.core_state.CoreState.{CoreState}
use Rattle.armcaps_boot.specs.declared.core_state.CoreState.TheVariants.{Checked, Updated, Admitted, Offline as Gone}
use Rattle.armcaps_board.specs.declared.event.Event.{Event}
use Rattle.armcaps_board.specs.declared.event.Event.TheVariants.{Check, Local, Store, Offline, Finalise}
use Rattle.armcaps_boot.specs.declared.reply.Reply.TheVariants.{Done}
use Rattle.armcaps_board.specs.Board.{core_at}
use Rattle.armcaps_boot.specs.Answers.{Answer, answer_of, cause_at_local, check_answer, live_answer, local_answer, numbered, store_answer}
use Rattle.armcaps_boot.specs.Causes.{cause_at_verification, has_capability, has_length}
use Rattle.armcaps_boot.specs.Changes.{noted_with, world_after}
use Rattle.armcaps_boot.specs.Facts.{Facts, noted_cores}
use Rattle.armcaps_boot.specs.Numbers.{is_in}
use Rattle.armcaps_boot.specs.Returning.{KeepsSystem, comes_back, is_checked, is_gone}
use Rattle.armcaps_boot.specs.States.{has_passed, is_admitted, is_early, is_updated}
use Rattle.armcaps_boot.specs.World.{World, early_cores, state_at}
use Rattle.armcaps_boot.proofs.ChosenCores.{Among, chosen-among, any-among, all-among}
use Rattle.armcaps_boot.proofs.CoreSteps.{shows}
use Rattle.armcaps_boot.proofs.Finalising.{admitted_within, none_late}
use Rattle.armcaps_boot.proofs.FirstNumbers.{is_in-numbers, numbers-same}
use Rattle.armcaps_boot.proofs.Gathered.{has_length-both}

-- such a core has a number, and it isn't the boot core's
numbered_back : (w : World) (k : ℕ) (answer : Answer) → Facts w → k < length w.board.cores → (k ≡ w.board.boot → ⊥) → numbered w k answer ≡ answer
numbered_back w k answer f within other = by (nat_lt k (length w.board.cores)) (k == w.board.boot) refl refl where
  by : (in_range boot : Bool) → nat_lt k (length w.board.cores) ≡ in_range → (k == w.board.boot) ≡ boot → numbered w k answer ≡ answer
  by false boot a b = absurd (let bad : true ≡ false = sym ((Decides-ltb k (length w.board.cores)).1 within) ∙ a in let no : ⊥ = cc in no)
  by true true a b = absurd (other ((Decides-eqb k w.board.boot).0 b))
  by true false a b = rw (a, b)

not_boot : (w : World) → Facts w → (test : CoreState → Bool) → test (Admitted false) ≡ false → (k : ℕ) → test (state_at w.states k) ≡ true → k ≡ w.board.boot → ⊥
not_boot w f test boot k is here =
    let bad : true ≡ false = sym is ∙ ap (λ (n : ℕ). test (state_at w.states n)) here ∙ ap test f.boot ∙ boot in let no : ⊥ = cc in no

both : (a b : Bool) → (a && b) ≡ true → (a ≡ true) × (b ≡ true)
both true true e = (refl, refl)
both true false e = absurd (let no : ⊥ = cc in no)
both false b e = absurd (let no : ⊥ = cc in no)

gone_passed : (state : CoreState) → is_gone state ≡ true → (has_passed state ≡ true) × (is_admitted state ≡ true)
gone_passed state e = elim state as (λ s. is_gone s ≡ true → (has_passed s ≡ true) × (is_admitted s ≡ true)) [
  | Gone late ↦ λ h. (refl, went late)
  | _ ↦ λ h. absurd (false≢true h)
] e where
  went : (late : Bool) → is_admitted (Gone late) ≡ true
  went true = refl
  went false = refl

gone_checked : (state : CoreState) → is_gone state ≡ true → check_answer None state ≡ Ok Done
gone_checked state e = elim state as (λ s. is_gone s ≡ true → check_answer None s ≡ Ok Done) [
  | Gone late ↦ λ h. refl
  | _ ↦ λ h. absurd (false≢true h)
] e

checked_local : (state : CoreState) → is_checked state ≡ true → local_answer None state ≡ Ok Done
checked_local state e = elim state as (λ s. is_checked s ≡ true → local_answer None s ≡ Ok Done) [
  | Checked was ↦ λ h. refl
  | _ ↦ λ h. absurd (false≢true h)
] e

updated_store : (state : CoreState) → is_updated state ≡ true → store_answer state ≡ Ok Done
updated_store state e = elim state as (λ s. is_updated s ≡ true → store_answer s ≡ Ok Done) [
  | Updated was ↦ λ h. refl
  | _ ↦ λ h. absurd (false≢true h)
] e

-- a core that was ever admitted has no cause at its local step
pub no_cause_back : (w : World) → Facts w → (k : ℕ) → is_admitted (state_at w.states k) ≡ true → cause_at_local w k ≡ None
no_cause_back w f k admitted = by w.final refl where
  by : (final : Bool) → w.final ≡ final → cond final (cause_at_verification w.board (early_cores w.board w.states) k) None ≡ None
  by true final = (f.states k).verified final admitted
  by false final = refl

answered : (w : World) (e : Event) (answer : Answer) → w.halted ≡ None → live_answer w e ≡ answer → answer_of w e ≡ answer
answered w e answer running is = rw running is

early_shows : (a b : Bool) → a ≡ true → (a || b) ≡ true
early_shows true b e = refl
early_shows false b e = absurd (let no : ⊥ = cc in no)

noted_already : (noted scope has all : Bool) → noted ≡ (scope && all) → (has ≡ true → all ≡ true) → (noted || (scope && has)) ≡ noted
noted_already true scope has all is shown = refl
noted_already false false has all is shown = refl
noted_already false true false all is shown = refl
noted_already false true true all is shown = let on = shown refl in let bad : false ≡ true = is ∙ on in absurd (let no : ⊥ = cc in no)

-- its capabilities are noted already
pub noted_back : (w : World) (f : Facts w) (k : ℕ) → w.final ≡ false → is_admitted (state_at w.states k) ≡ true → noted_with w k ≡ w.noted
noted_back w f k final admitted =
    numbers-same _ _ 53 (λ n within.
    noted_already (is_in w.noted n) (is_local_scope n) (has_capability w.board (core_at w.board.cores k) n)
    (list_any (λ core. has_capability w.board core n) (noted_cores w)) (listed n within)
    (λ has. any-among (λ core. has_capability w.board core n) (noted_cores w) (core_at w.board.cores k) among has)
    ∙ listed n within)
    ∙ sym (f.gathering final).noted
  where
    listed : (n : ℕ) → n < 53 → is_in w.noted n ≡ (is_local_scope n && list_any (λ core. has_capability w.board core n) (noted_cores w))
    listed n within =
        ap (λ (s : List Bool). is_in s n) (f.gathering final).noted
        ∙ is_in-numbers (λ m. is_local_scope m && list_any (λ core. has_capability w.board core m) (noted_cores w)) 53 n within

    among : Among (noted_cores w) (core_at w.board.cores k)
    among =
        chosen-among (λ n. shows (state_at w.states n)) w.board.cores k (admitted_within w f is_admitted refl k admitted)
        (early_shows (is_early (state_at w.states k)) (is_updated (state_at w.states k)) (sym (none_late w f final k) ∙ admitted))

and_already : (own all : Bool) → (all ≡ true → own ≡ true) → (own && all) ≡ all
and_already true all h = refl
and_already false true h = h refl
and_already false false h = refl

-- its lengths are kept already
kept_back : (w : World) (f : Facts w) (k : ℕ) → w.final ≡ false → is_admitted (state_at w.states k) ≡ true → (q : ℕ)
    → has_length (bit_and w.common_lengths (core_at w.board.cores k).lengths) q ≡ has_length w.common_lengths q
kept_back w f k final admitted q =
    has_length-both w.common_lengths (core_at w.board.cores k).lengths q
    ∙ and_already (has_length (core_at w.board.cores k).lengths q) (has_length w.common_lengths q)
    (λ kept. all-among (λ core. has_length core.lengths q) (early_cores w.board w.states) (core_at w.board.cores k)
    (chosen-among (λ n. is_early (state_at w.states n)) w.board.cores k (admitted_within w f is_admitted refl k admitted) (sym (none_late w f final k) ∙ admitted))
    (sym ((f.gathering final).common_lengths q) ∙ kept))

-- its registers are merged already
pub system_back : (w : World) (f : Facts w) (k : ℕ) → is_admitted (state_at w.states k) ≡ true → merged_words w.system (core_at w.board.cores k) ≡ w.system
system_back w f k admitted =
    let among = chosen-among (λ n. is_admitted (state_at w.states n)) w.board.cores k (admitted_within w f is_admitted refl k admitted) admitted in
    is_system_again w.board.overrides among.before among.after (core_at w.board.cores k) w.system (subst (λ (l : List Core). IsSystemOf w.board.overrides l w.system) among.is f.system)

pub record ComesBack (w : World) (e : Event) : Type 0 where
  pub done : answer_of w e ≡ Ok Done
  pub keeps : KeepsSystem w (world_after w e (Ok Done))

pub coming_back : (w : World) (e : Event) → Facts w → w.halted ≡ None → comes_back w e ≡ true → ComesBack w e
coming_back w (Check k) f running back =
    let passed = gone_passed (state_at w.states k) back in
    record {
      done = answered w (Check k) (Ok Done) running
          (numbered_back w k _ f (admitted_within w f is_gone refl k back) (not_boot w f is_gone refl k back)
          ∙ ap (λ cause. check_answer cause (state_at w.states k)) ((f.states k).passed passed.0) ∙ gone_checked (state_at w.states k) back);
      keeps = record { system = refl; noted = refl; enabled = refl; hwcaps = refl; final_ctr = refl; common_lengths = λ q. refl; lengths = refl };
    }
coming_back w (Local k) f running back =
    let is = both (is_checked (state_at w.states k)) (is_admitted (state_at w.states k)) back in
    record {
      done = answered w (Local k) (Ok Done) running
          (numbered_back w k _ f (admitted_within w f is_checked refl k is.0) (not_boot w f is_checked refl k is.0)
          ∙ ap (λ cause. local_answer cause (state_at w.states k)) (no_cause_back w f k is.1) ∙ checked_local (state_at w.states k) is.0);
      keeps = record { system = refl; noted = noted w.final refl is.1; enabled = refl; hwcaps = refl; final_ctr = refl; common_lengths = λ q. refl; lengths = refl };
    }
  where
    noted : (final : Bool) → w.final ≡ final → is_admitted (state_at w.states k) ≡ true → cond final w.noted (noted_with w k) ≡ w.noted
    noted true final admitted = refl
    noted false final admitted = noted_back w f k final admitted
coming_back w (Store k) f running back =
    let is = both (is_updated (state_at w.states k)) (is_admitted (state_at w.states k)) back in
    record {
      done = answered w (Store k) (Ok Done) running
          (numbered_back w k _ f (admitted_within w f is_updated refl k is.0) (not_boot w f is_updated refl k is.0) ∙ updated_store (state_at w.states k) is.0);
      keeps = record { system = system_back w f k is.1; noted = refl; enabled = refl; hwcaps = refl; final_ctr = refl; common_lengths = kept w.final refl is.1; lengths = refl };
    }
  where
    kept : (final : Bool) → w.final ≡ final → is_admitted (state_at w.states k) ≡ true → (q : ℕ)
        → has_length (cond final w.common_lengths (bit_and w.common_lengths (core_at w.board.cores k).lengths)) q ≡ has_length w.common_lengths q
    kept true final admitted q = refl
    kept false final admitted q = kept_back w f k final admitted q
coming_back w (Offline k) f running back = absurd (let no : ⊥ = cc in no)
coming_back w Finalise f running back = absurd (let no : ⊥ = cc in no)

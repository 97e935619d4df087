-- What a step of its own leaves of a core's state and of why it is held back.
use Rattle.std.proofs.Common.{◌≡◌, ℕ, Bool, true, false, List, ◌∷◌, Option, Some, None, Ok, refl, sym, ◌∙◌, ap, subst}
use Rattle.std.specs.Prelude.{◌==◌, is_some}
use Rattle.std.specs.Option.{option_map_or}
use Rattle.std.proofs.lemmas.Bool.Decides.{Decides-eqb}
use Rattle.armcaps_boot.specs.declared.cause.Cause.{Cause}
use Rattle.armcaps_boot.specs.declared.core_state.CoreState.{CoreState}
use Rattle.armcaps_boot.specs.declared.core_state.CoreState.TheVariants.{Parked as IsParked}
use Rattle.armcaps_boot.specs.declared.reply.Reply.TheVariants.{Done, Skipped}
use Rattle.armcaps_board.specs.declared.event.Event.{Event}
use Rattle.armcaps_board.specs.declared.event.Event.TheVariants.{Check, Local, Store, Offline}
use Rattle.armcaps_board.specs.Board.{Board}
use Rattle.armcaps_board.specs.Steps.{core_of, is_step_of, last_step}
use Rattle.armcaps_boot.specs.Admission.{came_early, early_cores_after, was_verified}
use Rattle.armcaps_boot.specs.ParkOrPanic.{halt_at, held_back}
use Rattle.armcaps_boot.specs.After.{IsAfter, past_from, reply_from, reply_of, state_from, state_of}
use Rattle.armcaps_boot.specs.Answers.{Answer, live_answer, numbered}
use Rattle.armcaps_boot.specs.Causes.{cause_at_check, cause_at_verification}
use Rattle.armcaps_boot.specs.Changes.{world_after}
use Rattle.armcaps_boot.specs.World.{World, state_at}
use Rattle.armcaps_boot.proofs.Answering.{IsAnswered, IsTurnIn, IsOwn, after_skipped, held_in, numbered_in, parked_state, shows}
use Rattle.armcaps_logic.proofs.Options.{option_or-none}
use Rattle.armcaps_board.proofs.Turns.{last-own}
use Rattle.armcaps_boot.proofs.Histories.{verified-same, without_step}
use Rattle.armcaps_boot.proofs.HeldBack.{held_from, held_is, held_stays, other_number, state_of-other}

pub own_number : (k : ℕ) → (k == k) ≡ true
own_number k = (Decides-eqb k k).1 refl

pub check_own : (k : ℕ) → IsOwn (Check k) k
check_own k = record { own = own_number k; alone = λ j other. other_number k j (λ e. other (sym e)); not_finalise = refl }

pub local_own : (k : ℕ) → IsOwn (Local k) k
local_own k = record { own = own_number k; alone = λ j other. other_number k j (λ e. other (sym e)); not_finalise = refl }

pub store_own : (k : ℕ) → IsOwn (Store k) k
store_own k = record { own = own_number k; alone = λ j other. other_number k j (λ e. other (sym e)); not_finalise = refl }

pub offline_own : (k : ℕ) → IsOwn (Offline k) k
offline_own k = record { own = own_number k; alone = λ j other. other_number k j (λ e. other (sym e)); not_finalise = refl }

-- the state of the core after its step
pub state_next : (board : Board) (p : List Event) (e : Event) (k : ℕ) (held : Option Cause) → (k ≡ board.boot → ⊥) → is_step_of k e ≡ true
    → held_back board (e ∷ p) k ≡ held → state_of board (e ∷ p) k ≡ state_from (Some e) held (past_from k (e ∷ p))
state_next board p e k held secondary own is =
    state_of-other board (e ∷ p) k (other_number k board.boot secondary)
    ∙ ap (λ (o : Option Event). state_from o (held_back board (e ∷ p) k) (past_from k (e ∷ p))) (last-own k e p own)
    ∙ ap (λ (o : Option Cause). state_from (Some e) o (past_from k (e ∷ p))) is

-- a step of a core that is held back already leaves its state
pub held_state : (board : Board) (p : List Event) (e : Event) (w : World) (k : ℕ) (cause : Cause) → IsTurnIn board p w k → is_step_of k e ≡ true
    → held_back board p k ≡ Some cause → held_back board (e ∷ p) k ≡ Some cause → state_of board (e ∷ p) k ≡ state_of board p k
held_state board p e w k cause r own before after =
    let h = held_in board p w k r cause before in
    state_next board p e k (Some cause) r.not_boot own after ∙ parked_state e cause (past_from k (e ∷ p)) h.goes ∙ sym h.parked
    ∙ shows board p w k r ∙ sym (state_of-other board p k (other_number k board.boot r.not_boot))

-- a step of a core that is held back already is skipped
pub skipped : (board : Board) (p : List Event) (e : Event) (w : World) (k : ℕ) (cause : Cause) (answer : CoreState → Answer) → IsTurnIn board p w k → IsOwn e k
    → core_of e ≡ Some k → live_answer w e ≡ numbered w k (answer (state_at w.states k)) → answer (IsParked cause) ≡ Ok Skipped → world_after w e (Ok Skipped) ≡ w
    → held_back board p k ≡ Some cause → held_back board (e ∷ p) k ≡ Some cause → halt_at board e ≡ None → IsAnswered board p e w
unfolding reply_of
skipped board p e w k cause answer r own of live parked stays before after goes =
    let h = held_in board p w k r cause before in record {
      reply = Skipped;
      is = ap (λ (o : Option ℕ). option_map_or (λ core. reply_from (held_back board p core) (held_back board (e ∷ p) core)) o Done) of
          ∙ ap (λ (o : Option Cause). reply_from o (held_back board (e ∷ p) k)) before;
      answer = live ∙ numbered_in board p w k (answer (state_at w.states k)) r ∙ ap answer h.parked ∙ parked;
      after = subst (λ (x : World). IsAfter board (e ∷ p) x) (sym stays)
          (after_skipped board p e w k r own (held_state board p e w k cause r own.own before after) goes);
    }

-- a core whose last step is of some kind has made a step
pub stepped_by : (test : Option Event → Bool) (last : Option Event) → test None ≡ false → test last ≡ true → is_some last ≡ true
stepped_by test None none h = sym none ∙ h
stepped_by test (Some e) none h = refl

-- a step of its own that does not verify a core leaves why it is held back
pub held_own : (board : Board) (p : List Event) (e : Event) (k : ℕ) → is_step_of k e ≡ true → is_some (last_step k p) ≡ true
    → was_verified k (e ∷ p) ≡ was_verified k p → held_back board (e ∷ p) k ≡ held_back board p k
held_own board p e k own stepped verified = held_stays board e p k (ap (λ (o : Option Event). is_some o) (last-own k e p own) ∙ sym stepped) verified

-- an early cause holds back, and nothing holds back a core without causes
pub early_held : (stepped verified came : Bool) (early late : Option Cause) → stepped ≡ true → held_from stepped early verified came late ≡ None → early ≡ None
early_held true verified came None late s e = refl
early_held true verified came (Some cause) late s e = absurd (let no : ⊥ = cc in no)
early_held false verified came early late s e = absurd (let no : ⊥ = cc in no)

pub no_early : (board : Board) (p : List Event) (k : ℕ) → is_some (last_step k p) ≡ true → held_back board p k ≡ None → cause_at_check board k ≡ None
no_early board p k stepped free =
    early_held (is_some (last_step k p)) (was_verified k p) (came_early k p) (cause_at_check board k) (cause_at_verification board (early_cores_after board p) k) stepped (sym (held_is board p k) ∙ free)

-- the early cause that holds back is the cause
pub early_first : (stepped verified came : Bool) (early late : Option Cause) (cause found : Cause) → stepped ≡ true
    → held_from stepped early verified came late ≡ Some cause → early ≡ Some found → found ≡ cause
early_first true verified came None late cause found s e f = absurd (let no : ⊥ = cc in no)
early_first true verified came (Some x) late cause found s e f = cc
early_first false verified came early late cause found s e f = absurd (let no : ⊥ = cc in no)

-- a core that is free at its check is held back after it by its early cause
pub check_held : (board : Board) (p : List Event) (k : ℕ) → held_back board p k ≡ None → held_back board (Check k ∷ p) k ≡ cause_at_check board k
check_held board p k free = by (last_step k p) refl where
  stepped : is_some (last_step k (Check k ∷ p)) ≡ true
  stepped = ap (λ (o : Option Event). is_some o) (last-own k (Check k) p (own_number k))

  by : (o : Option Event) → last_step k p ≡ o → held_back board (Check k ∷ p) k ≡ cause_at_check board k
  by None none =
      held_is board (Check k ∷ p) k
      ∙ ap (λ (b : Bool). held_from b (cause_at_check board k) (was_verified k (Check k ∷ p)) (came_early k (Check k ∷ p)) (cause_at_verification board (early_cores_after board (Check k ∷ p)) k)) stepped
      ∙ ap (λ (b : Bool). held_from true (cause_at_check board k) b (came_early k (Check k ∷ p)) (cause_at_verification board (early_cores_after board (Check k ∷ p)) k))
      (verified-same k (Check k) p refl ∙ (without_step k p none).1)
      ∙ option_or-none (cause_at_check board k)
  by (Some e) some =
      let before : is_some (last_step k p) ≡ true = ap (λ (o : Option Event). is_some o) some in
      held_own board p (Check k) k (own_number k) before (verified-same k (Check k) p refl) ∙ free ∙ sym (no_early board p k before free)

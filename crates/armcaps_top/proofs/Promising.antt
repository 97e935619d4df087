-- From what a command does to what a run promises.
use Rattle.std.proofs.Common.{◌≡◌, ◌≢◌, ◌⊎◌, inl, inr, ℕ, ◌≤◌, ◌||◌, Bool, true, false, List, [], ◌∷◌, Option, Some, None, refl, sym, ap, subst, ◌∙◌, arith}
use Rattle.std.specs.Prelude.{◌==◌, Result, Ok, Err}
use Rattle.std.specs.Result.{IsOkAnd}
use Rattle.armcaps_boot.specs.World.{World}
use Rattle.armcaps_io.specs.Causes.{Rose}
use Rattle.armcaps_io.specs.Streams.{Appends, GivesAtMost, Keeps}
use Rattle.armcaps_top.specs.Answer.{Answer, answer_for, answer_of}
use Rattle.armcaps_top.specs.Statuses.{output_status, reason_status, status_of}
use Rattle.armcaps_top.specs.Inside.{AreCoresGiven, Performs}
use Rattle.armcaps_top.specs.Run.{AreMachinesOf, Change, EndsSo, Promises, ReadFails, can_end}
use Rattle.armcaps_top.specs.ErrorLines.{Tells}
use Rattle.armcaps_top.specs.declared.commands.Command.{Command}
use Rattle.armcaps_top.specs.declared.ending.Ending.{Ending}
use Rattle.armcaps_top.specs.declared.ending.Ending.TheVariants.{Done, ReadFault, WriteFault, Memory, NoOutput}
use Rattle.armcaps_top.specs.declared.reason.Reason.{Reason}
use Rattle.armcaps_top.specs.declared.reason.Reason.TheVariants.{Usage, Refused, Panicked, MachinePanicked, NotPatched, NotRead, NotElf, NotLoaded, NotJumped, Differs}
use Rattle.armcaps_top.specs.declared.refusal.Refusal.{Refusal}
use Rattle.armcaps_top.proofs.Fitting.{Fits, fits, read_ends, stream_ends}
use Rattle.armcaps_top.proofs.Performing.{keeps}

-- the statuses that streams and memory have
abbrev is_of_run : ℕ → Bool
is_of_run status = (status == 0) || (status == 4) || (status == 5) || (status == 6)

none_of_run : (reason : Reason) → is_of_run (reason_status reason) ≡ false
none_of_run Usage = refl
none_of_run _ = refl

not_of_run : (reason : Reason) (status : ℕ) → is_of_run status ≡ true → reason_status reason ≡ status → ⊥
not_of_run reason status of_run is = let both : true ≡ false = sym of_run ∙ sym (ap is_of_run is) ∙ none_of_run reason in cc

-- the ending of each status
done_of : (ending : Ending) → status_of ending ≡ 0 → ending ≡ Done
done_of Done is = refl
done_of (NoOutput reason) is = absurd (not_of_run reason 0 refl is)
done_of _ is = absurd (omega (arith, is))

read_fault_of : (ending : Ending) → status_of ending ≡ 4 → ending ≡ ReadFault
read_fault_of ReadFault is = refl
read_fault_of (NoOutput reason) is = absurd (not_of_run reason 4 refl is)
read_fault_of _ is = absurd (omega (arith, is))

write_fault_of : (ending : Ending) → status_of ending ≡ 5 → ending ≡ WriteFault
write_fault_of WriteFault is = refl
write_fault_of (NoOutput reason) is = absurd (not_of_run reason 5 refl is)
write_fault_of _ is = absurd (omega (arith, is))

usage_of : (ending : Ending) → status_of ending ≡ 2 → ending ≡ NoOutput Usage
usage_of (NoOutput Usage) is = refl
usage_of (NoOutput _) is = absurd (omega (arith, is))
usage_of _ is = absurd (omega (arith, is))

refused_of : (ending : Ending) → status_of ending ≡ 3 → (refusal : Refusal) × (ending ≡ NoOutput (Refused refusal))
refused_of (NoOutput (Refused refusal)) is = (refusal, refl)
refused_of (NoOutput _) is = absurd (omega (arith, is))
refused_of _ is = absurd (omega (arith, is))

-- why a step stopped a machine
record IsStopOf (ending : Ending) : Type 0 where
  reason : Reason
  seven : reason_status reason ≡ 7
  ending_is : ending ≡ NoOutput reason

stop_of : (ending : Ending) → status_of ending ≡ 7 → IsStopOf ending
stop_of (NoOutput reason) is = record { reason = reason; seven = is; ending_is = refl }
stop_of _ is = absurd (omega (arith, is))

-- the status of what is written
written : (output : Result (List ℕ) Reason) (P : List ℕ → Type 0) → IsOkAnd output P → 0 ≡ output_status output
written (Ok text) P holds = refl
written (Err reason) P holds = absurd holds

judged : (command : Option Command) (answer : Answer) (input out : Change) (ending : Ending) → EndsSo command answer input out ending
    → status_of ending ≢ 4 → status_of ending ≢ 5 → status_of ending ≢ 6 → status_of ending ≡ output_status answer.output
judged command answer input out Done so read write memory = written answer.output (Appends out.old out.new) so.0
judged command answer input out ReadFault so read write memory = absurd (read refl)
judged command answer input out WriteFault so read write memory = absurd (write refl)
judged command answer input out Memory so read write memory = absurd (memory refl)
judged command answer input out (NoOutput reason) so read write memory = rw so refl

-- where no stream failed that is used
exact : (command : Option Command) (answer : Answer) (input out : Change) (ending : Ending) → EndsSo command answer input out ending
    → (ReadFails command input → ⊥) → (Rose out.before out.now → ⊥) → (status_of ending ≡ output_status answer.output) ⊎ (status_of ending ≡ 6)
exact command answer input out Done so read write = inl (written answer.output (Appends out.old out.new) so.0)
exact command answer input out ReadFault so read write = absurd (read so)
exact command answer input out WriteFault so read write = absurd (write so.0)
exact command answer input out Memory so read write = inr refl
exact command answer input out (NoOutput reason) so read write = inl (rw so refl)

-- an answer that brings no machine up leaves none
none_left : (machines : List World) → AreMachinesOf [] machines → machines ≡ []
none_left [] are = refl
none_left (world ∷ others) are = absurd are

-- no machine is left in the statuses 2 to 4
no_machine : (command : Option Command) (answer : Answer) (input out : Change) (machines : List World) (ending : Ending) → EndsSo command answer input out ending
    → Fits command answer → (ending ≢ ReadFault → ending ≢ Memory → AreMachinesOf answer.machines machines) → (ending ≡ ReadFault → machines ≡ [])
    → (command ≡ None → answer.machines ≡ []) → 2 ≤ status_of ending → status_of ending ≤ 4 → machines ≡ []
no_machine command answer input out machines Done so fit left none usage low high = absurd (omega (arith, low))
no_machine command answer input out machines ReadFault so fit left none usage low high = none refl
no_machine command answer input out machines WriteFault so fit left none usage low high = absurd (omega (arith, high))
no_machine command answer input out machines Memory so fit left none usage low high = absurd (omega (arith, high))
no_machine command answer input out machines (NoOutput Usage) so fit left none usage low high =
    none_left machines (rw (usage (fit.usage so)) at (left (λ e. let no : ⊥ = cc in no) (λ e. let no : ⊥ = cc in no)))
no_machine command answer input out machines (NoOutput (Refused refusal)) so fit left none usage low high =
    none_left machines (rw (fit.refused refusal so) at (left (λ e. let no : ⊥ = cc in no) (λ e. let no : ⊥ = cc in no)))
no_machine command answer input out machines (NoOutput (Panicked halt)) so fit left none usage low high = absurd (omega (arith, high))
no_machine command answer input out machines (NoOutput (MachinePanicked machine halt)) so fit left none usage low high = absurd (omega (arith, high))
no_machine command answer input out machines (NoOutput (NotPatched entry kind)) so fit left none usage low high = absurd (omega (arith, high))
no_machine command answer input out machines (NoOutput (NotRead refused)) so fit left none usage low high = absurd (omega (arith, high))
no_machine command answer input out machines (NoOutput (NotJumped refused)) so fit left none usage low high = absurd (omega (arith, high))
no_machine command answer input out machines (NoOutput (NotElf kind)) so fit left none usage low high = absurd (omega (arith, high))
no_machine command answer input out machines (NoOutput (NotLoaded entry kind)) so fit left none usage low high = absurd (omega (arith, high))
no_machine command answer input out machines (NoOutput (Differs place)) so fit left none usage low high = absurd (omega (arith, high))

status_fits : (command : Command) (answer : Answer) (input out : Change) (ending : Ending) → EndsSo (Some command) answer input out ending → Fits (Some command) answer
    → can_end (Some command) (status_of ending) ≡ true
status_fits command answer input out Done so fit = (stream_ends command).0
status_fits command answer input out WriteFault so fit = (stream_ends command).1
status_fits command answer input out Memory so fit = (stream_ends command).2
status_fits command answer input out ReadFault so fit = read_ends command so.0
status_fits command answer input out (NoOutput reason) so fit = fit.status reason so

-- a run of a command
pub promised : (command : Command) (input out err : Change) (machines : List World) (ending : Ending) → AreCoresGiven (Some command)
    → Performs command input out machines ending → Tells ending err.old err.new err.before err.now → Promises (Some command) input out err machines (status_of ending)
promised command input out err machines ending given does told =
    let answer : Answer = answer_of command does.bytes in
    let fit : Fits (Some command) answer = fits (Some command) does.bytes given in
    let at : (e : Ending) → ending ≡ e → EndsSo (Some command) answer input out e =
    λ e same. subst (λ (x : Ending). EndsSo (Some command) answer input out x) same does.reason in record {
      bytes = does.bytes;
      told_bytes = does.told_bytes;
      ending = ending;
      status_is = refl;
      reason = does.reason;
      told = told;
      statuses = status_fits command answer input out ending does.reason fit;
      usage = (
        λ two. absurd (let none = fit.usage (at (NoOutput Usage) (usage_of ending two)) in let no : ⊥ = cc in no),
        λ none. absurd (let no : ⊥ = cc in no),
      );
      done = λ zero. at Done (done_of ending zero);
      safe = λ zero. does.safe (done_of ending zero);
      refused = λ three. let one = refused_of ending three in (one.0, fit.refused one.0 (at (NoOutput (Refused one.0)) one.1));
      too_long = does.too_long;
      read_fault = λ four. at ReadFault (read_fault_of ending four);
      write_fault = λ five. at WriteFault (write_fault_of ending five);
      stopped = λ seven. let one = stop_of ending seven in fit.stopped one.reason one.seven (at (NoOutput one.reason) one.ending_is);
      silent = λ zero five. does.silent (λ same. zero (ap status_of same)) (λ same. five (ap status_of same));
      unread = does.unread;
      read_at_most = does.read_at_most;
      machines_are = λ four six. does.machines_are (λ same. four (ap status_of same)) (λ same. six (ap status_of same));
      no_machine = no_machine (Some command) answer input out machines ending does.reason fit does.machines_are does.no_machine (λ none. absurd (let no : ⊥ = cc in no));
      judged = judged (Some command) answer input out ending does.reason;
      exact = exact (Some command) answer input out ending does.reason;
    }

-- an input of which nothing is read
pub gives_none : (bytes : Option (List ℕ)) (n : ℕ) → GivesAtMost bytes bytes n
gives_none None n = record { part = []; count = omega (arith); given = tt }
gives_none (Some bytes) n = record { part = []; count = omega (arith); given = refl }

-- a run of words that are no form
pub promised_nothing : (input out err : Change) (machines : List World) → input.new ≡ input.old → out.new ≡ out.old → machines ≡ []
    → Tells (NoOutput Usage) err.old err.new err.before err.now → Promises None input out err machines 2
promised_nothing input out err machines same_input same_out none told =
    let answer : Answer = answer_for None [] in record {
      bytes = [];
      told_bytes = λ reads. absurd (let no : ⊥ = cc in no);
      ending = NoOutput Usage;
      status_is = refl;
      reason = refl;
      told = told;
      statuses = refl;
      usage = (λ two. refl, λ same. refl);
      done = λ zero. absurd (omega (arith, zero));
      safe = λ zero. absurd (omega (arith, zero));
      refused = λ three. absurd (omega (arith, three));
      too_long = λ limit same. absurd (let no : ⊥ = cc in no);
      read_fault = λ four. absurd (omega (arith, four));
      write_fault = λ five. absurd (omega (arith, five));
      stopped = λ seven. absurd (omega (arith, seven));
      silent = λ zero five. subst (λ (b : Option (List ℕ)). Keeps out.old b) (sym same_out) (keeps out.old);
      unread = λ not_read. subst (λ (b : Option (List ℕ)). Keeps input.old b) (sym same_input) (keeps input.old);
      read_at_most = subst (λ (b : Option (List ℕ)). GivesAtMost input.old b 0) (sym same_input) (gives_none input.old 0);
      machines_are = λ four six. rw none tt;
      no_machine = λ low high. none;
      judged = λ read write memory. refl;
      exact = λ read write. inl refl;
    }

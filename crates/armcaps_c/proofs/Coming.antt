-- From what a run promises of streams that do not fail to what it came to.
use Rattle.std.proofs.Common.{◌≡◌, inl, inr, ◌∙◌, ◌||◌, ◌^◌, ◌-◌, ℕ, Bool, true, false, List, [], Option, Some, None, if◌then◌else◌, refl, sym, ap, subst, arith}
use Rattle.std.specs.Prelude.{◌==◌, Result, Ok, Err}
use Rattle.std.specs.Result.{IsOkAnd}
use Rattle.armcaps_boot.specs.World.{World}
use Rattle.armcaps_io.specs.Causes.{Rose}
use Rattle.armcaps_io.specs.Streams.{Appends}
use Rattle.armcaps_top.specs.Answer.{Answer, answer_for}
use Rattle.armcaps_top.specs.Statuses.{output_status, reason_status, status_of}
use Rattle.armcaps_top.specs.Run.{AreSafe, Change, EndsSo, Promises, ReadFails, reads_input}
use Rattle.armcaps_top.specs.ErrorLines.{Tells, ending_line}
use Rattle.armcaps_top.specs.declared.commands.Command.{Command}
use Rattle.armcaps_top.specs.declared.commands.Command.TheVariants.{Ask, Patch, Elf, Jump, Pool, Audit, Demo}
use Rattle.armcaps_top.specs.declared.ending.Ending.{Ending}
use Rattle.armcaps_top.specs.declared.ending.Ending.TheVariants.{Done, ReadFault, WriteFault, Memory, NoOutput}
use Rattle.armcaps_top.specs.declared.reason.Reason.{Reason}
use Rattle.armcaps_top.specs.declared.reason.Reason.TheVariants.{Usage}
use Rattle.armcaps_c.specs.Call.{told_line}
use Rattle.armcaps_c.specs.Outcome.{Came}

-- an answer does not depend on an input that is not read
same_answer : (command : Option Command) (bytes input : List ℕ) → (reads_input command ≡ true → bytes ≡ input)
    → answer_for command bytes ≡ answer_for command input
same_answer None bytes input same = refl
same_answer (Some (Ask query)) bytes input same = ap (answer_for (Some (Ask query))) (same refl)
same_answer (Some Patch) bytes input same = ap (answer_for (Some Patch)) (same refl)
same_answer (Some Elf) bytes input same = ap (answer_for (Some Elf)) (same refl)
same_answer (Some (Jump table count)) bytes input same = ap (answer_for (Some (Jump table count))) (same refl)
same_answer (Some Pool) bytes input same = ap (answer_for (Some Pool)) (same refl)
same_answer (Some Audit) bytes input same = ap (answer_for (Some Audit)) (same refl)
same_answer (Some (Demo seed cores)) bytes input same = refl

-- a stream that counts no fault did not fail
not_rose : Rose 0 0 → ⊥
not_rose (inl less) = omega (arith, less)
not_rose (inr at) = omega (arith, at)

-- the statuses of no reason
abbrev is_of_no_reason : ℕ → Bool
is_of_no_reason status = (status == 0) || (status == 1) || (status == 4) || (status == 5) || (status == 6)

no_reason : (reason : Reason) → is_of_no_reason (reason_status reason) ≡ false
no_reason Usage = refl
no_reason _ = refl

not_of_reason : (reason : Reason) (status : ℕ) → is_of_no_reason status ≡ true → reason_status reason ≡ status → ⊥
not_of_reason reason status of_none is =
    let both : true ≡ false = sym of_none ∙ sym (ap is_of_no_reason is) ∙ no_reason reason in cc

told_reason : (reason : Reason) → ending_line (NoOutput reason) ≡ told_line (reason_status reason) (Err reason)
told_reason Usage = refl
told_reason _ = refl

-- an output that was written to an empty stream
written_whole : (found : Result (List ℕ) Reason) (output : List ℕ)
    → IsOkAnd found (Appends (Some []) (Some output)) → found ≡ Ok output
written_whole (Ok text) output is = ap Ok (sym is)
written_whole (Err reason) output is = absurd is

-- what a run came to, by its ending
by_ending : (command : Option Command) (answer : Answer) (input : Change) (output line : List ℕ) (ending : Ending)
    → (ReadFails command input → ⊥)
    → EndsSo command answer input (record { old = Some []; new = Some output; before = 0; now = 0 }) ending
    → Tells ending (Some []) (Some line) 0 0
    → (status_of ending ≡ 0 → AreSafe answer.machines)
    → Came answer (status_of ending) output line
by_ending command answer input output line Done reads so tells safe =
    let found : answer.output ≡ Ok output = written_whole answer.output output so.0 in
    record {
      done = λ is. found;
      safe = safe;
      told = tells.quiet refl ∙ sym (ap (told_line 0) found);
      not_one = λ is. omega (arith, is);
      not_five = λ is. omega (arith, is);
      judged = λ is. sym (ap output_status found);
    }
by_ending command answer input output line ReadFault reads so tells safe = absurd (reads so)
by_ending command answer input output line WriteFault reads so tells safe = absurd (not_rose so.0)
by_ending command answer input output line Memory reads so tells safe =
    record {
      done = λ is. absurd (omega (arith, is));
      safe = safe;
      told = tells.whole (λ is. cc) not_rose;
      not_one = λ is. omega (arith, is);
      not_five = λ is. omega (arith, is);
      judged = λ is. absurd (is refl);
    }
by_ending command answer input output line (NoOutput reason) reads so tells safe =
    let same : told_line (reason_status reason) (Err reason) ≡ told_line (reason_status reason) answer.output =
    sym (ap (told_line (reason_status reason)) so) in
    record {
      done = λ is. absurd (not_of_reason reason 0 refl is);
      safe = safe;
      told = tells.whole (λ is. cc) not_rose ∙ told_reason reason ∙ same;
      not_one = not_of_reason reason 1 refl;
      not_five = not_of_reason reason 5 refl;
      judged = λ is. sym (ap output_status so);
    }

-- what a run came to over bytes in memory
pub came : (command : Option Command) (input output line : List ℕ) (left : Option (List ℕ)) (machines : List World) (status : ℕ)
    → Promises command (record { old = Some input; new = left; before = 0; now = 0 })
    (record { old = Some []; new = Some output; before = 0; now = 0 })
    (record { old = Some []; new = Some line; before = 0; now = 0 }) machines status
    → Came (answer_for command input) status output line
came command input output line left machines status promises =
    let same : answer_for command promises.bytes ≡ answer_for command input =
    same_answer command promises.bytes input promises.told_bytes in
    let ended : Came (answer_for command promises.bytes) (status_of promises.ending) output line =
    by_ending command (answer_for command promises.bytes) (record { old = Some input; new = left; before = 0; now = 0 }) output line promises.ending
    (λ fails. not_rose fails.1) promises.reason promises.told (λ is. promises.safe (promises.status_is ∙ is)) in
    subst (λ answer. Came answer status output line) same
    (subst (λ (number : ℕ). Came (answer_for command promises.bytes) number output line) (sym promises.status_is) ended)

-- the same of streams that were new and did not refuse
pub came_from : (command : Option Command) (input given output line out_old out_new err_old err_new : List ℕ)
    (left : Option (List ℕ)) (out_was out_is err_was err_is : Bool) (machines : List World) (status : ℕ)
    → Promises command (record { old = Some given; new = left; before = 0; now = 0 })
    (record { old = Some out_old; new = Some out_new; before = if out_was then 2 ^ 64 - 1 else 0; now = if out_is then 2 ^ 64 - 1 else 0 })
    (record { old = Some err_old; new = Some err_new; before = if err_was then 2 ^ 64 - 1 else 0; now = if err_is then 2 ^ 64 - 1 else 0 })
    machines status
    → given ≡ input → out_old ≡ [] → err_old ≡ [] → out_was ≡ false → err_was ≡ false
    → (output ≡ out_new) × (out_is ≡ false) → (line ≡ err_new) × (err_is ≡ false)
    → Came (answer_for command input) status output line
came_from command input given output line out_old out_new err_old err_new left out_was out_is err_was err_is machines status
    promises same out_none err_none out_fresh err_fresh out err =
    came command input output line left machines status
    (rw (same, out_none, err_none, out_fresh, err_fresh, sym out.0, out.1, sym err.0, err.1) at promises)

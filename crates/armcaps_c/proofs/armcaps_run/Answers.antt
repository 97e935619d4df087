use Rattle.std.proofs.Common.{rules, ◌≡◌, ◌≢◌, ◌<◌, ◌≤◌, length, ℕ, List, []}
use Rattle.armcaps_c.specs.Call.{Answers, Buffer, Gives, IsGiven}
use Rattle.armcaps_c.specs.Outcome.{Came, IsHanded}
use Rattle.armcaps_c.proofs.armcaps_run.Goals as goal

pub returns-in-Some : goal.returns-in-Some
returns-in-Some c = record {
  no_text = search rules;
  text = search rules;
  gives = record {
    done = search rules;
    safe = search rules;
    room = search rules;
    judged = search rules;
    kept = search rules;
    none = search rules;
    told = search rules;
  };
  no_fault = search rules;
}

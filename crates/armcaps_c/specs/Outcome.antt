-- What a run in memory came to, and how it is handed to the caller.
use Rattle.std.specs.Prelude.{◌≡◌, ◌≢◌, ◌<◌, ◌≤◌, ℕ, List, Ok, length}
use Rattle.armcaps_top.specs.Answer.{Answer}
use Rattle.armcaps_top.specs.Statuses.{output_status}
use Rattle.armcaps_top.specs.Run.{AreSafe}
use Rattle.armcaps_c.specs.Call.{Buffer, IsGiven, told_line}

-- a run whose streams did not fail came to this status, output and line
pub record Came (answer : Answer) (status : ℕ) (output line : List ℕ) : Type 0 where
  pub done : status ≡ 0 → answer.output ≡ Ok output
  pub safe : status ≡ 0 → AreSafe answer.machines
  pub told : line ≡ told_line status answer.output
  pub not_one : status ≢ 1
  pub not_five : status ≢ 5
  pub judged : status ≢ 6 → status ≡ output_status answer.output

-- what a run came to was handed to the caller with this status: the line in any case, and the output of a run that is
-- done where the buffer has room for it
pub record IsHanded (status : ℕ) (output line : List ℕ) (out err : Buffer) (result : ℕ) : Type 0 where
  pub line_given : IsGiven line err
  pub whole : status ≡ 0 → length output ≤ length out.old → (result ≡ 0) × IsGiven output out
  pub short : status ≡ 0 → length out.old < length output
      → (result ≡ 5) × (out.new ≡ out.old) × (out.count ≡ length output)
  pub other : status ≢ 0 → (result ≡ status) × (out.new ≡ out.old) × (out.count ≡ 0)

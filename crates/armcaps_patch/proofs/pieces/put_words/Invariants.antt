use Rattle.std.proofs.Common.{◌≡◌, ℕ, ◌+◌, ◌*◌, ◌<◌, ◌≤◌, get_or}
use Rattle.armcaps_patch.specs.Kept.{plan_of, planned_byte}
use Rattle.armcaps_patch.proofs.pieces.put_words.Given as goal

-- the words below k are the new ones, the others are as they were
abbrev pub invariant-loop-k : goal.invariant-loop-k
invariant-loop-k l = record {
  new : (j : ℕ) → j < 4 * l.k → get_or l.buffer j 0 ≡ planned_byte (plan_of l.kept l.image l.ctr l.conduit) l.image (l.from + j);
  rest : (j : ℕ) → 4 * l.k ≤ j → get_or l.buffer j 0 ≡ get_or l.initial.buffer j 0;
}

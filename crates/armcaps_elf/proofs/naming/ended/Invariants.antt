use Rattle.std.proofs.Common.{◌≡◌, ◌-◌, ◌<◌, ◌≤◌, ℕ, get_or}
use Rattle.armcaps_elf.proofs.naming.ended.Given as goal

-- a zero byte stands before the end so far, and none from there on
abbrev pub invariant-loop-index : goal.invariant-loop-index
invariant-loop-index l = record {
  within : l.ended ≤ l.index;
  zero_before : 0 < l.ended → get_or l.names (l.ended - 1) 0 ≡ 0;
  none_behind : (k : ℕ) → l.ended ≤ k → k < l.index → get_or l.names k 0 ≡ 0 → ⊥;
}

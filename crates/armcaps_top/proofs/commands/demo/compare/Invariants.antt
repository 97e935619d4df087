use Rattle.std.proofs.Common.{◌≡◌, ◌≤◌, ◌*◌, ◌^◌, ℕ}
use Rattle.std.specs.List.{count_by, range_with_len, sum_by}
use Rattle.armcaps_image.specs.Bytes.{word_in}
use Rattle.armcaps_top.specs.Demo.{is_changed}
use Rattle.armcaps_top.proofs.commands.demo.compare.Given as goal

abbrev pub invariant-loop-index : goal.invariant-loop-index
invariant-loop-index l = record {
  different : l.different ≡ count_by (is_changed l.image l.patched) (range_with_len 0 l.index);
  sum : l.sum ≡ sum_by (λ (index : ℕ). word_in l.patched (4 * index)) (range_with_len 0 l.index);
  few : l.different ≤ l.index;
  small : l.sum ≤ 2 ^ 32 * l.index;
}

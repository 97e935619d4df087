use Rattle.armcaps_patch.proofs.planning.Plan.of.Goals as goal

pub invariant_of-result : goal.invariant_of-result
invariant_of-result c = record {
  small = c.requires.size;
  each = c.requires.kept;
  few = c.requires.few;
  cover = c.in_ok-buckets.ensures.cover;
  buckets = rw c.deref.ensures.value at c.in_ok-buckets.ensures.buckets;
}

use Rattle.std.proofs.Common.{◌/◌, None, arith}
use Rattle.std.proofs.lemmas.List.Sums.{sum_by_more}
use Rattle.armcaps_patch.specs.declared.kept.Kept.{Kept}
use Rattle.armcaps_patch.proofs.planning.words_of_kept.Goals as goal

pub loop-entry-preserved : goal.loop-entry-preserved
loop-entry-preserved c =
    let nothing : Kept = record { site = 0; repl = 0; len = 0; callback = None } in
    let more = sum_by_more (λ (entry : Kept). entry.len / 4) c.args.kept.now c.loop-entry.entry-index nothing c.loop-entry-test.true in
    record {
      words = omega (arith, more, c.loop-entry.invariant.words);
      few = omega (arith, c.loop-entry.invariant.few);
    }

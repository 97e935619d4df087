use Rattle.std.proofs.Common.{◌≡◌, length, sym, ap, ◌∙◌}
use Rattle.std.proofs.lemmas.List.FromFn.{length-map-range_with_len}
use Rattle.armcaps_alt.specs.Patched.{patched_image}
use Rattle.armcaps_patch.specs.Features.{features_of}
use Rattle.armcaps_top.specs.Demo.{counts_of, sum_of_words, words_changed}
use Rattle.armcaps_top.proofs.commands.demo.counts_of.Goals as goal

pub compare-changed-requires-clause-same : goal.compare-changed-requires-clause-same
compare-changed-requires-clause-same c =
    ap length (c.deref.ensures.value ∙ c.in_ok-new.ensures (features_of c.args.boot.now c.args.names.now) c.args.layout c.in_ok-plan.ensures)
    ∙ length-map-range_with_len _ 0 (length c.args.image.now)

pub returns : goal.returns
unfolding counts_of
returns c =
    let features = features_of c.args.boot.now c.args.names.now in
    let patched : c.deref.result.now ≡ patched_image features c.args.image.now c.args.layout =
    c.deref.ensures.value ∙ c.in_ok-new.ensures features c.args.layout c.in_ok-plan.ensures in
    let covered = c.count_words.ensures features c.args.image.now c.args.layout c.in_ok-plan.ensures ∙ sym c.requires.countable.apart in
    let selected = c.count_entries.ensures features c.args.image.now c.args.layout c.in_ok-plan.ensures in
    let changed = c.compare-changed.ensures.changed ∙ ap (words_changed c.args.image.now) patched in
    let sum = c.compare-changed.ensures.sum ∙ ap sum_of_words patched in
    λ i. record {
      admitted = c.count_cores-admitted.ensures.admitted i;
      parked = c.count_cores-admitted.ensures.parked i;
      selected = selected i;
      covered = covered i;
      changed = changed i;
      sum = sum i;
    }

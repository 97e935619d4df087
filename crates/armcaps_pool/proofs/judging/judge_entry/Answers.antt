use Rattle.std.proofs.Common.{◌≡◌, ◌∙◌, ◌/◌, true, sym, ap}
use Rattle.std.specs.Prelude.{unwrap_or, false}
use Rattle.armcaps_alt.specs.Entries.{is_selected}
use Rattle.armcaps_pool.specs.Audits.{features_of}
use Rattle.armcaps_pool.specs.Judging.{IsJudged}
use Rattle.armcaps_pool.proofs.Covering.{judged_with}
use Rattle.armcaps_pool.proofs.judging.judge_entry.Goals as goal

pub returns-then-unwrap_or-clause-judged : goal.returns-then-unwrap_or-clause-judged
returns-then-unwrap_or-clause-judged c = λ entries first judged.
    let chosen : is_selected (features_of c.args.names.now c.args.enabled.now c.args.ctr) c.args.entry.now ≡ true =
    ap (λ o. unwrap_or o false) (sym c.selected.ensures.value) ∙ sym c.unwrap_or.ensures ∙ c.if-unwrap_or.true in
    let site : IsJudged (features_of c.args.names.now c.args.enabled.now c.args.ctr) c.args.image.now c.args.patched.now
    c.args.marks.now c.args.entry.now (c.args.entry.now.orig_len / 4) c.judge_site.new.marks c.judge_site.result =
    record {
      size = c.judge_site.ensures.size;
      marked = c.judge_site.ensures.marked;
      first = c.judge_site.ensures.first;
    } in
    judged_with (features_of c.args.names.now c.args.enabled.now c.args.ctr) c.args.image.now c.args.patched.now entries
    c.args.marks.now first c.args.entry.now c.judge_site.new.marks c.judge_site.result chosen judged
    (c.requires.accepted chosen) site

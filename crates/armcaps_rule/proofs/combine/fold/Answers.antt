use Rattle.std.proofs.Common.{sym, ◌∙◌, rules, w64, ◌-◌, get_or, length, take, drop, pos, to_z, of_z}
use Rattle.std.proofs.lemmas.Int.{to_z-of_z}
use mir.Val.{SFits}
use Rattle.armcaps_rule.proofs.Merging.{fold_one, fold_step_bits, fold_end}
use Rattle.armcaps_rule.proofs.combine.fold.Goals as goal

pub loop-value-init : goal.loop-value-init
loop-value-init c =
    let fits : SFits w64 (get_or c.args.values.now 0 (pos 0)) = search rules in
    to_z-of_z _ _ fits ∙ sym (fold_one _ _ _)

pub loop-value-preserved : goal.loop-value-preserved
loop-value-preserved c =
    let items = take (length c.args.values.now - 1) (drop 1 c.args.values.now) in
    let item_fits : SFits w64 (get_or (take (length c.args.values.now - 1) (drop 1 c.args.values.now)) c.loop-value.value-index (pos 0)) = search rules in
    let fits : SFits w64 c.merge-folded.result = search rules in
    fold_step_bits c.args.rule (to_z w64 (of_z w64 c.args.safe)) (get_or c.args.values.now 0 (pos 0)) items c.loop-value.value-index
    (to_z w64 c.loop-value.folded-bits) c.merge-folded.result c.loop-value-test.true c.loop-value.invariant item_fits fits
    c.merge-folded.ensures

pub returns : goal.returns
returns c =
    fold_end c.args.rule c.args.safe (to_z w64 (of_z w64 c.args.safe)) c.args.values.now c.loop-value.value-index
    (to_z w64 c.loop-value.folded-bits) c.requires (to_z-of_z w64 c.args.safe c.ranges.safe) c.loop-value-test.false
    c.loop-value.invariant

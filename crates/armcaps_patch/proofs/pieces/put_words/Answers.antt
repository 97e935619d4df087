use Rattle.std.proofs.Common.{◌≡◌, ap, ℕ, ◌+◌, ◌-◌, ◌*◌, arith, get_or, inl, inr, subst, ◌∙◌}
use Rattle.std.proofs.lemmas.Bool.{cases_lt}
use Rattle.armcaps_patch.specs.Kept.{Planned, plan_of, planned_byte}
use Rattle.armcaps_patch.proofs.pieces.put_words.Goals as goal

pub loop-k-preserved : goal.loop-k-preserved
loop-k-preserved c =
    let plan : Planned = plan_of c.args.kept.now c.args.image.now c.args.ctr c.args.conduit in
    record {
      new = λ j below. elim (cases_lt j (4 * c.loop-k.k)) [
        | inl before ↦ c.put_stamped.ensures.before j before ∙ c.loop-k.invariant.new j before
        | inr here ↦
            let New : ℕ → Type 0 = λ n. get_or c.put_stamped.new.buffer n 0 ≡ planned_byte plan c.args.image.now (c.args.from + n) in
            let at : 4 * c.loop-k.k + (j - 4 * c.loop-k.k) ≡ j = omega arith in
            let word = c.put_stamped.ensures.new (j - 4 * c.loop-k.k) (omega arith) in
            let assoc : c.args.from + 4 * c.loop-k.k + (j - 4 * c.loop-k.k) ≡ c.args.from + (4 * c.loop-k.k + (j - 4 * c.loop-k.k)) = omega arith in
            subst New at (word ∙ ap (planned_byte plan c.args.image.now) assoc)
      ];
      rest = λ j behind. c.put_stamped.ensures.behind j (omega arith) ∙ c.loop-k.invariant.rest j (omega arith);
    }

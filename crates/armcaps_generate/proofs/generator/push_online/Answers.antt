use Rattle.std.proofs.Common.{◌≡◌, ◌+◌, ◌-◌, ◌++◌, ◌∷◌, [], map, ℕ, sym, ap, ◌∙◌, arith, append_assoc}
use Rattle.std.specs.List.{range_with_len}
use Rattle.std.proofs.lemmas.List.FromFn.{map-range_with_len_more}
use Rattle.armcaps_board.specs.declared.step_line.StepLine.TheVariants.{Online}
use Rattle.armcaps_generate.proofs.generator.push_online.Goals as goal

pub loop-core-preserved : goal.loop-core-preserved
loop-core-preserved c =
    let first : c.args.from + (c.loop-core.core - c.args.from) ≡ c.loop-core.core = omega arith in
    let left : c.loop-core.core - c.args.from + 1 ≡ c.loop-core.core + 1 - c.args.from = omega arith in
    c.in_ok-push.ensures.items ∙ ap (λ (steps : _). steps ++ Online c.loop-core.core ∷ []) c.loop-core.invariant
    ∙ append_assoc c.args.steps.now.items _ (Online c.loop-core.core ∷ [])
    ∙ ap (λ (steps : _). c.args.steps.now.items ++ steps) (sym (map-range_with_len_more Online c.args.from (c.loop-core.core - c.args.from) c.loop-core.core first))
    ∙ ap (λ (n : ℕ). c.args.steps.now.items ++ map Online (range_with_len c.args.from n)) left

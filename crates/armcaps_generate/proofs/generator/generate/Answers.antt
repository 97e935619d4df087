use Rattle.std.proofs.Common.{◌≡◌, ℕ, ◌+◌, ◌-◌, ◌≤◌, List, [], ◌∷◌, ◌++◌, length, sym, ap, subst, ◌∙◌, arith}
use Rattle.std.specs.List.{All}
use Rattle.armcaps_tables.specs.Core.{Core}
use Rattle.armcaps_generate.specs.Alternatives.{Alternative, alternative_drawn, generated_alternatives}
use Rattle.armcaps_generate.specs.Cores.{core_drawn, core_for, generated_board, others_drawn}
use Rattle.armcaps_generate.specs.Draws.{several}
use Rattle.armcaps_generate.specs.LargeImage.{generated_image, image_of}
use Rattle.armcaps_generate.proofs.Drawing.{each_drawn, few_instructions, length-several}
use Rattle.armcaps_generate.proofs.generator.generate.Goals as goal

pub image_of-requires-clause-count : goal.image_of-requires-clause-count
image_of-requires-clause-count c =
    omega (arith, ap length c.deref.ensures.value, ap length c.in_ok-alternatives.ensures, length-several alternative_drawn 20000 c.push_cores.new.self.state)

pub image_of-requires-clause-few : goal.image_of-requires-clause-few
image_of-requires-clause-few c =
    subst (λ (alternatives : List Alternative). All (λ alternative. length alternative.instructions ≤ 4) alternatives)
    (c.in_ok-alternatives.ensures ∙ sym c.deref.ensures.value)
    (each_drawn alternative_drawn (λ (alternative : Alternative). length alternative.instructions ≤ 4) few_instructions 20000 c.push_cores.new.self.state)

pub returns-clause-board : goal.returns-clause-board
unfolding generated_board others_drawn
returns-clause-board c =
    let first : c.push.new.self.items ≡ core_for 0 ∷ [] = c.in_ok-push.ensures.items ∙ ap (λ (cores : List Core). cores ++ c.core_for.result ∷ []) c.new-all.ensures.items ∙ ap (λ (core : Core). core ∷ []) c.core_for.ensures in
    let cores : c.push_cores.new.cores.items ≡ core_for 0 ∷ (several core_drawn (c.args.cores - 1) (c.args.seed + 1)).value =
    c.in_ok-push_cores.ensures.cores
    ∙ ap (λ (cores : List Core). cores ++ (several core_drawn (c.args.cores - 1) (c.from.result + 1)).value) first
    ∙ ap (λ (seed : ℕ). core_for 0 ∷ (several core_drawn (c.args.cores - 1) (seed + 1)).value) c.from.ensures in
    λ i. record { cores = cores i; boot = 0; overrides = c.parse.ensures.value i }

pub returns-clause-image : goal.returns-clause-image
unfolding generated_image generated_alternatives others_drawn
returns-clause-image c =
    c.in_ok-image_of.ensures
    ∙ ap image_of (c.deref.ensures.value ∙ sym c.in_ok-alternatives.ensures
    ∙ ap (λ (state : ℕ). (several alternative_drawn 20000 state).value) (c.in_ok-push_cores.ensures.state
    ∙ ap (λ (seed : ℕ). (several core_drawn (c.args.cores - 1) (seed + 1)).state) c.from.ensures))

use Rattle.std.proofs.Common.{◌≡◌, ◌∙◌, ℕ, List, map, string_bytes, subst}
use Rattle.std.specs.Prelude.{IfOk}
use Rattle.armcaps_boot.specs.Findings.{findings_of}
use Rattle.armcaps_report.specs.Pooled.{pool_report_of}
use Rattle.armcaps_top.specs.Pool.{words_found}
use Rattle.armcaps_top.proofs.Pools.{words_each}
use Rattle.armcaps_top.proofs.commands.pool.pool_text.Goals as goal

pub returns : goal.returns
returns c =
    let same : c.in_ok-common.common ≡ map words_found (map findings_of c.args.machines.now) =
    c.in_ok-common.ensures.machines ∙ c.deref.ensures.value ∙ c.in_ok-systems.ensures ∙ words_each c.args.machines.now in
    subst (λ (words : List (List ℕ)). IfOk c.pool_report.result (λ text. string_bytes text ≡ pool_report_of words)) same c.pool_report.ensures

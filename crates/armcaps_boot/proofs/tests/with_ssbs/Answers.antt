use Rattle.std.proofs.Common.{◌∙◌, inl, lit<}
use Rattle.armcaps_enc.specs.declared.register.SysReg.TheVariants.{CtrEl0}
use Rattle.armcaps_tables.specs.Rows.{id_aa64pfr1_rows}
use Rattle.armcaps_boot.proofs.tests.with_ssbs.Goals as goal

pub set-requires : goal.set-requires
unfolding id_aa64pfr1_rows
set-requires c = lit< tt

pub returns : goal.returns
returns c index within = c.set.ensures.others CtrEl0 index (inl (λ same. cc)) ∙ c.without_overrides-overrides.ensures index within

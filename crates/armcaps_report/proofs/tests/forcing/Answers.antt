use Rattle.std.proofs.Common.{inl, ◌∙◌}
use Rattle.armcaps_enc.specs.declared.register.SysReg.TheVariants.{CtrEl0}
use Rattle.armcaps_report.proofs.tests.forcing.Goals as goal

pub returns : goal.returns
returns c index = c.set.ensures.others CtrEl0 index (inl c.requires) ∙ c.without_overrides-overrides.ensures index

use Rattle.std.proofs.Common.{ap, ◌∙◌}
use Rattle.armcaps_enc.specs.declared.register.SysReg.TheVariants.{CtrEl0}
use Rattle.armcaps_tables.specs.Overriding.{FieldOverrides, override_of}
use Rattle.armcaps_tables.proofs.Overriding.{none_at}
use Rattle.armcaps_boot.proofs.tests.without_overrides.Goals as goal

pub returns : goal.returns
returns c index within = ap (λ (o : FieldOverrides). override_of o CtrEl0 index) c.none.ensures ∙ none_at CtrEl0 index

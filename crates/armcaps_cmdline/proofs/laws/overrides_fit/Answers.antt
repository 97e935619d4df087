use Rattle.armcaps_enc.specs.declared.register.SysReg.TheVariants.{CtrEl0, DczidEl0}
use Rattle.std.proofs.Common.{refl}
use Rattle.armcaps_cmdline.proofs.IdRegisters.{outside}
use Rattle.armcaps_cmdline.proofs.Fitting.{command_line_fits, listed}
use Rattle.armcaps_cmdline.proofs.laws.overrides_fit.Goals as goal

pub returns-clause-each : goal.returns-clause-each
returns-clause-each c = listed

pub returns-clause-fit : goal.returns-clause-fit
returns-clause-fit c = command_line_fits

pub returns-clause-ctr : goal.returns-clause-ctr
returns-clause-ctr c = λ text index. outside text CtrEl0 index refl

pub returns-clause-dczid : goal.returns-clause-dczid
returns-clause-dczid c = λ text index. outside text DczidEl0 index refl

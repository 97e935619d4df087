use Rattle.armcaps_enc.specs.declared.register.SysReg.TheVariants.{IdAa64Isar1El1, IdAa64Isar2El1}
use Rattle.armcaps_cmdline.specs.Assignments.{off}
use Rattle.armcaps_cmdline.proofs.Assignments.{six_settings}
use Rattle.armcaps_cmdline.proofs.command_line.turn_off_pauth.Goals as goal

pub returns : goal.returns
returns c =
    six_settings (off IdAa64Isar1El1 "gpi") (off IdAa64Isar1El1 "gpa") (off IdAa64Isar1El1 "api")
    (off IdAa64Isar1El1 "apa") (off IdAa64Isar2El1 "gpa3") (off IdAa64Isar2El1 "apa3")
    _ _ _ _ _ _ _ c.assign.ensures c.assign-2.ensures c.assign-3.ensures c.assign-4.ensures c.assign-5.ensures
    c.assign-6.ensures

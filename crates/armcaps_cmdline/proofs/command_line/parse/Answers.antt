use Rattle.std.proofs.Common.{◌∙◌, refl}
use Rattle.armcaps_enc.specs.declared.register.SysReg.TheVariants.{CtrEl0, DczidEl0}
use Rattle.armcaps_cmdline.proofs.IdRegisters.{outside}
use Rattle.armcaps_cmdline.proofs.RemainingWords.{remains_all, remains_none, remains_word}
use Rattle.armcaps_cmdline.proofs.command_line.parse.Goals as goal

pub loop-word-init : goal.loop-word-init
loop-word-init c = remains_all _ _ c.none-overrides.ensures

pub loop-word-preserved : goal.loop-word-preserved
loop-word-preserved c = remains_word _ _ _ _ _ _ c.loop-word.invariant c.in-Some.ensures.cut c.assign_word.ensures

pub returns-clause-ctr : goal.returns-clause-ctr
returns-clause-ctr c = λ index within.
    remains_none _ _ _ c.loop-word.invariant c.in_default.ensures.cut CtrEl0 index
    ∙ outside c.args.text.now CtrEl0 index refl

pub returns-clause-dczid : goal.returns-clause-dczid
returns-clause-dczid c = λ index within.
    remains_none _ _ _ c.loop-word.invariant c.in_default.ensures.cut DczidEl0 index
    ∙ outside c.args.text.now DczidEl0 index refl

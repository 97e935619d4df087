use Rattle.std.proofs.Common.{arith, subst, ◌≡◌, length}
use Rattle.std.proofs.lemmas.List.{get_or_default}
use Rattle.armcaps_elf.proofs.Flat.{HasFirst, byte_is, first_more}
use Rattle.armcaps_elf.proofs.flattening.put_sections.Goals as goal

pub loop-section-init : goal.loop-section-init
loop-section-init c = record { put = λ k j d low. absurd (omega arith); zeros = λ j none. c.requires.zeros j }

pub loop-section-preserved : goal.loop-section-preserved
loop-section-preserved c =
    first_more c.args.sections.now c.args.base c.args.file.now c.loop-section.flat c.put_section.new.flat c.loop-section.section-index _ c.requires.rise (omega arith)
    (λ d. get_or_default c.args.sections.now c.loop-section.section-index d (record { address = 0; place = 0; size = 0 }) (omega arith)) c.put_section.ensures c.loop-section.invariant

pub returns : goal.returns
returns c = λ j.
    let all : c.loop-section.section-index ≡ length c.args.sections.now = omega arith in
    byte_is c.args.sections.now c.args.base c.args.file.now c.loop-section.flat j c.requires.rise
    (subst (HasFirst c.args.sections.now c.args.base c.args.file.now c.loop-section.flat) all c.loop-section.invariant)

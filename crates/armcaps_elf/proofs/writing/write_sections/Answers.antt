-- Each piece behind those before it.
use Rattle.std.proofs.Common.{◌≡◌, ◌+◌, ◌-◌, arith, get_or, length}
use Rattle.std.proofs.lemmas.Result.{err_from_is_err_and}
use Rattle.armcaps_elf.specs.declared.section.Section.{Section}
use Rattle.armcaps_elf.specs.Images.{put_byte}
use Rattle.armcaps_elf.proofs.Written.{last_cut, last_sent, next_is, prefix_piece, sent_piece}
use Rattle.armcaps_elf.proofs.writing.write_sections.Goals as goal

abbrev nothing : Section
nothing = record { address = 0; place = 0; size = 0 }

pub returns-in_err-write_section-clause-prefix : goal.returns-in_err-write_section-clause-prefix
returns-in_err-write_section-clause-prefix g c =
    let file = c.args.file.now in
    let flat = c.args.flat.now in
    let done = c.loop-section.done in
    let x = get_or c.args.sections.now c.loop-section.section-index nothing in
    let next = next_is c.args.sections.now c.args.base file flat done c.loop-section.section-index nothing c.requires.rise c.requires.inside c.requires.above
    c.requires.below c.loop-section.invariant.between (omega arith) in
    let failed = err_from_is_err_and c.from_residual.result c.from_residual.ensures.1 in
    rw failed.1 (prefix_piece _ _ _ (put_byte c.args.sections.now c.args.base file flat) done (x.place + x.size - done) (length file) _ next.piece
    (omega (arith, next.inside, next.start)) c.loop-section.invariant.sent c.in_err-write_section.ensures.prefix)

pub loop-section-preserved : goal.loop-section-preserved
loop-section-preserved g c =
    let done = c.loop-section.done in
    let x = get_or c.args.sections.now c.loop-section.section-index nothing in
    let next = next_is c.args.sections.now c.args.base c.args.file.now c.args.flat.now done c.loop-section.section-index nothing c.requires.rise
    c.requires.inside c.requires.above c.requires.below c.loop-section.invariant.between (omega arith) in
    let end : done + (x.place + x.size - done) ≡ x.place + x.size = omega (arith, next.start) in
    record {
      within = next.inside;
      between = next.between;
      sent = sent_piece _ _ _ (put_byte c.args.sections.now c.args.base c.args.file.now c.args.flat.now) done (x.place + x.size - done) (x.place + x.size) _
          next.piece end c.loop-section.invariant.sent c.in_ok-write_section.ensures.whole;
      count = omega (arith, c.in_ok-write_section.ensures.never_falls);
    }

pub returns-clause-whole : goal.returns-clause-whole
returns-clause-whole g c =
    last_sent c.args.sections.now c.args.base c.args.file.now c.args.flat.now c.write_whole.result _ _ _ c.loop-section.done c.loop-section.section-index
    (omega arith) c.loop-section.invariant.within c.loop-section.invariant.between c.requires.rise c.loop-section.invariant.sent c.write_whole.ensures.whole

pub returns-clause-prefix : goal.returns-clause-prefix
returns-clause-prefix g c =
    last_cut c.args.sections.now c.args.base c.args.file.now c.args.flat.now c.write_whole.result _ _ _ c.loop-section.done c.loop-section.section-index
    (omega arith) c.loop-section.invariant.within c.loop-section.invariant.between c.requires.rise c.loop-section.invariant.sent c.write_whole.ensures.prefix

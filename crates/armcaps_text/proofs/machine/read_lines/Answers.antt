use Rattle.std.proofs.Common.{◌+◌, ◌-◌, length, sym, ap, subst, ◌∙◌}
use Rattle.std.specs.FinMap.{entries}
use Rattle.std.specs.List.{All}
use Rattle.std.proofs.lemmas.Result.{err_from_is_err_and}
use Rattle.armcaps_alt.specs.Names.{IsKnown}
use Rattle.armcaps_text.specs.Before.{Before}
use Rattle.armcaps_text.specs.Document.{Reads}
use Rattle.armcaps_text.specs.KindAtLine.{kind_after}
use Rattle.armcaps_text.specs.Learned.{learned}
use Rattle.armcaps_text.specs.Meaning.{line_of, is_last}
use Rattle.armcaps_text.specs.Reader.{so_far}
use Rattle.armcaps_text.proofs.KnownNames.{numbers_known}
use Rattle.armcaps_text.proofs.LastLine.{boot_known, image_known}
use Rattle.armcaps_text.proofs.FirstLineWithKind.{Walked, starts, learnt_next, goes_on, read, ended, refused_there}
use Rattle.armcaps_text.proofs.machine.read_lines.Goals as goal

pub loop-line-init : goal.loop-line-init
loop-line-init c = subst (λ (one : Before). Walked c.args.format c.args.text.now c.args.text.now 0 one) (sym c.new-reader.ensures) (starts c.args.format c.args.text.now)

pub returns-in_err-take-clause-refuses : goal.returns-in_err-take-clause-refuses
returns-in_err-take-clause-refuses c =
    let p = err_from_is_err_and c.from_residual.result c.from_residual.ensures.1 in
    rw (p.1, p.2) (λ header. refused_there c.args.unended header c.args.format c.args.text.now _ c.in-Some.after.now _ (so_far c.loop-line.reader) c.in-Some.line.now _ _ c.loop-line.invariant c.in-Some.ensures.line c.of-line.ensures c.in_err-take.ensures.refused)

pub machine-requires-clause-boot : goal.machine-requires-clause-boot
machine-requires-clause-boot c =
    boot_known c.args.format (so_far c.loop-line.reader) (so_far c.take.new.self) (line_of c.args.format c.in-Some.line.now)
    (ap (kind_after c.args.format (so_far c.loop-line.reader)) (sym c.of-line.ensures) ∙ c.in_ok-take.ensures.kind)
    (ap is_last (sym c.of-line.ensures) ∙ sym c.is_last.ensures ∙ c.if-is_last.true)
    (c.in_ok-take.ensures.kept ∙ ap (learned (so_far c.loop-line.reader)) c.of-line.ensures)

pub machine-requires-clause-image : goal.machine-requires-clause-image
machine-requires-clause-image c =
    image_known (so_far c.loop-line.reader) (so_far c.take.new.self) (line_of c.args.format c.in-Some.line.now)
    (ap is_last (sym c.of-line.ensures) ∙ sym c.is_last.ensures ∙ c.if-is_last.true)
    (c.in_ok-take.ensures.kept ∙ ap (learned (so_far c.loop-line.reader)) c.of-line.ensures)

pub machine-requires-clause-known : goal.machine-requires-clause-known
machine-requires-clause-known c =
    subst (λ (now : Before). All (λ e. IsKnown e.1) (entries now.numbers))
    (sym (learnt_next c.args.format _ _ c.in-Some.after.now _ _ _ _ c.loop-line.invariant c.in-Some.ensures.line (c.in_ok-take.ensures.kept ∙ ap (learned (so_far c.loop-line.reader)) c.of-line.ensures)))
    (numbers_known c.args.format _)

pub returns-in-Ok-clause-reads : goal.returns-in-Ok-clause-reads
returns-in-Ok-clause-reads c = λ header.
    read c.args.unended header c.args.format c.args.text.now _ c.in-Some.after.now _ (so_far c.loop-line.reader) (so_far c.take.new.self) c.in-Some.line.now c.loop-line.invariant c.in-Some.ensures.line c.in-Some.ensures.bytes
    (ap (kind_after c.args.format (so_far c.loop-line.reader)) (sym c.of-line.ensures) ∙ c.in_ok-take.ensures.kind)
    (ap is_last (sym c.of-line.ensures) ∙ sym c.is_last.ensures ∙ c.if-is_last.true)
    (c.in_ok-take.ensures.kept ∙ ap (learned (so_far c.loop-line.reader)) c.of-line.ensures)
    ∙ ap (λ (reading : _). Reads reading (length header + 1 + (length c.args.text.now - length c.in-Some.after.now))) (sym c.in-Ok.ensures)

pub loop-line-preserved : goal.loop-line-preserved
loop-line-preserved c =
    goes_on c.args.format c.args.text.now _ c.in-Some.after.now _ (so_far c.loop-line.reader) (so_far c.take.new.self) c.in-Some.line.now c.loop-line.invariant c.in-Some.ensures.line c.in-Some.ensures.bytes
    (ap (kind_after c.args.format (so_far c.loop-line.reader)) (sym c.of-line.ensures) ∙ c.in_ok-take.ensures.kind)
    (ap is_last (sym c.of-line.ensures) ∙ sym c.is_last.ensures ∙ c.if-is_last.false)
    (c.in_ok-take.ensures.kept ∙ ap (learned (so_far c.loop-line.reader)) c.of-line.ensures)

pub returns-clause-refuses : goal.returns-clause-refuses
returns-clause-refuses c = λ header. ended c.args.unended header c.args.format c.args.text.now _ _ _ c.loop-line.invariant c.in_default.ensures.none

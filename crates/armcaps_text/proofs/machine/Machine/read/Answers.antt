use Rattle.std.proofs.Common.{length, sym, ap, subst, ◌∙◌, arith}
use Rattle.std.proofs.lemmas.Result.{err_from_is_err_and}
use Rattle.armcaps_text.specs.Document.{Outcome, IsRefusal, reading_of}
use Rattle.armcaps_text.proofs.Readings.{sound_reading}
use Rattle.armcaps_text.proofs.FirstLineWithKind.{outcome_named}
use Rattle.armcaps_text.proofs.FirstLine.{mebibyte_least, mebibyte_within}
use Rattle.armcaps_text.proofs.machine.Machine.read.Goals as goal

pub read_lines-requires : goal.read_lines-requires
read_lines-requires c = omega (arith, mebibyte_least c.args.bytes.now, ap length c.first_mebibyte.ensures, c.in-Some.ensures.bytes)

pub returns-in_err-machine-clause-refuses : goal.returns-in_err-machine-clause-refuses
returns-in_err-machine-clause-refuses c =
    let p = err_from_is_err_and c.from_residual.result c.from_residual.ensures.1 in
    rw (p.1, p.2)
    (subst (λ (outcome : Outcome). IsRefusal outcome c.in_err-machine.field-0.0)
    (sym (outcome_named c.args.bytes.now _ _ c.in-Some.rest.now _ _ c.first_mebibyte.ensures c.in-Some.ensures.line (sym c.in-Some-named.ensures) c.unended_kind-unended.ensures))
    (c.in_err-machine.ensures.refuses c.in-Some.header.now))

pub returns-clause-place : goal.returns-clause-place
returns-clause-place c = omega (arith, mebibyte_within c.args.bytes.now, ap length c.first_mebibyte.ensures, c.in-Some.ensures.bytes, c.in_ok-machine.ensures.place)

pub returns-clause-sound : goal.returns-clause-sound
returns-clause-sound c =
    (sound_reading c.args.bytes.now (reading_of c.in_ok-machine.machine) _
    (outcome_named c.args.bytes.now _ _ c.in-Some.rest.now _ _ c.first_mebibyte.ensures c.in-Some.ensures.line (sym c.in-Some-named.ensures) c.unended_kind-unended.ensures
    ∙ c.in_ok-machine.ensures.reads c.in-Some.header.now)).0

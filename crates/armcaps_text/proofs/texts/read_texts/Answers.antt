use Rattle.std.proofs.Common.{◌≡◌, ◌<◌, ◌++◌, ◌∷◌, [], arith, length, rules, tests, sym}
use Rattle.std.proofs.lemmas.Result.{err_from_is_err_and}
use Rattle.std.proofs.lemmas.List.Elements.{All-push}
use Rattle.armcaps_text.specs.Document.{reading_of}
use Rattle.armcaps_text.specs.Sound.{IsSound}
use Rattle.armcaps_text.specs.declared.machine.Machine.{Machine}
use Rattle.armcaps_text.proofs.SeveralTexts.{ended, goes_on, refused_so, too_many}
use Rattle.armcaps_text.proofs.texts.read_texts.Goals as goal

pub returns-in_err-machine-clause-refused : goal.returns-in_err-machine-clause-refused
returns-in_err-machine-clause-refused c =
    let p = err_from_is_err_and c.from_residual.result c.from_residual.ensures.1 in
    rw (p.1, p.2)
    (refused_so c.args.bytes.now c.loop-number.number c.loop-number.rest.now c.loop-number.machines.items c.loop-number.invariant _ c.loop-number-test.true
    c.in_err-machine.ensures.refused)

pub returns-then-is_empty-clause-reads : goal.returns-then-is_empty-clause-reads
returns-then-is_empty-clause-reads c =
    let pushed : c.push.new.self.items ≡ c.loop-number.machines.items ++ c.in_ok-machine.machine ∷ [] = search (rules, tests) in
    let empty : length c.bytes_from-rest.result.now ≡ 0 = search (rules, tests) in
    rw pushed (ended c.args.bytes.now c.loop-number.number c.loop-number.rest.now c.loop-number.machines.items c.loop-number.invariant c.in_ok-machine.machine c.in_ok-machine.place
    c.in_ok-machine.ensures.reads c.in_ok-machine.ensures.none c.bytes_from-rest.result.now (sym c.bytes_from-rest.ensures) empty c.loop-number-test.true)

pub returns-then-is_empty-clause-sound : goal.returns-then-is_empty-clause-sound
returns-then-is_empty-clause-sound c =
    let pushed : c.push.new.self.items ≡ c.loop-number.machines.items ++ c.in_ok-machine.machine ∷ [] = search (rules, tests) in
    rw pushed (All-push (λ (one : Machine). IsSound (reading_of one)) c.loop-number.machines.items c.in_ok-machine.machine c.loop-number.invariant.sound c.in_ok-machine.ensures.sound)

pub loop-number-preserved : goal.loop-number-preserved
loop-number-preserved c =
    let pushed : c.push.new.self.items ≡ c.loop-number.machines.items ++ c.in_ok-machine.machine ∷ [] = search (rules, tests) in
    let some : 0 < length c.bytes_from-rest.result.now = search (rules, tests) in
    rw pushed (goes_on c.args.bytes.now c.loop-number.number c.loop-number.rest.now c.loop-number.machines.items c.loop-number.invariant c.in_ok-machine.machine c.in_ok-machine.place
    c.in_ok-machine.ensures.reads c.in_ok-machine.ensures.none c.bytes_from-rest.result.now (sym c.bytes_from-rest.ensures) some c.in_ok-machine.ensures.sound)

pub returns-clause-refused : goal.returns-clause-refused
returns-clause-refused c =
    too_many c.args.bytes.now c.loop-number.number c.loop-number.rest.now c.loop-number.machines.items c.loop-number.invariant
    (omega (arith, c.loop-number-test.false)) (omega (arith, c.loop-number.auto.number-end))

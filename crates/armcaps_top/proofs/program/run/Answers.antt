use Rattle.std.proofs.Common.{◌≡◌, Option, Some, map, string_bytes, subst, sym, refl, ◌∙◌}
use Rattle.armcaps_top.specs.Commands.{command_of}
use Rattle.armcaps_top.specs.Inside.{AreCoresGiven}
use Rattle.armcaps_top.specs.ErrorLines.{Tells}
use Rattle.armcaps_top.specs.declared.commands.Command.{Command}
use Rattle.armcaps_top.specs.declared.ending.Ending.{Ending}
use Rattle.armcaps_top.proofs.Promising.{promised, promised_nothing}
use Rattle.armcaps_top.proofs.program.run.Goals.{in-Some, in-None}
use Rattle.armcaps_top.proofs.program.run.Goals as goal

pub returns-clause-promises : goal.returns-clause-promises
returns-clause-promises g c =
    let tells : Ending → Type 0 =
    λ ending. Tells ending (g.E.Sink.held c.args.err.now) (g.E.Sink.held c.tell.new.err) (g.E.Sink.faults c.args.err.now) (g.E.Sink.faults c.tell.new.err) in
    elim c.match-of.branch [
      | in-Some w ↦
          let is : command_of (map string_bytes c.args.words.now) ≡ Some w.in-Some.command = sym c.of.ensures.command ∙ w.in-Some.is in
          rw (w.input-is, w.out-is, w.machines-is, c.status.ensures, w.ending-is, is)
          (promised w.in-Some.command _ _ _ w.perform-ending.new.machines.items w.perform-ending.result
          (subst (λ (command : Option Command). AreCoresGiven command) is c.of.ensures.cores) w.perform-ending.ensures.performs
          (subst tells w.ending-is c.tell.ensures))
      | in-None w ↦
          let is = sym c.of.ensures.command ∙ w.in-None.is in
          rw (w.input-is, w.out-is, w.machines-is, c.status.ensures, w.ending-is, is)
          (promised_nothing _ _ _ _ refl refl c.requires (subst tells w.ending-is c.tell.ensures))
    ]

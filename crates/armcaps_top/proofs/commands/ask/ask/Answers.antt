use Rattle.std.proofs.Common.{drop, string_bytes, subst, sym}
use Rattle.std.specs.Prelude.{Result}
use Rattle.armcaps_top.specs.Answer.{of_document}
use Rattle.armcaps_top.specs.Document.{Document}
use Rattle.armcaps_top.specs.Inside.{Comes, as_bytes}
use Rattle.armcaps_top.specs.declared.commands.Command.TheVariants.{Ask}
use Rattle.armcaps_top.specs.declared.refusal.Refusal.{Refusal}
use Rattle.armcaps_top.proofs.commands.ask.ask.Goals as goal

pub returns : goal.returns
returns c =
    subst (λ (read : Result Document Refusal). Comes (of_document (Ask c.args.query) read) c.output.new.machines.items (as_bytes string_bytes c.output.result))
    (sym c.in_ok-machine.ensures.document) (c.output.ensures (drop c.in_ok-machine.field-0-1 c.args.bytes.now))

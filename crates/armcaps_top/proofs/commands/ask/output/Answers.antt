use Rattle.std.proofs.Common.{string_bytes, subst, sym}
use Rattle.armcaps_text.specs.Document.{reading_of}
use Rattle.armcaps_top.specs.Inside.{Answers, as_bytes}
use Rattle.armcaps_top.specs.declared.commands.Command.TheVariants.{Ask}
use Rattle.armcaps_top.specs.declared.commands.Query.{Query}
use Rattle.armcaps_top.proofs.commands.ask.output.Goals as goal

pub returns-in-Report : goal.returns-in-Report
returns-in-Report c =
    subst (λ (query : Query). Answers (Ask query) (reading_of c.args.machine) c.report_output.new.machines.items (as_bytes string_bytes c.report_output.result))
    (sym c.in-Report.is) c.report_output.ensures

pub returns-in-Mrs : goal.returns-in-Mrs
returns-in-Mrs c =
    subst (λ (query : Query). Answers (Ask query) (reading_of c.args.machine) c.read_output.new.machines.items (as_bytes string_bytes c.read_output.result))
    (sym c.in-Mrs.is) c.read_output.ensures

pub returns-in-Trace : goal.returns-in-Trace
returns-in-Trace c =
    subst (λ (query : Query). Answers (Ask query) (reading_of c.args.machine) c.trace_output.new.machines.items (as_bytes string_bytes c.trace_output.result))
    (sym c.in-Trace.is) c.trace_output.ensures

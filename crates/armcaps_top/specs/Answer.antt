-- What a command makes of its input: the machines that it brings up, and what it writes or why it writes nothing.
use Rattle.std.specs.Prelude.{ℕ, ◌+◌, if◌then◌else◌, List, [], ◌∷◌, map, Option, Some, None, is_some, Result, Ok, Err}
use Rattle.std.specs.Option.{option_map, option_or}
use Rattle.armcaps_tables.specs.Core.{Core}
use Rattle.armcaps_board.specs.declared.event.Event.{Event}
use Rattle.armcaps_board.specs.Board.{Board}
use Rattle.armcaps_board.specs.Steps.{history}
use Rattle.armcaps_boot.specs.Admission.{admitted_cores_after}
use Rattle.armcaps_boot.specs.ParkOrPanic.{halt_of}
use Rattle.armcaps_boot.specs.Findings.{Findings, findings_after}
use Rattle.armcaps_boot.specs.declared.park_or_panic.Halt.{Halt}
use Rattle.armcaps_mrs.specs.Reading.{user_read}
use Rattle.armcaps_report.specs.Report.{report_of}
use Rattle.armcaps_top.specs.Audit.{audit_output}
use Rattle.armcaps_top.specs.Demo.{demo_output, generated_document}
use Rattle.armcaps_top.specs.Document.{Document, document, document_pair, documents}
use Rattle.armcaps_top.specs.Jump.{jump_output}
use Rattle.armcaps_top.specs.Elf.{elf_output}
use Rattle.armcaps_top.specs.Mrs.{read_output}
use Rattle.armcaps_top.specs.Patch.{patch_output, unless}
use Rattle.armcaps_top.specs.Pool.{pool_output}
use Rattle.armcaps_report.specs.Trace.{trace_of}
use Rattle.armcaps_top.specs.declared.commands.Command.{Command}
use Rattle.armcaps_top.specs.declared.commands.Command.TheVariants.{Ask, Patch, Elf, Jump, Pool, Audit, Demo}
use Rattle.armcaps_top.specs.declared.commands.Query.{Query}
use Rattle.armcaps_top.specs.declared.commands.Query.TheVariants.{Report, Mrs, Trace}
use Rattle.armcaps_report.specs.declared.user_reads.ReadRefused.{ReadRefused}
use Rattle.armcaps_top.specs.declared.reason.Reason.{Reason}
use Rattle.armcaps_top.specs.declared.reason.Reason.TheVariants.{Usage, Refused, Panicked, MachinePanicked, NotRead}
use Rattle.armcaps_top.specs.declared.refusal.Refusal.{Refusal}

-- the steps of a document, the newest first
abbrev pub steps_of : Document → List Event
steps_of found = history found.reading.steps

-- what stops the machine of a document, if a step of it does
abbrev pub halt_in : Document → Option Halt
halt_in found = halt_of found.reading.board (steps_of found)

-- the cores of a document that were ever admitted
abbrev pub admitted_in : Document → List Core
admitted_in found = admitted_cores_after found.reading.board (steps_of found)

-- a read that comes to this
abbrev pub read_or_not : Result (List ℕ) ReadRefused → Result (List ℕ) Reason
read_or_not (Ok output) = Ok output
read_or_not (Err refused) = Err (NotRead refused)

-- what a query writes of the steps of a board, the newest first, none of which stops the machine
abbrev pub query_output : Query → Board → List Event → Result (List ℕ) Reason
query_output Report board steps = Ok (report_of (findings_after board steps))
query_output (Mrs core word) board steps =
    read_or_not (read_output core word (user_read (findings_after board steps) core word))
query_output Trace board steps = Ok (trace_of board steps)

-- what a command writes of a document where no step stops its machine
abbrev pub output_in : Command → Document → Result (List ℕ) Reason
output_in (Ask query) found = query_output query found.reading.board (steps_of found)
output_in Patch found = patch_output found.reading.board (steps_of found) found.reading found.image
output_in (Jump table count) found =
    jump_output table count found.reading.board (steps_of found) found.reading found.image
output_in Elf found = elf_output found.reading.board (steps_of found) found.reading found.image
output_in Pool found = Ok (pool_output (findings_after found.reading.board (steps_of found) ∷ []))
output_in Audit found = audit_output found.reading.board (steps_of found) found.reading found.image
output_in (Demo seed cores) found =
    Ok (demo_output seed cores found.reading.board (steps_of found) found.reading found.image)

-- nothing is written where the machine was stopped
abbrev pub unless_stopped : Option Halt → Result (List ℕ) Reason → Result (List ℕ) Reason
unless_stopped None output = output
unless_stopped (Some halt) output = Err (Panicked halt)

-- what a command makes of its input: the documents whose machines are brought up, in their order up to the first that
-- a step stops, and what is written, or the reason why nothing is
pub record Answer : Type 0 where
  pub machines : List Document
  pub output : Result (List ℕ) Reason

-- an input that is refused: no machine is brought up
abbrev pub refused : Refusal → Answer
refused refusal = record { machines = []; output = Err (Refused refusal) }

-- what a command makes of one document, or of an input that is none
abbrev pub of_document : Command → Result Document Refusal → Answer
of_document command (Ok found) =
    record { machines = found ∷ []; output = unless_stopped (halt_in found) (output_in command found) }
of_document command (Err refusal) = refused refusal

-- the documents in their order, up to the first whose machine a step stops
abbrev pub up_to_stop : List Document → List Document
up_to_stop [] = []
up_to_stop (found ∷ more) = found ∷ (if is_some (halt_in found) then [] else up_to_stop more)

-- the first of some documents whose machine a step stops, by its number, and what stops it; the documents are counted
-- from this number on
abbrev pub first_stop : ℕ → List Document → Option Reason
first_stop number [] = None
first_stop number (found ∷ more) =
    option_or (option_map (MachinePanicked number) (halt_in found)) (first_stop (number + 1) more)

-- what there is to tell of the machine of a document whose steps are all made
abbrev pub findings_in : Document → Findings
findings_in found = findings_after found.reading.board (steps_of found)

-- what `pool` makes of documents, which are counted from 0, or of an input that is none
abbrev pub of_documents : Result (List Document) Refusal → Answer
of_documents (Ok all) = record {
  machines = up_to_stop all;
  output = unless (first_stop 0 all) (pool_output (map findings_in all));
}
of_documents (Err refusal) = refused refusal

-- what a command makes of the bytes of its input; `demo` has a document of its own, which is made from its words
abbrev pub answer_of : Command → List ℕ → Answer
answer_of (Ask query) input = of_document (Ask query) (document input)
answer_of Patch input = of_document Patch (document input)
answer_of (Jump table count) input = of_document (Jump table count) (document input)
answer_of Elf input = of_document Elf (document input)
answer_of Pool input = of_documents (documents input)
answer_of Audit input = of_document Audit (document_pair input)
answer_of (Demo seed cores) input = of_document (Demo seed cores) (Ok (generated_document seed cores))

-- what words come to: those that are no form of a command bring no machine up
abbrev pub answer_for : Option Command → List ℕ → Answer
answer_for None input = record { machines = []; output = Err Usage }
answer_for (Some command) input = answer_of command input

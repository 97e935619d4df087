use Rattle.std.proofs.Common.{◌≡◌, Ok, ap, string_bytes, subst, rules, ◌∙◌}
use Rattle.armcaps_alt.specs.Names.{NameLists}
use Rattle.armcaps_boot.specs.Findings.{findings_of}
use Rattle.armcaps_patch.specs.Features.{features_of}
use Rattle.armcaps_text.specs.Document.{reading_of}
use Rattle.armcaps_top.specs.Answer.{of_document}
use Rattle.armcaps_report.specs.Demo.{demo_lines}
use Rattle.armcaps_top.specs.Demo.{counts_of}
use Rattle.armcaps_top.specs.Document.{Document}
use Rattle.armcaps_top.specs.Inside.{Comes}
use Rattle.armcaps_top.specs.declared.commands.Command.TheVariants.{Demo}
use Rattle.armcaps_top.proofs.Generated.{document_made, told}
use Rattle.armcaps_top.proofs.GeneratedSites.{generated_apart}
use Rattle.armcaps_top.proofs.Performing.{came, only_through}
use Rattle.armcaps_top.proofs.commands.demo.demo.Goals as goal

pub counts_of-requires-clause-countable : goal.counts_of-requires-clause-countable
counts_of-requires-clause-countable c = record {
  size = search rules;
  table = search rules;
  accepted = search rules;
  apart = generated_apart c.args.seed c.args.cores (reading_of c.in-Ok.machine) c.deref.result.now (features_of c.only.result.now c.in_ok-names.names)
      c.in-Ok.ensures.reading (c.deref.ensures.value ∙ c.in-Ok.ensures.image);
}

pub returns-in-Ok-demo_lines : goal.returns-in-Ok-demo_lines
returns-in-Ok-demo_lines c =
    let reading = reading_of c.in-Ok.machine in
    let found : Document = record { reading = reading; image = c.deref.result.now } in
    let text = string_bytes c.in-Ok-demo_lines.text in
    let machines = c.bring.new.machines.items in
    let made = c.in-Ok-demo_lines.ensures ∙ ap (demo_lines c.args.seed c.args.cores) c.in-Ok-counts_of.ensures in
    let lines = subst (λ (names : NameLists). text ≡ demo_lines c.args.seed c.args.cores
    (counts_of (findings_of c.only.result.now) (features_of c.only.result.now names) c.deref.result.now reading.layout)) c.in_ok-names.ensures.names made in
    let through = only_through c.only.result.now c.in_ok-names.ensures.up c.requires.none c.only.ensures in
    subst (λ (one : Document). Comes (of_document (Demo c.args.seed c.args.cores) (Ok one)) machines (Ok text))
    (document_made c.args.seed c.args.cores reading c.deref.result.now c.in-Ok.ensures.reading (c.deref.ensures.value ∙ c.in-Ok.ensures.image))
    (came (Demo c.args.seed c.args.cores) found c.args.machines.now.items machines text c.in_ok-names.ensures.up c.requires.none
    (told c.args.seed c.args.cores reading c.deref.result.now c.only.result.now text through lines))

use Rattle.std.proofs.Common.{◌∙◌, sym, ap, Some, rules, w64}
use Rattle.std.proofs.lemmas.Int.{to_z-of_z}
use mir.Val.{SFits}
use Rattle.armcaps_tables.specs.Fields.{field_in}
use Rattle.armcaps_tables.specs.RowOf.{row_of}
use Rattle.armcaps_sanit.proofs.SystemWords.{system_field_at}
use Rattle.armcaps_sanit.proofs.system.System.field.Goals as goal

pub returns-clause-stands : goal.returns-clause-stands
returns-clause-stands c = λ overrides cores stands.
    let fits : SFits w64 c.value.result = search rules in
    rw c.field.ensures.row (ap Some (sym (to_z-of_z w64 c.value.result fits ∙ c.value.ensures.value
    ∙ ap (field_in (row_of c.field.result)) c.word.ensures.word
    ∙ system_field_at overrides cores c.args.self.now c.args.reg c.args.index (row_of c.field.result) stands
    c.field.ensures.row)))

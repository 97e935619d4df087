use Rattle.std.proofs.Common.{◌<◌, Some, w64, sym, ◌∙◌, arith}
use Rattle.std.proofs.lemmas.Int.{to_z-of_z}
use Rattle.armcaps_tables.proofs.Overriding.{changed_elsewhere, changed_fits, changed_here, changed_whole}
use Rattle.armcaps_tables.proofs.Tables.{few_rows}
use Rattle.armcaps_tables.proofs.overrides.Overrides.set.Goals as goal

pub invariant_of-self : goal.invariant_of-self
invariant_of-self c =
    let within : c.args.index < 16 = omega (arith, few_rows c.args.reg) in
    rw (c.place.ensures.value, to_z-of_z w64 c.cut_value.result (record { sfits = c.cut_value.type_inv }))
    (record {
      fit = changed_fits c.self.inside.values c.args.reg c.args.index
          (Some c.cut_value.result) c.self.invariant.whole within c.self.invariant.fit c.cut_value.ensures.fits;
      whole = changed_whole c.self.inside.values c.args.reg c.args.index (Some c.cut_value.result) c.self.invariant.whole;
    })

pub returns-clause-here : goal.returns-clause-here
returns-clause-here c =
    let within : c.args.index < 16 = omega (arith, few_rows c.args.reg) in
    rw (c.place.ensures.value, to_z-of_z w64 c.cut_value.result (record { sfits = c.cut_value.type_inv }))
    (changed_here c.self.inside.values c.args.reg c.args.index (Some c.cut_value.result) c.self.invariant.whole within
    ∙ sym c.cut_value.ensures.value)

pub returns-clause-others : goal.returns-clause-others
returns-clause-others c = λ other place apart.
    rw (c.place.ensures.value, ← c.self.view_is)
    (changed_elsewhere c.self.inside.values c.args.reg other c.args.index place _ c.self.invariant.whole apart)

pub returns-clause-whole : goal.returns-clause-whole
returns-clause-whole c =
    rw c.place.ensures.value (changed_whole c.self.inside.values c.args.reg c.args.index _ c.self.invariant.whole)

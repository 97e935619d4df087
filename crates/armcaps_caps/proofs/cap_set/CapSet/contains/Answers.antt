use Rattle.std.proofs.Common.{◌≤◌, ◌∙◌, ap, sym, arith}
use Rattle.std.proofs.lemmas.Bool.{le-ltb}
use Rattle.armcaps_caps.specs.Set.{holds}
use Rattle.armcaps_caps.proofs.Members.{holds_above}
use Rattle.armcaps_caps.proofs.cap_set.CapSet.contains.Goals as goal

pub returns-else-number-lt-CAPABILITIES : goal.returns-else-number-lt-CAPABILITIES
returns-else-number-lt-CAPABILITIES c =
    let past : 53 ≤ c.args.number = omega arith in
    le-ltb c.args.number 53 past
    ∙ sym (ap (λ set. holds set c.args.number) (sym c.self.view_is)
    ∙ holds_above c.self.inside.bits c.args.number c.self.invariant past)

use Rattle.std.proofs.Common.{◌∙◌, ◌<◌, ap, subst, sym, arith}
use Rattle.armcaps_caps.specs.Set.{holds}
use Rattle.armcaps_boot.specs.Facts.{Facts}
use Rattle.armcaps_boot.specs.Numbers.{is_in}
use Rattle.armcaps_boot.specs.World.{World}
use Rattle.armcaps_boot.proofs.Below.{erratum_is_counted}
use Rattle.armcaps_boot.proofs.FirstNumbers.{is_in-numbers}
use Rattle.armcaps_boot.proofs.SafeSystem.{member_of, else_none, enabled_after, enabled_before, enabled_is_supported, needed_is_enabled}
use Rattle.armcaps_boot.proofs.boot.Boot.enabled.Goals as goal

pub returns-then-number-lt-CAPABILITIES-clause-member : goal.returns-then-number-lt-CAPABILITIES-clause-member
returns-then-number-lt-CAPABILITIES-clause-member c =
    c.contains.ensures ∙ sym (is_in-numbers (holds c.self.inside.machine.enabled) 53 c.args.number c.if-number-lt-CAPABILITIES.true)
    ∙ ap (λ (w : World). is_in w.enabled c.args.number) c.self.view_is

pub returns-then-number-lt-CAPABILITIES-clause-before : goal.returns-then-number-lt-CAPABILITIES-clause-before
returns-then-number-lt-CAPABILITIES-clause-before c final =
    returns-then-number-lt-CAPABILITIES-clause-member c ∙ enabled_before c.args.self.now (subst Facts c.self.view_is c.self.invariant) final c.args.number

pub returns-then-number-lt-CAPABILITIES-clause-after : goal.returns-then-number-lt-CAPABILITIES-clause-after
returns-then-number-lt-CAPABILITIES-clause-after c final =
    returns-then-number-lt-CAPABILITIES-clause-member c ∙ enabled_after c.args.self.now (subst Facts c.self.view_is c.self.invariant) final c.args.number

pub returns-then-number-lt-CAPABILITIES-clause-supported : goal.returns-then-number-lt-CAPABILITIES-clause-supported
returns-then-number-lt-CAPABILITIES-clause-supported c final scope on =
    enabled_is_supported c.args.self.now (subst Facts c.self.view_is c.self.invariant) final c.args.number scope
    (sym (returns-then-number-lt-CAPABILITIES-clause-after c final) ∙ on)

pub returns-then-number-lt-CAPABILITIES-clause-needed : goal.returns-then-number-lt-CAPABILITIES-clause-needed
returns-then-number-lt-CAPABILITIES-clause-needed c final erratum core admitted has =
    returns-then-number-lt-CAPABILITIES-clause-after c final
    ∙ needed_is_enabled c.args.self.now (subst Facts c.self.view_is c.self.invariant) final c.args.number erratum core admitted has

pub returns-else-number-lt-CAPABILITIES-clause-member : goal.returns-else-number-lt-CAPABILITIES-clause-member
returns-else-number-lt-CAPABILITIES-clause-member c =
    else_none c.args.number (holds c.self.inside.machine.enabled c.args.number) c.if-number-lt-CAPABILITIES.false
    ∙ member_of c.self.inside.machine.enabled c.args.number
    ∙ ap (λ (w : World). is_in w.enabled c.args.number) c.self.view_is

pub returns-else-number-lt-CAPABILITIES-clause-before : goal.returns-else-number-lt-CAPABILITIES-clause-before
returns-else-number-lt-CAPABILITIES-clause-before c final =
    returns-else-number-lt-CAPABILITIES-clause-member c ∙ enabled_before c.args.self.now (subst Facts c.self.view_is c.self.invariant) final c.args.number

pub returns-else-number-lt-CAPABILITIES-clause-after : goal.returns-else-number-lt-CAPABILITIES-clause-after
returns-else-number-lt-CAPABILITIES-clause-after c final =
    returns-else-number-lt-CAPABILITIES-clause-member c ∙ enabled_after c.args.self.now (subst Facts c.self.view_is c.self.invariant) final c.args.number

pub returns-else-number-lt-CAPABILITIES-clause-needed : goal.returns-else-number-lt-CAPABILITIES-clause-needed
returns-else-number-lt-CAPABILITIES-clause-needed c final erratum core admitted has =
    let within : c.args.number < 53 = erratum_is_counted c.args.number erratum in absurd (let no : ⊥ = omega (arith, c.if-number-lt-CAPABILITIES.false) in no)

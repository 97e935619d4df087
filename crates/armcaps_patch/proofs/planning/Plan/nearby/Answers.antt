-- What stands near tells what all tell.
use Rattle.std.proofs.Common.{◌≡◌, ◌/◌, ap, arith}
use Rattle.armcaps_patch.specs.Kept.{Planned}
use Rattle.armcaps_patch.proofs.Grouped.{in_order, near_known, near_tells}
use Rattle.armcaps_patch.proofs.planning.Plan.nearby.Goals as goal

pub numbers_in-requires-clause-first : goal.numbers_in-requires-clause-first
numbers_in-requires-clause-first c =
    let size : c.self.inside.size ≡ c.args.self.now.size = ap (λ (p : Planned). p.size) c.self.view_is in
    omega (arith, size, c.self.invariant.cover, c.saturating_sub.ensures)

pub numbers_in-requires-clause-last : goal.numbers_in-requires-clause-last
numbers_in-requires-clause-last c =
    let size : c.self.inside.size ≡ c.args.self.now.size = ap (λ (p : Planned). p.size) c.self.view_is in
    omega (arith, size, c.self.invariant.cover, c.saturating_sub-2.ensures)

pub numbers_in-requires-clause-order : goal.numbers_in-requires-clause-order
numbers_in-requires-clause-order c =
    let size : c.self.inside.size ≡ c.args.self.now.size = ap (λ (p : Planned). p.size) c.self.view_is in
    (in_order _ _ _ _ c.self.invariant c.saturating_sub.result (c.saturating_sub-2.result / 256) (omega (arith, c.saturating_sub.ensures, c.saturating_sub-2.ensures)) (omega (arith, size, c.self.invariant.cover, c.saturating_sub-2.ensures))).0

pub numbers_in-requires-clause-within : goal.numbers_in-requires-clause-within
numbers_in-requires-clause-within c =
    let size : c.self.inside.size ≡ c.args.self.now.size = ap (λ (p : Planned). p.size) c.self.view_is in
    (in_order _ _ _ _ c.self.invariant c.saturating_sub.result (c.saturating_sub-2.result / 256) (omega (arith, c.saturating_sub.ensures, c.saturating_sub-2.ensures)) (omega (arith, size, c.self.invariant.cover, c.saturating_sub-2.ensures))).1

pub returns-clause-tells : goal.returns-clause-tells
returns-clause-tells c = λ place low high.
    let size : c.self.inside.size ≡ c.args.self.now.size = ap (λ (p : Planned). p.size) c.self.view_is in
    let tells = near_tells _ _ _ _ c.self.invariant place c.args.from c.args.to low high (omega (arith, size)) in
    rw (← c.self.view_is, c.numbers_in.ensures, c.saturating_sub.ensures, c.saturating_sub-2.ensures) tells

pub returns-clause-known : goal.returns-clause-known
returns-clause-known c = rw (← c.self.view_is, c.numbers_in.ensures) (near_known _ _ _ _ c.self.invariant c.saturating_sub.result (c.saturating_sub-2.result / 256))

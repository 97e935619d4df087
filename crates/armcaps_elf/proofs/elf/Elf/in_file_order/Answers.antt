use Rattle.std.proofs.Common.{◌+◌, ◌≤◌, ap, arith, subst, sym}
use Rattle.std.specs.List.{All}
use Rattle.std.proofs.lemmas.List.Sorted.{All-permutation}
use Rattle.armcaps_elf.specs.declared.section.Section.{Section}
use Rattle.armcaps_elf.specs.Standing.{Loaded}
use Rattle.armcaps_elf.proofs.elf.Elf.in_file_order.Goals as goal

pub returns-clause-above : goal.returns-clause-above
returns-clause-above c = λ k d within.
    let P = λ (s : Section). c.self.inside.base ≤ s.address in
    let all = subst (All P) (sym c.deref.ensures.value) (All-permutation P _ _ c.self.invariant.same c.self.invariant.above) in
    omega (arith, all k d within, ap (λ (v : Loaded). v.base) c.self.view_is)

pub returns-clause-below : goal.returns-clause-below
returns-clause-below c = λ k d within.
    let P = λ (s : Section). s.address + s.size ≤ c.self.inside.base + c.self.inside.span in
    let all = subst (All P) (sym c.deref.ensures.value) (All-permutation P _ _ c.self.invariant.same c.self.invariant.below) in
    omega (arith, all k d within, ap (λ (v : Loaded). v.base) c.self.view_is, ap (λ (v : Loaded). v.span) c.self.view_is)

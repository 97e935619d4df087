use Rattle.std.proofs.Common.{◌≡◌, ◌+◌, ◌<◌, ◌≤◌, ℕ, Bool, List, ap, false, subst, sym, true, ◌∙◌}
use Rattle.std.specs.List.{list_any}
use Rattle.armcaps_elf.specs.declared.stretch.Stretch.{Stretch}
use Rattle.armcaps_elf.specs.Headers.{sections_of}
use Rattle.armcaps_elf.specs.Sections.{base_of}
use Rattle.armcaps_elf.specs.Standing.{Loaded, StandsFor}
use Rattle.armcaps_elf.specs.Stretches.{in_stretch, is_held}
use Rattle.armcaps_elf.proofs.Loading.{by_answer, held_same}
use Rattle.armcaps_elf.proofs.elf.Elf.covers.Goals as goal

pub returns-clause-loaded : goal.returns-clause-loaded
returns-clause-loaded c = λ file stands.
    let elf = c.self.inside in
    let stretches : List Stretch = elf.stretches.items in
    let sections = sections_of file in
    let kept = subst (λ (loaded : Loaded). StandsFor loaded file) (sym c.self.view_is) stands in
    let same : (n : ℕ) → list_any (in_stretch n) c.deref.result.now ≡ is_held sections (base_of sections + n) =
    λ n. ap (list_any (in_stretch n)) c.deref.ensures.value
    ∙ (c.self.invariant.held n
    ∙ (held_same sections elf.sections.items (elf.base + n) kept.sections
    ∙ ap (λ (base : ℕ). is_held sections (base + n)) kept.base)) in
    by_answer c.are_covered.result (λ n. is_held sections (base_of sections + n)) c.args.start c.args.length
    (λ yes n low high. sym (same n) ∙ c.are_covered.ensures.all yes n low high)
    (λ none. let one = c.are_covered.ensures.some none in (one.0, one.1, one.2, sym (same one.0) ∙ one.3))

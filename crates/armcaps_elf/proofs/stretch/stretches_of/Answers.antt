use Rattle.std.proofs.Common.{◌≡◌, ◌+◌, ◌-◌, ◌≤◌, ◌||◌, Bool, ap, arith, get_or, refl, sym, ◌∙◌, length, ◌<◌}
use Rattle.std.specs.List.{list_any}
use Rattle.std.proofs.lemmas.List.{get_or_default}
use Rattle.std.proofs.lemmas.List.Folds.{list_any_more}
use Rattle.armcaps_elf.specs.declared.section.Section.{Section}
use Rattle.armcaps_elf.specs.Sections.{holds}
use Rattle.armcaps_elf.proofs.Covering.{same_bytes}
use Rattle.armcaps_elf.proofs.stretch.stretches_of.Goals as goal

abbrev nothing : Section
nothing = record { address = 0; place = 0; size = 0 }

both : {a b c d : Bool} → a ≡ c → b ≡ d → (a || b) ≡ (c || d)
both one other = rw (one, other) refl

pub loop-section-preserved : goal.loop-section-preserved
loop-section-preserved c =
    let xs = c.args.sections.now in
    let index = c.loop-section.section-index in
    let base = c.args.base in
    let x = get_or xs index nothing in
    let within : index < length xs = omega arith in
    let above = c.requires.above index nothing within in
    record {
      held = λ n.
          c.in_ok-add.ensures.held n
          ∙ (both (c.loop-section.invariant.held n) (same_bytes x.address x.size base n above)
          ∙ sym (list_any_more (holds (λ s. s.address) (base + n)) xs index nothing within));
      apart = c.in_ok-add.ensures.apart;
      behind = λ j d high short k e inside.
          let end = c.in_ok-add.ensures.behind k e inside in
          let follow = c.requires.rise index j d (omega arith) short in
          let same : (get_or xs index d).address + (get_or xs index d).size ≡ x.address + x.size =
          ap (λ (s : Section). s.address + s.size) (get_or_default xs index d nothing within) in
          omega (arith, end, follow, same, above);
    }

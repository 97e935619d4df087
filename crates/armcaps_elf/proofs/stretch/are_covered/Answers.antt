use Rattle.std.proofs.Common.{◌≡◌, ◌-◌, ◌<◌, ◌≤◌, arith, get_or, max}
use Rattle.std.proofs.lemmas.Bool.Decides.{nat_tests}
use Rattle.armcaps_elf.specs.declared.stretch.Stretch.{Stretch}
use Rattle.armcaps_elf.proofs.Covering.{ends_early, none_begun, too_short}
use Rattle.armcaps_elf.proofs.stretch.are_covered.Goals as goal

abbrev nothing : Stretch
nothing = record { begin = 0; end = 0 }

pub returns-then-count-gt0-clause-some : goal.returns-then-count-gt0-clause-some
returns-then-count-gt0-clause-some c = λ fails.
    let xs = c.args.stretches.now in
    let count = c.begun-count.result in
    let s = get_or xs (count - 1) nothing in
    let short : s.end < c.args.end = too_short c.args.end s.end fails in
    let parted = c.begun-count.ensures.parted in (
      max c.args.start s.end,
      omega arith,
      omega arith,
      ends_early xs count c.args.start c.requires (omega arith) c.begun-count.ensures.within
          (λ k d low. parted.0 k d (omega arith) low) (λ k d high within. parted.1 k d high within) nothing,
    )

pub returns-else-count-gt0-clause-some : goal.returns-else-count-gt0-clause-some
returns-else-count-gt0-clause-some c = λ fails. (
  c.args.start,
  omega arith,
  omega arith,
  none_begun c.args.stretches.now c.args.start (λ k d within.
      c.begun-count.ensures.parted.1 k d (omega arith) within),
)

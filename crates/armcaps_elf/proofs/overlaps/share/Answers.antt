use Rattle.std.proofs.Common.{◌+◌, ◌-◌, ◌<◌, arith, get_or, sym}
use Rattle.armcaps_elf.specs.declared.section.Section.{Section}
use Rattle.armcaps_elf.specs.Sections.{begin_of}
use Rattle.armcaps_elf.proofs.Sharing.{all_follow, near_overlap, none_overlap}
use Rattle.armcaps_elf.proofs.overlaps.share.Goals as goal

abbrev nothing : Section
nothing = record { address = 0; place = 0; size = 0 }

pub returns-then-of-before-clause-shared : goal.returns-then-of-before-clause-shared
returns-then-of-before-clause-shared c =
    let xs = c.args.sections.now in
    let index = c.loop-index.index in
    let order = c.requires.rise (index - 1) index nothing (omega arith) (omega arith) in
    let inside : begin_of c.args.begin (get_or xs index nothing) < begin_of c.args.begin (get_or xs (index - 1) nothing) + (get_or xs (index - 1) nothing).size =
    omega arith in
    sym (near_overlap (begin_of c.args.begin) xs index nothing (omega arith) (omega arith) c.requires.rise c.requires.some inside)

pub returns-clause-shared : goal.returns-clause-shared
returns-clause-shared c =
    let follow = all_follow (begin_of c.args.begin) c.args.sections.now c.requires.rise (λ k d within.
    c.loop-index.invariant k d (omega arith)) in
    sym (none_overlap (begin_of c.args.begin) c.args.sections.now follow)

pub returns-clause-follow : goal.returns-clause-follow
returns-clause-follow c = λ none. all_follow (begin_of c.args.begin) c.args.sections.now c.requires.rise (λ k d within.
    c.loop-index.invariant k d (omega arith))

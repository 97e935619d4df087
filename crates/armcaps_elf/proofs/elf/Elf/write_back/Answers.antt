use Rattle.std.proofs.Common.{◌+◌, ◌≤◌, arith, length, subst}
use Rattle.std.proofs.lemmas.List.Sorted.{All-permutation}
use Rattle.armcaps_io.specs.Streams.{Appends, AppendsPrefix}
use Rattle.armcaps_elf.specs.declared.section.Section.{Section}
use Rattle.armcaps_elf.proofs.Written.{on_err, on_ok, put_is}
use Rattle.armcaps_elf.proofs.elf.Elf.write_back.Goals as goal

pub write_sections-requires-clause-inside : goal.write_sections-requires-clause-inside
write_sections-requires-clause-inside g c =
    All-permutation (λ (s : Section). s.place + s.size ≤ length c.args.file.now) _ _ c.in_file_order.ensures.same c.requires.stands.inside

pub write_sections-requires-clause-above : goal.write_sections-requires-clause-above
write_sections-requires-clause-above g c = λ k d within. omega (arith, c.base.ensures, c.in_file_order.ensures.above k d within)

pub write_sections-requires-clause-below : goal.write_sections-requires-clause-below
write_sections-requires-clause-below g c = λ k d within.
    omega (arith, c.base.ensures, c.requires.span, c.in_file_order.ensures.below k d within)

pub returns-clause-whole : goal.returns-clause-whole
returns-clause-whole g c =
    on_ok c.write_sections.result (subst (Appends _ _) (put_is c.args.self.now c.in_file_order.result.now c.base.result c.args.file.now c.args.flat.now
    c.requires.stands c.in_file_order.ensures.same c.in_file_order.ensures.rise c.base.ensures)) c.write_sections.ensures.whole

pub returns-clause-prefix : goal.returns-clause-prefix
returns-clause-prefix g c =
    on_err c.write_sections.result (subst (AppendsPrefix _ _) (put_is c.args.self.now c.in_file_order.result.now c.base.result c.args.file.now
    c.args.flat.now c.requires.stands c.in_file_order.ensures.same c.in_file_order.ensures.rise c.base.ensures)) c.write_sections.ensures.prefix

-- Each kind that holds is the first, where those before it don't hold.
use Rattle.std.proofs.Common.{◌≡◌, ◌+◌, ℕ, Bool, List, ap, false, length, nat_lt, not, sym, true, ◌∙◌}
use Rattle.std.specs.List.{list_any}
use Rattle.armcaps_elf.specs.declared.header.Header.{Header}
use Rattle.armcaps_elf.specs.Headers.{names_of}
use Rattle.armcaps_elf.specs.Refusals.{has_open_name, has_section_outside, is_ended}
use Rattle.armcaps_elf.proofs.FirstKind.{kind-1, kind-2, kind-3, kind-4}
use Rattle.armcaps_elf.proofs.checks.checked_headers.Goals as goal

abbrev outside : ℕ → List Header → Bool
outside len headers = list_any (λ header. nat_lt len (header.section.place + header.section.size)) headers

abbrev unended : List ℕ → List Header → Bool
unended names headers = list_any (λ header. not (is_ended names header.name)) headers

pub returns-then-has_other_header-clause-refused : goal.returns-then-has_other_header-clause-refused
returns-then-has_other_header-clause-refused c = λ kind is.
    let first = kind-1 c.args.file.now (sym c.has_other_header.ensures ∙ c.if-has_other_header.true) in cc

pub returns-then-lacks_headers-clause-refused : goal.returns-then-lacks_headers-clause-refused
returns-then-lacks_headers-clause-refused c = λ kind is.
    let header = sym c.has_other_header.ensures ∙ c.if-has_other_header.false in
    let first = kind-2 c.args.file.now header (sym c.lacks_headers.ensures ∙ c.if-lacks_headers.true) in
    cc

pub returns-then-has_section_outside-clause-refused : goal.returns-then-has_section_outside-clause-refused
returns-then-has_section_outside-clause-refused c = λ kind is.
    let file = c.args.file.now in
    let header = sym c.has_other_header.ensures ∙ c.if-has_other_header.false in
    let sections = sym c.lacks_headers.ensures ∙ c.if-lacks_headers.false in
    let holds : has_section_outside file ≡ true =
    ap (outside (length file)) (sym (c.deref.ensures.value ∙ c.in_ok-headers.ensures))
    ∙ (sym c.has_section_outside.ensures ∙ c.if-has_section_outside.true) in
    let first = kind-3 file header sections holds in
    cc

pub returns-then-has_open_name-clause-refused : goal.returns-then-has_open_name-clause-refused
returns-then-has_open_name-clause-refused c = λ kind is.
    let file = c.args.file.now in
    let header = sym c.has_other_header.ensures ∙ c.if-has_other_header.false in
    let sections = sym c.lacks_headers.ensures ∙ c.if-lacks_headers.false in
    let inside : has_section_outside file ≡ false =
    ap (outside (length file)) (sym (c.deref.ensures.value ∙ c.in_ok-headers.ensures))
    ∙ (sym c.has_section_outside.ensures ∙ c.if-has_section_outside.false) in
    let holds : has_open_name file ≡ true =
    ap (unended (names_of file)) (sym (c.deref-2.ensures.value ∙ c.in_ok-headers.ensures))
    ∙ (ap (λ names. unended names c.deref-2.result.now) (sym c.names.ensures)
    ∙ (sym c.has_open_name.ensures ∙ c.if-has_open_name.true)) in
    let first = kind-4 file header sections inside holds in
    cc

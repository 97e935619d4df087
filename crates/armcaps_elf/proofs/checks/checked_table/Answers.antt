-- No header is the table's, or two are.
use Rattle.std.proofs.Common.{◌≡◌, ◌<◌, ℕ, List, None, Option, Some, ap, arith, count_by, find, is_none, nat_le, sym, true, ◌∙◌}
use Rattle.std.specs.Option.{option_copied, option_map}
use Rattle.std.proofs.lemmas.Bool.Decides.{nat_tests}
use Rattle.armcaps_elf.specs.declared.header.Header.{Header}
use Rattle.armcaps_elf.specs.declared.section.Section.{Section}
use Rattle.armcaps_elf.specs.Headers.{is_table, names_of, table_of}
use Rattle.armcaps_elf.specs.Refusals.{table_count}
use Rattle.armcaps_elf.proofs.FirstKind.{kind-5, kind-6}
use Rattle.armcaps_elf.proofs.checks.checked_table.Goals as goal

abbrev section_of : Option Header → Option Section
section_of found = option_map (λ header. header.section) found

abbrev table_in : List ℕ → List Header → Option Section
table_in names headers = section_of (find (is_table names) headers)

many_are : (n : ℕ) → 1 < n → nat_le 2 n ≡ true
many_are n many = grind (arith, nat_tests)

pub returns-in-None-clause-refused : goal.returns-in-None-clause-refused
returns-in-None-clause-refused c = λ kind is.
    let file = c.args.file.now in
    let none : table_of file ≡ None =
    ap (table_in (names_of file)) (sym c.requires.headers)
    ∙ (ap (λ names. table_in names c.args.headers.now) (sym c.names-names.ensures)
    ∙ ap section_of (sym c.table.ensures ∙ ap option_copied c.in-None.is)) in
    let first = kind-5 file c.requires.passed (ap is_none none) in
    cc

pub returns-in-Some-clause-refused : goal.returns-in-Some-clause-refused
returns-in-Some-clause-refused c = λ kind is.
    let file = c.args.file.now in
    let some : table_of file ≡ Some c.in-Some.field-0.now.section =
    ap (table_in (names_of file)) (sym c.requires.headers)
    ∙ (ap (λ names. table_in names c.args.headers.now) (sym c.names-names.ensures)
    ∙ ap section_of (sym c.table.ensures ∙ ap option_copied c.in-Some.is)) in
    let count : c.count_tables.result ≡ table_count file =
    c.count_tables.ensures ∙ (ap (λ names. count_by (is_table names) c.args.headers.now) c.names-names.ensures
    ∙ ap (λ headers. count_by (is_table (names_of file)) headers) c.requires.headers) in
    let many : nat_le 2 (table_count file) ≡ true = ap (nat_le 2) (sym count) ∙ many_are _ c.if-count_tables-gt1.true in
    let first = kind-6 file c.requires.passed (ap is_none some) many in
    cc

-- The parts that were checked make the whole.
use Rattle.std.proofs.Common.{◌≡◌, ◌+◌, ◌-◌, ◌/◌, ◌<◌, ◌≤◌, Bool, Err, List, Option, Some, ap, arith, false, length, map, subst, sym, true, ◌∙◌}
use Rattle.std.specs.List.{All}
use Rattle.std.specs.List.Sorted.{IsPermutation}
use Rattle.std.specs.Option.{option_map_or}
use Rattle.std.proofs.lemmas.List.Sorted.{All-permutation, IsPermutation-sym, IsPermutation-trans}
use Rattle.armcaps_elf.specs.declared.header.Header.{Header}
use Rattle.armcaps_elf.specs.declared.section.Section.{Section}
use Rattle.armcaps_elf.specs.declared.refused.ElfRefused.TheVariants.{Kind}
use Rattle.armcaps_elf.specs.Headers.{sections_of}
use Rattle.armcaps_elf.specs.Images.{entry_count, table_place}
use Rattle.armcaps_elf.specs.Refusals.{has_bad_table, has_long_span, has_other_size, has_overlap}
use Rattle.armcaps_elf.specs.Sections.{base_of, span_of}
use Rattle.armcaps_elf.specs.Standing.{Loaded, StandsFor}
use Rattle.armcaps_elf.proofs.FirstKind.{kind-7, kind-8, kind-9, kind-none}
use Rattle.armcaps_elf.proofs.Files.{none_empty, sections_inside, table_passes}
use Rattle.armcaps_elf.proofs.elf.Elf.read.Goals as goal

abbrev AllSome : List Section → Type 0
AllSome sections = All (λ section. 0 < section.size) sections

abbrev sections_in : List Header → List Section
sections_in headers = map (λ header. header.section) headers

abbrev bad : Option Section → Bool
bad table = option_map_or has_other_size table false

pub of-requires : goal.of-requires
of-requires c =
    let whole = c.in_ok-sections.ensures ∙ ap sections_in (c.deref-2.ensures.value ∙ c.in_ok-headers.ensures.headers) in
    subst AllSome (sym (c.deref-3.ensures.value ∙ whole)) (none_empty c.args.bytes.now)

pub returns-in-Err-clause-refused : goal.returns-in-Err-clause-refused
returns-in-Err-clause-refused c = λ kind is.
    let file = c.args.bytes.now in
    let whole = c.in_ok-sections.ensures ∙ ap sections_in (c.deref-2.ensures.value ∙ c.in_ok-headers.ensures.headers) in
    let same : c.in-Err.refused ≡ Kind kind = cc in
    let seven : kind ≡ 7 = c.in-Err.ensures.seven kind (ap Err same) in
    let shared : has_overlap (sections_of file) ≡ true =
    ap has_overlap (sym (c.deref-3.ensures.value ∙ whole)) ∙ c.in-Err.ensures.some kind (ap Err same) in
    kind-7 file c.in_ok-headers.ensures.passed c.in_ok-table.ensures.passed shared ∙ ap Some (sym seven)

pub returns-in-None-clause-refused : goal.returns-in-None-clause-refused
returns-in-None-clause-refused c = λ kind is.
    let file = c.args.bytes.now in
    let whole = c.in_ok-sections.ensures ∙ ap sections_in (c.deref-2.ensures.value ∙ c.in_ok-headers.ensures.headers) in
    let seven : has_overlap (sections_of file) ≡ false = ap has_overlap (sym (c.deref-3.ensures.value ∙ whole)) ∙ c.in-Ok.ensures.none in
    let eight : has_long_span (sections_of file) ≡ true = ap has_long_span (sym (c.deref-4.ensures.value ∙ whole)) ∙ c.in-None.ensures.none in
    let first = kind-8 file c.in_ok-headers.ensures.passed c.in_ok-table.ensures.passed seven eight in
    cc

pub returns-then-has_other_size-clause-refused : goal.returns-then-has_other_size-clause-refused
returns-then-has_other_size-clause-refused c = λ kind is.
    let file = c.args.bytes.now in
    let whole = c.in_ok-sections.ensures ∙ ap sections_in (c.deref-2.ensures.value ∙ c.in_ok-headers.ensures.headers) in
    let seven : has_overlap (sections_of file) ≡ false = ap has_overlap (sym (c.deref-3.ensures.value ∙ whole)) ∙ c.in-Ok.ensures.none in
    let eight : has_long_span (sections_of file) ≡ false = ap has_long_span (sym (c.deref-4.ensures.value ∙ whole)) ∙ c.in-Some.ensures.some in
    let nine : has_bad_table file ≡ true = ap bad c.in_ok-table.ensures.table ∙ (sym c.has_other_size.ensures ∙ c.if-has_other_size.true) in
    let first = kind-9 file c.in_ok-headers.ensures.passed c.in_ok-table.ensures.passed seven eight nine in
    cc

pub keep-requires-clause-same : goal.keep-requires-clause-same
keep-requires-clause-same c =
    IsPermutation-trans _ _ _ (IsPermutation-sym _ _ c.in-Ok.ensures.same) c.in-Ok.ensures.same_places

pub keep-requires-clause-some : goal.keep-requires-clause-some
keep-requires-clause-some c =
    let whole = c.in_ok-sections.ensures ∙ ap sections_in (c.deref-2.ensures.value ∙ c.in_ok-headers.ensures.headers) in
    All-permutation (λ (s : Section). 0 < s.size) _ _ c.in-Ok.ensures.same (subst AllSome (sym (c.deref-3.ensures.value ∙ whole)) (none_empty c.args.bytes.now))

pub keep-requires-clause-above : goal.keep-requires-clause-above
keep-requires-clause-above c =
    let same = subst (λ xs. IsPermutation xs c.in-Ok.orders.by_address.items) (c.deref-3.ensures.value ∙ sym c.deref-4.ensures.value) c.in-Ok.ensures.same in
    All-permutation (λ (s : Section). c.in-Some.extent.base ≤ s.address) _ _ same c.in-Some.ensures.above

pub keep-requires-clause-below : goal.keep-requires-clause-below
keep-requires-clause-below c =
    let same = subst (λ xs. IsPermutation xs c.in-Ok.orders.by_address.items) (c.deref-3.ensures.value ∙ sym c.deref-4.ensures.value) c.in-Ok.ensures.same in
    All-permutation (λ (s : Section). s.address + s.size ≤ c.in-Some.extent.base + c.in-Some.extent.span) _ _ same c.in-Some.ensures.below

pub keep-requires-clause-table_above : goal.keep-requires-clause-table_above
keep-requires-clause-table_above c =
    let whole = c.in_ok-sections.ensures ∙ ap sections_in (c.deref-2.ensures.value ∙ c.in_ok-headers.ensures.headers) in
    let P : Section → Type 0 = λ s. c.in-Some.extent.base ≤ s.address in
    table_passes P c.args.bytes.now c.in_ok-table.table (subst (All P) (c.deref-4.ensures.value ∙ whole) c.in-Some.ensures.above) c.in_ok-table.ensures.table

pub keep-requires-clause-table_below : goal.keep-requires-clause-table_below
keep-requires-clause-table_below c =
    let whole = c.in_ok-sections.ensures ∙ ap sections_in (c.deref-2.ensures.value ∙ c.in_ok-headers.ensures.headers) in
    let P : Section → Type 0 = λ s. s.address + s.size ≤ c.in-Some.extent.base + c.in-Some.extent.span in
    table_passes P c.args.bytes.now c.in_ok-table.table (subst (All P) (c.deref-4.ensures.value ∙ whole) c.in-Some.ensures.below) c.in_ok-table.ensures.table

pub returns-clause-stands : goal.returns-clause-stands
returns-clause-stands c =
    let file = c.args.bytes.now in
    let whole = c.in_ok-sections.ensures ∙ ap sections_in (c.deref-2.ensures.value ∙ c.in_ok-headers.ensures.headers) in
    let seven : has_overlap (sections_of file) ≡ false = ap has_overlap (sym (c.deref-3.ensures.value ∙ whole)) ∙ c.in-Ok.ensures.none in
    let eight : has_long_span (sections_of file) ≡ false = ap has_long_span (sym (c.deref-4.ensures.value ∙ whole)) ∙ c.in-Some.ensures.some in
    let nine : has_bad_table file ≡ false = ap bad c.in_ok-table.ensures.table ∙ (sym c.has_other_size.ensures ∙ c.if-has_other_size.false) in
    let table = c.in_ok-table.table in
    let base : c.in-Some.extent.base ≡ base_of (sections_of file) = c.in-Some.ensures.base ∙ ap base_of (c.deref-4.ensures.value ∙ whole) in
    let place : table.address - c.in-Some.extent.base ≡ table_place file =
    ap (λ b. table.address - b) base ∙ sym (ap (λ (t : Option Section). option_map_or (λ s. s.address - base_of (sections_of file)) t 0) c.in_ok-table.ensures.table) in
    let entries : table.size / 12 ≡ entry_count file =
    sym (ap (λ (t : Option Section). option_map_or (λ s. s.size / 12) t 0) c.in_ok-table.ensures.table) in
    subst (λ (e : Loaded). StandsFor e file) (sym c.keep.ensures) (record {
      accepted = kind-none file c.in_ok-headers.ensures.passed c.in_ok-table.ensures.passed seven eight nine;
      sections = subst (λ xs. IsPermutation xs c.in-Ok.orders.by_address.items) (c.deref-3.ensures.value ∙ whole) c.in-Ok.ensures.same;
      rise = c.in-Ok.ensures.rise;
      inside = All-permutation (λ (s : Section). s.place + s.size ≤ length file) _ _
          (subst (λ xs. IsPermutation xs c.in-Ok.orders.by_address.items) (c.deref-3.ensures.value ∙ whole) c.in-Ok.ensures.same)
          (sections_inside file c.in_ok-headers.ensures.passed.inside);
      base = base;
      span = c.in-Some.ensures.span ∙ ap span_of (c.deref-4.ensures.value ∙ whole);
      table = place;
      entries = entries;
    })

pub stretches_of-requires-clause-some : goal.stretches_of-requires-clause-some
stretches_of-requires-clause-some c =
    let whole = c.in_ok-sections.ensures ∙ ap sections_in (c.deref-2.ensures.value ∙ c.in_ok-headers.ensures.headers) in
    let all = All-permutation (λ (s : Section). 0 < s.size) _ _ c.in-Ok.ensures.same
    (subst AllSome (sym (c.deref-3.ensures.value ∙ whole)) (none_empty c.args.bytes.now)) in
    subst AllSome (sym c.deref-5.ensures.value) all

pub stretches_of-requires-clause-above : goal.stretches_of-requires-clause-above
stretches_of-requires-clause-above c =
    let P = λ (s : Section). c.in-Some.extent.base ≤ s.address in
    let same = subst (λ xs. IsPermutation xs c.in-Ok.orders.by_address.items) (c.deref-3.ensures.value ∙ sym c.deref-4.ensures.value) c.in-Ok.ensures.same in
    subst (All P) (sym c.deref-5.ensures.value) (All-permutation P _ _ same c.in-Some.ensures.above)

pub stretches_of-requires-clause-below : goal.stretches_of-requires-clause-below
stretches_of-requires-clause-below c = λ k d within.
    let P = λ (s : Section). s.address + s.size ≤ c.in-Some.extent.base + c.in-Some.extent.span in
    let same = subst (λ xs. IsPermutation xs c.in-Ok.orders.by_address.items) (c.deref-3.ensures.value ∙ sym c.deref-4.ensures.value) c.in-Ok.ensures.same in
    let all = subst (All P) (sym c.deref-5.ensures.value) (All-permutation P _ _ same c.in-Some.ensures.below) in
    omega (arith, all k d within, c.in-Some.ensures.small)

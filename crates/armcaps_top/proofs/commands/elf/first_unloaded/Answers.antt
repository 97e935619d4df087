-- One entry more, the first that isn't loaded, and none that isn't.
use Rattle.std.proofs.Common.{◌≡◌, ℕ, List, None, Some, ap, arith, inl, inr, refl, subst, sym, ◌∙◌}
use Rattle.std.proofs.lemmas.Bool.{cases_lt}
use Rattle.armcaps_alt.specs.declared.table_entry.Entry.{Entry}
use Rattle.armcaps_alt.specs.declared.table_place.Layout.{Layout}
use Rattle.armcaps_alt.specs.Entries.{Features, entry_at}
use Rattle.armcaps_elf.specs.Headers.{sections_of}
use Rattle.armcaps_elf.specs.Images.{entry_count, flat_image}
use Rattle.armcaps_logic.proofs.Options.{none_from_never}
use Rattle.armcaps_patch.specs.Features.{features_of}
use Rattle.armcaps_top.specs.Elf.{table_in, unloaded_at, unloaded_of}
use Rattle.armcaps_top.proofs.Loaded.{none_first, one_first}
use Rattle.armcaps_top.proofs.commands.elf.first_unloaded.Goals as goal

pub loop-number-preserved : goal.loop-number-preserved
loop-number-preserved c = λ file stands flat k within.
    let features : Features = features_of c.args.boot.now c.args.names.now in
    let at = c.loop-number.number in
    let entry : c.entry_at-entry.result ≡ entry_at (flat_image file) (table_in file) at =
    c.entry_at-entry.ensures ∙ (ap (λ (image : List ℕ). entry_at image c.table_in-table.result at) flat
    ∙ ap (λ (table : Layout). entry_at (flat_image file) table at) (c.table_in-table.ensures.value file stands)) in
    let here : unloaded_at features file at ≡ None =
    ap (λ (e : Entry). unloaded_of features (sections_of file) e) (sym entry)
    ∙ (sym (c.unloaded_of.ensures features file stands refl c.enabled_on-enabled.ensures)
    ∙ none_from_never c.unloaded_of.result c.in_default.not-Some) in
    elim (cases_lt k at) [
      | inl before ↦ c.loop-number.invariant file stands flat k before
      | inr last ↦ (let same : at ≡ k = omega arith in subst (λ (j : ℕ). unloaded_at features file j ≡ None) same here)
    ]

pub returns-in-Some : goal.returns-in-Some
returns-in-Some c = λ file stands flat.
    let features : Features = features_of c.args.boot.now c.args.names.now in
    let at = c.loop-number.number in
    let table = c.table_in-table.ensures.value file stands in
    let count = ap (λ (t : Layout). t.count) table in
    let entry : c.entry_at-entry.result ≡ entry_at (flat_image file) (table_in file) at =
    c.entry_at-entry.ensures ∙ (ap (λ (image : List ℕ). entry_at image c.table_in-table.result at) flat
    ∙ ap (λ (t : Layout). entry_at (flat_image file) t at) table) in
    let here : unloaded_at features file at ≡ Some c.in-Some.kind =
    ap (λ (e : Entry). unloaded_of features (sections_of file) e) (sym entry)
    ∙ (sym (c.unloaded_of.ensures features file stands refl c.enabled_on-enabled.ensures) ∙ c.in-Some.is) in
    sym (one_first (unloaded_at features file) (entry_count file) at c.in-Some.kind (omega (arith, c.loop-number-test.true, count))
    (c.loop-number.invariant file stands flat) here)

pub returns : goal.returns
returns c = λ file stands flat.
    let count = ap (λ (t : Layout). t.count) (c.table_in-table.ensures.value file stands) in
    sym (none_first (unloaded_at (features_of c.args.boot.now c.args.names.now) file) (entry_count file)
    (λ k within. c.loop-number.invariant file stands flat k (omega (arith, count))))

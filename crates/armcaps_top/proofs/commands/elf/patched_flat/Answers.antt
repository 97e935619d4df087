-- The first reason, and where there is none, the patched flat image.
use Rattle.std.proofs.Common.{◌≡◌, ℕ, List, None, ap, length, subst, sym, ◌∙◌}
use Rattle.std.proofs.lemmas.List.FromFn.{length-map-range_with_len}
use Rattle.armcaps_alt.specs.declared.table_place.Layout.{Layout}
use Rattle.armcaps_alt.specs.Entries.{Features, selected_of}
use Rattle.armcaps_alt.specs.Patched.{patched_byte}
use Rattle.armcaps_alt.specs.Refusals.{first_refusal}
use Rattle.armcaps_elf.specs.Images.{flat_image}
use Rattle.armcaps_logic.proofs.Options.{none_from_never}
use Rattle.armcaps_patch.specs.Features.{features_of}
use Rattle.armcaps_patch.specs.Kept.{StandsFor}
use Rattle.armcaps_top.specs.Elf.{table_in}
use Rattle.armcaps_top.specs.Inside.{IsWhy}
use Rattle.armcaps_top.specs.Patch.{refused_entry}
use Rattle.armcaps_top.proofs.Loaded.{after_entries, by_entry, by_file}
use Rattle.armcaps_top.proofs.commands.elf.patched_flat.Goals as goal

pub returns-in-Err-clause-refused : goal.returns-in-Err-clause-refused
returns-in-Err-clause-refused c =
    by_file (features_of c.args.boot.now c.args.names.now) c.args.line c.args.file.now c.in-Err.ending c.in-Err.ensures.refused

pub returns-in-Err-check-clause-refused : goal.returns-in-Err-check-clause-refused
returns-in-Err-check-clause-refused c =
    let features : Features = features_of c.args.boot.now c.args.names.now in
    let file = c.args.file.now in
    let flat = c.deref.ensures.value ∙ c.in-Ok-flat.ensures.bytes in
    let table = c.table_in-table.ensures.value file c.in-Ok.ensures.stands in
    by_entry features c.args.line file c.in-Err-check.ending c.in-Ok.ensures.accepted
    (subst (λ (t : Layout). IsWhy (refused_entry features (flat_image file) t) c.in-Err-check.ending) table
    (subst (λ (image : List ℕ). IsWhy (refused_entry features image c.table_in-table.result) c.in-Err-check.ending) flat c.in-Err-check.ensures.refused))

pub returns-in-Some-clause-refused : goal.returns-in-Some-clause-refused
returns-in-Some-clause-refused c =
    let features : Features = features_of c.args.boot.now c.args.names.now in
    let file = c.args.file.now in
    let accepted : first_refusal features (flat_image file) (table_in file) ≡ None =
    ap (λ (t : Layout). first_refusal features (flat_image file) t) (sym (c.table_in-table.ensures.value file c.in-Ok.ensures.stands))
    ∙ (ap (λ (image : List ℕ). first_refusal features image c.table_in-table.result) (sym (c.deref.ensures.value ∙ c.in-Ok-flat.ensures.bytes))
    ∙ c.in-Ok-check.ensures.stands.accepted) in
    after_entries features c.args.line file c.in-Ok.ensures.accepted accepted
    ∙ (sym (c.first_unloaded.ensures file c.in-Ok.ensures.stands (c.deref-2.ensures.value ∙ c.in-Ok-flat.ensures.bytes)) ∙ c.in-Some.is)

pub returns-in-Ok-patched-clause-accepted : goal.returns-in-Ok-patched-clause-accepted
returns-in-Ok-patched-clause-accepted c =
    let features : Features = features_of c.args.boot.now c.args.names.now in
    let file = c.args.file.now in
    let accepted : first_refusal features (flat_image file) (table_in file) ≡ None =
    ap (λ (t : Layout). first_refusal features (flat_image file) t) (sym (c.table_in-table.ensures.value file c.in-Ok.ensures.stands))
    ∙ (ap (λ (image : List ℕ). first_refusal features image c.table_in-table.result) (sym (c.deref.ensures.value ∙ c.in-Ok-flat.ensures.bytes))
    ∙ c.in-Ok-check.ensures.stands.accepted) in
    after_entries features c.args.line file c.in-Ok.ensures.accepted accepted
    ∙ (sym (c.first_unloaded.ensures file c.in-Ok.ensures.stands (c.deref-2.ensures.value ∙ c.in-Ok-flat.ensures.bytes))
    ∙ none_from_never c.first_unloaded.result c.in_default-first_unloaded.not-Some)

pub returns-in-Ok-patched-clause-span : goal.returns-in-Ok-patched-clause-span
returns-in-Ok-patched-clause-span c =
    let features : Features = features_of c.args.boot.now c.args.names.now in
    let image = c.deref-3.result.now in
    let table = c.table_in-table.result in
    let stands : StandsFor c.in-Ok-check.plan features image table =
    subst (λ (i : List ℕ). StandsFor c.in-Ok-check.plan features i table) (c.deref.ensures.value ∙ sym c.deref-3.ensures.value) c.in-Ok-check.ensures.stands in
    ap length (c.in-Ok-patched.ensures features table stands)
    ∙ (length-map-range_with_len (patched_byte features image (selected_of features image table)) 0 (length image)
    ∙ (ap length c.deref-3.ensures.value ∙ c.in-Ok-flat.ensures.span))

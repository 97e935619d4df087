-- An image that `audit` takes is the patched one.
use Rattle.std.proofs.Common.{◌≡◌, ◌↔◌, ◌-◌, ◌*◌, ℕ, Bool, List, None, Ok, Err, Option, Some, arith, cond, drop, false, length, nat_lt, refl, subst, sym, take, true, ◌∙◌}
use Rattle.std.specs.Option.{option_map, option_or}
use Rattle.std.proofs.lemmas.List.{length-drop, length-take-le}
use Rattle.std.proofs.lemmas.List.FromFn.{length-map-range_with_len}
use Rattle.armcaps_alt.specs.declared.table_place.Layout.{Layout}
use Rattle.armcaps_alt.specs.Entries.{Features, selected_of}
use Rattle.armcaps_alt.specs.Patched.{patched_byte, patched_image}
use Rattle.armcaps_pool.specs.Audits.{first_difference}
use Rattle.armcaps_text.specs.Document as text
use Rattle.armcaps_text.specs.Document.{Outcome, Reading, outcome}
use Rattle.armcaps_top.specs.Answer.{output_in}
use Rattle.armcaps_top.specs.Audit.{audit_reason, yes_line}
use Rattle.armcaps_top.specs.Document.{Document, document_pair, image_refusal, pair_after, unless_refused}
use Rattle.armcaps_top.specs.Features.{features_in}
use Rattle.armcaps_top.specs.Patch.{refused_entry}
use Rattle.armcaps_top.specs.declared.commands.Command.TheVariants as command
use Rattle.armcaps_top.specs.declared.reason.Reason.{Reason}
use Rattle.armcaps_top.specs.declared.reason.Reason.TheVariants.{Differs}
use Rattle.armcaps_top.specs.declared.refusal.Refusal.{Refusal}
use Rattle.armcaps_top.specs.declared.refusal.Refusal.TheVariants.{TooLong}
use Rattle.armcaps_top.proofs.Images.{image_whole}
use Rattle.armcaps_top.proofs.Sites.{unless_written}

-- the images of a document are two
abbrev pub AreTwo : Document → Type 0
AreTwo found = length found.image ≡ 2 * found.reading.image

unless_kept : (why : Option Refusal) (reading : Reading) (place : ℕ) (input : List ℕ) (found : Document)
    → image_refusal (2 * reading.image) (length input - place) ≡ why
    → unless_refused why (record { reading = reading; image = drop place input }) ≡ Ok found → AreTwo found
unless_kept (Some refusal) reading place input found why made = cc
unless_kept None reading place input found why made =
    let same : record { reading = reading; image = drop place input } ≡ found = cc in
    let whole = image_whole (2 * reading.image) (length input - place) why in
    subst (λ (d : Document). AreTwo d) same (omega (arith, length-drop place input, whole))

after_text : (long : Bool) (refusal : Refusal) (found : Outcome) (input : List ℕ) (is : Document)
    → cond long (Err refusal) (pair_after found input) ≡ Ok is → AreTwo is
after_text true refusal found input is made = cc
after_text false refusal (text.Refuses line kind) input is made = cc
after_text false refusal (text.Reads reading place) input is made =
    unless_kept (image_refusal (2 * reading.image) (length input - place)) reading place input is refl made

are_two : (input : List ℕ) (found : Document) → document_pair input ≡ Ok found → AreTwo found
unfolding document_pair
are_two input found read = after_text (nat_lt 269484032 (length input)) (TooLong 269484032) (outcome input) input found read

no_place : (entry : Option Reason) (place : Option ℕ) → option_or entry (option_map Differs place) ≡ None → place ≡ None
no_place (Some reason) place is = cc
no_place None (Some place) is = cc
no_place None None is = refl

no_difference : (features : Features) (layout : Layout) (image judged : List ℕ) → audit_reason features layout image judged ≡ None
    → first_difference judged (patched_image features image layout) ≡ None
unfolding audit_reason
no_difference features layout image judged is =
    no_place (refused_entry features image layout) (first_difference judged (patched_image features image layout)) is

-- what is told of images of one length
abbrev pub AreToldEqual : Type 0
AreToldEqual = (one other : List ℕ) → length one ≡ length other → (first_difference one other ≡ None) ↔ (one ≡ other)

pub audited_patched : AreToldEqual → (input : List ℕ) (found : Document) (text : List ℕ) → document_pair input ≡ Ok found → output_in command.Audit found ≡ Ok text
    → drop found.reading.image found.image ≡ patched_image (features_in found) (take found.reading.image found.image) found.reading.layout
audited_patched told input found text read made =
    let features : Features = features_in found in
    let layout : Layout = found.reading.layout in
    let image : List ℕ = take found.reading.image found.image in
    let judged : List ℕ = drop found.reading.image found.image in
    let both = are_two input found read in
    let first : length image ≡ found.reading.image = length-take-le found.reading.image found.image (omega (arith, both)) in
    let second : length judged ≡ found.reading.image = omega (arith, length-drop found.reading.image found.image, both) in
    let size = length-map-range_with_len (patched_byte features image (selected_of features image layout)) 0 (length image) in
    let written = unless_written (audit_reason features layout image judged) yes_line text made in
    (told judged (patched_image features image layout) (second ∙ sym (size ∙ first))).0 (no_difference features layout image judged written.0)

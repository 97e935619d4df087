-- What `patch` writes of an input replaces the sites of its image.
use Rattle.std.proofs.Common.{◌≡◌, ◌<◌, ◌≤◌, ◌-◌, ◌^◌, ℕ, Bool, List, Option, None, Some, Ok, Err, arith, cond, drop, false, length, nat_lt, refl, subst, sym, true}
use Rattle.std.proofs.lemmas.List.{length-drop}
use Rattle.std.proofs.lemmas.List.Elements.{All-drop}
use Rattle.armcaps_alt.specs.Entries.{Features}
use Rattle.armcaps_alt.specs.Laws.{ReplacesSites}
use Rattle.armcaps_alt.specs.Patched.{patched_image}
use Rattle.armcaps_alt.specs.Refusals as alternatives
use Rattle.armcaps_alt.specs.Refusals.{first_refusal}
use Rattle.armcaps_alt.proofs.ReplacedSites.{replaces_sites}
use Rattle.armcaps_image.specs.Bytes.{AreBytes}
use Rattle.armcaps_text.specs.Document as text
use Rattle.armcaps_text.specs.Document.{Outcome, Reading, outcome}
use Rattle.armcaps_text.specs.Formats.{format_of}
use Rattle.armcaps_top.specs.Answer.{output_in}
use Rattle.armcaps_top.specs.Document.{Document, document, document_after, image_refusal, unless_refused}
use Rattle.armcaps_top.specs.Features.{features_in}
use Rattle.armcaps_top.specs.Patch.{unless_entry_refused}
use Rattle.armcaps_top.specs.declared.commands.Command.TheVariants as command
use Rattle.armcaps_top.specs.declared.refusal.Refusal.{Refusal}
use Rattle.armcaps_top.specs.declared.refusal.Refusal.TheVariants.{TooLong}
use Rattle.armcaps_top.proofs.DocumentFields.{AreSound, document_sound}
use Rattle.armcaps_top.proofs.Images.{image_whole}

-- the image of a document is what follows a place of its input, and it is as long as the reading says
pub record HasImage (input : List ℕ) (found : Document) : Type 0 where
  pub place : ℕ
  pub image : found.image ≡ drop place input
  pub size : length found.image ≡ found.reading.image

unless_kept : (why : Option Refusal) (reading : Reading) (place : ℕ) (input : List ℕ) (found : Document)
    → image_refusal reading.image (length input - place) ≡ why
    → unless_refused why (record { reading = reading; image = drop place input }) ≡ Ok found → HasImage input found
unless_kept (Some refusal) reading place input found why made = cc
unless_kept None reading place input found why made =
    let same : record { reading = reading; image = drop place input } ≡ found = cc in
    let whole = image_whole reading.image (length input - place) why in
    subst (λ (d : Document). HasImage input d) same (record {
      place = place;
      image = refl;
      size = omega (arith, length-drop place input, whole);
    })

after_text : (long : Bool) (refusal : Refusal) (found : Outcome) (input : List ℕ) (is : Document)
    → cond long (Err refusal) (document_after found input) ≡ Ok is → HasImage input is
after_text true refusal found input is made = cc
after_text false refusal (text.Refuses line kind) input is made = cc
after_text false refusal (text.Reads reading place) input is made =
    unless_kept (image_refusal reading.image (length input - place)) reading place input is refl made

has_image : (input : List ℕ) (found : Document) → document input ≡ Ok found → HasImage input found
unfolding document
has_image input found read =
    let limit = (format_of input).input in
    after_text (nat_lt limit (length input)) (TooLong limit) (outcome input) input found read

-- where an image is written no entry was refused
not_refused : (why : Option alternatives.Refusal) (image output : List ℕ) → unless_entry_refused why image ≡ Ok output
    → (why ≡ None) × (image ≡ output)
not_refused None image output made = (refl, cc)
not_refused (Some refusal) image output made = cc

pub sites_replaced : AreSound → (input : List ℕ) (found : Document) (output : List ℕ) → AreBytes input
    → document input ≡ Ok found → output_in command.Patch found ≡ Ok output
    → ReplacesSites (features_in found) found.image found.reading.layout output
sites_replaced law input found output bytes read made =
    let features : Features = features_in found in
    let patched = not_refused (first_refusal features found.image found.reading.layout) (patched_image features found.image found.reading.layout) output made in
    let whole = has_image input found read in
    let image : AreBytes found.image = subst AreBytes (sym whole.image) (All-drop (λ (byte : ℕ). byte < 2 ^ 8) whole.place input bytes) in
    let sound = document_sound law input found read in
    let few = sound.image in
    let small : length found.image ≤ 2 ^ 29 = omega (arith, whole.size, few) in
    subst (λ (image : List ℕ). ReplacesSites features found.image found.reading.layout image) patched.1
    (replaces_sites features found.image image small found.reading.layout patched.0)

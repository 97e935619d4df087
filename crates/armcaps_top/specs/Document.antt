-- Which inputs are documents, and why another is none. The formats and limits are this project's own.
use Rattle.std.specs.Prelude.{ℕ, ◌-◌, ◌*◌, nat_lt, if◌then◌else◌, List, [], length, drop, map, Option, Some, None, Result, Ok, Err}
use Rattle.armcaps_text.specs.Document.{Reading, Outcome, Reads, Refuses, outcome}
use Rattle.armcaps_text.specs.Formats.{format_of}
use Rattle.armcaps_text.specs.Texts.{texts_of}
use Rattle.armcaps_text.specs.declared.texts.TextsRefused.{TextsRefused}
use Rattle.armcaps_top.specs.declared.refusal.Refusal.{Refusal}
use Rattle.armcaps_top.specs.declared.refusal.Refusal.TheVariants.{Line, TooLong, ImageShort, Trailing, Texts}

-- what a document says: what its text reads as, and the bytes after the text: its image, and where the input is a
-- document and another image, that one behind it
pub record Document : Type 0 where
  pub reading : Reading
  pub image : List ℕ

-- why so many bytes after the text are not those of an image of this length: they are fewer, or more
abbrev pub image_refusal : ℕ → ℕ → Option Refusal
image_refusal image given =
    if nat_lt given image then Some (ImageShort given image)
    else if nat_lt image given then Some (Trailing (given - image)) else None

-- the document, unless there is a reason to refuse it
abbrev pub unless_refused : Option Refusal → Document → Result Document Refusal
unless_refused None found = Ok found
unless_refused (Some refusal) found = Err refusal

-- of a text that reads so up to this place
abbrev pub with_image : Reading → ℕ → List ℕ → Result Document Refusal
with_image reading place input =
    unless_refused (image_refusal reading.image (length input - place))
    (record { reading = reading; image = drop place input })

-- of an input whose text comes to this
abbrev pub document_after : Outcome → List ℕ → Result Document Refusal
document_after (Refuses line kind) input = Err (Line line kind)
document_after (Reads reading place) input = with_image reading place input

-- the document that an input is, or why it is none: more bytes than its format allows, a kind at a line of its text, or
-- fewer or more bytes after the text than the image has
unfoldable pub document : List ℕ → Result Document Refusal
document input =
    let limit = (format_of input).input in
    if nat_lt limit (length input) then Err (TooLong limit) else document_after (outcome input) input

-- the document of a text that reads so up to this place, and another image of the same length
abbrev pub with_two_images : Reading → ℕ → List ℕ → Result Document Refusal
with_two_images reading place input =
    unless_refused (image_refusal (2 * reading.image) (length input - place))
    (record { reading = reading; image = drop place input })

-- of an input whose text comes to this
abbrev pub pair_after : Outcome → List ℕ → Result Document Refusal
pair_after (Refuses line kind) input = Err (Line line kind)
pair_after (Reads reading place) input = with_two_images reading place input

-- the document that an input is together with another image behind it, as long as the document's own, or why it is
-- none: more bytes than the limit, which is one for both formats, a kind at a line of its text, or fewer or more bytes
-- after the text than the two images have
unfoldable pub document_pair : List ℕ → Result Document Refusal
document_pair input =
    if nat_lt 269484032 (length input) then Err (TooLong 269484032) else pair_after (outcome input) input

-- the document of a text whose image has no byte
abbrev pub without_image : Reading → Document
without_image reading = record { reading = reading; image = [] }

-- the documents of texts that read so, or why there are none
abbrev pub documents_after : Result (List Reading) TextsRefused → Result (List Document) Refusal
documents_after (Ok readings) = Ok (map without_image readings)
documents_after (Err refused) = Err (Texts refused)

-- the documents that an input is whose texts stand one after the other and have no image, or why it is none: more bytes
-- than the limit, which is one for both formats, or texts that are refused
unfoldable pub documents : List ℕ → Result (List Document) Refusal
documents input =
    if nat_lt 67108864 (length input) then Err (TooLong 67108864) else documents_after (texts_of input)

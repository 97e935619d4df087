-- The definitions, evaluated on a small image: a table of three entries at its begin, their sites from 36 on, their
-- replacements from 52 on.
use Rattle.std.proofs.Common.{◌≡◌, ◌==◌, ◌++◌, ◌∷◌, [], ℕ, ℤ, Bool, List, None, Some, map, negsuc, pos, refl, true, false}
use Rattle.std.specs.List.{flat_map}
use Rattle.armcaps_insn.specs.Encodings.{class_of, encodings}
use Rattle.armcaps_alt.specs.declared.callback_kind.CallbackKind.TheVariants as callback
use Rattle.armcaps_alt.specs.declared.named_number.Named.TheVariants as named
use Rattle.armcaps_alt.specs.declared.patch_kind.PatchKind.TheVariants.{CallbackLength, Length, Literal, Range, ReplacementOutside, SiteOutside, Unaligned, UnknownCallback, UnknownCap}
use Rattle.armcaps_alt.specs.declared.smccc_conduit.Conduit.TheVariants as conduit
use Rattle.armcaps_alt.specs.declared.table_entry.Entry.{Entry}
use Rattle.armcaps_alt.specs.Entries.{Features}
use Rattle.armcaps_image.specs.Bytes.{byte_of}
use Rattle.armcaps_alt.specs.Patched.{patched_image}
use Rattle.armcaps_alt.specs.Refusals.{first_refusal, refusal_of}
use Rattle.armcaps_alt.specs.Words.{callback_word_of}

abbrev bytes_of : List ℕ → List ℕ
bytes_of words = flat_map (λ word. byte_of word 0 ∷ byte_of word 1 ∷ byte_of word 2 ∷ byte_of word 3 ∷ []) words

-- site 36 and replacement 52 of two words; site 40 and replacement 60 of one word; site 40 with the callback at 0x2000
abbrev table : List ℕ
table = bytes_of (36 ∷ 48 ∷ 0x08080001 ∷ 28 ∷ 44 ∷ 0x04040002 ∷ 16 ∷ 0x1fe4 ∷ 0x00048001 ∷ [])

abbrev image_with : ℕ → ℕ → ℕ → List ℕ
image_with first second last =
    table ++ bytes_of (first ∷ second ∷ 0xaabbccdd ∷ 0x11223344 ∷ 0x94000400 ∷ 0x14000001 ∷ 0xd4000003 ∷ last ∷ 0x01020304 ∷ [])

abbrev image : List ℕ
image = image_with 0xd53b0023 0x12345678 0x55000000

-- number 1 is a capability that is enabled, number 3 one that isn't, and number 2 is given
abbrev features : Features
features = record {
  names = record {
    numbers = (1, named.Cap 1) ∷ (2, named.Given true) ∷ (3, named.Cap 2) ∷ [];
    callbacks = (0x2000, callback.Conduit) ∷ (0x2004, callback.FinalCtr) ∷ [];
    conduit = conduit.Hvc;
  };
  enabled = λ number. number == 1;
  ctr = 0x84448004;
}

-- the first entry alone keeps the call's target and jumps to its own end; a later entry wins
pub one_entry : patched_image features image (record { table = 0; count = 1 }) ≡ image_with 0x94000404 0x14000001 0x55000000
unfolding class_of encodings
one_entry = refl

pub two_entries : patched_image features image (record { table = 0; count = 2 }) ≡ image_with 0x94000404 0xd4000003 0x55000000
unfolding class_of encodings
two_entries = refl

pub three_entries : patched_image features image (record { table = 0; count = 3 }) ≡ image_with 0x94000404 0xd4000002 0x55000000
unfolding class_of encodings
three_entries = refl

abbrev entry : ℤ → ℤ → ℕ → Bool → ℕ → ℕ → Entry
entry site repl number call orig_len alt_len =
    record { site = site; repl = repl; number = number; callback = call; orig_len = orig_len; alt_len = alt_len }

pub kinds : map (refusal_of features image) (
    entry (pos 36) (pos 52) 4 false 8 8
    ∷ entry (pos 37) (pos 52) 3 false 8 8
    ∷ entry (negsuc 0) (pos 52) 1 false 8 8
    ∷ entry (pos 36) (pos 52) 1 false 6 6
    ∷ entry (pos 36) (pos 54) 1 false 8 8
    ∷ entry (pos 36) (negsuc 1) 1 true 4 0
    ∷ entry (negsuc 3) (pos 52) 1 false 8 8
    ∷ entry (pos 68) (pos 52) 1 false 8 8
    ∷ entry (pos 36) (pos 52) 1 false 8 12
    ∷ entry (pos 36) (pos 0x2000) 1 true 4 4
    ∷ entry (pos 36) (pos 68) 1 false 8 8
    ∷ entry (pos 36) (negsuc 3) 1 false 8 8
    ∷ entry (pos 36) (pos 0x2008) 1 true 8 0
    ∷ entry (pos 36) (pos 0x2000) 1 true 8 0
    ∷ entry (pos 36) (pos 0x2004) 1 true 12 0
    ∷ entry (pos 36) (pos 60) 1 false 8 8
    ∷ entry (pos 36) (pos 52) 1 false 0 0
    ∷ entry (pos 36) (pos 0x2004) 1 true 16 0
    ∷ []) ≡ Some UnknownCap ∷ None ∷ Some Unaligned ∷ Some Unaligned ∷ Some Unaligned ∷ Some UnknownCallback ∷ Some SiteOutside ∷ Some SiteOutside
    ∷ Some Length ∷ Some Length ∷ Some ReplacementOutside ∷ Some ReplacementOutside ∷ Some UnknownCallback ∷ Some CallbackLength ∷ Some CallbackLength
    ∷ Some Literal ∷ None ∷ None ∷ []
unfolding class_of encodings
kinds = refl

-- the first entry that is refused, by its number
pub first : first_refusal (record features { names = record features.names { callbacks = [] } }) image (record { table = 0; count = 3 }) ≡ Some (record { entry = 2; kind = UnknownCallback })
unfolding class_of encodings
first = refl

pub none_refused : first_refusal features image (record { table = 0; count = 3 }) ≡ None
unfolding class_of encodings
none_refused = refl

-- TBZ whose target is the furthest backwards reaches it from its own place alone
pub too_far : refusal_of features (image_with 0 0 0x36040000) (entry (pos 68) (pos 64) 2 false 4 4) ≡ Some Range
unfolding class_of encodings
too_far = refl

-- the words that load CTR_EL0
pub loads : map (λ index. callback_word_of callback.FinalCtr index 0x84448004 conduit.None 0xd53b0023 0) (0 ∷ 1 ∷ 2 ∷ 3 ∷ [])
    ≡ 0xd2900083 ∷ 0xf2b08883 ∷ 0xf2c00003 ∷ 0xf2e00003 ∷ []
loads = refl

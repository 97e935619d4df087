-- What the words of a site become.
use Rattle.std.specs.Prelude.{◌==◌, ◌+◌, ◌*◌, ◌/◌, ◌%◌, ◌^◌, ◌<◌, ℕ, List, Result, Ok, Err, if◌then◌else◌, map}
use Rattle.std.specs.List.{range_with_len}
use Rattle.std.specs.Option.{option_map_or}
use Rattle.armcaps_insn.specs.declared.correction.FixRefused.{FixRefused}
use Rattle.armcaps_insn.specs.Encodings.{nop}
use Rattle.armcaps_insn.specs.Moved.{corrected}
use Rattle.armcaps_alt.specs.declared.callback_kind.CallbackKind.{CallbackKind}
use Rattle.armcaps_alt.specs.declared.callback_kind.CallbackKind.TheVariants as callback
use Rattle.armcaps_alt.specs.declared.smccc_conduit.Conduit.{Conduit}
use Rattle.armcaps_alt.specs.declared.smccc_conduit.Conduit.TheVariants as conduit
use Rattle.armcaps_alt.specs.declared.table_entry.Entry.{Entry}
use Rattle.armcaps_image.specs.Bytes.{word_in}
use Rattle.armcaps_image.specs.Places.{as_place}
use Rattle.armcaps_alt.specs.Entries.{Features}
use Rattle.armcaps_alt.specs.Names.{callback_named}

-- four words load CTR_EL0
abbrev pub IsIndex : CallbackKind → ℕ → Type 0
IsIndex callback.Nops index = Unit {0}
IsIndex callback.FinalCtr index = index < 4
IsIndex callback.Conduit index = Unit {0}
IsIndex callback.Keep index = Unit {0}

-- MOVZ or MOVK of the index-th sixteen bits of a word into a register (Arm ARM DDI 0487, "MOVZ", "MOVK")
abbrev pub move_of : ℕ → ℕ → ℕ → ℕ
move_of index word register =
    let bits = word / 2 ^ (16 * index) % 2 ^ 16 in
    (if index == 0 then 0xd2800000 else 0xf2800000) + index * 2 ^ 21 + bits * 2 ^ 5 + register

-- the word that a callback makes: NOP; the load of CTR_EL0 into the register of the first word; HVC #0, SMC #0 or the
-- original word; the original word
abbrev pub callback_word_of : CallbackKind → ℕ → ℕ → Conduit → ℕ → ℕ → ℕ
callback_word_of callback.Nops index ctr way first orig = nop
callback_word_of callback.FinalCtr index ctr way first orig = move_of index ctr (first % 2 ^ 5)
callback_word_of callback.Conduit index ctr conduit.None first orig = orig
callback_word_of callback.Conduit index ctr conduit.Hvc first orig = 0xd4000002
callback_word_of callback.Conduit index ctr conduit.Smc first orig = 0xd4000003
callback_word_of callback.Keep index ctr way first orig = orig

-- the replacement's word for the site's word at an index, in words from its begin, moved there
abbrev pub replacement_word : List ℕ → Entry → ℕ → Result ℕ FixRefused
replacement_word image entry index =
    let from = as_place entry.repl in
    let to = as_place entry.site + 4 * index in
    corrected (word_in image (from + 4 * index)) (from + 4 * index) to from (from + entry.orig_len)

-- the words of an entry's replacement, moved to its site
abbrev pub replacement_words : List ℕ → Entry → List (Result ℕ FixRefused)
replacement_words image entry = map (replacement_word image entry) (range_with_len 0 (entry.orig_len / 4))

-- the callback's word for the site's word at an index
abbrev pub callback_word_at : Features → List ℕ → Entry → CallbackKind → ℕ → ℕ
callback_word_at features image entry kind index =
    let site = as_place entry.site in
    let orig = word_in image (site + 4 * index) in
    callback_word_of kind index features.ctr features.names.conduit (word_in image site) orig

-- the word, or another where there is none
abbrev pub ok_or_word : Result ℕ FixRefused → ℕ → ℕ
ok_or_word (Ok word) other = word
ok_or_word (Err refused) other = other

-- the new word of an entry's site at an index; all reads are of the original image. A callback that isn't named and a
-- word that can't move, which an entry that is not refused hasn't, leave the original word
abbrev pub new_word : Features → List ℕ → Entry → ℕ → ℕ
new_word features image entry index =
    let orig = word_in image (as_place entry.site + 4 * index) in
    let call = callback_named features.names entry.repl in
    if entry.callback
    then option_map_or (λ kind. callback_word_at features image entry kind index) call orig
    else ok_or_word (replacement_word image entry index) orig

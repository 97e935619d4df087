-- A word and its four bytes.
use Rattle.std.proofs.Common.{◌≡◌, ◌+◌, ◌*◌, ◌/◌, ◌%◌, ◌^◌, ◌<◌, ℕ, List, add-zero, arith, get_or, inl, inr, length, lit<}
use Rattle.std.proofs.lemmas.Bool.{cases_lt}
use Rattle.std.proofs.Math.ListN.{get_or-eq_default}
use Rattle.armcaps_image.specs.Bytes.{AreBytes, byte_of, word_in}

-- four bytes that are those of a word make the word
pub word_of_bytes : (bytes : List ℕ) (place word : ℕ) → word < 2 ^ 32
    → ((i : ℕ) → i < 4 → get_or bytes (place + i) 0 ≡ byte_of word i) → word_in bytes place ≡ word
word_of_bytes bytes place word fits each =
    let begin : get_or bytes place 0 ≡ word / 1 % 256 = rw add-zero at (each 0 (omega arith)) in
    let first : get_or bytes place 0 ≡ word % 256 = omega arith in
    let second : get_or bytes (place + 1) 0 ≡ word / 256 % 256 = each 1 (omega arith) in
    let third : get_or bytes (place + 2) 0 ≡ word / 65536 % 256 = each 2 (omega arith) in
    let behind : place + 2 + 1 ≡ place + 3 = omega arith in
    let fourth : get_or bytes (place + 2 + 1) 0 ≡ word / 16777216 % 256 = rw behind (each 3 (omega arith)) in
    let low : word ≡ word % 256 + 256 * (word / 256) = omega arith in
    let middle : word / 256 ≡ word / 256 % 256 + 256 * (word / 65536) = omega arith in
    let high : word / 65536 ≡ word / 65536 % 256 + 256 * (word / 16777216) = omega arith in
    let top : word / 16777216 % 256 ≡ word / 16777216 = omega arith in
    omega arith

-- what stands at a place is a byte, also behind the end, where 0 is read
byte_at : (bytes : List ℕ) → AreBytes bytes → (place : ℕ) → get_or bytes place 0 < 2 ^ 8
byte_at bytes are place = elim (cases_lt place (length bytes)) [
  | inl within ↦ are place 0 within
  | inr beyond ↦ rw (get_or-eq_default bytes 0 beyond) (lit< tt)
]

-- so a word is one of 32 bits
pub word_fits : (bytes : List ℕ) → AreBytes bytes → (place : ℕ) → word_in bytes place < 2 ^ 32
word_fits bytes are place =
    omega (arith, byte_at bytes are place, byte_at bytes are (place + 1), byte_at bytes are (place + 2), byte_at bytes are (place + 2 + 1))

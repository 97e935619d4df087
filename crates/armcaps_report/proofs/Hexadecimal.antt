-- A word as it is written.
use Rattle.std.proofs.Common.{◌≡◌, ℕ, ◌-◌, ◌^◌, false, [], ◌++◌, length, refl, arith, append-nil}
use Rattle.std.specs.Prelude.{codes}
use Rattle.std.specs.Fmt.{char_count, digits, format_spec, padded_integral}
use Rattle.armcaps_report.specs.Texts.{word_text}

pub word_written : (word : ℕ) → codes "0x" ++ padded_integral (format_spec 32 0 4 16 (2 ^ 64 - 1)) false [] (digits 16 false word) ≡ word_text word
unfolding padded_integral char_count word_text
word_written word = let none : 16 - length (digits 16 false word) - 0 - 0 ≡ 16 - length (digits 16 false word) = omega arith in rw (none, append-nil) refl

use Rattle.std.proofs.Common.{◌≡◌, drop}
use Rattle.armcaps_lex.specs.Digits.{digits_number}
use Rattle.armcaps_lex.proofs.DigitLemmas.{continued}
use Rattle.armcaps_lex.proofs.digits.number_in.Given as goal

-- the digits that are left, put after the number so far, give the number of all
abbrev pub invariant-loop-digit : goal.invariant-loop-digit
invariant-loop-digit l = continued l.base l.number (drop l.digit-index l.digits) ≡ digits_number l.base l.digits

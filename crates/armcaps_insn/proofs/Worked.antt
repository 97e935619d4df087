-- The definitions, evaluated on worked words.
use Rattle.std.proofs.Common.{◌≡◌, ◌∷◌, [], ℕ, Ok, Err, None, Result, Some, false, map, negsuc, pos, refl, true}
use Rattle.armcaps_insn.specs.declared.correction.FixRefused.{FixRefused}
use Rattle.armcaps_insn.specs.declared.correction.FixRefused.TheVariants.{Literal, Range}
use Rattle.armcaps_insn.specs.Encodings.{class_of, encodings, nop}
use Rattle.armcaps_insn.specs.Moved.{branch_to, corrected, is_kept}

-- a word of a sequence from 0x2000 to 0x2008 that goes to 0x100
abbrev moved : ℕ → Result ℕ FixRefused
moved word = corrected word 0x2000 0x100 0x2000 0x2008

pub words : map moved (0x94000400 ∷ 0x14000002 ∷ 0x14000003 ∷ 0x17ffffff ∷ 0x10000000 ∷ 0x55000000 ∷ 0xd503201f ∷ [])
    ≡ Ok 0x94000bc0 ∷ Ok 0x14000002 ∷ Ok 0x140007c3 ∷ Ok 0x140007bf ∷ Err (Literal 0x10000000) ∷ Err (Literal 0x55000000) ∷ Ok 0xd503201f ∷ []
unfolding class_of encodings
words = refl

-- which of these stay as they are: the branch to the sequence's end, and NOP
pub kept : map (λ (word : ℕ). is_kept word 0x2000 0x2000 0x2008) (0x94000400 ∷ 0x14000002 ∷ 0x14000003 ∷ 0x17ffffff ∷ 0x10000000 ∷ 0x55000000 ∷ nop ∷ [])
    ≡ false ∷ true ∷ false ∷ false ∷ false ∷ false ∷ true ∷ []
unfolding class_of encodings
kept = refl

pub last_word : corrected 0x14000001 0x2004 0x104 0x2000 0x2008 ≡ Ok 0x14000001
unfolding class_of encodings
last_word = refl

pub page : corrected 0xf0000000 0x2010 0x100 0x2010 0x2014 ≡ Ok 0xb0000020
unfolding class_of encodings
page = refl

pub test_and_branch : corrected 0x3603ff80 0x2010 0x100 0x2010 0x2014 ≡ Err (Range (pos 40704))
unfolding class_of encodings
test_and_branch = refl

pub load : corrected 0x58000040 0x2010 0x100 0x2010 0x2014 ≡ Err (Literal 0x58000040)
unfolding class_of encodings
load = refl

pub branches : map (branch_to 0x100) (pos 0x180 ∷ pos 0x182 ∷ negsuc 134217471 ∷ negsuc 134217475 ∷ pos 134217980 ∷ pos 134217984 ∷ [])
    ≡ Some 0x14000020 ∷ None ∷ Some 0x16000000 ∷ None ∷ Some 0x15ffffff ∷ None ∷ []
branches = refl

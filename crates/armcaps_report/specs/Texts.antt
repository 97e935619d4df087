-- How words, numbers and causes are written. The forms are this project's own.
use Rattle.std.specs.Prelude.{ℕ, ◌*◌, ◌-◌, false, List, ◌++◌, length, replicate, codes}
use Rattle.std.specs.Fmt.{decimal, digits}
use Rattle.armcaps_caps.specs.Capabilities.{capability_name}
use Rattle.armcaps_hwcap.specs.Hwcaps.{hwcap_name}
use Rattle.armcaps_boot.specs.declared.cause.Cause.{Cause}
use Rattle.armcaps_boot.specs.declared.cause.Cause.TheVariants.{Asid, Cap, Hwcap, Vector}

-- a word: `0x` and 16 lower-case hexadecimal digits
unfoldable pub word_text : ℕ → List ℕ
word_text word = codes "0x" ++ replicate (16 - length (digits 16 false word)) 48 ++ digits 16 false word

-- a capability, by its number and its name
abbrev pub capability_text : ℕ → List ℕ
capability_text number = codes "cap " ++ decimal number ++ codes " " ++ capability_name number

-- why a core is parked or stops the machine, as `asid`, `cap 5 MTE`, `hwcap sha1` or `vl 256`
unfoldable pub cause_text : Cause → List ℕ
cause_text Asid = codes "asid"
cause_text (Cap number) = capability_text number
cause_text (Hwcap index) = codes "hwcap " ++ hwcap_name index
cause_text (Vector length) = codes "vl " ++ decimal (128 * length)

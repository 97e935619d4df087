-- What the tokens after a line's word give, by the form of the line: what they say, or the lowest kind of what is
-- wrong with them. The number of tokens is asked first, then numbers from left to right, then names from left to
-- right.
use Rattle.std.specs.Prelude.{ℕ, ◌==◌, ◌&&◌, ◌||◌, Bool, true, false, nat_le, if◌then◌else◌, List, length, codes, Option, Some, None, is_none, Result, Ok, Err}
use Rattle.std.specs.Option.{ok_or}
use Rattle.std.specs.List.{list_all}
use Rattle.std.specs.Str.{bytes_eq}
use Rattle.armcaps_alt.specs.declared.callback_kind.CallbackKind.{CallbackKind}
use Rattle.armcaps_alt.specs.declared.callback_kind.CallbackKind.TheVariants as callback
use Rattle.armcaps_alt.specs.declared.smccc_conduit.Conduit.{Conduit}
use Rattle.armcaps_alt.specs.declared.smccc_conduit.Conduit.TheVariants as conduit
use Rattle.armcaps_alt.specs.declared.table_place.Layout.{Layout}
use Rattle.armcaps_text.specs.declared.format.Format.{Format}
use Rattle.armcaps_text.specs.declared.kind.TextKind.{TextKind}
use Rattle.armcaps_text.specs.declared.kind.TextKind.TheVariants as kind
use Rattle.armcaps_text.specs.declared.tokens.Tokens.{Tokens}
use Rattle.armcaps_text.specs.Numbers.{number_of, number_up_to}
use Rattle.armcaps_caps.specs.Capabilities.{capability_named}

-- what comes of a value, where there is one; what is wrong stays
abbrev pub and_then : {A B : Type 0} → Result A TextKind → (A → Result B TextKind) → Result B TextKind
and_then (Ok value) next = next value
and_then (Err wrong) next = Err wrong

-- 6: the number of tokens is not the form's
abbrev pub has_count : ℕ → Tokens (List ℕ) → Result (Unit {0}) TextKind
has_count count tokens = if tokens.count == count then Ok tt else Err kind.Tokens

-- 7: a token is no number, or is above its range
abbrev pub number_among : ℕ → List ℕ → Result ℕ TextKind
number_among most token = ok_or (number_up_to most token) kind.Number

-- an ASCII letter, a digit or `_`
abbrev pub is_name_byte : ℕ → Bool
is_name_byte byte =
    (nat_le 97 byte && nat_le byte 122) || (nat_le 65 byte && nat_le byte 90) || (nat_le 48 byte && nat_le byte 57)
    || (byte == 95)

-- 1 to 63 letters, digits and `_`
abbrev pub is_name : List ℕ → Bool
is_name name = nat_le 1 (length name) && nat_le (length name) 63 && list_all is_name_byte name

-- a name that the input may give: it is no capability's
abbrev pub is_given_name : List ℕ → Bool
is_given_name name = is_name name && is_none (capability_named name)

-- whether the word switches on or off
abbrev pub switch_of : List ℕ → Option Bool
switch_of token =
    if bytes_eq token (codes "on") then Some true
    else (if bytes_eq token (codes "off") then Some false else None)

-- how the kernel calls the firmware, by its word
abbrev pub conduit_of : List ℕ → Option Conduit
conduit_of token =
    if bytes_eq token (codes "hvc") then Some conduit.Hvc
    else (if bytes_eq token (codes "smc") then Some conduit.Smc
    else (if bytes_eq token (codes "none") then Some conduit.None else None))

-- what a callback makes of its site, by its word
abbrev pub callback_kind_of : List ℕ → Option CallbackKind
callback_kind_of token =
    if bytes_eq token (codes "nops") then Some callback.Nops
    else (if bytes_eq token (codes "final_ctr") then Some callback.FinalCtr
    else (if bytes_eq token (codes "conduit") then Some callback.Conduit
    else (if bytes_eq token (codes "keep") then Some callback.Keep else None)))

-- what comes of the tokens, where there are this many
abbrev pub with_count : {A : Type 0} → ℕ → Tokens (List ℕ) → Result A TextKind → Result A TextKind
with_count count tokens arguments = and_then (has_count count tokens) (λ _. arguments)

-- the number of a core
abbrev pub core_argument : Tokens (List ℕ) → Result ℕ TextKind
core_argument tokens = with_count 2 tokens (number_among 4294967295 tokens.second)

-- the word of a register
abbrev pub word_argument : Tokens (List ℕ) → Result ℕ TextKind
word_argument tokens = with_count 2 tokens (ok_or (number_of tokens.second) kind.Number)

-- the vector lengths of a core
abbrev pub lengths_argument : Tokens (List ℕ) → Result ℕ TextKind
lengths_argument tokens = with_count 2 tokens (number_among 65535 tokens.second)

-- the number of an alternative and the capability that it is
abbrev pub number_arguments : Tokens (List ℕ) → Result (ℕ × ℕ) TextKind
number_arguments tokens =
    with_count 3 tokens (and_then (number_among 32767 tokens.second)
    (λ number. and_then (ok_or (capability_named tokens.third) kind.Name) (λ capability. Ok (number, capability))))

-- the number of an alternative and whether the input states it on
abbrev pub given_arguments : Tokens (List ℕ) → Result (ℕ × Bool) TextKind
given_arguments tokens =
    with_count 4 tokens (and_then (number_among 32767 tokens.second)
    (λ number. if is_given_name tokens.third
    then and_then (ok_or (switch_of tokens.fourth) kind.Name) (λ on. Ok (number, on))
    else Err kind.Name))

-- how the kernel calls the firmware
abbrev pub conduit_argument : Tokens (List ℕ) → Result Conduit TextKind
conduit_argument tokens = with_count 2 tokens (ok_or (conduit_of tokens.second) kind.Name)

-- the offset of a callback and its kind
abbrev pub callback_arguments : Format → Tokens (List ℕ) → Result (ℕ × CallbackKind) TextKind
callback_arguments format tokens =
    with_count 3 tokens (and_then (number_among format.image tokens.second)
    (λ offset. and_then (ok_or (callback_kind_of tokens.third) kind.Name) (λ callback. Ok (offset, callback))))

-- where the table of alternatives lies
abbrev pub table_arguments : Format → Tokens (List ℕ) → Result Layout TextKind
table_arguments format tokens =
    with_count 3 tokens (and_then (number_among format.image tokens.second)
    (λ table. and_then (number_among 1_048_576 tokens.third) (λ count. Ok (record { table = table; count = count }))))

-- how many bytes the image has
abbrev pub image_argument : Format → Tokens (List ℕ) → Result ℕ TextKind
image_argument format tokens = with_count 2 tokens (number_among format.image tokens.second)

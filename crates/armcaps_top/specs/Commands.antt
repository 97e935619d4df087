-- The forms of the command line. They are this project's own.
use Rattle.std.specs.Prelude.{ℕ, ◌-◌, ◌^◌, ◌&&◌, ◌||◌, nat_eq, nat_lt, if◌then◌else◌, List, [], ◌∷◌, length, drop, codes, Option, Some, None}
use Rattle.std.specs.List.{starts_with}
use Rattle.std.specs.Str.{bytes_eq}
use Rattle.armcaps_lex.specs.Digits.{digits_number}
use Rattle.armcaps_text.specs.Numbers.{number_up_to}
use Rattle.armcaps_top.specs.declared.commands.Command.{Command}
use Rattle.armcaps_top.specs.declared.commands.Command.TheVariants.{Ask, Patch, Elf, Jump, Pool, Audit, Demo}
use Rattle.armcaps_top.specs.declared.commands.Query.TheVariants.{Report, Mrs, Trace}

-- the number of a core: 1 to 9 decimal digits
abbrev pub core_number : List ℕ → Option ℕ
core_number text = if nat_lt (length text) 10 then digits_number 10 text else None

-- an instruction: `0x` and 1 to 8 hexadecimal digits of either case
abbrev pub instruction_word : List ℕ → Option ℕ
instruction_word text =
    if starts_with nat_eq text (codes "0x") && nat_lt (length text) 11 then digits_number 16 (drop 2 text) else None

-- `mrs` of this core and instruction, where both are written as they should be
abbrev pub mrs_of : Option ℕ → Option ℕ → Option Command
mrs_of (Some core) (Some word) = Some (Ask (Mrs core word))
mrs_of None word = None
mrs_of (Some core) None = None

-- a number that is neither below the first of these nor above the second
abbrev pub within : ℕ → ℕ → Option ℕ → Option ℕ
within least most None = None
within least most (Some number) = if nat_lt number least || nat_lt most number then None else Some number

-- a number of at most so many decimal digits, within these bounds
abbrev pub bounded_number : ℕ → ℕ → ℕ → List ℕ → Option ℕ
bounded_number digits least most text =
    if nat_lt digits (length text) then None else within least most (digits_number 10 text)

-- a seed: 1 to 10 decimal digits, below 2^32
abbrev pub seed_number : List ℕ → Option ℕ
seed_number text = bounded_number 10 0 (2 ^ 32 - 1) text

-- a number of cores: 1 or 2 decimal digits, from 1 to 64
abbrev pub cores_number : List ℕ → Option ℕ
cores_number text = bounded_number 2 1 64 text

-- `demo` of this seed and so many cores, where both are written as they should be
abbrev pub demo_of : Option ℕ → Option ℕ → Option Command
demo_of (Some seed) (Some cores) = Some (Demo seed cores)
demo_of None cores = None
demo_of (Some seed) None = None

-- `jump` of this table and so many entries, where both are written as they should be: numbers as in a machine text, at
-- most 536,870,912 and 1,048,576
abbrev pub jump_of : Option ℕ → Option ℕ → Option Command
jump_of (Some table) (Some count) = Some (Jump table count)
jump_of None count = None
jump_of (Some table) None = None

-- the command of one word
abbrev pub command_named : List ℕ → Option Command
command_named name =
    if bytes_eq name (codes "report") then Some (Ask Report)
    else if bytes_eq name (codes "patch") then Some Patch
    else if bytes_eq name (codes "trace") then Some (Ask Trace)
    else if bytes_eq name (codes "elf") then Some Elf
    else if bytes_eq name (codes "pool") then Some Pool
    else if bytes_eq name (codes "audit") then Some Audit else None

-- the command of a name and two arguments
unfoldable pub command_of_two : List ℕ → List ℕ → List ℕ → Option Command
command_of_two name first second =
    if bytes_eq name (codes "mrs") then mrs_of (core_number first) (instruction_word second)
    else if bytes_eq name (codes "demo") then demo_of (seed_number first) (cores_number second)
    else if bytes_eq name (codes "jump") then jump_of (number_up_to 536870912 first) (number_up_to 1048576 second)
    else None

-- the command that words are a form of: `report`, `patch`, `mrs CORE WORD`, `demo SEED CORES`, `trace`, `elf`,
-- `jump OFFSET COUNT`, `pool` or `audit`
unfoldable pub command_of : List (List ℕ) → Option Command
command_of [] = None
command_of (name ∷ []) = command_named name
command_of (name ∷ first ∷ []) = None
command_of (name ∷ first ∷ second ∷ []) = command_of_two name first second
command_of (name ∷ first ∷ second ∷ third ∷ more) = None

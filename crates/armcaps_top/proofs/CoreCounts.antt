-- The cores of `demo` are 1 to 64.
use Rattle.std.proofs.Common.{◌≡◌, ℕ, ◌≤◌, Bool, true, false, cond, nat_lt, List, [], ◌∷◌, length, codes, Option, Some, None, refl, arith}
use Rattle.std.specs.Str.{bytes_eq}
use Rattle.std.proofs.lemmas.Bool.Decides.{nat_tests}
use Rattle.armcaps_lex.specs.Digits.{digits_number}
use Rattle.armcaps_text.specs.Numbers.{number_up_to}
use Rattle.armcaps_top.specs.Commands.{command_of, command_of_two, core_number, cores_number, demo_of, instruction_word, jump_of, mrs_of, seed_number, within}
use Rattle.armcaps_top.specs.Inside.{AreCoresGiven}
use Rattle.armcaps_top.specs.declared.commands.Command.{Command}
use Rattle.armcaps_top.specs.declared.commands.Command.TheVariants.{Ask, Patch, Elf, Pool, Audit, Demo}
use Rattle.armcaps_top.specs.declared.commands.Query.TheVariants.{Report, Trace}

within_is : (found : Option ℕ) (least most number : ℕ) → within least most found ≡ Some number → (least ≤ number) × (number ≤ most)
within_is None least most number is = absurd (let no : ⊥ = cc in no)
within_is (Some found) least most number is = (grind (arith, nat_tests), grind (arith, nat_tests))

bounded : (long : Bool) (found : Option ℕ) (least most number : ℕ) → cond long None (within least most found) ≡ Some number → (least ≤ number) × (number ≤ most)
bounded true found least most number is = absurd (let no : ⊥ = cc in no)
bounded false found least most number is = within_is found least most number is

of_demo : (first second : Option ℕ) (seed cores : ℕ) → demo_of first second ≡ Some (Demo seed cores) → second ≡ Some cores
of_demo (Some first) (Some second) seed cores is = cc
of_demo None second seed cores is = absurd (let no : ⊥ = cc in no)
of_demo (Some first) None seed cores is = absurd (let no : ⊥ = cc in no)

of_mrs : (core word : Option ℕ) (seed cores : ℕ) → mrs_of core word ≡ Some (Demo seed cores) → ⊥
of_mrs (Some core) (Some word) seed cores is = cc
of_mrs None word seed cores is = cc
of_mrs (Some core) None seed cores is = cc

of_jump : (table count : Option ℕ) (seed cores : ℕ) → jump_of table count ≡ Some (Demo seed cores) → ⊥
of_jump (Some table) (Some count) seed cores is = cc
of_jump None count seed cores is = cc
of_jump (Some table) None seed cores is = cc

of_one : (report patch trace elf pool audit : Bool) (seed cores : ℕ)
    → cond report (Some (Ask Report)) (cond patch (Some Patch) (cond trace (Some (Ask Trace)) (cond elf (Some Elf) (cond pool (Some Pool) (cond audit (Some Audit) None))))) ≡ Some (Demo seed cores) → ⊥
of_one true patch trace elf pool audit seed cores is = cc
of_one false true trace elf pool audit seed cores is = cc
of_one false false true elf pool audit seed cores is = cc
of_one false false false true pool audit seed cores is = cc
of_one false false false false true audit seed cores is = cc
of_one false false false false false true seed cores is = cc
of_one false false false false false false seed cores is = cc

of_two : (mrs demo jump : Bool) (core word first second table count : Option ℕ) (seed cores : ℕ)
    → cond mrs (mrs_of core word) (cond demo (demo_of first second) (cond jump (jump_of table count) None)) ≡ Some (Demo seed cores) → second ≡ Some cores
of_two true demo jump core word first second table count seed cores is = absurd (of_mrs core word seed cores is)
of_two false true jump core word first second table count seed cores is = of_demo first second seed cores is
of_two false false true core word first second table count seed cores is = absurd (of_jump table count seed cores is)
of_two false false false core word first second table count seed cores is = absurd (let no : ⊥ = cc in no)

cores_are : (words : List (List ℕ)) (seed cores : ℕ) → command_of words ≡ Some (Demo seed cores) → (1 ≤ cores) × (cores ≤ 64)
unfolding command_of command_of_two
cores_are [] seed cores is = absurd (let no : ⊥ = cc in no)
cores_are (name ∷ []) seed cores is =
    absurd (of_one (bytes_eq name (codes "report")) (bytes_eq name (codes "patch")) (bytes_eq name (codes "trace")) (bytes_eq name (codes "elf"))
    (bytes_eq name (codes "pool")) (bytes_eq name (codes "audit")) seed cores is)
cores_are (name ∷ first ∷ []) seed cores is = absurd (let no : ⊥ = cc in no)
cores_are (name ∷ first ∷ second ∷ []) seed cores is =
    bounded (nat_lt 2 (length second)) (digits_number 10 second) 1 64 cores
    (of_two (bytes_eq name (codes "mrs")) (bytes_eq name (codes "demo")) (bytes_eq name (codes "jump")) (core_number first) (instruction_word second)
    (seed_number first) (cores_number second) (number_up_to 536870912 first) (number_up_to 1048576 second) seed cores is)
cores_are (name ∷ first ∷ second ∷ third ∷ more) seed cores is = absurd (let no : ⊥ = cc in no)

given : (command : Option Command) → ((seed cores : ℕ) → command ≡ Some (Demo seed cores) → (1 ≤ cores) × (cores ≤ 64)) → AreCoresGiven command
given (Some (Demo seed cores)) law = law seed cores refl
given _ law = tt

pub cores_given : (words : List (List ℕ)) → AreCoresGiven (command_of words)
cores_given words = given (command_of words) (cores_are words)

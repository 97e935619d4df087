-- What holds of a machine that is generated from a number.
use Rattle.std.proofs.Common.{◌≡◌, ℕ, zero, suc, ◌+◌, ◌-◌, ◌/◌, ◌<◌, ◌≤◌, ◌&&◌, Bool, true, false, cond, List, [], ◌∷◌, length, Option, None, refl, ap, ◌∙◌, arith, lit≤}
use Rattle.std.specs.List.{All}
use Rattle.std.specs.Option.{option_or}
use Rattle.std.proofs.lemmas.Bool.{and_parts}
use Rattle.armcaps_board.specs.Board.{Board}
use Rattle.armcaps_board.specs.Order.{in_order, is_next}
use Rattle.armcaps_board.specs.Steps.{history}
use Rattle.armcaps_board.specs.declared.event.Event.{Event}
use Rattle.armcaps_board.specs.declared.event.Event.TheVariants.{Check, Local, Store, Offline, Finalise}
use Rattle.armcaps_board.proofs.Turns.{turn_of}
use Rattle.armcaps_boot.specs.ParkOrPanic.{halt_for, halt_of}
use Rattle.armcaps_boot.specs.Causes.{cause_at_check, cause_of_check, first_conflict}
use Rattle.armcaps_boot.specs.Numbers.{first_of}
use Rattle.armcaps_boot.specs.declared.cause.Cause.{Cause}
use Rattle.armcaps_boot.specs.declared.park_or_panic.Halt.{Halt}
use Rattle.armcaps_caps.specs.Capabilities.{core_has_capability, is_boot_scope, is_optional, is_permitted, test_of}
use Rattle.armcaps_caps.specs.Rows.{capability_rows}
use Rattle.armcaps_cmdline.proofs.Fitting.{command_line_fits, listed}
use Rattle.armcaps_cmdline.proofs.IdRegisters.{outside}
use Rattle.armcaps_cmdline.specs.Overrides.{command_line_override, command_line_overrides}
use Rattle.armcaps_cmdline.specs.Words.{counted_words}
use Rattle.armcaps_rule.specs.Rule.{fold_of, forced_of}
use Rattle.armcaps_enc.specs.declared.register.SysReg.TheVariants.{CtrEl0}
use Rattle.armcaps_tables.specs.Core.{Core, core_word}
use Rattle.armcaps_tables.specs.Overriding.{overrides_by}
use Rattle.armcaps_tables.specs.Rows.{id_aa64isar1_rows, id_aa64isar2_rows, id_aa64mmfr1_rows, id_aa64mmfr3_rows, id_aa64pfr1_rows}
use Rattle.armcaps_generate.specs.Cores.{core_drawn, core_for, core_with, generated_board, generated_steps, others_drawn}
use Rattle.armcaps_generate.proofs.Drawing.{each_drawn, length-several}
use Rattle.armcaps_generate.proofs.OnlineSteps.{generated_complete, generated_in_order}
use Rattle.armcaps_text.specs.Generator.{generated_reading}
use Rattle.armcaps_text.specs.Sound.{IsSound}

-- there are as many cores as were asked for
cores_counted : (seed cores : ℕ) → 1 ≤ cores → length (core_for 0 ∷ (others_drawn seed cores).value) ≡ cores
unfolding others_drawn
cores_counted seed cores some = omega (arith, length-several core_drawn (cores - 1) (seed + 1))

pub generated_sound : (seed cores : ℕ) → 1 ≤ cores → cores ≤ 64 → IsSound (generated_reading seed cores)
unfolding generated_reading generated_board
generated_sound seed cores some few = record {
  board = record {
    within = omega (arith, cores_counted seed cores some);
    few = omega (arith, cores_counted seed cores some);
    fit = command_line_fits [];
    plain_ctr = λ index within. listed [] CtrEl0 index ∙ outside [] CtrEl0 index refl;
  };
  order = generated_in_order (generated_board seed cores) cores refl (cores_counted seed cores some) some;
  complete = generated_complete (generated_board seed cores) cores refl (cores_counted seed cores some) some;
  image = lit≤ tt;
  table = lit≤ tt;
}

-- whether a core has a capability, beside the first one and by an empty command line
abbrev has_beside_first : Core → ℕ → Bool
has_beside_first core number = core_has_capability (command_line_overrides []) (core_for 0) (core_word (core_for 0) CtrEl0) core number

-- what stops it at its check
abbrev cause_of : Core → Option Cause
cause_of core = cause_of_check (core_for 0) core (first_conflict is_boot_scope (has_beside_first (core_for 0)) (has_beside_first core))

-- nothing does, for a core that can be drawn
no_cause : (odd : Bool) → cause_of (core_with (cond odd 0x410fd034 0x410fd092)) ≡ None
unfolding first_of is_boot_scope core_has_capability test_of capability_rows is_optional is_permitted command_line_override overrides_by id_aa64isar1_rows forced_of counted_words fold_of id_aa64isar2_rows id_aa64pfr1_rows id_aa64mmfr1_rows id_aa64mmfr3_rows
no_cause true = refl
no_cause false = refl

-- steps in order do not stop a machine none of whose cores has a cause at its check
not_stopped : (board : Board) → ((number : ℕ) → number < length board.cores → cause_at_check board number ≡ None) → (steps : List Event) → in_order board steps ≡ true → halt_of board steps ≡ None
unfolding halt_of in_order
not_stopped board none [] ordered = refl
not_stopped board none (Check number ∷ steps) ordered =
    let parts = and_parts (is_next board steps (Check number)) (in_order board steps) ordered in
    let here : cause_at_check board number ≡ None = none number (turn_of board steps (Check number) number refl parts.0).within in
    ap (λ (halt : Option Halt). option_or halt (halt_for number (cause_at_check board number))) (not_stopped board none steps parts.1) ∙ ap (halt_for number) here
not_stopped board none (event ∷ steps) ordered =
    ap (λ (halt : Option Halt). option_or halt None) (not_stopped board none steps (and_parts (is_next board steps event) (in_order board steps) ordered).1)

-- so none of a generated machine has one
none_at_check : (cores : List Core) → All (λ core. cause_of core ≡ None) cores → (number : ℕ) → number < length (core_for 0 ∷ cores)
    → cause_at_check (record { cores = core_for 0 ∷ cores; boot = 0; overrides = command_line_overrides [] }) number ≡ None
unfolding cause_at_check
none_at_check cores none zero within = no_cause true
none_at_check cores none (suc number) within = none number (record { words = []; lengths = 0 }) (omega (arith, within))

others_have_none : (seed cores : ℕ) → All (λ core. cause_of core ≡ None) (others_drawn seed cores).value
unfolding others_drawn
others_have_none seed cores = each_drawn core_drawn (λ (core : Core). cause_of core ≡ None) (λ state. no_cause _) (cores - 1) (seed + 1)

pub generated_up : (seed cores : ℕ) → 1 ≤ cores → halt_of (generated_board seed cores) (history (generated_steps cores)) ≡ None
unfolding generated_board
generated_up seed cores some =
    not_stopped (generated_board seed cores) (none_at_check (others_drawn seed cores).value (others_have_none seed cores)) (history (generated_steps cores))
    (generated_in_order (generated_board seed cores) cores refl (cores_counted seed cores some) some)

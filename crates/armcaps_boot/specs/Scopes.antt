-- What the code asks: the same as the definitions, of what it keeps, with the cache type compared with that of the
-- present system word.
use Rattle.std.specs.Prelude.{ℕ, Bool, List, Option, true, false, not, if◌then◌else◌}
use Rattle.armcaps_tables.specs.Core.{Core}
use Rattle.armcaps_board.specs.Board.{Board, boot_core}
use Rattle.armcaps_caps.specs.Capabilities.{core_has_capability, is_boot_scope, is_local_scope, system_has_capability}
use Rattle.armcaps_caps.specs.Set.{holds}
use Rattle.armcaps_hwcap.specs.declared.hw_set.HwSet.{HwSet}
use Rattle.armcaps_hwcap.specs.Hwcaps.{core_has_hwcap}
use Rattle.armcaps_hwcap.specs.Words.{set_has_row}
use Rattle.armcaps_hwcap.specs.Rows.{hwcap_count}
use Rattle.armcaps_boot.specs.declared.cause.Cause.{Cause}
use Rattle.armcaps_boot.specs.Causes.{cause_of_check, cause_of_lack, first_conflict, first_lacking, has_length}

-- whether a capability is of boot scope, or is not
abbrev pub in_scope : Bool → ℕ → Bool
in_scope boot number = if boot then is_boot_scope number else not (is_boot_scope number)

-- whether a capability is of boot scope, or else local
abbrev pub own_scope : Bool → ℕ → Bool
own_scope boot number = if boot then is_boot_scope number else is_local_scope number

-- whether a capability is enabled by what was gathered before finalisation: the sets of those of boot scope and of
-- those noted, and the words of the system registers
unfoldable pub enabled_by : ℕ → ℕ → List ℕ → ℕ → Bool
enabled_by enabled noted words number =
    if is_boot_scope number then holds enabled number
    else if is_local_scope number then holds noted number
    else system_has_capability words number

-- whether a core has a capability, where its cache type is compared with this word of CTR_EL0
abbrev pub has_by : Board → ℕ → Core → ℕ → Bool
has_by board ctr core number = core_has_capability board.overrides (boot_core board) ctr core number

-- the first conflict with a set of capabilities
unfoldable pub conflict_with : Bool → ℕ → Board → Core → ℕ → Option ℕ
conflict_with boot_scope enabled board core ctr =
    first_conflict (in_scope boot_scope) (holds enabled) (has_by board ctr core)

-- the first lack of what a system has
unfoldable pub lack_of : ℕ → HwSet → ℕ → Board → Core → ℕ → Option Cause
lack_of enabled hwcaps lengths board core ctr =
    cause_of_lack (conflict_with false enabled board core ctr)
    (first_lacking 0 hwcap_count (set_has_row hwcaps) (core_has_hwcap board.overrides core))
    (first_lacking 1 16 (has_length lengths) (has_length core.lengths))

-- what holds a core back at its check
unfoldable pub held_at_check : ℕ → Board → Core → ℕ → Option Cause
held_at_check enabled board core ctr =
    cause_of_check (boot_core board) core (conflict_with true enabled board core ctr)

-- What the state of a core says of it.
use Rattle.std.specs.Prelude.{Bool, true, false, if◌then◌else◌}
use Rattle.armcaps_boot.specs.declared.past.Past.{Past}
use Rattle.armcaps_boot.specs.declared.past.Past.TheVariants.{Never, Early, Late}
use Rattle.armcaps_boot.specs.declared.core_state.CoreState.{CoreState}
use Rattle.armcaps_boot.specs.declared.core_state.CoreState.TheVariants.{Checked, Updated, Admitted, Offline}

-- as what a core was admitted that is late or not
abbrev pub past_admitted : Bool → Past
past_admitted late = if late then Late else Early

-- as what a core in this state was admitted
abbrev pub past_of : CoreState → Past
past_of (Checked was) = was
past_of (Updated was) = was
past_of (Admitted late) = past_admitted late
past_of (Offline late) = past_admitted late
past_of _ = Never

-- a core with this past was admitted before finalisation
abbrev pub is_early_past : Past → Bool
is_early_past Early = true
is_early_past _ = false

-- a core with this past was admitted after finalisation
abbrev pub is_late_past : Past → Bool
is_late_past Late = true
is_late_past _ = false

-- a core with this past was ever admitted
abbrev pub is_admitted_past : Past → Bool
is_admitted_past Never = false
is_admitted_past _ = true

-- the core was ever admitted
abbrev pub is_admitted : CoreState → Bool
is_admitted state = is_admitted_past (past_of state)

-- the core was ever admitted, and first before finalisation
abbrev pub is_early : CoreState → Bool
is_early state = is_early_past (past_of state)

-- the core was ever admitted, and first after finalisation
abbrev pub is_late : CoreState → Bool
is_late state = is_late_past (past_of state)

-- the core has made its check and not yet its store
abbrev pub is_in_flight : CoreState → Bool
is_in_flight (Checked was) = true
is_in_flight (Updated was) = true
is_in_flight _ = false

-- the core's own capabilities were noted or verified, and it hasn't made its store yet
abbrev pub is_updated : CoreState → Bool
is_updated (Updated was) = true
is_updated _ = false

-- the core has passed its check
abbrev pub has_passed : CoreState → Bool
has_passed (Checked was) = true
has_passed (Updated was) = true
has_passed (Admitted late) = true
has_passed (Offline late) = true
has_passed _ = false

-- What an override of a field comes to.
use Rattle.std.specs.Prelude.{ℕ, ℤ, if◌then◌else◌, Option, Some, None}
use Rattle.std.specs.Ordering.{int_eq}
use Rattle.armcaps_rule.specs.declared.rule.Rule.{Rule}
use Rattle.armcaps_rule.specs.Rule.{merged}
use Rattle.armcaps_enc.specs.declared.register.SysReg.{SysReg}
use Rattle.armcaps_tables.specs.Core.{Core, core_word}
use Rattle.armcaps_tables.specs.Overriding.{FieldOverrides, override_of}
use Rattle.armcaps_tables.specs.Row.{Row}
use Rattle.armcaps_sanit.specs.declared.noted.Note.{Note}
use Rattle.armcaps_sanit.specs.declared.noted.Note.TheVariants.{None as NoOverride, Forced, Ignored, Already}
use Rattle.armcaps_tables.specs.Fields.{field_in}

-- taken where merging the two gives the override, and then forced where they differ (Linux, `init_cpu_ftr_reg`)
abbrev pub note_of : Rule → ℤ → Option ℤ → ℤ → Note
note_of rule safe None value = NoOverride
note_of rule safe (Some override) value =
    if int_eq (merged rule safe override value) override then (if int_eq value override then Already else Forced)
    else Ignored

-- what the override of a row comes to on the boot core
abbrev pub field_note : FieldOverrides → Core → SysReg → ℕ → Row → Note
field_note overrides boot reg index row =
    note_of row.rule row.safe (override_of overrides reg index) (field_in row (core_word boot reg))

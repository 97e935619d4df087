use Rattle.std.proofs.Common.{◌≡◌, List, ◌++◌, take, string_bytes}
use Rattle.std.specs.List.{flat_map}
use Rattle.armcaps_enc.specs.Registers.{tracked}
use Rattle.armcaps_tables.specs.Core.{Core}
use Rattle.armcaps_tables.specs.Overriding.{FieldOverrides}
use Rattle.armcaps_sanit.specs.System.{IsSystemOf, system_word}
use Rattle.armcaps_report.specs.Trace.{changed_line}
use Rattle.armcaps_report.proofs.tracing.push_changes.Given as goal

abbrev pub invariant-loop-register : goal.invariant-loop-register
invariant-loop-register l =
    (overrides : FieldOverrides) (old new : List Core) → IsSystemOf overrides old l.before → IsSystemOf overrides new l.after →
    string_bytes l.text ≡ string_bytes l.initial.text
    ++ flat_map (λ register. changed_line register (system_word overrides old register) (system_word overrides new register)) (take l.register-index tracked)

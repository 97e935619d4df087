use Rattle.std.proofs.Common.{◌≡◌, ◌++◌, take, string_bytes}
use Rattle.std.specs.List.{flat_map}
use Rattle.armcaps_enc.specs.Registers.{tracked}
use Rattle.armcaps_report.specs.Pooled.{field_limits}
use Rattle.armcaps_report.proofs.pooled.push_limits.Given as goal

-- the lines of the fields of the registers passed
abbrev pub invariant-loop-register : goal.invariant-loop-register
invariant-loop-register l =
    string_bytes l.text ≡ string_bytes l.initial.text
    ++ flat_map (field_limits l.baseline) (take l.register-index tracked)

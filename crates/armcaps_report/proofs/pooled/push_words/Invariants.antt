use Rattle.std.proofs.Common.{◌≡◌, ◌++◌, take, string_bytes}
use Rattle.std.specs.List.{flat_map}
use Rattle.armcaps_enc.specs.Registers.{tracked}
use Rattle.armcaps_baseline.specs.Baselines.{baseline_word}
use Rattle.armcaps_report.specs.Lines.{register_line}
use Rattle.armcaps_report.proofs.pooled.push_words.Given as goal

-- the lines of the registers passed
abbrev pub invariant-loop-register : goal.invariant-loop-register
invariant-loop-register l =
    string_bytes l.text ≡ string_bytes l.initial.text
    ++ flat_map (λ register. register_line register (baseline_word l.baseline register)) (take l.register-index tracked)

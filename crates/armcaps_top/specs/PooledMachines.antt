-- What `pool` writes, in the words of its subject.
use Rattle.std.specs.Prelude.{◌≡◌, ◌<◌, ◌≤◌, ℕ, List, Some, length, map}
use Rattle.armcaps_baseline.specs.Baselines.{IsAcceptedByAll, IsAtMost, IsLimiting, baseline_words, limiting_machine}
use Rattle.armcaps_enc.specs.declared.register.SysReg.{SysReg}
use Rattle.armcaps_report.specs.Pooled.{pool_report_of}
use Rattle.armcaps_tables.specs.Row.{Row}
use Rattle.armcaps_top.specs.Answer.{findings_in}
use Rattle.armcaps_top.specs.Document.{Document}
use Rattle.armcaps_top.specs.Pool.{words_found}

-- the words of the registers of a document's machine, once its steps are made
abbrev pub words_in : Document → List ℕ
words_in found = words_found (findings_in found)

-- the text is the report of the baseline of 1 to 64 machines, by these words of their registers: each machine accepts
-- it, every register set that each machine accepts is at most it, and each field has a machine that limits it
pub record TellsBaseline (found : List Document) (text : List ℕ) : Type 0 where
  pub some : 0 < length found
  pub few : length found ≤ 64
  pub told : text ≡ pool_report_of (map words_in found)
  pub accepted : IsAcceptedByAll (baseline_words (map words_in found)) (map words_in found)
  pub best : (words : List ℕ) → IsAcceptedByAll words (map words_in found)
      → IsAtMost words (baseline_words (map words_in found))
  pub limited : (reg : SysReg) (row : Row) → (number : ℕ)
      × ((limiting_machine (map words_in found) reg row ≡ Some number) × IsLimiting (map words_in found) reg row number)

-- How it is written what `demo` counts of a machine and its image. The lines are this project's own.
use Rattle.std.specs.Prelude.{ℕ, ◌++◌, Bool, true, false, List, codes, count_by, length}
use Rattle.std.specs.Fmt.{decimal}
use Rattle.std.specs.List.{range_with_len}
use Rattle.armcaps_boot.specs.Findings.{Findings}
use Rattle.armcaps_boot.specs.World.{state_at}
use Rattle.armcaps_boot.specs.declared.core_state.CoreState.{CoreState}
use Rattle.armcaps_boot.specs.declared.core_state.CoreState.TheVariants.{Admitted, Parked}
use Rattle.armcaps_report.specs.declared.demo.Counts.{Counts}

-- the core is admitted
abbrev pub stands_admitted : CoreState → Bool
stands_admitted (Admitted late) = true
stands_admitted _ = false

-- the core is held back
abbrev pub stands_parked : CoreState → Bool
stands_parked (Parked cause) = true
stands_parked _ = false

-- how many cores are in such a state
abbrev pub cores_that : (CoreState → Bool) → Findings → ℕ
cores_that test found =
    count_by (λ number. test (state_at found.states number)) (range_with_len 0 (length found.board.cores))

-- the first line: the number and the count of cores that the words give
abbrev pub title_line : ℕ → ℕ → List ℕ
title_line seed cores = codes "armcaps demo " ++ decimal seed ++ codes " " ++ decimal cores ++ codes "\n"

-- how many cores are admitted, and how many are parked
abbrev pub cores_line : Counts → List ℕ
cores_line counts =
    codes "admitted " ++ decimal counts.admitted ++ codes " parked " ++ decimal counts.parked ++ codes "\n"

-- how many entries the table has, and how many of them are selected
abbrev pub entries_line : Counts → List ℕ
entries_line counts = codes "entries 20000 selected " ++ decimal counts.selected ++ codes "\n"

-- how many words a selected site covers, and how many words are changed
abbrev pub words_line : Counts → List ℕ
words_line counts =
    codes "words " ++ decimal counts.covered ++ codes " changed " ++ decimal counts.changed ++ codes "\n"

-- the sum of the patched image's words
abbrev pub sum_line : Counts → List ℕ
sum_line counts = codes "sum " ++ decimal counts.sum ++ codes "\n"

-- the five lines of `demo`, by its words and what is counted
unfoldable pub demo_lines : ℕ → ℕ → Counts → List ℕ
demo_lines seed cores counts =
    title_line seed cores ++ cores_line counts ++ entries_line counts ++ words_line counts ++ sum_line counts

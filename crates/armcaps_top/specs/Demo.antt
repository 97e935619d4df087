-- What `demo` writes: what comes of a machine and its image that are made from a number.
use Rattle.std.specs.Prelude.{ℕ, ◌==◌, ◌*◌, ◌/◌, Bool, not, List, count_by, length, sum_by}
use Rattle.std.specs.List.{list_any, range_with_len}
use Rattle.armcaps_image.specs.Bytes.{word_in}
use Rattle.armcaps_alt.specs.Entries.{Features, selected_of}
use Rattle.armcaps_alt.specs.Patched.{covers, patched_image}
use Rattle.armcaps_alt.specs.declared.table_entry.Entry.{Entry}
use Rattle.armcaps_alt.specs.declared.table_place.Layout.{Layout}
use Rattle.armcaps_board.specs.Board.{Board}
use Rattle.armcaps_boot.specs.Findings.{Findings, findings_after}
use Rattle.armcaps_board.specs.declared.event.Event.{Event}
use Rattle.armcaps_patch.specs.Features.{features_of_findings}
use Rattle.armcaps_report.specs.Demo.{cores_that, demo_lines, stands_admitted, stands_parked}
use Rattle.armcaps_report.specs.declared.demo.Counts.{Counts}
use Rattle.armcaps_text.specs.Document.{Reading}
use Rattle.armcaps_text.specs.Generator.{generated_reading}
use Rattle.armcaps_generate.specs.LargeImage.{generated_image}
use Rattle.armcaps_top.specs.Document.{Document}

-- how many words of an image the sites of entries cover: those whose first byte lies in the site of some entry
abbrev pub words_covered : List ℕ → List Entry → ℕ
words_covered image entries =
    count_by (λ index. list_any (covers (4 * index)) entries) (range_with_len 0 (length image / 4))

-- whether the word at an index differs in two images
abbrev pub is_changed : List ℕ → List ℕ → ℕ → Bool
is_changed image patched index = not (word_in patched (4 * index) == word_in image (4 * index))

-- how many words differ in two images
abbrev pub words_changed : List ℕ → List ℕ → ℕ
words_changed image patched = count_by (is_changed image patched) (range_with_len 0 (length image / 4))

-- the sum of an image's words
abbrev pub sum_of_words : List ℕ → ℕ
sum_of_words image = sum_by (λ index. word_in image (4 * index)) (range_with_len 0 (length image / 4))

-- what is counted of a machine and its image
unfoldable pub counts_of : Findings → Features → List ℕ → Layout → Counts
counts_of found features image layout =
    let patched = patched_image features image layout in
    record {
      admitted = cores_that stands_admitted found;
      parked = cores_that stands_parked found;
      selected = length (selected_of features image layout);
      covered = words_covered image (selected_of features image layout);
      changed = words_changed image patched;
      sum = sum_of_words patched;
    }

-- what `demo` writes of the document of its seed and its cores, once all steps of the board are made
unfoldable pub demo_output : ℕ → ℕ → Board → List Event → Reading → List ℕ → List ℕ
demo_output seed cores board steps reading image =
    let found = findings_after board steps in
    demo_lines seed cores (counts_of found (features_of_findings found reading.names) image reading.layout)

-- the document that is made from a seed for so many cores
abbrev pub generated_document : ℕ → ℕ → Document
generated_document seed cores = record { reading = generated_reading seed cores; image = generated_image seed cores }

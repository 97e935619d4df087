use Rattle.std.proofs.Common.{ℕ, List, ◌++◌, ap, ◌∙◌, codes}
use Rattle.std.specs.Fmt.{decimal}
use Rattle.std.specs.String.{string_bytes}
use Rattle.armcaps_report.specs.Demo.{demo_lines, title_line, cores_line, entries_line, words_line}
use Rattle.armcaps_report.specs.Demo.{sum_line}
use Rattle.armcaps_report.proofs.Tallies.{one_number, two_numbers}
use Rattle.armcaps_report.proofs.demo.demo_lines.Goals as goal

pub returns : goal.returns
unfolding demo_lines
returns c =
    let counts = c.args.counts.now in
    c.in_ok-write-5.ensures.bytes
    ∙ ap (λ (line : List ℕ). string_bytes c.write-4.new.self ++ line) (one_number (codes "sum ") (decimal counts.sum) (codes "\n"))
    ∙ ap (λ (text : List ℕ). text ++ sum_line counts) (c.in_ok-write-4.ensures.bytes
    ∙ ap (λ (line : List ℕ). string_bytes c.write-3.new.self ++ line) (two_numbers (codes "words ") (decimal counts.covered) (codes " changed ") (decimal counts.changed) (codes "\n"))
    ∙ ap (λ (text : List ℕ). text ++ words_line counts) (c.in_ok-write-3.ensures.bytes
    ∙ ap (λ (line : List ℕ). string_bytes c.write-2.new.self ++ line) (one_number (codes "entries 20000 selected ") (decimal counts.selected) (codes "\n"))
    ∙ ap (λ (text : List ℕ). text ++ entries_line counts) (c.in_ok-write-2.ensures.bytes
    ∙ ap (λ (line : List ℕ). string_bytes c.write.new.self ++ line) (two_numbers (codes "admitted ") (decimal counts.admitted) (codes " parked ") (decimal counts.parked) (codes "\n"))
    ∙ ap (λ (text : List ℕ). text ++ cores_line counts) (c.in_ok-write.ensures.bytes
    ∙ ap (λ (line : List ℕ). string_bytes c.new-text.result ++ line) (two_numbers (codes "armcaps demo ") (decimal c.args.seed) (codes " ") (decimal c.args.cores) (codes "\n"))
    ∙ ap (λ (text : List ℕ). text ++ title_line c.args.seed c.args.cores) c.new-text.ensures.bytes))))

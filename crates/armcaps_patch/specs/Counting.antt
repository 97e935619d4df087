-- How much the selected entries patch.
use Rattle.std.specs.Prelude.{ℕ, ◌/◌, List, sum_by}
use Rattle.armcaps_alt.specs.declared.table_entry.Entry.{Entry}

-- how many words the sites of entries have; a word that lies in two sites counts twice
abbrev pub words_of_sites : List Entry → ℕ
words_of_sites entries = sum_by (λ entry. entry.orig_len / 4) entries

-- What the reader keeps of the lines that it has read, as what they come to.
use Rattle.std.specs.Prelude.{ℕ}
use Rattle.std.specs.BTreeMap.{BTreeMap}
use Rattle.std.specs.FinMap.{FinMap, from_entries}
use Rattle.std.specs.Option.{option_copied}
use Rattle.std.specs.Ordering.{nat_cmp}
use Rattle.armcaps_text.specs.Before.{Before}
use Rattle.armcaps_text.specs.declared.reader.Reader.{Reader}

-- a map of the program as a map
abbrev pub map_of : {V : Type 0} → BTreeMap ℕ V → FinMap nat_cmp V
map_of map = from_entries map.entries

-- what the lines that the reader has taken come to
abbrev pub so_far : Reader → Before
so_far reader = record {
  cores = reader.cores.items;
  named = reader.named.items;
  measured = reader.measured;
  boot = reader.boot;
  command_line = option_copied reader.command_line;
  steps = reader.steps;
  numbers = map_of reader.numbers;
  callbacks = map_of reader.callbacks;
  conduit = reader.conduit;
  layout = reader.layout;
  image = reader.image;
  section = reader.section;
}

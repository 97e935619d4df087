-- A machine with a large image, made from a number, as it reads.
use Rattle.std.specs.Prelude.{ℕ, [], map}
use Rattle.std.specs.List.{range_with_len}
use Rattle.armcaps_alt.specs.Names.{NameLists}
use Rattle.armcaps_alt.specs.declared.named_number.Named.TheVariants.{Cap}
use Rattle.armcaps_alt.specs.declared.smccc_conduit.Conduit.TheVariants as conduit
use Rattle.armcaps_caps.specs.Rows.{capability_count}
use Rattle.armcaps_generate.specs.Cores.{generated_board, generated_steps}
use Rattle.armcaps_text.specs.Document.{Reading}

-- each capability has its own number
abbrev pub generated_names : NameLists
generated_names = record {
  numbers = map (λ number. (number, Cap number)) (range_with_len 0 capability_count);
  callbacks = [];
  conduit = conduit.None;
}

-- what is generated from a seed for so many cores, beside the image: the table of 20,000 entries stands at the
-- image's begin
unfoldable pub generated_reading : ℕ → ℕ → Reading
generated_reading seed cores = record {
  board = generated_board seed cores;
  steps = generated_steps cores;
  names = generated_names;
  layout = record { table = 0; count = 20000 };
  image = 2_097_152;
}

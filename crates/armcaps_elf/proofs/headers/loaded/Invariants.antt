use Rattle.std.proofs.Common.{◌≡◌, filter, map}
use Rattle.std.specs.List.{range_with_len}
use Rattle.armcaps_elf.specs.Headers.{header_numbered, is_loaded}
use Rattle.armcaps_elf.proofs.headers.loaded.Given as goal

abbrev pub invariant-loop-index : goal.invariant-loop-index
invariant-loop-index l =
    l.headers.items ≡ filter is_loaded (map (header_numbered l.file) (range_with_len 0 l.index))

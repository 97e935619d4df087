use Rattle.std.proofs.Common.{◌≢◌, ℕ, List, ap, get_or, length, subst, ◌∙◌}
use Rattle.std.proofs.lemmas.List.FromFn.{length-map-range_with_len}
use Rattle.armcaps_alt.specs.Entries.{Features}
use Rattle.armcaps_alt.specs.Patched.{patched_image}
use Rattle.armcaps_elf.specs.Headers.{sections_of}
use Rattle.armcaps_elf.specs.Images.{flat_image, flat_place}
use Rattle.armcaps_top.specs.Elf.{elf_reason, patched_file, table_in}
use Rattle.armcaps_top.specs.Features.{features_in}
use Rattle.armcaps_top.proofs.Sites.{file_accepted, in_a_site, unless_written}
use Rattle.armcaps_top.proofs.laws.changed_bytes_lie_in_sites.Goals as goal

pub returns : goal.returns
returns c = λ found text is.
    let features : Features = features_in found in
    let file : List ℕ = found.image in
    let patched : List ℕ = patched_image features (flat_image file) (table_in file) in
    let written = unless_written (elf_reason features found.reading.layout file) (patched_file features file) text is in
    let accepted = file_accepted features found.reading.layout file written.0 in record {
      size = ap length written.1 ∙ length-map-range_with_len _ 0 (length file);
      sites = λ place within differs.
          let lies = c.changed_byte_is_loaded.ensures file patched place accepted within
          (subst (λ (bytes : List ℕ). get_or bytes place 0 ≢ get_or file place 0) written.1 differs) in
          let site = in_a_site features (flat_image file) (table_in file) (flat_place (sections_of file) lies.0 place) lies.3 in record {
            section = lies.0;
            loaded = lies.1;
            held = lies.2;
            entry = site.0;
            selected = site.1;
            covered = site.2;
          };
    }

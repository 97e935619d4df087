-- The sites of the table, piece after piece.
use Rattle.std.proofs.Common.{◌+◌, ◌*◌, ◌/◌, ◌<◌, ℕ, List, arith, length, min, refl, subst, sym}
use Rattle.std.specs.List.{All}
use Rattle.armcaps_jump.specs.declared.site.Site.{Site}
use Rattle.armcaps_jump.specs.Jumped.{sites_of}
use Rattle.armcaps_jump.specs.Standing.{IsInPiece}
use Rattle.armcaps_jump.proofs.Finding.{all_in, in_some, last_in_piece}
use Rattle.armcaps_jump.proofs.jumps.Jumps.check.Goals as goal

pub invariant_of-result : goal.invariant_of-result
invariant_of-result c =
    let image = c.args.image.now in
    let kept = c.in_ok-by_piece.ensures.grouped in
    let pieces = c.in_ok-by_piece.ensures.pieces in
    record {
      small = c.requires;
      pieces = omega (arith, pieces);
      order = kept.order;
      within = kept.within;
      each = λ piece within.
          subst (λ (xs : List Site). All (IsInPiece (4096 * piece) (min (length image) (4096 * piece + 4096))) xs) (sym (kept.pieces piece within))
          (all_in (length image) piece (sites_of image c.args.table c.args.count) c.in_ok-by_piece.ensures.each);
    }

pub returns-clause-stands : goal.returns-clause-stands
returns-clause-stands c =
    let image = c.args.image.now in
    let sites = sites_of image c.args.table c.args.count in
    let pieces = c.in_ok-by_piece.ensures.pieces in
    let some : All (λ (site : Site). site.place / 4096 < length c.in_ok-by_piece.field-0.ends.items) sites =
    subst (λ (n : ℕ). All (λ (site : Site). site.place / 4096 < n) sites) (sym pieces) (in_some (length image) sites c.in_ok-by_piece.ensures.each) in
    record {
      inside = omega arith;
      accepted = c.in_ok-by_piece.ensures.accepted;
      size = refl;
      last = λ place. last_in_piece sites c.in_ok-by_piece.field-0.sites.items c.in_ok-by_piece.field-0.ends.items c.in_ok-by_piece.ensures.grouped some place;
    }

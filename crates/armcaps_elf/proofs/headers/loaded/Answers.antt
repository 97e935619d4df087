-- One header more.
use Rattle.std.proofs.Common.{◌≡◌, ◌+◌, ◌*◌, ap, append-nil, arith, sym, true, false, ◌∙◌}
use Rattle.std.proofs.lemmas.List.FromFn.{filter_of_map_range_with_len_more}
use Rattle.armcaps_elf.specs.Headers.{header_at, header_numbered, is_loaded}
use Rattle.armcaps_elf.proofs.headers.loaded.Goals as goal
use Rattle.armcaps_elf.proofs.headers.loaded.Goals.{then-is_loaded+in_ok-push, else-is_loaded}

pub loop-index-preserved : goal.loop-index-preserved
loop-index-preserved c =
    let file = c.args.file.now in
    let index = c.loop-index.index in
    let header : c.read-header.result ≡ header_numbered file index =
    c.read-header.ensures ∙ ap (λ place. header_at file (place + 64 * index)) c.long-place.ensures in
    let more = filter_of_map_range_with_len_more is_loaded (header_numbered file) 0 index index (omega arith) in
    elim c.if-is_loaded.branch [
      | then-is_loaded+in_ok-push w ↦
          let yes : is_loaded (header_numbered file index) ≡ true = ap is_loaded (sym header) ∙ (sym c.is_loaded.ensures ∙ w.if-is_loaded.true) in
          rw (more, yes, w.headers-is, ← header, ← c.loop-index.invariant) w.in_ok-push.ensures.items
      | else-is_loaded w ↦
          let not : is_loaded (header_numbered file index) ≡ false = ap is_loaded (sym header) ∙ (sym c.is_loaded.ensures ∙ w.if-is_loaded.false) in
          rw (more, not, w.headers-is, append-nil) c.loop-index.invariant
    ]

use Rattle.std.proofs.Common.{◌∙◌, arith, sym}
use Rattle.armcaps_pool.proofs.Bytes.{changed_in_word}
use Rattle.armcaps_pool.proofs.differing.changed_byte.Goals.{else-index-lt4-via-then-index-lt4+else-is_marked, else-index-lt4-via-else-index-lt4}
use Rattle.armcaps_pool.proofs.differing.changed_byte.Goals as goal

pub returns-else-index-lt4 : goal.returns-else-index-lt4
returns-else-index-lt4 c =
    changed_in_word c.args.marks.now c.args.patched.now c.args.image.now c.args.number c.word.result c.word-2.result
    c.differing_byte-index.result (λ k. (c.type_inv.patched k).fits) (λ k. (c.type_inv.image k).fits) c.word.ensures
    c.word-2.ensures c.differing_byte-index.ensures
    (λ differs. elim c.else-index-lt4.branch [
      | else-index-lt4-via-then-index-lt4+else-is_marked w ↦ sym w.is_marked.ensures ∙ w.if-is_marked.false
      | else-index-lt4-via-else-index-lt4 w ↦ (let past = w.if-index-lt4.false in absurd (omega arith))
    ])

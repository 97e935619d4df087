-- A word more, and a word that isn't followed.
use Rattle.std.proofs.Common.{◌≡◌, ◌+◌, ◌*◌, ◌/◌, arith, false, not, refl, sym, true, ◌∙◌}
use Rattle.std.proofs.Math.Bool.{or-false, or-true}
use Rattle.std.specs.List.{list_any}
use Rattle.armcaps_alt.specs.Refusals.{is_literal, is_out_of_range}
use Rattle.armcaps_image.specs.Bytes.{word_in}
use Rattle.armcaps_insn.specs.Encodings.{class_of}
use Rattle.armcaps_insn.specs.Moved.{takes_no_address}
use Rattle.armcaps_patch.specs.Replaced.{moved_words}
use Rattle.armcaps_patch.specs.Kept.{moved_word}
use Rattle.armcaps_patch.proofs.Addresses.{told_moved}
use Rattle.armcaps_patch.proofs.Moving.{any_here, any_more}
use Rattle.armcaps_patch.proofs.accepting.refused_by_words.Goals.{then-takes_address+in-Ok, then-takes_address+in-Err-Range, else-takes_address}
use Rattle.armcaps_patch.proofs.accepting.refused_by_words.Goals as goal

pub loop-index-preserved : goal.loop-index-preserved
loop-index-preserved c =
    let image = c.args.image.now in
    let kept = c.args.kept.now in
    let literal = any_more is_literal image kept c.loop-index.index in
    let range = any_more is_out_of_range image kept c.loop-index.index in
    elim c.if-takes_address.branch [
      | then-takes_address+in-Ok w ↦ record {
        literal = rw (literal, c.loop-index.invariant.literal, ← w.in-Ok.ensures) refl;
        range = w.is_out_of_range-is ∙ (rw (range, ← w.in-Ok.ensures, ← c.loop-index.invariant.range) (rw or-false refl));
      }
      | then-takes_address+in-Err-Range w ↦ record {
        literal = rw (literal, c.loop-index.invariant.literal, ← w.in-Err-Range.ensures, w.in-Err-Range.field-0-is) refl;
        range = w.is_out_of_range-is ∙ sym (rw (range, ← w.in-Err-Range.ensures, w.in-Err-Range.field-0-is) (or-true (list_any is_out_of_range (moved_words image kept c.loop-index.index))));
      }
      | else-takes_address w ↦
          let told : not (takes_no_address (class_of (word_in image (kept.repl + 4 * c.loop-index.index)))) ≡ false = rw c.word.ensures at (sym c.takes_address.ensures ∙ w.if-takes_address.false) in
          let stays = told_moved image kept c.loop-index.index told in
          record {
            literal = rw (literal, c.loop-index.invariant.literal, stays) refl;
            range = w.is_out_of_range-is ∙ (rw (range, stays, ← c.loop-index.invariant.range) (rw or-false refl));
          }
    ]

pub returns-in-Err-Literal : goal.returns-in-Err-Literal
returns-in-Err-Literal c =
    let is : is_literal (moved_word c.args.image.now c.args.kept.now c.loop-index.index) ≡ true = rw (← c.in-Err-Literal.ensures, c.in-Err-Literal.field-0-is) refl in
    let any = any_here is_literal c.args.image.now c.args.kept.now c.loop-index.index (c.args.kept.now.len / 4) (omega arith) is in
    rw any refl

use Rattle.std.proofs.Common.{◌*◌, ◌∙◌, ◌&&◌, arith, nat_le, sym}
use Rattle.armcaps_pool.specs.Judging.{is_changed}
use Rattle.armcaps_pool.proofs.Bytes.{equal_piece, first_none, found_in_word, passed_word}
use Rattle.armcaps_pool.proofs.differing.first_in_words.Goals as goal

pub returns-then-eq : goal.returns-then-eq
returns-then-eq c =
    first_none (λ place. nat_le (4 * c.args.begin) place && is_changed c.args.marks.now c.args.patched.now c.args.image.now place)
    (4 * c.args.end)
    (equal_piece c.args.marks.now c.args.patched.now c.args.image.now (4 * c.args.begin) (4 * c.args.end)
    (sym c.eq.ensures ∙ c.if-eq.true))

pub returns-then-index-lt4 : goal.returns-then-index-lt4
returns-then-index-lt4 c =
    found_in_word (is_changed c.args.marks.now c.args.patched.now c.args.image.now) c.args.begin c.loop-number.number
    c.args.end c.changed_byte-index.result c.loop-number.auto.number c.loop-number-test.true c.if-index-lt4.true
    c.loop-number.invariant c.changed_byte-index.ensures

pub loop-number-preserved : goal.loop-number-preserved
loop-number-preserved c =
    let past = c.if-index-lt4.false in
    passed_word (is_changed c.args.marks.now c.args.patched.now c.args.image.now) c.args.begin c.loop-number.number
    c.changed_byte-index.result (omega arith) c.loop-number.invariant c.changed_byte-index.ensures

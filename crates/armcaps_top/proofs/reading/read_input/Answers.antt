use Rattle.std.proofs.Common.{◌≡◌, ℕ, ◌+◌, List, [], Ok, ap, arith, length, subst, sym, ◌∙◌}
use Rattle.armcaps_io.specs.Streams.{Moves}
use Rattle.armcaps_io.proofs.StreamLemmas.{Moves-trans}
use Rattle.armcaps_text.specs.Formats.{format_of}
use Rattle.armcaps_text.specs.declared.format.Format.{Format}
use Rattle.armcaps_top.proofs.Limits.{gave_at_most, grown_format, limits, too_long}
use Rattle.armcaps_top.proofs.reading.read_input.Goals as goal

pub returns-then-ended-clause-within : goal.returns-then-ended-clause-within
returns-then-ended-clause-within g c =
    omega (
      arith,
      c.in_ok-ended.ensures.within (ap Ok c.if-ended.true),
      ap (λ (f : Format). f.input) c.one-first_limit.ensures,
      (limits c.read_past.new.bytes.items).least,
    )

pub returns-then-limit-first_limit-clause-unread : goal.returns-then-limit-first_limit-clause-unread
returns-then-limit-first_limit-clause-unread g c =
    let bytes : List ℕ = c.read_past.new.bytes.items in
    let first : c.one-first_limit.result.input ≡ 135266304 = ap (λ (f : Format). f.input) c.one-first_limit.ensures in
    let full : length bytes ≡ c.one-first_limit.result.input + 1 = c.in_ok-ended.ensures.full (ap Ok c.if-ended.false) in
    let is : c.of-limit.result.input ≡ (format_of bytes).input =
    ap (λ (f : Format). f.input) (c.of-limit.ensures ∙ ap (λ (b : List ℕ). format_of b) c.deref.ensures.value) in
    too_long (g.S.Source.left c.args.source.now) (g.S.Source.left c.read_past.new.source) bytes c.of-limit.result.input (subst (λ (none : List ℕ). Moves (g.S.Source.left c.args.source.now) (g.S.Source.left c.read_past.new.source) none bytes) c.new-bytes.ensures.items c.read_past.ensures.moved)
    (omega (arith, full, c.if-limit-first_limit.true)) (omega (arith, full, first)) (sym is)

pub read_past-requires-2-clause-within : goal.read_past-requires-2-clause-within
read_past-requires-2-clause-within g c =
    let bytes : List ℕ = c.read_past.new.bytes.items in
    let is : c.of-limit.result.input ≡ (format_of bytes).input =
    ap (λ (f : Format). f.input) (c.of-limit.ensures ∙ ap (λ (b : List ℕ). format_of b) c.deref.ensures.value) in
    omega (arith, c.in_ok-ended.ensures.full (ap Ok c.if-ended.false), ap (λ (f : Format). f.input) c.one-first_limit.ensures, is, (limits bytes).least)

pub read_past-requires-2-clause-small : goal.read_past-requires-2-clause-small
read_past-requires-2-clause-small g c =
    let bytes : List ℕ = c.read_past.new.bytes.items in
    let is : c.of-limit.result.input ≡ (format_of bytes).input =
    ap (λ (f : Format). f.input) (c.of-limit.ensures ∙ ap (λ (b : List ℕ). format_of b) c.deref.ensures.value) in
    omega (arith, is, (limits bytes).most)

pub returns-then-ended_further-clause-within : goal.returns-then-ended_further-clause-within
returns-then-ended_further-clause-within g c =
    let bytes : List ℕ = c.read_past.new.bytes.items in
    let is : c.of-limit.result.input ≡ (format_of bytes).input =
    ap (λ (f : Format). f.input) (c.of-limit.ensures ∙ ap (λ (b : List ℕ). format_of b) c.deref.ensures.value) in
    let full : length bytes ≡ c.one-first_limit.result.input + 1 = c.in_ok-ended.ensures.full (ap Ok c.if-ended.false) in
    let first : c.one-first_limit.result.input ≡ 135266304 = ap (λ (f : Format). f.input) c.one-first_limit.ensures in
    let same = ap (λ (f : Format). f.input) (grown_format (g.S.Source.left c.read_past.new.source) (g.S.Source.left c.read_past-2.new.source) bytes c.read_past-2.new.bytes.items c.read_past-2.ensures.moved (omega (arith, full, first))) in
    omega (arith, c.in_ok-ended_further.ensures.within (ap Ok c.if-ended_further.true), is, same)

pub returns-else-ended_further-clause-unread : goal.returns-else-ended_further-clause-unread
returns-else-ended_further-clause-unread g c =
    let bytes : List ℕ = c.read_past.new.bytes.items in
    let more : List ℕ = c.read_past-2.new.bytes.items in
    let is : c.of-limit.result.input ≡ (format_of bytes).input =
    ap (λ (f : Format). f.input) (c.of-limit.ensures ∙ ap (λ (b : List ℕ). format_of b) c.deref.ensures.value) in
    let full : length bytes ≡ c.one-first_limit.result.input + 1 = c.in_ok-ended.ensures.full (ap Ok c.if-ended.false) in
    let first : c.one-first_limit.result.input ≡ 135266304 = ap (λ (f : Format). f.input) c.one-first_limit.ensures in
    let same = ap (λ (f : Format). f.input) (grown_format (g.S.Source.left c.read_past.new.source) (g.S.Source.left c.read_past-2.new.source) bytes more c.read_past-2.ensures.moved (omega (arith, full, first))) in
    let longer : length more ≡ c.of-limit.result.input + 1 = c.in_ok-ended_further.ensures.full (ap Ok c.if-ended_further.false) in
    let moved = Moves-trans (g.S.Source.left c.args.source.now) (g.S.Source.left c.read_past.new.source) (g.S.Source.left c.read_past-2.new.source) [] bytes more (subst (λ (none : List ℕ). Moves (g.S.Source.left c.args.source.now) (g.S.Source.left c.read_past.new.source) none bytes) c.new-bytes.ensures.items c.read_past.ensures.moved) c.read_past-2.ensures.moved in
    too_long (g.S.Source.left c.args.source.now) (g.S.Source.left c.read_past-2.new.source) more c.of-limit.result.input moved (omega (arith, longer)) (omega (arith, longer, is, (limits bytes).least)) (same ∙ sym is)

pub returns-in_err-ended_further-clause-at_most : goal.returns-in_err-ended_further-clause-at_most
returns-in_err-ended_further-clause-at_most g c =
    gave_at_most _ _ _ _ _ _ _ c.of-limit.result c.new-bytes.ensures.items c.read_past.ensures.moved c.read_past-2.ensures.moved
    c.of-limit.ensures c.deref.ensures.value c.read_past-2.ensures.bounded

pub returns-then-ended_further-clause-at_most : goal.returns-then-ended_further-clause-at_most
returns-then-ended_further-clause-at_most g c =
    gave_at_most _ _ _ _ _ _ _ c.of-limit.result c.new-bytes.ensures.items c.read_past.ensures.moved c.read_past-2.ensures.moved
    c.of-limit.ensures c.deref.ensures.value c.read_past-2.ensures.bounded

pub returns-else-ended_further-clause-at_most : goal.returns-else-ended_further-clause-at_most
returns-else-ended_further-clause-at_most g c =
    gave_at_most _ _ _ _ _ _ _ c.of-limit.result c.new-bytes.ensures.items c.read_past.ensures.moved c.read_past-2.ensures.moved
    c.of-limit.ensures c.deref.ensures.value c.read_past-2.ensures.bounded

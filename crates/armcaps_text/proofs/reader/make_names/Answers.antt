use Rattle.std.proofs.Common.{◌≡◌, ℕ, List, sym, subst, ◌∙◌}
use Rattle.std.specs.FinMap.{entries}
use Rattle.std.specs.List.{All}
use Rattle.armcaps_alt.specs.Names.{IsKnown}
use Rattle.armcaps_alt.specs.declared.named_number.Named.{Named}
use Rattle.armcaps_text.specs.Reader.{map_of}
use Rattle.armcaps_text.proofs.Maps.{sorted_entries, rising}
use Rattle.armcaps_text.proofs.reader.make_names.Goals as goal

pub new-requires-clause-numbers_rise : goal.new-requires-clause-numbers_rise
new-requires-clause-numbers_rise c = rw c.in_ok-numbers.ensures.items (rising c.args.numbers.entries c.in_ok-numbers.ensures.ordered)

pub new-requires-clause-offsets_rise : goal.new-requires-clause-offsets_rise
new-requires-clause-offsets_rise c = rw c.in_ok-callbacks.ensures.items (rising c.args.callbacks.entries c.in_ok-callbacks.ensures.ordered)

pub new-requires-clause-known : goal.new-requires-clause-known
new-requires-clause-known c =
    subst (λ (es : List (ℕ × Named)). All (λ e. IsKnown e.1) es)
    (sorted_entries c.args.numbers.entries c.in_ok-numbers.ensures.ordered ∙ sym c.in_ok-numbers.ensures.items) c.requires

pub returns : goal.returns
returns c =
    let numbers : c.in_ok-numbers.numbers.items ≡ entries (map_of c.args.numbers) = c.in_ok-numbers.ensures.items ∙ sym (sorted_entries c.args.numbers.entries c.in_ok-numbers.ensures.ordered) in
    let callbacks : c.in_ok-callbacks.callbacks.items ≡ entries (map_of c.args.callbacks) = c.in_ok-callbacks.ensures.items ∙ sym (sorted_entries c.args.callbacks.entries c.in_ok-callbacks.ensures.ordered) in
    c.new.ensures ∙ (λ i. record { numbers = numbers i; callbacks = callbacks i; conduit = c.unwrap_or.ensures i })

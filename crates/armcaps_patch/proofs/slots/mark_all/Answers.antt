-- The sites of some numbers more leave their stamps.
use Rattle.std.proofs.Common.{◌≡◌, ◌+◌, ◌-◌, ◌*◌, ◌<◌, ◌≤◌, ◌∙◌, ℕ, List, arith, ap, drop, length, min, subst, sym, take}
use Rattle.std.specs.List.{All}
use Rattle.std.proofs.lemmas.List.{take_all}
use Rattle.std.proofs.lemmas.List.Elements.{All-drop, All-take}
use Rattle.armcaps_patch.specs.declared.site.Site.{Site}
use Rattle.armcaps_patch.specs.Buckets.{sites_at}
use Rattle.armcaps_patch.specs.Index.{IsSite, last_at}
use Rattle.armcaps_patch.proofs.Stamps.{last_at-first, sites_are}
use Rattle.armcaps_patch.proofs.slots.mark_all.Goals as goal

pub mark_sites-requires-clause-sites : goal.mark_sites-requires-clause-sites
mark_sites-requires-clause-sites c =
    let kept = c.args.kept.now in
    let numbers = c.args.numbers.now in
    let begin = 64 * c.loop-part.part in
    let some : List ℕ = take (c.min-end.result - begin) (drop begin numbers) in
    let known = All-take (λ number. number < length kept) (c.min-end.result - begin) (drop begin numbers) (All-drop (λ number. number < length kept) begin numbers c.requires.known) in
    subst (λ (sites : List Site). All IsSite sites) (sym c.fetch.ensures) (sites_are kept some c.requires.few c.requires.sites known)

pub loop-part-preserved : goal.loop-part-preserved
loop-part-preserved c = λ k within.
    let kept = c.args.kept.now in
    let numbers = c.args.numbers.now in
    let place = c.args.from + 4 * k in
    let begin = 64 * c.loop-part.part in
    let before = c.loop-part.invariant k (omega arith) in
    let marked = c.mark_sites.ensures k within in
    let some : last_at place (take (length (take (c.min-end.result - begin) (drop begin numbers))) c.fetch.new.sites) ≡ last_at place (sites_at kept (take (min (length numbers) (begin + 64) - begin) (drop begin numbers))) =
    ap (last_at place) c.fetch.ensures ∙ ap (λ (n : ℕ). last_at place (sites_at kept (take (n - begin) (drop begin numbers)))) c.min-end.ensures in
    let next : 64 * (c.loop-part.part + 1) ≡ begin + 64 = omega arith in
    let inside : begin ≤ length numbers = omega (arith, c.div_ceil-part-end.ensures, c.loop-part-test.true) in
    let more = last_at-first place kept numbers begin 64 inside in
    rw next (omega (arith, before, marked, some, more))

pub returns : goal.returns
returns c = λ k within.
    let all = take_all (64 * c.loop-part.part) c.args.numbers.now (omega (arith, c.div_ceil-part-end.ensures, c.loop-part-test.false)) in
    rw all at (c.loop-part.invariant k within)

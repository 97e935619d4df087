-- One site more is fetched, and all are.
use Rattle.std.proofs.Common.{◌∙◌, ◌<◌, arith, length, sym, take}
use Rattle.std.proofs.lemmas.List.{get_or-map, get_or-take, length-map, length-take-le, same_lists}
use Rattle.armcaps_patch.specs.Buckets.{site_at, sites_at}
use Rattle.armcaps_patch.proofs.slots.fetch.Goals as goal

pub returns : goal.returns
returns c =
    let numbers = c.args.numbers.now in
    let kept = c.args.kept.now in
    let many = length-take-le (length numbers) c.loop-k.sites (omega arith) in
    let all = length-map numbers (site_at kept) in
    same_lists (take (length numbers) c.loop-k.sites) (sites_at kept numbers) (omega (arith, many, all))
    (λ j d within. (let inside : j < length numbers = omega (arith, many) in get_or-take (length numbers) c.loop-k.sites j d inside ∙ c.loop-k.invariant j d (omega (arith, many)) ∙ sym (get_or-map (site_at kept) numbers j 0 d inside)))

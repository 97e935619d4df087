-- The stamps on a piece are the index's, so each word is that of the last kept entry that covers it.
use Rattle.std.proofs.Common.{◌≡◌, ◌+◌, ◌-◌, ◌*◌, ◌/◌, ◌<◌, ◌≤◌, arith, drop, get_or, inl, inr, length, rules, sym, subst, ◌∙◌, ap, ℕ}
use Rattle.std.specs.List.{All}
use Rattle.std.proofs.lemmas.Bool.{cases_lt}
use Rattle.std.proofs.lemmas.List.{get_or-drop, get_or-replicate, get_or-take}
use Rattle.armcaps_patch.specs.Buckets.{sites_at}
use Rattle.armcaps_patch.specs.Index.{Tells, last_at}
use Rattle.armcaps_patch.specs.Kept.{IsKept, Planned, kept_covers}
use Rattle.armcaps_patch.proofs.Planned.{byte_past}
use Rattle.armcaps_patch.proofs.planning.Plan.fill.Goals as goal

pub put_words-requires-clause-stamps : goal.put_words-requires-clause-stamps
put_words-requires-clause-stamps c = λ k within.
    let place = c.args.from + 4 * k in
    let marked = rw c.deref.ensures.value at (c.mark_all.ensures k within) in
    let zeros = c.fill.ensures.after (λ y same. search rules) in
    let inside : k < length c.args.slots.now = omega arith in
    let none : get_or c.fill.new.self k 0 ≡ 0 = ap (λ xs. get_or xs k 0) zeros ∙ get_or-replicate (length c.args.slots.now) k 0 0 inside in
    let tells = rw (← c.self.view_is) at (c.requires.tells place (omega arith) (omega arith)) in
    let stamp : get_or c.mark_all.new.slots k 0 ≡ last_at place (sites_at c.self.inside.kept.items c.args.nearby.now) = omega (arith, marked, none) in
    rw c.deref-2.ensures.value (subst (λ (s : ℕ). Tells (kept_covers place) s 0 c.self.inside.kept.items) (sym stamp) tells)

pub returns-clause-bytes : goal.returns-clause-bytes
returns-clause-bytes c = λ j within. elim (cases_lt j (4 * length c.mark_all.new.slots)) [
  | inl below ↦ rw (← c.self.view_is) (rw c.deref-2.ensures.value at (c.put_words.ensures.new j below))
  | inr past ↦
      let kept = c.put_words.ensures.rest j past in
      let copied : get_or c.copy_from_slice.new.self j 0 ≡ get_or c.args.image.now (c.args.from + j) 0 =
      ap (λ xs. get_or xs j 0) c.copy_from_slice.ensures.after ∙ get_or-take (c.args.from + length c.args.buffer.now - c.args.from) (drop c.args.from c.args.image.now) j 0 (omega arith) ∙ get_or-drop c.args.from c.args.image.now j 0 in
      let ends : length c.args.image.now / 4 * 4 ≤ c.args.from + j = elim (cases_lt (c.args.from + length c.args.buffer.now) (length c.args.image.now)) [
        | inl short ↦ (let whole = c.requires.ends short in omega arith)
        | inr all ↦ omega arith
      ] in
      let plan : Planned = record { kept = c.self.inside.kept.items; size = c.self.inside.size; ctr = c.self.inside.ctr; conduit = c.self.inside.conduit } in
      let size : c.self.inside.size ≡ length c.args.image.now = ap (λ (p : Planned). p.size) c.self.view_is ∙ sym c.requires.size in
      let each = subst (λ (n : ℕ). All (IsKept n) c.self.inside.kept.items) size c.self.invariant.each in
      rw (← c.self.view_is) (kept ∙ copied ∙ sym (byte_past plan c.args.image.now (c.args.from + j) each ends))
]

use Rattle.std.proofs.Common.{◌≡◌, ◌++◌, ◌∷◌, [], List, ap, subst, sym, ◌∙◌, ◌≤◌}
use Rattle.std.specs.List.{All}
use Rattle.armcaps_elf.specs.declared.stretch.Stretch.{Stretch}
use Rattle.armcaps_elf.specs.Stretches.{IsApart}
use Rattle.armcaps_elf.proofs.Covering.{goes_on, one_more}
use Rattle.armcaps_elf.proofs.stretch.add.Goals as goal

pub returns-in_ok-push-in-Some-clause-apart : goal.returns-in_ok-push-in-Some-clause-apart
returns-in_ok-push-in-Some-clause-apart c =
    let front = c.pop.new.self.items in
    let last = c.in-Some.last in
    let old : c.args.stretches.now.items ≡ front ++ last ∷ [] = c.in-Some.ensures.items in
    subst IsApart (sym c.in_ok-push-in-Some.ensures.items) (goes_on front last c.args.more (subst IsApart old c.requires.apart) c.if-last-more.true c.requires.some)

pub returns-in_ok-push-in-Some-2-2-clause-apart : goal.returns-in_ok-push-in-Some-2-2-clause-apart
returns-in_ok-push-in-Some-2-2-clause-apart c =
    let front = c.pop.new.self.items in
    let last = c.in-Some.last in
    let old : c.args.stretches.now.items ≡ front ++ last ∷ [] = c.in-Some.ensures.items in
    let new : c.push-in-Some-2-2.new.self.items ≡ (front ++ last ∷ []) ++ c.args.more ∷ [] =
    c.in_ok-push-in-Some-2-2.ensures.items ∙ ap (λ xs. xs ++ c.args.more ∷ []) c.in_ok-push-in-Some-2.ensures.items in
    subst IsApart (sym new) (one_more front last c.args.more (subst IsApart old c.requires.apart)
    (subst (All (λ (s : Stretch). s.end ≤ c.args.more.begin)) old c.requires.behind) c.if-last-more.false c.requires.some)

use Rattle.std.proofs.Common.{◌≡◌, ◌∙◌, ap, sym, refl, cond, false, Bool}
use Rattle.armcaps_board.specs.Board.{core_at}
use Rattle.armcaps_boot.specs.Changes.{noted_with}
use Rattle.armcaps_boot.specs.Machine.{world_of}
use Rattle.armcaps_boot.proofs.Asked.{noted-local}
use Rattle.armcaps_boot.proofs.ComingBack.{noted_back}
use Rattle.armcaps_boot.proofs.machine.Machine.noted_with.Goals as goal
use Rattle.armcaps_boot.proofs.machine.Machine.noted_with.Goals.{then-self-via-then-self, then-self-via-else-self+then-was_admitted}

pub returns-then-self : goal.returns-then-self
returns-then-self c =
    let w = world_of c.args.self.now in
    elim c.then-self.branch [
      | then-self-via-then-self b ↦ sym (ap (λ (b : Bool). cond b w.noted (noted_with w c.args.core)) b.if-self.true)
      | then-self-via-else-self+then-was_admitted b ↦
          let final : w.final ≡ false = b.if-self.false in
          sym (noted_back w c.requires.facts c.args.core final (sym b.was_admitted.ensures ∙ b.if-was_admitted.true))
          ∙ sym (ap (λ (b : Bool). cond b w.noted (noted_with w c.args.core)) final)
    ]

pub returns : goal.returns
returns c =
    let w = world_of c.args.self.now in
    let final : w.final ≡ false = c.if-self.false in
    let core = c.core.ensures in
    let ctr = c.word-ctr.ensures.word in
    let more = rw (core, ctr) at c.with_own.ensures in
    noted-local w c.requires.facts final c.args.self.now.noted c.with_own.result (core_at w.board.cores c.args.core) refl more
    ∙ sym (ap (λ (b : Bool). cond b w.noted (noted_with w c.args.core)) final)

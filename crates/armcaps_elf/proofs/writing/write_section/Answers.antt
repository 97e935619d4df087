use Rattle.std.proofs.Common.{◌≡◌, ◌+◌, ◌-◌, arith}
use Rattle.std.proofs.lemmas.Result.{err_from_is_err_and}
use Rattle.armcaps_elf.proofs.Written.{on_err, prefix_of_first, prefix_of_second}
use Rattle.armcaps_elf.proofs.writing.write_section.Goals as goal

pub returns-in_err-write_whole-clause-prefix : goal.returns-in_err-write_whole-clause-prefix
returns-in_err-write_whole-clause-prefix g c =
    let failed = err_from_is_err_and c.from_residual.result c.from_residual.ensures.1 in
    rw failed.1 (prefix_of_first _ _ _ _ c.in_err-write_whole.ensures.prefix)

pub returns-clause-prefix : goal.returns-clause-prefix
returns-clause-prefix g c =
    let s = c.args.section.now in
    let from = s.address - c.args.base in
    let count : from + s.size - from ≡ s.size = omega arith in
    on_err c.write_whole-2.result (λ sent. prefix_of_second _ _ _ _ _ c.in_ok-write_whole.ensures.whole sent)
    (rw count at c.write_whole-2.ensures.prefix)

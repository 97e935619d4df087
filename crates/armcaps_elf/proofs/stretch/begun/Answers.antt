use Rattle.std.proofs.Common.{arith, nat_le, rules}
use Rattle.std.proofs.lemmas.Bool.Decides.{nat_tests}
use Rattle.std.proofs.lemmas.List.Sorted.{IsPartitionPoint-from_clause, IsPartitionedBy-leb}
use Rattle.armcaps_elf.proofs.Covering.{begins_rise}
use Rattle.armcaps_elf.proofs.stretch.begun.Goals as goal

pub returns-clause-parted : goal.returns-clause-parted
returns-clause-parted c =
    let xs = c.args.stretches.now in
    let parted = IsPartitionPoint-from_clause (λ s. nat_le s.begin c.args.place) xs c.partition_point.result c.partition_point.ensures.partitioned
    (IsPartitionedBy-leb (λ s. s.begin) xs c.args.place (begins_rise xs c.requires)) (λ a r g called. search rules) in
    (λ k d low high. (let is = parted.0 k d low high in grind (arith, nat_tests)), λ k d low high. (let is = parted.1 k d low high in grind (arith, nat_tests)))

use Rattle.std.proofs.Common.{arith, rules, sym}
use Rattle.std.proofs.lemmas.List.Sorted.{IsPartitionPoint-from_clause, IsPartitionedBy-ltb}
use Rattle.std.proofs.lemmas.List.Sums.{prefix_len_is}
use Rattle.hp_table.specs.Gaps.{is_below}
use Rattle.hp_table.specs.declared.gaps.Gap.{Gap}
use Rattle.hp_table.proofs.gaps.below.Goals as goal

pub returns : goal.returns
returns c =
    let gs = c.args.gaps.now in
    let n = c.partition_point.result in
    let d : Gap = record { base = 0; len = 0 } in
    let parted = IsPartitionedBy-ltb (λ (g : Gap). g.base) gs c.args.vpn c.requires in
    let point = IsPartitionPoint-from_clause (is_below c.args.vpn) _ _ c.partition_point.ensures.partitioned parted
    (λ a r q k. search rules) in
    sym (prefix_len_is (is_below c.args.vpn) gs n d c.partition_point.ensures.bound
    (λ k under. point.0 k d (omega arith) under) (λ within. point.1 n d (omega arith) within))

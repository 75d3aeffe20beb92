use Rattle.std.proofs.Common.{arith, rules, sym}
use Rattle.std.proofs.lemmas.List.Sorted.{IsPartitionPoint-from_clause, IsPartitionedBy-leb}
use Rattle.std.proofs.lemmas.List.Sums.{prefix_len_is}
use Rattle.hp_base.specs.declared.limits.TheConstants.{VPNS}
use Rattle.hp_base.specs.declared.mapping.Mapping.{Mapping}
use Rattle.hp_table.proofs.Spread.{begins, bases_rise}
use Rattle.hp_table.proofs.search.begun.Goals as goal

pub returns : goal.returns
returns c =
    let ms = c.args.mappings.now in
    let n = c.partition_point.result in
    let d : Mapping = record { base = 0; file = 0; from = 0; len = 0 } in
    let parted = IsPartitionedBy-leb (λ (m : Mapping). m.base) ms c.args.vpn (bases_rise VPNS 0 ms c.requires) in
    let point = IsPartitionPoint-from_clause (begins c.args.vpn) _ _ c.partition_point.ensures.partitioned parted
    (λ a r q k. search rules) in
    sym (prefix_len_is (begins c.args.vpn) ms n d c.partition_point.ensures.bound
    (λ k under. point.0 k d (omega arith) under) (λ within. point.1 n d (omega arith) within))

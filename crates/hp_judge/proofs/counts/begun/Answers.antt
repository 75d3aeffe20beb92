use Rattle.std.proofs.Common.{rules, ◌≡◌, false, true, sym, subst, ℕ, List}
use Rattle.std.specs.List.Sorted.{IsPartitionedBy, IsPartitionPoint}
use Rattle.std.proofs.lemmas.List.Sorted.{IsPartitionPoint-from_clause}
use Rattle.hp_judge.specs.Counts.{begins_by}
use Rattle.hp_judge.proofs.Ordered.{parted}
use Rattle.hp_judge.proofs.counts.begun.Goals as goal

pub returns-clause-point : goal.returns-clause-point
returns-clause-point c =
    let p = c.args.places.now in
    let begins = begins_by c.args.file c.args.index in
    let same : c.deref.result.now ≡ p.regions = search rules in
    let kept = subst (λ (l : List (ℕ × ℕ × ℕ)). IsPartitionedBy begins l) (sym same) (parted p c.requires c.args.file c.args.index) in
    subst (λ (l : List (ℕ × ℕ × ℕ)). IsPartitionPoint (λ r. begins r ≡ true) (λ r. begins r ≡ false) l c.partition_point.result) same
    (IsPartitionPoint-from_clause begins _ _ c.partition_point.ensures.partitioned kept (λ a r q k. search rules))

use Rattle.std.proofs.Common.{arith, ◌≡◌, ◌+◌, ap, ◌∙◌, subst, ℕ, false, true}
use Rattle.std.specs.List.Sorted.{IsPartitionPoint}
use Rattle.hp_judge.specs.Counts.{begins_by, has_index}
use Rattle.hp_judge.proofs.Ordered.{by_last, by_none}
use Rattle.hp_judge.proofs.counts.is_reserved.Goals as goal

pub returns-in-Some : goal.returns-in-Some
returns-in-Some c =
    let p = c.args.places.now in
    let begins = begins_by c.args.file c.args.index in
    let last : c.begun.result ≡ c.in-Some.last + 1 = omega (arith, c.in-Some.ensures.0, c.in-Some.ensures.1) in
    let point = subst (λ (m : ℕ). IsPartitionPoint (λ r. begins r ≡ true) (λ r. begins r ≡ false) p.regions m) last c.begun.ensures.point in
    c.has_index.ensures ∙ ap (has_index c.args.file c.args.index) c.region.ensures
    ∙ by_last p c.requires c.args.file c.args.index c.in-Some.last point (omega (arith, last, c.begun.ensures.few))

pub returns-in-None : goal.returns-in-None
returns-in-None c =
    let p = c.args.places.now in
    let begins = begins_by c.args.file c.args.index in
    let none : c.begun.result ≡ 0 = omega (arith, c.in-None.ensures) in
    by_none p c.requires c.args.file c.args.index
    (subst (λ (m : ℕ). IsPartitionPoint (λ r. begins r ≡ true) (λ r. begins r ≡ false) p.regions m) none c.begun.ensures.point)

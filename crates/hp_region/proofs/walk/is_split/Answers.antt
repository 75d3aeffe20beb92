use Rattle.std.proofs.Common.{ℕ, ◌≡◌, ◌<◌, ◌-◌, ◌+◌, Bool, false, ◌&&◌, sym, ◌∙◌, arith}
use Rattle.std.specs.Prelude.{nat_lt}
use Rattle.std.specs.Ordering.{nat_cmp, is_lt}
use Rattle.std.proofs.lemmas.Bool.Decides.{nat_tests}
use Rattle.hp_region.proofs.Compared.{lt_true}
use Rattle.hp_region.proofs.Sets.{holds_there}
use Rattle.hp_region.proofs.walk.is_split.Goals as goal

inner : (from to i : ℕ) → from < i → i < to → nat_lt 1 (to - i) ≡ (nat_lt from i && nat_lt (i + 1) to)
inner from to i first second = grind (arith, nat_tests)

outer : (from to i : ℕ) (x : Bool) → x ≡ is_lt (nat_cmp from i) → x ≡ false → x ≡ (nat_lt from i && nat_lt (i + 1) to)
outer from to i x h off = grind (arith, nat_tests)

pub overflow_sub-result : goal.overflow_sub-result
overflow_sub-result c =
    let there = holds_there c.args.regions.now c.args.at c.args.index c.index-regions-at.result c.requires.apart
    c.requires.in_range c.index-regions-at.is (c.requires.holds c.index-regions-at.result) in
    omega (arith, there.ends)

pub returns-then-lt : goal.returns-then-lt
returns-then-lt c =
    let r = c.index-regions-at.result in
    let there = holds_there c.args.regions.now c.args.at c.args.index r c.requires.apart c.requires.in_range
    c.index-regions-at.is (c.requires.holds r) in
    rw (c.number.ensures, c.number-then-lt.ensures)
    (inner r.from r.to c.args.index (lt_true r.from c.args.index (c.if-lt.ensures {u = tt})) there.ends ∙ sym there.split)

pub returns-else-lt : goal.returns-else-lt
returns-else-lt c =
    let r = c.index-regions-at.result in
    let there = holds_there c.args.regions.now c.args.at c.args.index r c.requires.apart c.requires.in_range
    c.index-regions-at.is (c.requires.holds r) in
    outer r.from r.to c.args.index c.lt.result c.lt.ensures c.if-lt.false ∙ sym there.split

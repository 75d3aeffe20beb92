use Rattle.std.proofs.Common.{◌≡◌, ◌<◌, ◌+◌, length, get_or, replicate, sym, ◌∙◌, arith, map}
use Rattle.std.proofs.lemmas.List.{length-map, length-set, get_or_default}
use Rattle.hp_shared.specs.Unused.{unused}
use Rattle.hp_shared.proofs.Lists.{length-unused, uses_none, uses_on, fails_at, below_none, below_on, ends_badly}
use Rattle.hp_shared.proofs.order.compare.Goals as goal

pub loop-k-init : goal.loop-k-init
loop-k-init g c =
    let ls = map g.S.Listed.listed c.args.lists.now in
    let n = length c.args.lists.now in
    let is : c.in_ok-used.used.items ≡ replicate n 0 = c.in_ok-used.ensures.items_if_clones_equal (λ y h. h) in
    let same = length-map c.args.lists.now g.S.Listed.listed in (
      uses_none ls c.in_ok-used.used.items n is (sym same),
      omega (arith, c.in_ok-used.ensures.len, c.in_ok-used.used.ok),
      λ j. rw is (below_none n j),
    )

pub returns-then-entry-position : goal.returns-then-entry-position
returns-then-entry-position g c =
    fails_at c.args.first c.loop-k.k c.args.journal.now _ _ c.index-journal-k.result c.loop-k-test.true c.index-journal-k.is
    c.loop-k.invariant.0 (λ here. absurd (c.if-entry-position.true here))

pub returns-in_default : goal.returns-in_default
returns-in_default g c =
    fails_at c.args.first c.loop-k.k c.args.journal.now _ _ c.index-journal-k.result c.loop-k-test.true c.index-journal-k.is
    c.loop-k.invariant.0 (λ _. rw c.as_slice.ensures.value at c.in_default.ensures)

pub index_mut-requires : goal.index_mut-requires
index_mut-requires g c =
    omega (
      arith,
      c.in-Some.ensures.0,
      c.as_slice.ensures.value,
      c.loop-k.invariant.1,
      c.loop-k.used.ok,
      length-unused
          (map g.S.Listed.listed c.args.lists.now) c.as_slice.result.now,
      length-map c.args.lists.now g.S.Listed.listed,
    )

pub overflow_add-index_mut : goal.overflow_add-index_mut
overflow_add-index_mut g c =
    let ls = map g.S.Listed.listed c.args.lists.now in
    let same : length c.loop-k.used.items ≡ length ls = c.loop-k.invariant.1
    ∙ sym (length-map c.args.lists.now g.S.Listed.listed) in
    let next = rw c.as_slice.ensures.value at c.in-Some.ensures in
    let less : c.in-Some.i < length c.loop-k.used.items = omega (arith, next.0, same, length-unused ls c.loop-k.used.items) in
    let is : c.index_mut.result.now ≡ get_or c.loop-k.used.items c.in-Some.i 0 = c.index_mut.ensures.value
    ∙ get_or_default _ _ _ _ less in
    omega (arith, is, c.loop-k.invariant.2 c.in-Some.i, c.loop-k-test.true, c.requires)

pub loop-k-preserved : goal.loop-k-preserved
loop-k-preserved g c =
    let ls = map g.S.Listed.listed c.args.lists.now in
    let same : length c.loop-k.used.items ≡ length ls = c.loop-k.invariant.1
    ∙ sym (length-map c.args.lists.now g.S.Listed.listed) in
    let next = rw c.as_slice.ensures.value at c.in-Some.ensures in
    let less : c.in-Some.i < length c.loop-k.used.items = omega (arith, next.0, same, length-unused ls c.loop-k.used.items) in
    let is : c.index_mut.result.now ≡ get_or c.loop-k.used.items c.in-Some.i 0 = c.index_mut.ensures.value
    ∙ get_or_default _ _ _ _ less in (
      uses_on c.args.first c.loop-k.k c.args.journal.now ls c.loop-k.used.items c.index-journal-k.result c.in-Some.i
          c.index_mut.result.now c.loop-k-test.true c.index-journal-k.is same c.loop-k.invariant.0 c.if-entry-position.false
          next is,
      length-set c.loop-k.used.items c.in-Some.i (c.index_mut.result.now + 1) ∙ c.loop-k.invariant.1,
      below_on c.loop-k.used.items c.in-Some.i c.loop-k.k c.index_mut.result.now c.loop-k.invariant.2
          (omega (arith, is, c.loop-k.invariant.2 c.in-Some.i)),
    )

pub returns : goal.returns
returns g c =
    ends_badly c.args.first c.loop-k.k c.args.journal.now _
    (unused (map g.S.Listed.listed c.args.lists.now) c.loop-k.used.items) c.loop-k-test.false c.loop-k.auto.k-end
    c.loop-k.invariant.0 (rw c.as_slice-2.ensures.value at c.if-all_used.ensures)

use Rattle.std.proofs.Common.{◌≡◌, [], ◌∷◌, length, ap, arith, length-append}
use Rattle.hp_shared.specs.Closing.{entries_of}
use Rattle.hp_shared.proofs.Shares.{entries_first, entries_last, entries_none}
use Rattle.hp_shared.proofs.closing.join_shares.Goals as goal

pub loop-seat-init : goal.loop-seat-init
loop-seat-init g c =
    let items = c.in-Some.ensures.items in
    let rest = c.into_iter-seat-iterator.ensures.into_iter_gives.0 in
    let last = entries_last c.pop.new.self.items c.in-Some.last in
    record {
      can_next = tt;
      is_finite = tt;
      parts = omega (
        arith,
        c.into_share-whole.ensures.parts,
        ap length items,
        length-append c.pop.new.self.items (c.in-Some.last ∷ []),
        ap length rest,
      );
      amount = omega (arith, c.into_share-whole.ensures.amount, ap entries_of items, last, ap entries_of rest);
    }

pub loop-seat-preserved : goal.loop-seat-preserved
loop-seat-preserved g c =
    let next = c.in-Some-seat.ensures.steps.0 in
    let first = entries_first c.in-Some-seat.seat c.next.new.self.rest.items in
    record {
      can_next = tt;
      is_finite = tt;
      parts = omega (arith, c.merge.ensures.parts, c.into_share.ensures.parts, c.loop-seat.invariant.parts, ap length next);
      amount = omega (arith, c.merge.ensures.amount, c.into_share.ensures.amount, c.loop-seat.invariant.amount, ap entries_of next, first);
    }

pub returns-clause-sum : goal.returns-clause-sum
returns-clause-sum g c some all =
    let empty : length c.loop-seat.seat-iterator.rest.items ≡ 0 =
    omega (arith, c.in-None.ensures.steps.0, c.loop-seat.seat-iterator.rest.ok) in
    let none = entries_none c.loop-seat.seat-iterator.rest.items empty in
    let whole = c.audit.ensures.whole (omega (arith, c.loop-seat.invariant.parts, empty, all)) in
    omega (arith, whole, c.loop-seat.invariant.amount, none)

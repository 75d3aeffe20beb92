use Rattle.std.proofs.Common.{◌≡◌, ◌+◌, ◌∷◌, ◌++◌, [], false, true, length, sym, ap, ◌∙◌, arith, length-append}
use Rattle.hp_machine.specs.declared.phase.Phase.TheVariants.{Start}
use Rattle.hp_machine.specs.Events.{is_begun}
use Rattle.hp_shared.specs.Calls.{count_begun, count_ended, is_ended, phase_after, phase_of}
use Rattle.hp_shared.specs.Journal.{entry, is_made}
use Rattle.hp_shared.specs.States.{PoolState}
use Rattle.hp_shared.specs.declared.entry.Entry.{Entry}
use Rattle.hp_shared.proofs.Counts.{count_more, phase_more}
use Rattle.hp_shared.proofs.Grown.{held_outcome, not_held, is_made_then, on_err, pool_same, pool_grown, seat_same, seat_grown}
use Rattle.hp_shared.proofs.OutcomeKinds.{row_kind}
use Rattle.hp_shared.proofs.Runs.{follows_more}
use Rattle.hp_shared.proofs.pool.Pool.advance.Goals as goal

pub returns-in-Some-clause-row : goal.returns-in-Some-clause-row
returns-in-Some-clause-row g c =
    rw (← c.self.view_is) (held_outcome c.self.inside.core c.args.event c.in-Some.outcome c.in-Some.ensures).1

pub returns-in-Some-clause-pool : goal.returns-in-Some-clause-pool
returns-in-Some-clause-pool g c =
    pool_same c.args.self.now c.args.event c.in-Some.outcome
    (held_outcome c.self.inside.core c.args.event c.in-Some.outcome c.in-Some.ensures).0

pub returns-in-Some-clause-seat : goal.returns-in-Some-clause-seat
returns-in-Some-clause-seat g c =
    seat_same c.args.seat.now _ c.args.event c.in-Some.outcome
    (held_outcome c.self.inside.core c.args.event c.in-Some.outcome c.in-Some.ensures).0

pub returns-in-Some-clause-kind : goal.returns-in-Some-clause-kind
returns-in-Some-clause-kind g c =
    row_kind c.self.inside.core c.args.event c.in-Some.outcome c.self.inside.core
    (held_outcome c.self.inside.core c.args.event c.in-Some.outcome c.in-Some.ensures).1

pub returns-in_err-reserve-clause-wanted : goal.returns-in_err-reserve-clause-wanted
returns-in_err-reserve-clause-wanted g c =
    rw (← c.self.view_is) (on_err c.from_residual.result _
    (λ outcome. not_held c.self.inside.core c.args.event c.in_default.ensures outcome c.self.inside.core))

pub returns-in_err-reserve-2-clause-wanted : goal.returns-in_err-reserve-2-clause-wanted
returns-in_err-reserve-2-clause-wanted g c =
    rw (← c.self.view_is) (on_err c.from_residual-in_err-reserve-2.result _
    (λ outcome. not_held c.self.inside.core c.args.event c.in_default.ensures outcome c.self.inside.core))

pub returns-in_err-outcome-clause-wanted : goal.returns-in_err-outcome-clause-wanted
returns-in_err-outcome-clause-wanted g c =
    rw (← c.self.view_is) (on_err c.from_residual-in_err-outcome.result _
    (λ outcome. not_held c.self.inside.core c.args.event c.in_default.ensures outcome c.self.inside.core))

pub invariant_of-self-2 : goal.invariant_of-self-2
invariant_of-self-2 g c =
    let items = c.self.inside.journal.items in
    let e : Entry = entry (c.self.inside.first + c.len.result) c.args.event c.in_ok-outcome.outcome in
    let is : c.push_reserved.new.self.items ≡ items ++ e ∷ [] = rw c.reserve.ensures.items at c.push_reserved.ensures.items in
    record {
      origin = c.self.invariant.origin;
      run =
          rw is (follows_more c.self.inside.start c.self.inside.core c.step.new.self items e c.self.invariant.run
          c.in_ok-outcome.ensures.row);
      counted = omega (arith, c.add.ensures.total, c.self.invariant.counted, ap length is, length-append items (e ∷ []));
      bound = c.self.invariant.bound;
    }

pub invariant_of-seat-2 : goal.invariant_of-seat-2
invariant_of-seat-2 g c =
    let items = c.seat.inside.list.items in
    let e : Entry = entry (c.self.inside.first + c.len.result) c.args.event c.in_ok-outcome.outcome in
    let is : c.push_reserved-2.new.self.items ≡ items ++ e ∷ [] =
    rw c.reserve-2.ensures.items at c.push_reserved-2.ensures.items in
    let begun = count_more (λ (x : Entry). is_begun x.outcome) items e in
    let ended = count_more (λ (x : Entry). is_ended x.outcome) items e in record {
      part = c.add.ensures.parts ∙ c.seat.invariant.part;
      counted = omega (arith, c.add.ensures.amount, c.seat.invariant.counted, ap length is, length-append items (e ∷ []));
      begun = omega (arith, c.note.ensures.begun, c.seat.invariant.begun, begun, ap count_begun is);
      ended = omega (arith, c.note.ensures.ended, c.seat.invariant.ended, ended, ap count_ended is);
      phase =
          c.note.ensures.phase
          ∙ ap (λ phase. phase_after phase c.args.event c.in_ok-outcome.outcome) c.seat.invariant.phase
          ∙ sym (ap phase_of is ∙ phase_more Start items e);
    }

pub returns-clause-pool : goal.returns-clause-pool
returns-clause-pool g c =
    let items = c.self.inside.journal.items in
    let outcome = c.in_ok-outcome.outcome in
    let position = c.self.inside.first + c.len.result in
    let e : Entry = entry position c.args.event outcome in
    let is : c.push_reserved.new.self.items ≡ items ++ e ∷ [] = rw c.reserve.ensures.items at c.push_reserved.ensures.items in
    let made = is_made_then c.self.inside.core c.args.event outcome c.step.new.self c.in_default.ensures
    c.in_ok-outcome.ensures.row in
    let at : position ≡ c.self.inside.first + length items =
    omega (arith, c.len.ensures, c.reserve.ensures.len, c.self.inside.journal.ok) in
    let old : PoolState = record {
      core = c.self.inside.core;
      start = c.self.inside.start;
      first = c.self.inside.first;
      journal = items;
      entries = c.self.inside.book.total;
    } in
    rw (← c.self.view_is)
    (pool_grown old c.step.new.self c.push_reserved.new.self.items c.add.new.self.total position c.args.event outcome made at is
    c.add.ensures.total)

pub returns-clause-seat : goal.returns-clause-seat
returns-clause-seat g c =
    let items = c.seat.inside.list.items in
    let outcome = c.in_ok-outcome.outcome in
    let position = c.self.inside.first + c.len.result in
    let e : Entry = entry position c.args.event outcome in
    let is : c.push_reserved-2.new.self.items ≡ items ++ e ∷ [] =
    rw c.reserve-2.ensures.items at c.push_reserved-2.ensures.items in
    let made = is_made_then c.self.inside.core c.args.event outcome c.step.new.self c.in_default.ensures
    c.in_ok-outcome.ensures.row in
    let at : position ≡ c.self.inside.first + length c.self.inside.journal.items =
    omega (arith, c.len.ensures, c.reserve.ensures.len, c.self.inside.journal.ok) in
    rw (← c.self.view_is, ← c.seat.view_is)
    (seat_grown _ c.push_reserved-2.new.self.items c.add.new.share.amount position _ c.args.event outcome made at is
    c.add.ensures.amount)

pub returns-clause-held : goal.returns-clause-held
returns-clause-held g c none =
    let outcome = c.in_ok-outcome.outcome in
    let made : is_made outcome ≡ true =
    is_made_then c.self.inside.core c.args.event outcome c.step.new.self c.in_default.ensures c.in_ok-outcome.ensures.row in
    let no : false ≡ true = sym none ∙ made in
    absurd (cc)

pub returns-clause-kind : goal.returns-clause-kind
returns-clause-kind g c =
    row_kind c.self.inside.core c.args.event c.in_ok-outcome.outcome c.step.new.self c.in_ok-outcome.ensures.row

-- One watch more has seen the moment.
use Rattle.hp_watch.specs.Moments.{Moment}
use Rattle.hp_hunt.specs.declared.watching.Watch.{Watch}
use Rattle.hp_hunt.proofs.Watched.{one_seen, all_seen}
use Rattle.hp_hunt.proofs.watching.see_each.Goals as goal
use Rattle.std.proofs.Common.{◌≤◌, length, ap, arith}
use Rattle.std.specs.Prelude.{slice_index_or}

pub loop-place-preserved : goal.loop-place-preserved
loop-place-preserved c =
    let m : Moment = record { event = c.args.event.now; outcome = c.args.outcome.now; core = c.args.core.now } in
    let now = c.loop-place.watches in
    let n = c.loop-place.place in
    let was : Watch = slice_index_or now n c.index-watches-place.result in
    one_seen c.args.calls.now.tasks.items c.args.watches.now now m n was c.see.new.self c.loop-place.invariant
    (omega (arith, c.loop-place-test.true, c.loop-place.auto.watches)) (ap (λ (d : Watch). slice_index_or now n d) c.index-watches-place.is)
    c.see.ensures.condition c.see.ensures.knows

pub returns-clause-each : goal.returns-clause-each
returns-clause-each c =
    let m : Moment = record { event = c.args.event.now; outcome = c.args.outcome.now; core = c.args.core.now } in
    let all : length c.loop-place.watches ≤ c.loop-place.place = omega (arith, c.loop-place-test.false, c.loop-place.auto.watches) in
    λ before were know. all_seen c.args.calls.now.tasks.items c.args.watches.now c.loop-place.watches m c.loop-place.place before
    c.loop-place.invariant all were know

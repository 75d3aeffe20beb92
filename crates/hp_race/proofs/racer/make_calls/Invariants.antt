use Rattle.std.proofs.Common.{◌≡◌, Bool, List, drop}
use Rattle.std.specs.Prelude.{nat_lt, true}
use Rattle.hp_shared.specs.declared.entry.Entry.{Entry}
use Rattle.hp_race.specs.Calls.{CallsLeft, CallsMade, CallsStrayed}
use Rattle.hp_race.proofs.racer.make_calls.Given as goal

-- whatever comes of the calls that are left, comes of all of them from the beginning
abbrev pub invariant-loop-op : goal.invariant-loop-op
invariant-loop-op g l =
    let mortal = nat_lt 0 l.course.draws.kill in
    let tasks = l.course.config.tasks in record {
      task : l.seat.task ≡ l.fn.seat.task;
      made : (may : Bool) → (l.refused ≡ true → may ≡ true) → (end : List Entry)
          → CallsMade mortal may tasks l.fn.seat.task l.gone (drop l.op-index l.calls) l.seat.list end
          → CallsMade mortal may tasks l.fn.seat.task l.had_exited l.calls l.fn.seat.list end;
      strayed : (end : List Entry) → CallsStrayed mortal tasks l.fn.seat.task l.gone (drop l.op-index l.calls) l.seat.list end
          → CallsStrayed mortal tasks l.fn.seat.task l.had_exited l.calls l.fn.seat.list end;
      left : (end : List Entry) → CallsLeft mortal tasks l.fn.seat.task l.gone (drop l.op-index l.calls) l.seat.list end
          → CallsLeft mortal tasks l.fn.seat.task l.had_exited l.calls l.fn.seat.list end;
    }

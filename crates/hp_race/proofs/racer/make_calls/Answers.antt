use Rattle.std.proofs.Common.{refl, ◌∙◌}
use Rattle.std.specs.Prelude.{false, nat_lt, true}
use Rattle.std.proofs.lemmas.Bool.{false≢true}
use Rattle.hp_race.proofs.Making.{left_here, left_on, made_all, made_by, made_on, refused_by, strayed_here, strayed_on}
use Rattle.hp_race.proofs.racer.make_calls.Goals.{in-Made, in-Killed}
use Rattle.hp_race.proofs.racer.make_calls.Goals as goal

pub returns-in-Astray-clause-calls : goal.returns-in-Astray-clause-calls
returns-in-Astray-clause-calls g c =
    let at = c.loop-op in
    strayed_here (nat_lt 0 c.args.course.now.draws.kill) c.args.course.now.config.tasks c.args.seat.now.task at.seat.task c.args.had_exited
    at.gone c.args.calls.now at.op-index c.op-item.result c.make_call.result c.args.seat.now.list at.seat.list c.make_call.new.seat.list
    c.loop-op-test.true c.op-item.is at.invariant.task at.invariant.strayed c.make_call.ensures.call c.in-Astray.is

pub loop-op-preserved : goal.loop-op-preserved
loop-op-preserved g c =
    let at = c.loop-op in
    let mortal = nat_lt 0 c.args.course.now.draws.kill in
    let tasks = c.args.course.now.config.tasks in
    let task = c.args.seat.now.task in
    let op = c.op-item.result in
    let new = c.make_call.new.seat.list in
    let call = c.make_call.ensures.call in record {
      task = c.make_call.ensures.task ∙ at.invariant.task;
      made =
          elim c.match-make_call.branch [
            | in-Made w ↦
                made_on mortal tasks task c.args.had_exited at.gone _ c.is_exit-gone.result false at.refused _ c.args.calls.now at.op-index
                op c.args.seat.now.list at.seat.list new c.loop-op-test.true c.op-item.is
                (made_by mortal tasks task at.seat.task at.gone op c.make_call.result at.seat.list new at.invariant.task call w.in-Made.is)
                c.is_exit-gone.ensures refl (λ no. absurd (false≢true no)) (λ so. w.refused-is ∙ so) at.invariant.made
            | in-Killed w ↦
                made_on mortal tasks task c.args.had_exited at.gone _ c.is_exit-gone.result true at.refused _ c.args.calls.now at.op-index
                op c.args.seat.now.list at.seat.list new c.loop-op-test.true c.op-item.is
                (refused_by mortal tasks task at.seat.task at.gone op c.make_call.result at.seat.list new at.invariant.task call
                w.in-Killed.is)
                c.is_exit-gone.ensures refl (λ so. w.refused-is) (λ so. w.refused-is) at.invariant.made
          ];
      strayed =
          elim c.match-make_call.branch [
            | in-Made w ↦
                strayed_on mortal tasks task c.args.had_exited at.gone _ c.is_exit-gone.result false at.refused at.refused c.args.calls.now
                at.op-index op c.args.seat.now.list at.seat.list new c.loop-op-test.true c.op-item.is
                (made_by mortal tasks task at.seat.task at.gone op c.make_call.result at.seat.list new at.invariant.task call w.in-Made.is)
                c.is_exit-gone.ensures refl at.invariant.strayed
            | in-Killed w ↦
                strayed_on mortal tasks task c.args.had_exited at.gone _ c.is_exit-gone.result true at.refused at.refused c.args.calls.now
                at.op-index op c.args.seat.now.list at.seat.list new c.loop-op-test.true c.op-item.is
                (refused_by mortal tasks task at.seat.task at.gone op c.make_call.result at.seat.list new at.invariant.task call
                w.in-Killed.is)
                c.is_exit-gone.ensures refl at.invariant.strayed
          ];
      left =
          elim c.match-make_call.branch [
            | in-Made w ↦
                left_on mortal tasks task c.args.had_exited at.gone _ c.is_exit-gone.result false at.refused at.refused c.args.calls.now
                at.op-index op c.args.seat.now.list at.seat.list new c.loop-op-test.true c.op-item.is
                (made_by mortal tasks task at.seat.task at.gone op c.make_call.result at.seat.list new at.invariant.task call w.in-Made.is)
                c.is_exit-gone.ensures refl at.invariant.left
            | in-Killed w ↦
                left_on mortal tasks task c.args.had_exited at.gone _ c.is_exit-gone.result true at.refused at.refused c.args.calls.now
                at.op-index op c.args.seat.now.list at.seat.list new c.loop-op-test.true c.op-item.is
                (refused_by mortal tasks task at.seat.task at.gone op c.make_call.result at.seat.list new at.invariant.task call
                w.in-Killed.is)
                c.is_exit-gone.ensures refl at.invariant.left
          ];
    }

pub returns-clause-calls : goal.returns-clause-calls
returns-clause-calls g c =
    let at = c.loop-op in
    made_all (nat_lt 0 c.args.course.now.draws.kill) at.refused c.args.course.now.config.tasks c.args.seat.now.task c.args.had_exited
    at.gone c.args.calls.now at.op-index c.args.seat.now.list at.seat.list c.loop-op-test.false at.invariant.made c.ending_of.result
    c.ending_of.ensures

pub returns-then-not-come-clause-calls : goal.returns-then-not-come-clause-calls
returns-then-not-come-clause-calls g c =
    let at = c.loop-op in
    left_here (nat_lt 0 c.args.course.now.draws.kill) c.args.course.now.config.tasks c.args.seat.now.task c.args.had_exited at.gone
    c.args.calls.now at.op-index c.op-item.result c.args.seat.now.list at.seat.list c.loop-op-test.true c.op-item.is at.invariant.left

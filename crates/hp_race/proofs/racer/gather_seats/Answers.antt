use Rattle.std.proofs.Common.{◌∷◌, [], ◌∙◌, ap, length, length-append, arith}
use Rattle.hp_race.specs.Calls.{is_mortal}
use Rattle.hp_race.specs.Racers.{HasRun}
use Rattle.hp_race.proofs.Making.{left_too, made_too, refused_too, strayed_too, taken_apart}
use Rattle.hp_race.proofs.racer.gather_seats.Goals.{in-Made, in-Killed+in_ok-push-in-Killed, in-Astray, in-Late}
use Rattle.hp_race.proofs.racer.gather_seats.Goals as goal

pub loop-racer-preserved : goal.loop-racer-preserved
loop-racer-preserved g c =
    let at = c.loop-racer in
    let inv = at.invariant in
    let mortal = is_mortal c.args.chances in
    let script = c.args.script.now in
    let range = c.args.call_range in
    let seat = c.in-Some.racer.seat in
    let ending = c.in-Some.racer.ending in
    let new = c.push-in-loop-racer.new.self.items in
    let apart = taken_apart (λ d. HasRun mortal c.args.script.now c.args.call_range d.ending d.seat) _ _ c.in-Some.racer
    c.in-Some.ensures.steps.0 inv.2 in
    let items = c.in_ok-push.ensures.items in
    let short = ap length c.in-Some.ensures.steps.0 in (
      tt,
      tt,
      apart.1,
      elim c.match-ending.branch [
        | in-Made w ↦
            made_too mortal script range at.refused.items at.seats.items new seat ending apart.0 items at.astray at.late inv.3
            c.match-ending.astray c.match-ending.late c.match-ending.refused.items w.in-Made.is w.astray-is w.late-is
            (ap (λ v. v.items) w.refused-is)
        | in-Killed+in_ok-push-in-Killed w ↦
            refused_too mortal script range at.refused.items at.seats.items new seat ending apart.0 items at.astray at.late inv.3
            c.match-ending.astray c.match-ending.late c.match-ending.refused.items w.task.result
            w.in-Killed.is w.astray-is w.late-is w.task.ensures
            (ap (λ v. v.items) w.refused-is ∙ w.in_ok-push-in-Killed.ensures.items)
        | in-Astray w ↦
            strayed_too mortal script range at.refused.items at.seats.items new seat ending apart.0 items at.astray at.late inv.3
            c.match-ending.astray c.match-ending.late c.match-ending.refused.items w.in-Astray.is w.astray-is
        | in-Late w ↦
            left_too mortal script range at.refused.items at.seats.items new seat ending apart.0 items at.astray at.late inv.3
            c.match-ending.astray c.match-ending.late c.match-ending.refused.items w.in-Late.is w.astray-is w.late-is
      ],
      omega (arith, inv.4, ap length items, length-append at.seats.items (c.in-Some.racer.seat ∷ []), short),
      omega (arith, inv.5, c.in-Some.ensures.steps.1, short),
    )

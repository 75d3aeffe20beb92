use Rattle.std.proofs.Common.{[], List, sym, subst, take, ◌+◌}
use Rattle.hp_base.specs.declared.event.Event.{Event}
use Rattle.hp_hunt.proofs.Cuts.{place_dropped, place_kept, same_left}
use Rattle.hp_hunt.specs.Cutting.{IsSubsequence}
use Rattle.hp_hunt.proofs.belonging.without_task.Goals as goal
use Rattle.hp_hunt.proofs.belonging.without_task.Goals.{then-not-is_to_go+in_ok-push, else-not-is_to_go}

pub loop-place-init : goal.loop-place-init
loop-place-init c = same_left c.in_ok-left.left.items [] c.in_ok-left.ensures.items

pub loop-place-preserved : goal.loop-place-preserved
loop-place-preserved c =
    let events = c.args.events.now in
    let e = c.index-events-place.result in
    elim c.if-not-is_to_go.branch [
      | then-not-is_to_go+in_ok-push w ↦ rw w.left-is (
          subst (λ (x : List Event). IsSubsequence x (take (c.loop-place.place + 1) events)) (sym w.in_ok-push.ensures.items)
          (place_kept c.loop-place.left.items events c.loop-place.place e c.loop-place-test.true c.index-events-place.is c.loop-place.invariant)
          )
      | else-not-is_to_go w ↦ rw w.left-is
          (place_dropped c.loop-place.left.items events c.loop-place.place e c.loop-place-test.true c.index-events-place.is c.loop-place.invariant)
    ]

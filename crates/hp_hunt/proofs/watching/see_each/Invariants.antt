use Rattle.hp_hunt.proofs.Watched.{SeenSoFar}
use Rattle.hp_hunt.proofs.watching.see_each.Given as goal

abbrev pub invariant-loop-place : goal.invariant-loop-place
invariant-loop-place l =
    SeenSoFar l.calls.tasks.items l.fn.watches l.watches (record { event = l.event; outcome = l.outcome; core = l.core }) l.place

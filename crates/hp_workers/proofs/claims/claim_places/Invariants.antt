use Rattle.hp_workers.specs.Claims.{AreClaimed}
use Rattle.hp_workers.proofs.claims.claim_places.Given as goal

abbrev pub invariant-loop : goal.invariant-loop
invariant-loop g l = AreClaimed (g.W.Work.is_right l.work) l.places l.claimed.items

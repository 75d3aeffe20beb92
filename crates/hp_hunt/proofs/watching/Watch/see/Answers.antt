-- It was seen before, or is met now.
use Rattle.std.proofs.Common.{◌≡◌, ap, refl}
use Rattle.std.specs.Prelude.{Bool, ◌||◌}
use Rattle.hp_watch.specs.Moments.{Moment}
use Rattle.hp_hunt.proofs.Watched.{knows_more}
use Rattle.hp_hunt.proofs.watching.Watch.see.Goals as goal
use Rattle.hp_hunt.proofs.watching.Watch.see.Goals.{then-self, else-self}

pub returns-clause-knows : goal.returns-clause-knows
returns-clause-knows c =
    let old = c.args.self.now in
    let met = c.is_met_at-is_met.result in
    let m : Moment = record { event = c.args.event.now; outcome = c.args.outcome.now; core = c.args.core.now } in
    let seen : c.if-self.self ≡ (old.seen || met) =
    elim c.if-self.branch [
      | then-self w ↦ (let so = ap (λ (b : Bool). b || met) w.if-self.true in cc)
      | else-self w ↦ (let so = ap (λ (b : Bool). b || met) w.if-self.false in cc)
    ] in
    λ before were knew. knows_more old _ m before met refl seen (c.is_met_at-is_met.ensures before were) knew

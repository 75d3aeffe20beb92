use Rattle.std.proofs.Common.{sym, subst}
use Rattle.hp_hunt.specs.Claims.{TellsOf}
use Rattle.hp_hunt.proofs.Claimed.{told_met, told_missed}
use Rattle.hp_hunt.proofs.claims.SearchWork.make.Goals as goal
use Rattle.hp_hunt.proofs.claims.SearchWork.make.Goals.{then-met, else-met}

pub returns : goal.returns
returns c =
    let batch = c.args.self.now.batch in
    let place = c.args.place in
    let met = c.in_ok-met.met in
    let events = c.explore_run.new.events in
    let its = c.in_ok-met.ensures in
    elim c.if-met.branch [
      | then-met w ↦ subst (TellsOf batch place) (sym w.result-is) (told_met batch place met events its.met its.few w.if-met.true)
      | else-met w ↦ subst (TellsOf batch place) (sym w.result-is) (told_missed batch place met events its.met w.if-met.false)
    ]

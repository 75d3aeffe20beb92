use Rattle.std.proofs.Common.{subst, sym, ℕ}
use Rattle.hp_shared.proofs.Waking.{held_up_still}
use Rattle.hp_shared.specs.Waking.{AreHeldUpBut}
use Rattle.hp_shared.proofs.waiting_room.WaitingRoom.hold.Goals as goal

pub pass_on-called-requires : goal.pass_on-called-requires
pass_on-called-requires g c none nobody =
    let room = c.self.inside in
    subst (λ (own : ℕ). AreHeldUpBut own c.hold.new.self.core room.stances) (sym c.task-task.ensures)
    (held_up_still _ room.pool.core c.hold.new.self.core room.stances c.self.invariant (c.in-Ok.ensures.others none) nobody)

pub returns-in-Ok-clause-came : goal.returns-in-Ok-clause-came
returns-in-Ok-clause-came g c = rw (← c.self.view_is) c.hold.ensures.came

pub returns-in-Err-clause-came : goal.returns-in-Err-clause-came
returns-in-Err-clause-came g c = rw (← c.self.view_is) c.hold.ensures.came

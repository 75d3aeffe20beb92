use Rattle.std.proofs.Common.{arith, ℕ, ◌≡◌, subst}
use Rattle.hp_shared.specs.Waking.{stance_in}
use Rattle.hp_shared.specs.declared.waiting_room.Stance.TheVariants as stance
use Rattle.hp_shared.proofs.Calling.{lies_watched}
use Rattle.hp_shared.proofs.Waking.{one_of_both}
use Rattle.hp_shared.proofs.waiting_room.WaitingRoom.lie_down.Goals as goal
use Rattle.hp_shared.proofs.waiting_room.WaitingRoom.lie_down.Goals.{else-is_up-via-then-is_up+else-holds_up, else-is_up-via-else-is_up}

pub returns-in_default-clause-asleep : goal.returns-in_default-clause-asleep
returns-in_default-clause-asleep g c place holder within own = absurd (omega (arith, within, c.in_default.ensures place own))

pub invariant_of-self : goal.invariant_of-self
invariant_of-self g c =
    let held = c.if-holds_up.ensures.held_up in
    lies_watched c.self.inside.pool.core c.self.inside.stances c.in-Some.place c.args.task held.0 c.in-Some.ensures.1 c.if-is_up.ensures
    held.1 c.self.invariant

pub returns-then-holds_up-clause-free : goal.returns-then-holds_up-clause-free
returns-then-holds_up-clause-free g c =
    let held = c.if-holds_up.ensures.held_up in
    rw (← c.self.view_is) (λ free. one_of_both c.self.inside.pool.core c.args.task held.0 held.1 free)

pub returns-else-is_up-clause-asleep : goal.returns-else-is_up-clause-asleep
returns-else-is_up-clause-asleep g c = rw (← c.self.view_is) (λ place holder within own up waits. elim c.else-is_up.branch [
  | else-is_up-via-then-is_up+else-holds_up w ↦
      one_of_both c.self.inside.pool.core c.args.task holder waits (w.holds_up.ensures.free w.if-holds_up.false)
  | else-is_up-via-else-is_up w ↦
      (let same : place ≡ c.in-Some.place = omega (arith, own, c.in-Some.ensures.1) in
      absurd (w.if-is_up.ensures (subst (λ (k : ℕ). stance_in c.self.inside.stances k ≡ stance.Up) same up)))
])

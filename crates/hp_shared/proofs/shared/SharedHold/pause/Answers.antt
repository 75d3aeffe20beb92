use Rattle.std.proofs.Common.{◌≡◌, ◌∙◌, ℕ, ap, refl, subst, sym}
use Rattle.hp_shared.specs.Journal.{IsCameTo}
use Rattle.hp_shared.specs.States.{PoolState}
use Rattle.hp_shared.specs.Waking.{IsAwakeIn, RoomState}
use Rattle.hp_shared.proofs.shared.SharedHold.pause.Goals as goal

-- the last call of the closure found the task awake, and what it asked of was this task
pub returns : goal.returns
returns g c =
    let stopped = c.wait_while-room.ensures in
    let room : RoomState = c.deref.result.now in
    let pool : room.pool ≡ c.behind-room.inside.pool =
    ap (λ (r : RoomState). r.pool) (c.deref.ensures ∙ sym c.deref-2.ensures ∙ sym c.behind-room.view_is) in
    let last : stopped.3.now ≡ room = stopped.5 ∙ sym c.deref.ensures in
    let own : stopped.0.0.now ≡ c.args.seat.now.task =
    ap (λ f. f.0.now) (stopped.6 (λ a r f' called. ap (λ x. record { 0 = x }) called.met.0)) ∙ c.task-task.ensures in
    let awake : IsAwakeIn c.args.seat.now.task stopped.3.now =
    subst (λ (task : ℕ). IsAwakeIn task stopped.3.now) own (stopped.4.met.1 refl) in (
      room,
      subst (λ (p : PoolState). IsCameTo p.core) (sym pool) c.always-2.ensures.came,
      c.always.ensures,
      subst (λ (r : RoomState). IsAwakeIn c.args.seat.now.task r) last awake,
    )

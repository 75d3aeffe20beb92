-- Every operation means what the table says where its call runs alone.
use Rattle.std.proofs.Common.{◌≡◌, ℕ, ◌≤◌, refl, ap, ◌∙◌, arith}
use Rattle.std.specs.Prelude.{List, Option}
use Rattle.hp_base.specs.declared.answer.Answer.{Answer}
use Rattle.hp_base.specs.declared.event.Op.{Op}
use Rattle.hp_base.specs.declared.event.Op.TheVariants as op
use Rattle.hp_base.specs.declared.event.Event.{Event}
use Rattle.hp_machine.specs.State.{Pool, State}
use Rattle.hp_machine.specs.Events.{IsReached, Run, CallRow}
use Rattle.hp_machine.specs.declared.outcome.Outcome.{Outcome}
use Rattle.hp_machine.specs.declared.call.Call.{Call}
use Rattle.hp_machine.specs.declared.call.Call.TheVariants as call
use Rattle.hp_machine.specs.declared.call.Turn.{Turn}
use Rattle.hp_machine.specs.State.{is_dead}
use Rattle.hp_laws.proofs.Runs.{always, headline, run_keeps}
use Rattle.hp_sequential.specs.Meaning.{IsReady, IsCall, Looks, UsesAlike, Means}
use Rattle.hp_sequential.proofs.Alone.{call_comes, Comes}
use Rattle.hp_sequential.proofs.Idle.{idle_again, uses_alike}
use Rattle.hp_sequential.proofs.TouchAlone.{TouchSteps, touch_means}
use Rattle.hp_sequential.proofs.MapAlone.{MapSteps, map_means, map_no_reserve_means}
use Rattle.hp_sequential.proofs.AllocAlone.{AllocSteps, alloc_means}
use Rattle.hp_sequential.proofs.PunchAlone.{PunchSteps, punch_means}
use Rattle.hp_sequential.proofs.TruncateAlone.{TruncateSteps, truncate_means}
use Rattle.hp_sequential.proofs.UnmapAlone.{UnmapSteps, ExitSteps, unmap_means, exit_means}

-- a pool whose task is alive has a task
some_task : (s : State) (t : ℕ) → IsReached s → IsReady s t → 1 ≤ s.geometry.tasks
some_task s t reached ready = let z = (always s reached).lives.there t (ap is_dead ready.1) in omega arith

-- a call that runs alone leaves no call in flight, so the used count changes as the reserved indices do
alike : {P : Type 0} (call : P → Call) (R : Pool → P → Turn P → Pool → Type 0) (s : State) (t : ℕ) (b : Answer)
    (events : List (Event × Outcome)) (n : State) (pool : Pool) (phase : P) (M : State → Type 0)
    → IsReached s → IsReady s t → Run s events n → Comes call R s t b n pool phase
    → (Comes call R s t b n pool phase → (m : State) × M m × Looks m n) → (m : State) × M m × Looks m n × UsesAlike s n
alike call R s t b events n pool phase M reached ready run k means =
    let z = means k in
    let calls : n.calls ≡ s.calls = ap (λ (m : State). m.calls) k.3 ∙ idle_again s t (ready.0 t) in
    let after = run_keeps s events n (always s reached) run in
    (z.0, z.1, z.2, uses_alike s n (always s reached).inv after.inv ready.0 (λ u. ap (λ (c : ℕ → Option Call). c u) calls ∙ ready.0 u))

-- so a call of each operation that runs alone has the answer and leads to the state that the table tells
pub plain : (p : Op) (s : State) (t : ℕ) (b : Answer) (events : List (Event × Outcome)) (n : State) → IsReached s → IsReady s t
    → IsCall t p b events → Run s events n → (m : State) × Means s t p b m × Looks m n × UsesAlike s n
unfolding CallRow
plain (op.Map f from len) s t b events n reached ready steps run =
    alike call.Map (MapSteps t) s t b events n _ _ _ reached ready run
    (call_comes call.Map (MapSteps t) s t (op.Map f from len) b n events _ (λ pool new phase o next r. r) refl ready steps run)
    (λ k. map_means s t f from len b n (always s reached).inv ready k)
plain (op.MapNoReserve f from len) s t b events n reached ready steps run =
    alike call.Map (MapSteps t) s t b events n _ _ _ reached ready run
    (call_comes call.Map (MapSteps t) s t (op.MapNoReserve f from len) b n events _ (λ pool new phase o next r. r)
    refl ready steps run)
    (λ k. map_no_reserve_means s t f from len b n (always s reached).inv ready k)
plain (op.Unmap base) s t b events n reached ready steps run =
    alike call.Unmap (UnmapSteps t) s t b events n _ _ _ reached ready run
    (call_comes call.Unmap (UnmapSteps t) s t (op.Unmap base) b n events _ (λ pool new phase o next r. r) refl ready steps run)
    (λ k. unmap_means s t base b n ready k)
plain (op.Load v) s t b events n reached ready steps run =
    alike call.Touch (TouchSteps t) s t b events n _ _ _ reached ready run
    (call_comes call.Touch (TouchSteps t) s t (op.Load v) b n events _ (λ pool new phase o next r. r) refl ready steps run)
    (λ k. touch_means s t v _ b n (always s reached).inv (headline s reached).below ready k)
plain (op.Store v w) s t b events n reached ready steps run =
    alike call.Touch (TouchSteps t) s t b events n _ _ _ reached ready run
    (call_comes call.Touch (TouchSteps t) s t (op.Store v w) b n events _ (λ pool new phase o next r. r) refl ready steps run)
    (λ k. touch_means s t v _ b n (always s reached).inv (headline s reached).below ready k)
plain (op.Alloc f from len keep) s t b events n reached ready steps run =
    alike call.Alloc (AllocSteps t) s t b events n _ _ _ reached ready run
    (call_comes call.Alloc (AllocSteps t) s t (op.Alloc f from len keep) b n events _ (λ pool new phase o next r. r)
    refl ready steps run)
    (λ k. alloc_means s t f from len keep b n (always s reached).inv ready k)
plain (op.Punch f from len) s t b events n reached ready steps run =
    alike call.Punch (PunchSteps t) s t b events n _ _ _ reached ready run
    (call_comes call.Punch (PunchSteps t) s t (op.Punch f from len) b n events _ (λ pool new phase o next r. r) refl
    ready steps run)
    (λ k. punch_means s t f from len b n (always s reached).inv (some_task s t reached ready) ready k)
plain (op.Truncate f new) s t b events n reached ready steps run =
    alike call.Truncate (TruncateSteps t) s t b events n _ _ _ reached ready run
    (call_comes call.Truncate (TruncateSteps t) s t (op.Truncate f new) b n events _ (λ pool new phase o next r. r)
    refl ready steps run)
    (λ k. truncate_means s t f new b n (always s reached).inv (some_task s t reached ready) ready k)
plain op.Exit s t b events n reached ready steps run =
    alike call.Exit (ExitSteps t) s t b events n _ _ _ reached ready run
    (call_comes call.Exit (ExitSteps t) s t op.Exit b n events _ (λ pool new phase o next r. r) refl ready steps run)
    (λ k. exit_means s t b n (always s reached).inv ready k)

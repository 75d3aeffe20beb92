-- Listed anew or struck off, the tasks are those that can take a turn; else they are as before.
use Rattle.std.proofs.Common.{◌≡◌, ◌≤◌, ◌<◌, ◌∙◌, ℕ, List, All, length, sym, ap, subst, arith, inl, inr}
use Rattle.std.specs.Prelude.{Bool, Option, false, is_some}
use Rattle.hp_machine.specs.declared.phase.Phase.{Phase}
use Rattle.hp_core.specs.Readers.{phase_of}
use Rattle.hp_machine.specs.Events.{IsReached}
use Rattle.hp_core.specs.State.{CoreState, as_state}
use Rattle.hp_explore.specs.Schedule.{World, AreRunnable, CanTurn, in_call}
use Rattle.hp_laws.specs.Laws.{IsOf}
use Rattle.hp_base.specs.declared.event.Event.{Event}
use Rattle.hp_core.specs.Passing.{task_may_leave, task_may_pass}
use Rattle.hp_explore.specs.CanNow.{can_now}
use Rattle.hp_explore.proofs.Others.{EndsNone, all_can, at_index, list_stays, long_after, of_choice}
use Rattle.hp_core.proofs.Holds.{holding_stays, holds_on}
use Rattle.hp_explore.proofs.Retained.{list_struck}
use Rattle.std.proofs.lemmas.List.Elements.{All-filter}
use Rattle.hp_explore.proofs.walk.Walk.turn_of.Goals as goal
use Rattle.hp_explore.proofs.walk.Walk.turn_of.Goals.{then-may_release, else-may_release+then-may_pass}
use Rattle.hp_explore.proofs.walk.Walk.turn_of.Goals.{else-may_release+else-may_pass+else-not-can_turn}

pub returns-clause-runnable : goal.returns-clause-runnable
returns-clause-runnable c =
    let plan = c.args.plan.now in
    let w = c.args.self.now in
    let v = c.make.new.self in
    let t = c.at-task.result in
    let old = c.args.tasks.now in
    let Lists : List ℕ → Type 0 = λ ts. AreRunnable plan v ts in
    let left = ap (λ (x : World). x.core) c.choose-event.ensures.left in
    let same_core = left ∙ ap (λ (x : World). x.core) c.self.view_is in
    let same_made = ap (λ (x : World). x.made) c.self.view_is in
    let made = c.in_ok-outcome.ensures.made ∙ ap (λ (x : World). x.made) c.choose-event.ensures.left in
    let reached = subst (λ (x : World). IsReached (as_state x.core)) c.self-2.view_is c.is_reached.ensures in
    let place = c.of-place.result in
    let within : place < length old = omega (arith, c.of-place.ensures, c.len.ensures.len, c.requires.some) in
    let one : 1 ≤ t =
    (at_index (λ (n : ℕ). (1 ≤ n) × (n ≤ length w.made)) old place t c.at-task.ensures.task c.requires.in_range within).0 in
    let alone : (u : ℕ) → IsOf u c.choose-event.result → u ≡ t = λ u h. of_choice plan _ _ _ t _ u
    (subst (λ (e : Event). IsOf u e) c.choose-event.ensures.event h) in
    let could = at_index (CanTurn plan w) old place t c.at-task.ensures.task
    (all_can plan w (length w.made) old c.requires.runnable) within in
    let flight : is_some (phase_of c.self.inside.core t) ≡ in_call w t = ap (λ (x : World). in_call x t) c.self.view_is in
    let busy : Bool = is_some (phase_of c.self.inside.core t) in
    let EndsHere : Type 0 = EndsNone plan busy v t in
    let ends_none : c.may_release.result ≡ false → EndsHere = λ kept. elim (c.may_release.ensures.goes_on kept) [
      | inl none ↦ inl none
      | inr both ↦ inr (ap (λ (o : Option Phase). is_some o) (sym c.phase-at.ensures) ∙ both.0, both.1)
    ] in
    elim c.if-may_release.branch [
      | then-may_release b ↦ subst Lists (sym b.tasks-is) b.list_runnable.ensures.tasks
      | else-may_release+then-may_pass b ↦ (let stays = ap (λ (s : CoreState). task_may_leave (phase_of s t)) left
          ∙ (ap task_may_leave (sym c.phase-at.ensures) ∙ c.may_release.ensures.keeps b.if-may_release.false) in
          let held = holds_on _ v.core _ _ t c.in_ok-outcome.ensures.row alone stays in
          subst Lists (sym (b.tasks-is ∙ b.strike.ensures))
          (list_struck plan w v _ _ _ c.in_ok-outcome.outcome t _ _ _ old same_core same_made reached c.in_ok-outcome.ensures.row
          c.choose-event.ensures.event made flight (ends_none b.if-may_release.false) one held could c.requires.runnable))
      | else-may_release+else-may_pass+else-not-can_turn b ↦ (let quiet = ap (λ (s : CoreState). task_may_pass (phase_of s t)) left
          ∙ (ap task_may_pass (sym c.phase-at.ensures) ∙ (sym b.may_pass.ensures ∙ b.if-may_pass.false)) in
          let held = holding_stays _ v.core _ _ t c.in_ok-outcome.ensures.row alone quiet in
          subst Lists (sym b.tasks-is)
          (list_stays plan w v _ _ _ c.in_ok-outcome.outcome t _ _ _ old same_core same_made reached c.in_ok-outcome.ensures.row
          c.choose-event.ensures.event made flight (ends_none b.if-may_release.false) one held could
          (b.can_turn.ensures.can b.if-not-can_turn.false) c.requires.runnable))
    ]

pub returns-clause-in_range : goal.returns-clause-in_range
returns-clause-in_range c =
    let v = c.make.new.self in
    let InRange : List ℕ → Type 0 = λ ts. All (λ t. (1 ≤ t) × (t ≤ length v.made)) ts in
    let made = c.in_ok-outcome.ensures.made ∙ ap (λ (x : World). x.made) c.choose-event.ensures.left in
    let seen = ap (λ (x : World). length x.made) c.self.view_is in
    let long = ap (λ (m : List ℕ). length m) made ∙ long_after c.args.plan.now _ _ _ c.at-task.result _ ∙ seen in
    elim c.if-may_release.branch [
      | then-may_release b ↦ subst InRange (sym b.tasks-is) b.list_runnable.ensures.in_range
      | else-may_release+then-may_pass b ↦ subst InRange (sym (b.tasks-is ∙ b.strike.ensures))
          (All-filter (can_now c.args.plan.now v) (λ t. (1 ≤ t) × (t ≤ length v.made)) c.args.tasks.now
          (subst (λ (n : ℕ). All (λ t. (1 ≤ t) × (t ≤ n)) c.args.tasks.now) (sym long) c.requires.in_range))
      | else-may_release+else-may_pass+else-not-can_turn b ↦ subst InRange (sym b.tasks-is)
          (subst (λ (n : ℕ). All (λ t. (1 ≤ t) × (t ≤ n)) c.args.tasks.now) (sym long) c.requires.in_range)
    ]

pub make-requires-clause-alone : goal.make-requires-clause-alone
make-requires-clause-alone c =
    λ u h. of_choice c.args.plan.now _ _ _ c.at-task.result _ u
    (subst (λ (e : Event). IsOf u e) c.choose-event.ensures.event h)

pub make-requires-clause-task : goal.make-requires-clause-task
make-requires-clause-task c =
    let w = c.args.self.now in
    let old = c.args.tasks.now in
    let seen = ap (λ (x : World). length x.made) c.self.view_is in
    let long = ap (λ (x : World). length x.made) c.choose-event.ensures.left ∙ long_after c.args.plan.now _ _ _ c.at-task.result _ ∙ seen in
    let within : c.of-place.result < length old = omega (arith, c.of-place.ensures, c.len.ensures.len, c.requires.some) in
    let there = at_index (λ (n : ℕ). (1 ≤ n) × (n ≤ length w.made)) old c.of-place.result c.at-task.result c.at-task.ensures.task
    c.requires.in_range within in
    (there.0, omega (arith, there.1, long))

pub can_turn-requires : goal.can_turn-requires
can_turn-requires c =
    let w = c.args.self.now in
    let old = c.args.tasks.now in
    let made = c.in_ok-outcome.ensures.made ∙ ap (λ (x : World). x.made) c.choose-event.ensures.left in
    let seen = ap (λ (x : World). length x.made) c.self.view_is in
    let long = ap (λ (m : List ℕ). length m) made ∙ long_after c.args.plan.now _ _ _ c.at-task.result _ ∙ seen in
    let within : c.of-place.result < length old = omega (arith, c.of-place.ensures, c.len.ensures.len, c.requires.some) in
    let there = at_index (λ (n : ℕ). (1 ≤ n) × (n ≤ length w.made)) old c.of-place.result c.at-task.result c.at-task.ensures.task
    c.requires.in_range within in
    (there.0, omega (arith, there.1, long))

pub strike-requires : goal.strike-requires
strike-requires c =
    let made = c.in_ok-outcome.ensures.made ∙ ap (λ (x : World). x.made) c.choose-event.ensures.left in
    let seen = ap (λ (x : World). length x.made) c.self.view_is in
    let long = ap (λ (m : List ℕ). length m) made ∙ long_after c.args.plan.now _ _ _ c.at-task.result _ ∙ seen in
    subst (λ (n : ℕ). All (λ t. (1 ≤ t) × (t ≤ n)) c.args.tasks.now) (sym long) c.requires.in_range

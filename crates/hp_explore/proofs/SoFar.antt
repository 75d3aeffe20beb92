-- A run that is made turn by turn is the script's.
use Rattle.std.proofs.Common.{◌≡◌, ℕ, zero, suc, ◌+◌, ◌-◌, ◌%◌, ◌^◌, ◌≤◌, ◌<◌, ◌++◌, List, [], ◌∷◌, refl, sym, ap, ◌∙◌, subst}
use Rattle.std.proofs.Common.{append_assoc, arith, length, inl, inr}
use Rattle.std.specs.Prelude.{Option, None, Some, IfSome}
use Rattle.std.proofs.lemmas.List.{append-nil}
use Rattle.hp_base.specs.declared.event.Event.{Event}
use Rattle.hp_text.specs.declared.script.Script.{Script}
use Rattle.hp_explore.specs.declared.line.RunLine.{RunLine}
use Rattle.hp_explore.specs.declared.turned.Turned.{Turned}
use Rattle.hp_explore.specs.Schedule.{Plan, World, IsStart, Turn, AreRunnable, AreRunnableOf, plan_of}
use Rattle.hp_explore.specs.Explored.{IsClean, IsExplored, IsRun, idle_finish, last_finish, line_of, turn_limit}
use Rattle.hp_explore.specs.SoFar.{RunState, IsSoFar, GoesOn, Ends, EndsAs, IsOver}
use Rattle.hp_explore.proofs.Runs.{by_turn, by_idling, by_limit, explored}

-- before its first turn it has made no events
pub starts : (script : Script) (seed deny kill run first : ℕ) (r : RunState) → first ≡ (seed + run) % 2 ^ 64
    → IsStart script first r.world → IsSoFar script seed deny kill run [] r
unfolding IsSoFar
starts script seed deny kill run first r seeded start rest line on =
    explored script seed deny kill run first (turn_limit - r.world.turns) (plan_of script deny kill) r.world rest line refl seeded
    (omega (arith, start.turns)) start on

-- a turn more
pub goes_on : (plan : Plan) (old new : RunState) (e : Event) → Turn plan old.world e new.world → old.world.turns < 1000000
    → IsClean new.world.core → GoesOn plan old e new
unfolding IsSoFar
goes_on plan old new e turn few clean script seed deny kill run events planned so_far rest line on =
    subst (λ (es : List Event). IsExplored script seed deny kill run es line) (sym (append_assoc events (e ∷ []) rest))
    (so_far (e ∷ rest) line
    (by_turn (plan_of script deny kill) run (turn_limit - new.world.turns) (turn_limit - old.world.turns) old.world new.world e rest line
    (omega (arith, turn.turns, few)) (subst (λ (p : Plan). Turn p old.world e new.world) planned turn) clean on))

-- or none
pub goes_on_if : (plan : Plan) (old new : RunState) (o : Option Turned)
    → IfSome o (λ turned. Turn plan old.world turned.event new.world) → old.world.turns < 1000000
    → IsClean new.world.core → IfSome o (λ turned. GoesOn plan old turned.event new)
goes_on_if plan old new None turn few clean = tt
goes_on_if plan old new (Some turned) turn few clean = goes_on plan old new turned.event turn few clean

-- no task may take a turn
pub ends_idle : (plan : Plan) (r : RunState) → AreRunnable plan r.world [] → Ends plan r
unfolding IsSoFar
ends_idle plan r idle script seed deny kill run events planned so_far =
    let p = plan_of script deny kill in
    let line = line_of run (idle_finish p r.world) r.world in (
      line,
      subst (λ (es : List Event). IsExplored script seed deny kill run es line) (append-nil events)
          (so_far [] line (by_idling p run (turn_limit - r.world.turns) r.world
          (subst (λ (x : Plan). AreRunnable x r.world []) planned idle))),
    )

-- no turn is left
pub ends_late : (plan : Plan) (r : RunState) → 1000000 ≤ r.world.turns → AreRunnable plan r.world r.tasks → Ends plan r
unfolding IsSoFar
ends_late plan r late can script seed deny kill run events planned so_far =
    let p = plan_of script deny kill in
    let line = line_of run (last_finish p r.world r.tasks) r.world in (
      line,
      subst (λ (es : List Event). IsExplored script seed deny kill run es line) (append-nil events)
          (so_far [] line (by_limit p run (turn_limit - r.world.turns) r.world r.tasks (omega (arith, late))
          (subst (λ (x : Plan). AreRunnable x r.world r.tasks) planned can))),
    )

-- the tasks that may take a turn are one list
tasks_one : (plan : Plan) (w : World) (n : ℕ) (ts us : List ℕ) → AreRunnableOf plan w n ts → AreRunnableOf plan w n us → us ≡ ts
unfolding AreRunnableOf
tasks_one plan w zero ts us a b = b ∙ sym a
tasks_one plan w (suc n) ts us (front, before, inl a) (other, there, inl b) =
    b.1 ∙ (ap (λ (xs : List ℕ). xs ++ suc n ∷ []) (tasks_one plan w n front other before there) ∙ sym a.1)
tasks_one plan w (suc n) ts us (front, before, inl a) (other, there, inr b) = absurd (b.0 a.0)
tasks_one plan w (suc n) ts us (front, before, inr a) (other, there, inl b) = absurd (a.0 b.0)
tasks_one plan w (suc n) ts us (front, before, inr a) (other, there, inr b) =
    b.1 ∙ (tasks_one plan w n front other before there ∙ sym a.1)

-- the line of a run that is over, where these tasks could take a turn
pub ends_as : (plan : Plan) (r : RunState) (run : ℕ) (line : RunLine) → AreRunnable plan r.world r.tasks → IsOver plan r
    → line ≡ line_of run (last_finish plan r.world r.tasks) r.world → EndsAs plan r run line
unfolding IsSoFar
ends_as plan r run line can over is script seed deny kill events planned so_far =
    subst (λ (es : List Event). IsExplored script seed deny kill run es line) (append-nil events)
    (so_far [] line
    (subst (λ (l : RunLine). IsRun (plan_of script deny kill) run (turn_limit - r.world.turns) r.world [] l) (sym is)
    (subst (λ (x : Plan). IsRun x run (turn_limit - r.world.turns) r.world [] (line_of run (last_finish plan r.world r.tasks) r.world)) planned
    (by_case over))))
  where
    by_case : IsOver plan r
        → IsRun plan run (turn_limit - r.world.turns) r.world [] (line_of run (last_finish plan r.world r.tasks) r.world)
    by_case (inl idle) =
        subst (λ (ts : List ℕ). IsRun plan run (turn_limit - r.world.turns) r.world [] (line_of run (last_finish plan r.world ts) r.world))
        (tasks_one plan r.world (length r.world.made) r.tasks [] can idle)
        (by_idling plan run (turn_limit - r.world.turns) r.world idle)
    by_case (inr late) = by_limit plan run (turn_limit - r.world.turns) r.world r.tasks (omega (arith, late)) can

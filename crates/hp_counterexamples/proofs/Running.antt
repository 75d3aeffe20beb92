-- A list of events, computed together with the proof that it is a run.
use Rattle.std.proofs.Common.{◌≡◌, ℕ, refl, ap}
use Rattle.std.specs.Prelude.{Bool, true, false, not, ◌&&◌, Option, Some, None, List}
use Rattle.std.specs.Prelude.{[], ◌∷◌, MatchBool, MatchOption}
use Rattle.hp_base.specs.Numbers.{put, total}
use Rattle.hp_base.specs.Indices.{add_range, count_below, count_within, cut_tail, missing, touches, vacant}
use Rattle.hp_base.specs.Mappings.{without_index, without_mapping}
use Rattle.hp_base.specs.declared.event.Event.{Event}
use Rattle.hp_base.specs.declared.event.Event.TheVariants.{Begin, Step, Kill, Resize}
use Rattle.hp_machine.specs.State.{Pool, State, pool_of, free_frames, active_frames}
use Rattle.hp_machine.specs.State.{is_alive, is_killed, is_dead}
use Rattle.hp_machine.specs.Resizes.{ResizeRow}
use Rattle.hp_machine.specs.Events.{CallRow, CallRows, StepRows, ResizeRows, EventRows, BeginRow, StepBy, StepRow}
use Rattle.hp_machine.specs.Events.{KillRow, RowBy, RunBy}
use Rattle.hp_machine.specs.Events.{is_exit}
use Rattle.hp_machine.specs.declared.outcome.Outcome.{Outcome}
use Rattle.hp_machine.specs.declared.call.Call.{Call}
use Rattle.hp_laws.specs.Histories.{events_of}
use Rattle.hp_counterexamples.specs.Runs.{as_it_is, with_calls, with_resizes}
use Rattle.hp_counterexamples.proofs.Searching.{Clear, bind}
use Rattle.hp_counterexamples.proofs.Steps.{Made, try_call}
use Rattle.hp_counterexamples.proofs.Resizing.{TriesResizes, try_resize}

-- a step of a call by these rows is found
abbrev pub TriesCalls : CallRows → Type 0
TriesCalls rows =
    (s : Pool) (t : ℕ) (killed grant : Bool) (c : Call) → Clear s.geometry.limit s.pages → Made (rows s t killed grant c)

-- some outcome and some state after it meet the row, where this finds them
abbrev pub Led : (Outcome → State → Type 0) → Type 0
Led row = Option ((o : Outcome) × (new : State) × row o new × Clear new.geometry.limit new.pages)

-- a row that is one of two, and one that knows the call in flight
abbrev pub by_bool : {A B : Outcome → State → Type 0} (b : Bool) → Led A → Led B → Led (λ o n. MatchBool b (A o n) (B o n))
by_bool true a b = a
by_bool false a b = b

abbrev pub by_call : {A : Outcome → State → Type 0} {B : Call → Outcome → State → Type 0} (c : Option Call) → Led A
    → ((x : Call) → Led (B x))
    → Led (λ o n. MatchOption c (A o n) (λ x. B x o n))
by_call None a b = a
by_call (Some x) a b = b x

-- a step of a task by these rows is found, if one of its call is
abbrev pub TriesSteps : StepRows → Type 0
TriesSteps rows = (s : State) (t : ℕ) (grant : Bool) → Clear s.geometry.limit s.pages → Led (rows s t grant)

abbrev pub steps_by : (rows : CallRows) → TriesCalls rows → TriesSteps (StepBy rows)
steps_by rows tries s t grant h =
    by_bool (is_dead (s.life t)) (Some (_, _, (refl, refl), h))
    (by_call (s.calls t) (Some (_, _, (refl, refl), h))
    (λ c. bind (tries (pool_of s) t (is_killed (s.life t)) grant c h) (λ r. Some (r.0, _, (r.1, r.2, r.3, refl), r.4))))

-- one of the right machine
abbrev pub right_steps : TriesSteps StepRow
unfolding StepRow
right_steps = steps_by CallRow try_call

-- an event by these rows is found, if steps and resizes are
abbrev pub Tries : EventRows → Type 0
Tries rows = (s : State) (e : Event) → Clear s.geometry.limit s.pages → Led (rows s e)

abbrev pub event : (steps : StepRows) (resizes : ResizeRows) → TriesSteps steps → TriesResizes resizes
    → Tries (RowBy steps resizes)
unfolding BeginRow KillRow
event steps resizes step resize s (Begin t p) h =
    by_bool (is_dead (s.life t)) (Some (_, _, (refl, refl), h))
    (by_call (s.calls t)
    (by_bool (is_killed (s.life t) && not (is_exit p)) (Some (_, _, (refl, refl), h)) (Some (_, _, (refl, refl), h)))
    (λ c. Some (_, _, (refl, refl), h)))
event steps resizes step resize s (Step t grant) h = step s t grant h
event steps resizes step resize s (Kill t) h =
    by_bool (is_alive (s.life t)) (Some (_, _, (refl, refl), h)) (Some (_, _, (refl, refl), h))
event steps resizes step resize s (Resize n) h =
    bind (resize (pool_of s) n h) (λ r. Some (r.0, _, (r.1, r.2, refl), r.3))

-- these events lead somewhere by these rows, with their outcomes
abbrev pub Ran : EventRows → State → List Event → Type 0
Ran rows s events = (log : List (Event × Outcome)) × (n : State) × (events_of log ≡ events) × RunBy rows s log n

abbrev pub run : (rows : EventRows) → Tries rows → (s : State) (events : List Event) → Clear s.geometry.limit s.pages
    → Option (Ran rows s events)
run rows tries s [] h = Some ([], s, refl, refl)
run rows tries s (e ∷ es) h =
    bind (tries s e h) (λ r. bind (run rows tries r.1 es r.3)
    (λ rest. Some ((e, r.0) ∷ rest.0, rest.1, ap (λ (l : List Event). e ∷ l) rest.2, (r.1, r.2, rest.3))))

abbrev pub by_calls : (rows : CallRows) → TriesCalls rows → Tries (with_calls rows)
by_calls rows tries = event (StepBy rows) ResizeRow (steps_by rows tries) try_resize

abbrev pub by_resizes : (rows : ResizeRows) → TriesResizes rows → Tries (with_resizes rows)
by_resizes rows tries = event StepRow rows right_steps tries

-- the machine as it is
abbrev pub by_row : Tries as_it_is
by_row = event StepRow ResizeRow right_steps try_resize

-- what a run computes with: to unfold this is to unfold them all
unfoldable pub machine : Unit {0}
unfolding put total count_below count_within missing add_range cut_tail vacant touches without_index without_mapping
    free_frames active_frames CallRow BeginRow StepRow KillRow ResizeRow
machine = tt

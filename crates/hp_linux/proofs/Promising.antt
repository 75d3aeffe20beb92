-- Runs in parts, each of which ends with an answer: how they are found.
use Rattle.std.proofs.Common.{◌≡◌, ℕ, refl, ap, sym}
use Rattle.std.specs.Prelude.{Bool, true, false, ◌&&◌, ◌==◌, is_some, Option, Some, None, List, [], ◌∷◌}
use Rattle.hp_base.specs.declared.answer.Answer.{Answer}
use Rattle.hp_base.specs.declared.answer.Answer.TheVariants as answer
use Rattle.hp_base.specs.declared.event.Event.{Event}
use Rattle.hp_machine.specs.State.{Geometry, State, free_frames}
use Rattle.hp_machine.specs.Events.{EventRows, RunBy, opening}
use Rattle.hp_machine.specs.Headline.{reserved_in, vacant_in}
use Rattle.hp_machine.specs.declared.outcome.Outcome.{Outcome}
use Rattle.hp_machine.specs.declared.outcome.Outcome.TheVariants.{Ended}
use Rattle.hp_laws.specs.Histories.{events_of}
use Rattle.hp_counterexamples.specs.Runs.{IsAtRest}
use Rattle.hp_counterexamples.proofs.Searching.{Clear, bind, pick}
use Rattle.hp_counterexamples.proofs.Running.{Tries}
use Rattle.hp_counterexamples.proofs.Breaking.{is_led, leads, rests, at_rest, both, equal, never}
use Rattle.hp_linux.specs.Promises.{LeavesWaiting, Answers, last_outcome, TakesBack, FindsNoFrame}
use Rattle.hp_linux.proofs.Following.{same}

-- ---- frames that are free, and indices that wait

abbrev pub waits : (free waiting : ℕ) → State → Bool
waits free waiting s = rests s && ((free_frames s.frame s.frames == free) && (vacant_in s == waiting))

pub waits_so : (rows : EventRows) (tries : Tries rows) (g : Geometry) (frames : ℕ) (events : List Event) (free waiting : ℕ)
    → is_led rows tries g frames events (waits free waiting) ≡ true → LeavesWaiting rows g frames events free waiting
waits_so rows tries g frames events free waiting = leads rows tries g frames events (waits free waiting)
    (λ s. IsAtRest s × (free_frames s.frame s.frames ≡ free) × (vacant_in s ≡ waiting))
    (λ s e. let a = both (rests s) _ e in let b = both (free_frames s.frame s.frames == free) _ a.1 in
    (at_rest s a.0, equal _ _ b.0, equal _ _ b.1))

-- ---- a part of a run, and its last answer

-- these events lead somewhere by these rows, with their outcomes, where pages lie below the limit
abbrev pub ClearRan : EventRows → State → List Event → Type 0
ClearRan rows s events =
    (log : List (Event × Outcome)) × (n : State) × (events_of log ≡ events) × RunBy rows s log n × Clear n.geometry.limit n.pages

abbrev pub clear_run : (rows : EventRows) → Tries rows → (s : State) (events : List Event) → Clear s.geometry.limit s.pages
    → Option (ClearRan rows s events)
clear_run rows tries s [] h = Some ([], s, refl, refl, h)
clear_run rows tries s (e ∷ es) h =
    bind (tries s e h) (λ r. bind (clear_run rows tries r.1 es r.3)
    (λ rest. Some ((e, r.0) ∷ rest.0, rest.1, ap (λ (l : List Event). e ∷ l) rest.2, (r.1, r.2, rest.3), rest.4)))

-- the outcome is that answer, of those that are wanted here
abbrev pub is_answer : Answer → Option Outcome → Bool
is_answer (answer.Mapped base) (Some (Ended (answer.Mapped other))) = base == other
is_answer answer.NoMemory (Some (Ended answer.NoMemory)) = true
is_answer answer.NoFrame (Some (Ended answer.NoFrame)) = true
is_answer a o = false

pub answered : (a : Answer) (o : Option Outcome) → is_answer a o ≡ true → o ≡ Some (Ended a)
answered (answer.Mapped base) (Some (Ended (answer.Mapped other))) e =
    ap (λ (b : ℕ). Some (Ended (answer.Mapped b))) (sym (equal base other e))
answered answer.NoMemory (Some (Ended answer.NoMemory)) e = refl
answered answer.NoFrame (Some (Ended answer.NoFrame)) e = refl
answered a o e = never e

-- the part, where it ends with that answer
abbrev pub part : (rows : EventRows) → Tries rows → (s : State) (events : List Event) (a : Answer) → Clear s.geometry.limit s.pages
    → Option ((n : State) × Answers rows s events a n × Clear n.geometry.limit n.pages)
part rows tries s events a h =
    bind (clear_run rows tries s events h)
    (λ r. bind (pick (is_answer a (last_outcome r.0)) (λ e. Some (answered a (last_outcome r.0) e)) (λ _. None))
    (λ e. Some (r.1, (r.0, r.2, r.3, e), r.4)))

-- that no call is in flight, where none is
abbrev pub resting : (s : State) → Option (IsAtRest s)
resting s = pick (rests s) (λ e. Some (at_rest s e)) (λ _. None)

-- ---- a promise that is taken back, and a touch of it

abbrev pub take_back : (rows : EventRows) → Tries rows → (g : Geometry) (frames : ℕ) (promise back_out : List Event) (base : ℕ)
    → Option (TakesBack rows g frames promise back_out base)
take_back rows tries g frames promise back_out base =
    bind (part rows tries (opening g frames) promise (answer.Mapped base) (λ f i l. refl))
    (λ p. bind (same (reserved_in p.0) 1)
    (λ one. bind (part rows tries p.0 back_out answer.NoMemory p.2)
    (λ a. bind (resting a.0)
    (λ rest. bind (same (reserved_in a.0) 0)
    (λ none. bind (same a.0.resv 0) (λ uncounted. Some (p.0, a.0, p.1, one, a.1, rest, none, uncounted)))))))

abbrev pub find_no_frame : (rows : EventRows) → Tries rows → (g : Geometry) (frames : ℕ) (promise back_out touch : List Event) (base : ℕ)
    → Option (FindsNoFrame rows g frames promise back_out touch base)
find_no_frame rows tries g frames promise back_out touch base =
    bind (part rows tries (opening g frames) promise (answer.Mapped base) (λ f i l. refl))
    (λ p. bind (part rows tries p.0 back_out answer.NoMemory p.2)
    (λ a. bind (part rows tries a.0 touch answer.NoFrame a.2)
    (λ n. Some (p.0, a.0, n.0, p.1, a.1, n.1))))

-- what was found
pub found : {A : Type 0} (o : Option A) → is_some o ≡ true → A
found None e = never e
found (Some a) e = a

-- A schedule is a run of the machine.
use Rattle.std.specs.Prelude.{Bool, true, false, MatchBool}
use Rattle.std.proofs.Common.{◌≡◌, ◌∙◌, ℕ, ◌+◌, refl, ap, sym, subst, arith, List, [], ◌∷◌, length, length-append}
use Rattle.hp_base.specs.declared.event.Event.{Event}
use Rattle.hp_core.specs.State.{CoreState}
use Rattle.hp_core.specs.Runs.{Row}
use Rattle.hp_text.specs.declared.script.Script.{Script}
use Rattle.hp_watch.specs.Moments.{Moment, IsHistory, IsRunOf, events_of, last_of}
use Rattle.hp_explore.specs.Schedule.{Plan}
use Rattle.hp_hunt.specs.Conditions.{SomeRunMeets}
use Rattle.hp_hunt.specs.declared.condition.Condition.{Condition}
use Rattle.hp_every.specs.Schedules.{IsSchedule, IsShortest, Leads, Place}

-- turn by turn it is a history, and leads where the moments do
pub history : (plan : Plan) (first : Place) (moments : List Moment) (last : Place) → Leads plan first moments last
    → IsHistory first.core moments × (last_of first.core moments ≡ last.core)
unfolding Leads IsHistory
history plan first [] last same = (tt, ap (λ (p : Place). p.core) (sym same))
history plan first (m ∷ before) last (p, leads, core, turn) =
    let so_far = history plan first before p leads in
    let row : Row p.core m.event m.outcome m.core = subst (λ (c : CoreState). Row p.core m.event m.outcome c) (sym core) turn.row in
    ((so_far.0, subst (λ (c : CoreState). Row c m.event m.outcome m.core) (sym so_far.1) row), core)

pub run_of : (script : Script) (denials kills : ℕ) (first : CoreState) (moments : List Moment) (last : Place)
    → IsSchedule script denials kills first moments last → IsRunOf script.config (events_of moments) first moments
run_of script denials kills first moments last schedule = record {
  opening = schedule.opening;
  history = (history _ _ moments last schedule.leads).0;
  made = refl;
}

-- as many events as moments
pub event_count : (moments : List Moment) → length (events_of moments) ≡ length moments
event_count [] = refl
event_count (m ∷ before) =
    length-append (events_of before) (m.event ∷ []) ∙ (ap (λ (n : ℕ). n + 1) (event_count before) ∙ omega arith)

-- a shortest schedule is a run that meets the conditions,
pub shortest_meets : (script : Script) (denials kills : ℕ) (conditions : List Condition) (events : List Event)
    → IsShortest script denials kills conditions events → SomeRunMeets script.config events conditions
shortest_meets script denials kills conditions events h = record {
  first = h.meets.first;
  moments = h.moments;
  run = subst (λ (es : List Event). IsRunOf script.config es h.meets.first h.moments) h.made
      (run_of script denials kills h.meets.first h.moments h.meets.last h.meets.schedule);
  meets = h.meets.meets;
}

-- and all that are shortest have as many events
pub one_length : (script : Script) (denials kills : ℕ) (conditions : List Condition) (events others : List Event)
    → IsShortest script denials kills conditions events → IsShortest script denials kills conditions others
    → length events ≡ length others
one_length script denials kills conditions events others h g =
    let here : length events ≡ length h.moments = ap (λ (es : List Event). length es) (sym h.made) ∙ event_count h.moments in
    let there : length others ≡ length g.moments = ap (λ (es : List Event). length es) (sym g.made) ∙ event_count g.moments in
    let low = h.shortest g.moments g.meets in
    let high = g.shortest h.moments h.meets in
    omega (arith, here, there, low, high)

-- where the one is wanted, or isn't
pub wanted_too : (wanted : Bool) (P Q : Type 0) → (P → Q) → (Q → P) → MatchBool wanted P (P → ⊥) → MatchBool wanted Q (Q → ⊥)
wanted_too true P Q on back h = on h
wanted_too false P Q on back h = λ q. h (back q)

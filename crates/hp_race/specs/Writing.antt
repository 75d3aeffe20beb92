-- What races write.
use Rattle.std.specs.Prelude.{◌≡◌, ◌≤◌, ◌⊎◌, ℕ, Bool, true, false, List, length, Option, All}
use Rattle.std.specs.List.{list_all}
use Rattle.std.specs.Io.KnownBytes.{Appends, Keeps}
use Rattle.hp_base.specs.Text.{sizes}
use Rattle.hp_base.specs.declared.event.Event.{Event}
use Rattle.hp_text.specs.declared.script.Script.{Script}
use Rattle.hp_race.specs.declared.line.Race.{Race}
use Rattle.hp_race.specs.declared.line.Verdict.{Verdict}
use Rattle.hp_race.specs.declared.line.Verdict.TheVariants.{Closed, Disagree, Astray, Late}
use Rattle.hp_race.specs.Parts.{IsToldBy}
use Rattle.hp_race.specs.Races.{IsTraceOf, IsUnclosed}
use Rattle.hp_race.specs.Text.{lines_text}
use Rattle.hp_text.specs.Traces.{trace_text}
use Rattle.hp_text.specs.Writing.{Wrote}

abbrev pub is_verdict_closed : Verdict → Bool
is_verdict_closed Closed = true
is_verdict_closed (Disagree position) = false
is_verdict_closed Astray = false
is_verdict_closed Late = false

abbrev pub is_closed : Race → Bool
is_closed race = is_verdict_closed race.verdict

-- a line was written for each race, numbered from 0, and it is known whether all were closed
pub record WroteRaces (mortal : Bool) (script : Script) (cut : Option ℕ) (times : ℕ) (closed : Bool)
    (before after : Option (List ℕ)) : Type 0 where
  pub races : List Race
  pub count : length races ≡ times
  pub each : All (IsToldBy mortal script cut) races
  pub wrote : Appends before after (lines_text 0 races)
  pub ends : closed ≡ list_all is_closed races

-- a front of the lines of some races was written
pub record WroteSomeRaces (mortal : Bool) (script : Script) (cut : Option ℕ) (times : ℕ) (before after : Option (List ℕ)) : Type 0 where
  pub races : List Race
  pub few : length races ≤ times
  pub each : All (IsToldBy mortal script cut) races
  pub wrote : Wrote before after (lines_text 0 races)

-- the trace of a race was written where it was closed, and nothing where it wasn't
abbrev pub WroteTrace : (mortal : Bool) → Script → (closed : Bool) → (before after : Option (List ℕ)) → Type 0
WroteTrace mortal script true before after =
    (events : List Event) × IsTraceOf mortal script (sizes script.config) events
    × Appends before after (trace_text (sizes script.config) events)
WroteTrace mortal script false before after = IsUnclosed mortal script × Keeps before after

-- a front of it was written, or nothing
abbrev pub WroteSomeTrace : (mortal : Bool) → Script → (before after : Option (List ℕ)) → Type 0
WroteSomeTrace mortal script before after =
    Keeps before after
    ⊎ ((events : List Event) × IsTraceOf mortal script (sizes script.config) events
    × Wrote before after (trace_text (sizes script.config) events))

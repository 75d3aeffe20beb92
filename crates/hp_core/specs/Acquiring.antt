-- What the next step of a task's call has to take, and what the call owes.
use Rattle.std.specs.Prelude.{ℕ, ℤ, pos, ◌-ℤ◌, Option}
use Rattle.hp_machine.specs.Standings.{Want, Nothing, Lock, Slot, standing_of}
use Rattle.hp_machine.specs.Views.{behind, ahead}
use Rattle.hp_machine.specs.declared.call.Call.{Call}
use Rattle.hp_core.specs.State.{CoreState, as_state}
use Rattle.hp_core.specs.declared.acquiring.Acquired.{Acquired}
use Rattle.hp_core.specs.declared.acquiring.Acquired.TheVariants as wanted

-- what a call wants, as the code says it
abbrev pub acquired_as : Want → Acquired
acquired_as Nothing = wanted.Nothing
acquired_as (Lock file) = wanted.Lock file
acquired_as (Slot file index) = wanted.Slot file index

-- what a call in flight wants; without one nothing is wanted
abbrev pub wanted_by : Option Call → Acquired
wanted_by c = acquired_as (standing_of c).wants

-- what the task's call wants
unfoldable pub acquired_of : CoreState → (task : ℕ) → Acquired
acquired_of s t = wanted_by ((as_state s).calls t)

-- what a call in flight owes to the reserve count
abbrev pub owed_by_call : Option Call → ℤ
owed_by_call c = pos (ahead c) -ℤ pos (behind c)

-- what the task's call owes to it
unfoldable pub owed_by_of : CoreState → (task : ℕ) → ℤ
owed_by_of s t = owed_by_call ((as_state s).calls t)

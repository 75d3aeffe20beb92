-- What is told of an event, in words.
use Rattle.std.specs.Prelude.{ℕ, ◌==◌, Bool, List, [], ◌++◌, Option, None, Some, codes, if◌then◌else◌}
use Rattle.std.specs.Fmt.{decimal}
use Rattle.hp_base.specs.Text.{event_text}
use Rattle.hp_base.specs.declared.event.Event.{Event}
use Rattle.hp_text.specs.Columns.{column_of}
use Rattle.hp_machine.specs.State.{slot_of}
use Rattle.hp_machine.specs.Text.{outcome_text}
use Rattle.hp_machine.specs.declared.phase.Phase.{Phase}
use Rattle.hp_watch.specs.Linux.{linux_of_step}
use Rattle.hp_machine.specs.declared.outcome.Outcome.{Outcome}
use Rattle.hp_machine.specs.declared.outcome.Outcome.TheVariants as outcome
use Rattle.hp_core.specs.Readers.{config_of}
use Rattle.hp_core.specs.Runs.{geometry}
use Rattle.hp_core.specs.State.{CoreState}
use Rattle.hp_core.specs.Acquiring.{acquired_of}
use Rattle.hp_core.specs.Holding.{holding_of}
use Rattle.hp_core.specs.declared.acquiring.Acquired.{Acquired}
use Rattle.hp_core.specs.declared.acquiring.Acquired.TheVariants as wanted

-- `slot 3, file 0 index 0`
abbrev pub slot_text : CoreState → (file index : ℕ) → List ℕ
slot_text core file index =
    codes "slot " ++ (decimal (slot_of (geometry (config_of core)) file index)
    ++ (codes ", file " ++ (decimal file ++ (codes " index " ++ decimal index))))

-- `lock of file 0`
abbrev pub lock_text : (file : ℕ) → List ℕ
lock_text file = codes "lock of file " ++ decimal file

-- what a call wants
abbrev pub wanted_text : CoreState → Acquired → List ℕ
wanted_text core wanted.Nothing = codes "nothing"
wanted_text core (wanted.Lock file) = lock_text file
wanted_text core (wanted.Slot file index) = slot_text core file index

-- what the call of the task in that column wants
abbrev pub wanted_in : CoreState → (column : ℕ) → Acquired
wanted_in core column = if column == 0 then wanted.Nothing else acquired_of core column

-- `, index 3` where a call holds the slot of that index, or else wants it
abbrev pub index_text : (held : Option (ℕ × ℕ)) → Acquired → List ℕ
index_text (Some at) wants = codes ", index " ++ decimal at.1
index_text None wanted.Nothing = []
index_text None (wanted.Lock file) = []
index_text None (wanted.Slot file index) = codes ", index " ++ decimal index

-- the index at which the call of the task in that column works
abbrev pub index_in : CoreState → (column : ℕ) → List ℕ
index_in core column = if column == 0 then [] else index_text (holding_of core column).slot (acquired_of core column)

-- ` (region_add)`: what the step did in Linux, where that is asked for. It was made from that phase, and led to that core
abbrev pub linux_part : (linux : Bool) → CoreState → (column : ℕ) → (from : Option Phase) → List ℕ
linux_part linux core column None = []
linux_part linux core column (Some from) = if linux then codes " (" ++ (linux_of_step core column from ++ codes ")") else []

-- `moved settle, index 3`, or `moved settle (region_add), index 3`; `blocked by 2: slot 3, file 0 index 0`, else the outcome as it is
abbrev pub outcome_words : (linux : Bool) → CoreState → Event → (from : Option Phase) → Outcome → List ℕ
outcome_words linux core event from outcome.Begun = outcome_text outcome.Begun
outcome_words linux core event from (outcome.Moved phase) =
    outcome_text (outcome.Moved phase)
    ++ (linux_part linux core (column_of (config_of core).tasks event) from ++ index_in core (column_of (config_of core).tasks event))
outcome_words linux core event from (outcome.Blocked holder) =
    codes "blocked by " ++ (decimal holder
    ++ (codes ": " ++ wanted_text core (wanted_in core (column_of (config_of core).tasks event))))
outcome_words linux core event from (outcome.Ended answer) = outcome_text (outcome.Ended answer)
outcome_words linux core event from outcome.Marked = outcome_text outcome.Marked
outcome_words linux core event from (outcome.Resized frames) = outcome_text (outcome.Resized frames)
outcome_words linux core event from (outcome.Refused refusal) = outcome_text (outcome.Refused refusal)

-- the event, and what came of it: `step 1: moved want`
abbrev pub cell_text : (linux : Bool) → CoreState → Event → (from : Option Phase) → Outcome → List ℕ
cell_text linux core event from outcome = event_text event ++ (codes ": " ++ outcome_words linux core event from outcome)

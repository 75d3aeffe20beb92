-- The text that explains a run: a head, a row for each event, a line for each call in flight, and the lines of the state.
use Rattle.std.specs.Prelude.{ℕ, zero, suc, Bool, List, [], ◌∷◌, ◌++◌, length, Option, Some, None, codes, if◌then◌else◌}
use Rattle.std.specs.Fmt.{decimal, signed_decimal}
use Rattle.hp_base.specs.declared.event.Event.{Event}
use Rattle.hp_machine.specs.Text.{phase_word}
use Rattle.hp_machine.specs.declared.outcome.Outcome.{Outcome}
use Rattle.hp_machine.specs.declared.phase.Phase.{Phase}
use Rattle.hp_core.specs.Holding.{holding_of}
use Rattle.hp_core.specs.Readers.{config_of, free_of, resv_of, owed_of, phase_of, quota_of, used_of}
use Rattle.hp_core.specs.State.{CoreState}
use Rattle.hp_core.specs.Acquiring.{acquired_of, owed_by_of}
use Rattle.hp_core.specs.declared.holding.Holding.{Holding}
use Rattle.hp_replay.specs.Outcomes.{state_text}
use Rattle.hp_watch.specs.Happenings.{Happening}
use Rattle.hp_explain.specs.Happenings.{texts_of}
use Rattle.hp_explain.specs.Layout.{columns, titles, right, right_signed}
use Rattle.hp_explain.specs.Views.{column_in, is_shown}
use Rattle.hp_explain.specs.declared.view.View.{View}
use Rattle.hp_explain.specs.Waits.{changes_text}
use Rattle.hp_explain.specs.Words.{cell_text, lock_text, slot_text, wanted_text}

-- what stands over the used count, where the pool has a quota
abbrev pub used_title : (quota : Option ℕ) → List ℕ
used_title None = []
used_title (Some quota) = codes "  used"

-- `   line  task 1 .. task 2 .. free  resv  owed`, and `  used` where the pool has a quota
abbrev pub head_text : (compact : Bool) → (quota : Option ℕ) → (widths : List ℕ) → List ℕ
head_text compact quota widths =
    codes "   line  " ++ (titles compact widths (length widths) ++ (codes "free  resv  owed" ++ (used_title quota ++ 10 ∷ [])))

-- the event in the column of its task, with what came of it
abbrev pub cells : View → (widths : List ℕ) → CoreState → Event → (from : Option Phase) → Outcome → List ℕ
cells v widths core event from outcome =
    columns widths (column_in v.compact (config_of core).tasks event) (cell_text v.linux core event from outcome) (length widths)

-- the used count, where the pool has a quota
abbrev pub used_count : (quota : Option ℕ) → CoreState → List ℕ
used_count None core = []
used_count (Some quota) core = codes "  " ++ right 4 (used_of core)

-- free frames, the reserve count, what is owed to it, and the used count
abbrev pub counts : CoreState → List ℕ
counts core =
    right 4 (free_of core) ++ (codes "  "
    ++ (right 4 (resv_of core) ++ (codes "  " ++ (right_signed 4 (owed_of core) ++ used_count (quota_of core) core))))

-- | the line's number | a column for each task | free | resv | owed | used | tasks whose wait began, changed or ended |. Before the
-- event they waited for these holders
abbrev pub row_text : View → (widths : List ℕ) → (line : ℕ) → (before : List (Option ℕ)) → Happening → List ℕ
row_text v widths line before h =
    right 7 line ++ (codes "  "
    ++ (cells v widths h.core h.event h.from h.outcome
    ++ (counts h.core ++ (changes_text v.compact h.core before h.holders (config_of h.core).tasks ++ 10 ∷ []))))

-- the same, if the event has a row
abbrev pub shown_text : View → (widths : List ℕ) → (line : ℕ) → (before : List (Option ℕ)) → Happening → List ℕ
shown_text v widths line before h = if is_shown v line h.event then row_text v widths line before h else []

-- the rows of these lines, which begin with that one
abbrev pub rows_text : View → (widths : List ℕ) → (line : ℕ) → (before : List (Option ℕ)) → List Happening → List ℕ
rows_text v widths line before list = texts_of (shown_text v widths) line before list

-- what a call holds: `nothing`, `lock of file 0`, `slot 3, file 0 index 0`, `lock of file 0 and slot 3, file 0 index 0`
abbrev pub held_text : CoreState → (slot : Option (ℕ × ℕ)) → (lock : Option ℕ) → List ℕ
held_text core None None = codes "nothing"
held_text core None (Some file) = lock_text file
held_text core (Some at) None = slot_text core at.0 at.1
held_text core (Some at) (Some file) = lock_text file ++ (codes " and " ++ slot_text core at.0 at.1)

abbrev pub holding_text : CoreState → Holding → List ℕ
holding_text core held = held_text core held.slot held.lock

-- `task 2 is at want: holds nothing, wants slot 3, file 0 index 0, owes 0`
abbrev pub in_flight_text : CoreState → (task : ℕ) → Phase → List ℕ
in_flight_text core task phase =
    codes "task " ++ (decimal task
    ++ (codes " is at " ++ (phase_word phase
    ++ (codes ": holds " ++ (holding_text core (holding_of core task)
    ++ (codes ", wants " ++ (wanted_text core (acquired_of core task)
    ++ (codes ", owes " ++ (signed_decimal (owed_by_of core task) ++ 10 ∷ [])))))))))

-- where a call of the task is in flight
abbrev pub if_in_flight : CoreState → (task : ℕ) → Option Phase → List ℕ
if_in_flight core task None = []
if_in_flight core task (Some phase) = in_flight_text core task phase

-- the lines of the calls of the first n tasks
unfoldable pub calls_text : CoreState → (n : ℕ) → List ℕ
calls_text core zero = []
calls_text core (suc n) = calls_text core n ++ if_in_flight core (suc n) (phase_of core (suc n))

-- a line for each call in flight, and those of the state
abbrev pub end_text : CoreState → List ℕ
end_text core = calls_text core (config_of core).tasks ++ state_text core

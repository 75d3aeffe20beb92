-- Whether the calls of a journal waited for what they wait for.
use Rattle.std.specs.Prelude.{◌+◌, ◌-◌, ◌^◌, ◌&&◌, ◌||◌, ℕ, Bool, true, false, List, [], ◌∷◌, length, min, nat_le, nat_lt, replicate}
use Rattle.std.specs.Prelude.{if◌then◌else◌, slice_index_or, slice_set}
use Rattle.std.specs.List.{list_all}
use Rattle.hp_base.specs.declared.event.Event.{Event}
use Rattle.hp_base.specs.declared.event.Event.TheVariants.{Begin, Kill, Resize, Step}
use Rattle.hp_machine.specs.Events.{is_exit}
use Rattle.hp_machine.specs.declared.outcome.Outcome.{Outcome}
use Rattle.hp_machine.specs.declared.outcome.Outcome.TheVariants as outcome
use Rattle.hp_text.specs.Needs.{needs_of}
use Rattle.hp_text.specs.declared.needs.Need.{Need}
use Rattle.hp_text.specs.declared.script.Script.{Script}
use Rattle.hp_shared.specs.declared.entry.Entry.{Entry}
use Rattle.hp_race.specs.declared.keeping.Progress.{Progress}

-- what is known of a task that isn't there: nobody waits for it
abbrev pub absent : Progress
absent = record { begun = 0; ended = 0; exits = false; left = true }

-- and of one that has begun no call
abbrev pub fresh : Progress
fresh = record { begun = 0; ended = 0; exits = false; left = false }

abbrev pub progress_at : List Progress → (place : ℕ) → Progress
progress_at tasks place = slice_index_or tasks place absent

-- whether the task at that place has ended so many calls. Of one that was killed or has exited all calls that are left end at once
abbrev pub is_over : List Progress → Need → Bool
is_over tasks need = (progress_at tasks need.place).left || nat_le need.calls (progress_at tasks need.place).ended

-- whether all is over that the next call of the task waits for. One that was killed makes an exit alone, which may be any of its calls
abbrev pub may_begin : List (List (List Need)) → List Progress → (task : ℕ) → Bool
may_begin needs tasks task =
    (progress_at tasks (task - 1)).left
    || list_all (is_over tasks) (slice_index_or (slice_index_or needs (task - 1) []) (progress_at tasks (task - 1)).begun [])

-- the same of an event: all but a begin wait for nobody
abbrev pub may_come : List (List (List Need)) → List Progress → Event → Bool
may_come needs tasks (Begin task op) = may_begin needs tasks task
may_come needs tasks (Step task grant) = true
may_come needs tasks (Kill task) = true
may_come needs tasks (Resize frames) = true

-- one more (it saturates)
abbrev pub one_more : ℕ → ℕ
one_more count = min (count + 1) (2 ^ 64 - 1)

-- what is known of a task behind a step of it
abbrev pub behind_step : Progress → Outcome → Progress
behind_step p outcome.Begun = p
behind_step p (outcome.Moved phase) = p
behind_step p (outcome.Blocked holder) = p
behind_step p (outcome.Ended answer) = record p { ended = one_more p.ended; left = p.left || p.exits }
behind_step p outcome.Marked = p
behind_step p (outcome.Resized frames) = p
behind_step p (outcome.Refused why) = p

-- what is noted of the task of that number
abbrev pub noted_of : List Progress → (task : ℕ) → Progress → List Progress
noted_of tasks task p = if nat_lt (task - 1) (length tasks) then slice_set tasks (task - 1) p else tasks

-- what is known of all tasks behind an event
abbrev pub behind : List Progress → Event → Outcome → List Progress
behind tasks (Begin task op) outcome =
    noted_of tasks task
    (record (progress_at tasks (task - 1)) { begun = one_more (progress_at tasks (task - 1)).begun; exits = is_exit op })
behind tasks (Step task grant) outcome = noted_of tasks task (behind_step (progress_at tasks (task - 1)) outcome)
behind tasks (Kill task) outcome = noted_of tasks task (record (progress_at tasks (task - 1)) { left = true })
behind tasks (Resize frames) outcome = tasks

-- no call of these entries begins before all is over that it waits for
abbrev pub is_in_turn : List (List (List Need)) → List Progress → List Entry → Bool
is_in_turn needs tasks [] = true
is_in_turn needs tasks (e ∷ es) = may_come needs tasks e.event && is_in_turn needs (behind tasks e.event e.outcome) es

-- no call of the journal begins before those have ended for which the script has it wait
abbrev pub keeps_waits : Script → List Entry → Bool
keeps_waits script journal =
    is_in_turn (needs_of script.calls.items script.waits.items script.config.tasks) (replicate script.config.tasks fresh) journal

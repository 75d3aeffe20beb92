-- What calls of a race wait for, and how many each task has ended.
use Rattle.std.specs.Prelude.{◌≡◌, ◌-◌, ◌&&◌, ℕ, Bool, List, [], Option, None, Some, length, map, nat_le, if◌then◌else◌, slice_index_or, slice_set}
use Rattle.std.specs.Global.{Vec}
use Rattle.hp_text.specs.Needs.{needs_of}
use Rattle.hp_text.specs.declared.needs.Need.{Need}
use Rattle.hp_text.specs.declared.script.Script.{Script}
use Rattle.hp_race.specs.declared.waiting.Board.{Board}

-- these are what the calls of the script wait for
abbrev pub AreNeeds : Script → List (Vec (Vec Need)) → Type 0
AreNeeds script needs =
    map (λ calls. map (λ needs. needs.items) calls.items) needs ≡ needs_of script.calls.items script.waits.items script.config.tasks

-- where calls of the script wait there is a board, which knows for what
abbrev pub IsBoardOf : Script → Option Board → Type 0
IsBoardOf script None = script.waits.items ≡ []
IsBoardOf script (Some board) = AreNeeds script board.needs.items

-- what the task's call of that number waits for
abbrev pub needs_at : List (Vec (Vec Need)) → (task number : ℕ) → List Need
needs_at needs task number =
    slice_index_or (slice_index_or (map (λ calls. map (λ needs. needs.items) calls.items) needs) (task - 1) []) number []

-- how many calls each task has ended, where this one has ended so many; one that isn't there is left out
abbrev pub noted : (ended : List ℕ) → (task calls : ℕ) → List ℕ
noted ended task calls = if nat_le 1 task && nat_le task (length ended) then slice_set ended (task - 1) calls else ended

-- whether the task has ended so many calls; one that isn't there has ended all
abbrev pub is_met : (ended : List ℕ) → Need → Bool
is_met ended need = nat_le need.calls (slice_index_or ended need.place need.calls)

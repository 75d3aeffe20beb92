-- Calls, counts and waits as keys and objects of JSON.
use Rattle.std.specs.Prelude.{ℕ, ℤ, zero, suc, ◌==◌, Bool, true, false, List, [], ◌∷◌, ◌++◌, Option, None, Some, codes}
use Rattle.std.specs.Prelude.{if◌then◌else◌, slice_index_or}
use Rattle.std.specs.Fmt.{decimal, signed_decimal}
use Rattle.hp_machine.specs.State.{slot_of}
use Rattle.hp_machine.specs.Text.{phase_word}
use Rattle.hp_machine.specs.declared.phase.Phase.{Phase}
use Rattle.hp_core.specs.Acquiring.{acquired_of, owed_by_of}
use Rattle.hp_core.specs.Holding.{holding_of}
use Rattle.hp_core.specs.Readers.{config_of, free_of, resv_of, owed_of, phase_of, quota_of, used_of}
use Rattle.hp_core.specs.Runs.{geometry}
use Rattle.hp_core.specs.State.{CoreState}
use Rattle.hp_core.specs.declared.acquiring.Acquired.{Acquired}
use Rattle.hp_core.specs.declared.acquiring.Acquired.TheVariants as wanted
use Rattle.hp_core.specs.declared.holding.Holding.{Holding}

-- ---- calls

-- `"slot":3,"file":0,"index":3`
unfoldable pub slot_keys : CoreState → (file index : ℕ) → List ℕ
slot_keys core file index =
    codes "\"slot\":" ++ (decimal (slot_of (geometry (config_of core)) file index)
    ++ (codes ",\"file\":" ++ (decimal file ++ (codes ",\"index\":" ++ decimal index))))

-- `"lock":0`
abbrev pub lock_key : (file : ℕ) → List ℕ
lock_key file = codes "\"lock\":" ++ decimal file

-- what a call holds: a slot, a file's lock, both or neither
unfoldable pub held_keys : CoreState → (slot : Option (ℕ × ℕ)) → (lock : Option ℕ) → List ℕ
held_keys core None None = []
held_keys core None (Some file) = lock_key file
held_keys core (Some at) None = slot_keys core at.0 at.1
held_keys core (Some at) (Some file) = slot_keys core at.0 at.1 ++ (codes "," ++ lock_key file)

-- what its next step wants to take
unfoldable pub wanted_keys : CoreState → Acquired → List ℕ
wanted_keys core wanted.Nothing = []
wanted_keys core (wanted.Lock file) = lock_key file
wanted_keys core (wanted.Slot file index) = slot_keys core file index

-- `,"at":"want"`
unfoldable pub at_key : Phase → List ℕ
at_key phase = codes ",\"at\":\"" ++ (phase_word phase ++ codes "\"")

-- `,"holds":{"lock":0}`
unfoldable pub holds_key : CoreState → Holding → List ℕ
holds_key core held = codes ",\"holds\":{" ++ (held_keys core held.slot held.lock ++ codes "}")

-- `,"wants":{"slot":1,"file":0,"index":1}`
unfoldable pub wants_key : CoreState → Acquired → List ℕ
wants_key core wants = codes ",\"wants\":{" ++ (wanted_keys core wants ++ codes "}")

-- `,"owes":-1`
unfoldable pub owes_key : (owes : ℤ) → List ℕ
owes_key owes = codes ",\"owes\":" ++ signed_decimal owes

-- where a call stands: its phase, what it holds, what its next step wants, and what it owes
unfoldable pub call_keys : CoreState → (task : ℕ) → Phase → List ℕ
call_keys core task phase =
    at_key phase
    ++ (holds_key core (holding_of core task) ++ (wants_key core (acquired_of core task) ++ owes_key (owed_by_of core task)))

-- where a call of the task is in flight
abbrev pub call_keys_at : CoreState → (task : ℕ) → Option Phase → List ℕ
call_keys_at core task None = []
call_keys_at core task (Some phase) = call_keys core task phase

-- those of a task
abbrev pub call_keys_of : CoreState → (task : ℕ) → List ℕ
call_keys_of core task = call_keys_at core task (phase_of core task)

-- those of the task in that column
abbrev pub call_keys_in : CoreState → (column : ℕ) → List ℕ
call_keys_in core column = if column == 0 then [] else call_keys_of core column

-- ---- counts

-- `,"used":0`, where the pool has a quota
abbrev pub used_key : (quota : Option ℕ) → CoreState → List ℕ
used_key None core = []
used_key (Some quota) core = codes ",\"used\":" ++ decimal (used_of core)

-- `,"free":4,"resv":0,"owed":0`, and `,"used":0` where the pool has a quota
unfoldable pub count_keys : CoreState → List ℕ
count_keys core =
    codes ",\"free\":" ++ (decimal (free_of core)
    ++ (codes ",\"resv\":" ++ (decimal (resv_of core)
    ++ (codes ",\"owed\":" ++ (signed_decimal (owed_of core) ++ used_key (quota_of core) core)))))

-- ---- waits

-- what a task waits for
unfoldable pub awaited_keys : CoreState → Acquired → List ℕ
awaited_keys core wanted.Nothing = []
awaited_keys core (wanted.Lock file) = codes "," ++ lock_key file
awaited_keys core (wanted.Slot file index) = codes "," ++ slot_keys core file index

-- `{"task":2,"for":1,"slot":3,"file":0,"index":3}`
unfoldable pub wait_object : CoreState → (task holder : ℕ) → List ℕ
wait_object core task holder =
    codes "{\"task\":" ++ (decimal task
    ++ (codes ",\"for\":" ++ (decimal holder ++ (awaited_keys core (acquired_of core task) ++ codes "}"))))

-- `{"task":2,"for":null}`
unfoldable pub end_of_wait_object : (task : ℕ) → List ℕ
end_of_wait_object task = codes "{\"task\":" ++ (decimal task ++ codes ",\"for\":null}")

-- what a task that waited for another holder, or for nobody, does now
abbrev pub change_object : CoreState → (task : ℕ) → (holder : Option ℕ) → List ℕ
change_object core task None = end_of_wait_object task
change_object core task (Some holder) = wait_object core task holder

-- whether a task waits for the same as before
abbrev pub is_same : (before after : Option ℕ) → Bool
is_same None None = true
is_same None (Some holder) = false
is_same (Some earlier) None = false
is_same (Some earlier) (Some holder) = earlier == holder

-- a text with a comma behind it, where there is one
unfoldable pub comma_behind : List ℕ → List ℕ
comma_behind [] = []
comma_behind (c ∷ text) = (c ∷ text) ++ codes ","

-- behind these waits that of a task, where it began, changed or ended
abbrev pub with_wait : (waits : List ℕ) → CoreState → (task : ℕ) → (before after : Option ℕ) → List ℕ
with_wait waits core task before after =
    if is_same before after then waits else comma_behind waits ++ change_object core task after

-- the waits of the first n tasks that did, with a comma between two
unfoldable pub waits_objects : CoreState → (before after : List (Option ℕ)) → (n : ℕ) → List ℕ
waits_objects core before after zero = []
waits_objects core before after (suc n) =
    with_wait (waits_objects core before after n) core (suc n) (slice_index_or before n None) (slice_index_or after n None)

-- `,"waits":[..]`, where there is one
unfoldable pub waits_key : (waits : List ℕ) → List ℕ
waits_key [] = []
waits_key (c ∷ waits) = codes ",\"waits\":[" ++ ((c ∷ waits) ++ codes "]")

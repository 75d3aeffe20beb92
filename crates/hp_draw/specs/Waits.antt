-- Whom tasks wait for, from event to event.
use Rattle.std.specs.Prelude.{◌≡◌, ℕ, zero, suc, ◌<◌, ◌≤◌, ◌==◌, ◌⊎◌, Bool, false, List, [], ◌∷◌, ◌++◌, Option, None, Some}
use Rattle.std.specs.Prelude.{get_or, if◌then◌else◌}
use Rattle.hp_core.specs.Acquiring.{acquired_of}
use Rattle.hp_core.specs.State.{CoreState}
use Rattle.hp_core.specs.declared.acquiring.Acquired.{Acquired}
use Rattle.hp_draw.specs.Lists.{listed}
use Rattle.hp_draw.specs.declared.waits.Wait.{Wait}
use Rattle.hp_draw.specs.declared.waits.Waiting.{Waiting}

-- whether a task waits for that holder
abbrev pub is_for : Option Waiting → (holder : ℕ) → Bool
is_for (Some w) holder = w.holder == holder
is_for None holder = false

-- for whom a task waits that would be blocked by that holder, if by any; it goes on to wait for the same one
abbrev pub waiting_after : Option Waiting → (at : ℕ) → (holder : Option ℕ) → Acquired → Option Waiting
waiting_after before at None wanted = None
waiting_after before at (Some holder) wanted =
    if is_for before holder then before else Some (record { since = at; holder = holder; wanted = wanted })

-- the wait of a task that waited so, if it goes on to wait for nobody, or for another
abbrev pub wait_of : (column at : ℕ) → Waiting → (after : Option Waiting) → Option Wait
wait_of column at w after = if is_for after w.holder then None else Some (record { column = column; waiting = w; until = at })

-- the wait that ends at that moment, if one does
abbrev pub wait_left : (column at : ℕ) → (before after : Option Waiting) → Option Wait
wait_left column at None after = None
wait_left column at (Some w) after = wait_of column at w after

-- for whom each of the first n tasks waits, once the event of that moment has led to the core. Before it they waited so
unfoldable pub waiting_tasks : CoreState → (at : ℕ) → (holders : List (Option ℕ)) → (before : List (Option Waiting)) → (n : ℕ)
    → List (Option Waiting)
waiting_tasks core at holders before zero = []
waiting_tasks core at holders before (suc n) =
    waiting_tasks core at holders before n
    ++ (waiting_after (get_or before n None) at (get_or holders n None) (acquired_of core (suc n)) ∷ [])

-- the waits that end at that moment, of the first n tasks
unfoldable pub waits_left : (at : ℕ) → (before now : List (Option Waiting)) → (n : ℕ) → List Wait
waits_left at before now zero = []
waits_left at before now (suc n) = waits_left at before now n ++ listed (wait_left (suc n) at (get_or before n None) (get_or now n None))

-- it goes on at that moment
abbrev pub GoesOn : Wait → (at : ℕ) → Type 0
GoesOn w at = (w.waiting.since ≤ at) × (at < w.until)

-- some wait of that column goes on at that moment
abbrev pub IsShown : (column at : ℕ) → List Wait → Type 0
IsShown column at [] = ⊥
IsShown column at (w ∷ more) = ((w.column ≡ column) × GoesOn w at) ⊎ IsShown column at more

-- Machines whose changes of a reserve map lack a descriptor, or are left behind: each differs from the right one in one row.
use Rattle.std.specs.Prelude.{◌≡◌, ℕ, ◌+◌, ◌==◌, ◌&&◌, Bool, not, MatchBool, max, None, List, [], ◌∷◌}
use Rattle.hp_base.specs.Numbers.{put}
use Rattle.hp_base.specs.Indices.{missing}
use Rattle.hp_base.specs.declared.answer.Answer.TheVariants as answer
use Rattle.hp_base.specs.declared.event.Op.TheVariants as op
use Rattle.hp_base.specs.declared.event.Event.{Event}
use Rattle.hp_base.specs.declared.event.Event.TheVariants.{Kill}
use Rattle.hp_region.specs.Change.{Change}
use Rattle.hp_machine.specs.State.{Geometry, Pool}
use Rattle.hp_machine.specs.Parts.{Goes}
use Rattle.hp_machine.specs.Events.{CallRow, CallRows, TurnRow}
use Rattle.hp_machine.specs.MapRows.{MapChangedRow}
use Rattle.hp_machine.specs.PunchRows.{PunchDeleteRow}
use Rattle.hp_machine.specs.declared.touch.Missing.{Missing}
use Rattle.hp_machine.specs.declared.touch.TouchPhase.{TouchPhase}
use Rattle.hp_machine.specs.declared.touch.TouchPhase.TheVariants as touch
use Rattle.hp_machine.specs.declared.map.Changed.{Changed}
use Rattle.hp_machine.specs.declared.map.MapPhase.{MapPhase}
use Rattle.hp_machine.specs.declared.map.MapPhase.TheVariants as map
use Rattle.hp_machine.specs.declared.punch.Delete.{Delete}
use Rattle.hp_machine.specs.declared.punch.PunchPhase.{PunchPhase}
use Rattle.hp_machine.specs.declared.punch.PunchPhase.TheVariants as punch
use Rattle.hp_machine.specs.declared.call.Call.TheVariants as call
use Rattle.hp_machine.specs.declared.call.Turn.{Turn}
use Rattle.hp_counterexamples.specs.Runs.{steps, calls}

-- as `small`, with two slots, so that a touch and a punch of one file don't wait for each other
abbrev pub two_slots : (tasks limit : ℕ) → Geometry
two_slots tasks limit = record { files = 1; slots = 2; tasks = tasks; limit = limit; space = 4; quota = None }

-- ---- a punch that splits a region takes any spare descriptor, as if no change were pending
-- (right: PunchDeleteRow takes one only where more are spare than changes are pending)
abbrev pub AnySpareRow : Pool → (grant : Bool) → Delete → Turn PunchPhase → Pool → Type 0
AnySpareRow s grant p turn new =
    (right : Pool) × PunchDeleteRow (record s { pending = put s.pending p.hole.file 0 }) grant p turn right
    × (new ≡ record right { pending = s.pending })

unfoldable pub TakesAnySpare : CallRows
TakesAnySpare s t killed grant (call.Punch (punch.Delete p)) = TurnRow call.Punch (AnySpareRow s grant p)
TakesAnySpare s t killed grant other = CallRow s t killed grant other

-- a touch has a change open elsewhere in the file, and then a punch splits a region
abbrev pub split_run : List Event
split_run =
    calls 1 (op.Map 0 0 3) 7 (calls 1 (op.Load 1) 9 (calls 2 (op.MapNoReserve 0 4 1) 4 (calls 2 (op.Load 0) 4
    (calls 1 (op.Punch 0 1 1) 7 []))))

-- ---- a change that finds a spare descriptor counts on it, though another pending change does
-- (right: ChangeRow has as many spare as are pending, with this one)
abbrev pub SharedSpareRow : Pool → (grant : Bool) → Missing → Turn TouchPhase → Pool → Type 0
SharedSpareRow s grant p turn new =
    let f = p.touch.file in
    let i = p.touch.index in
    let change : Change = record { from = i; to = i + 1; missing = missing (s.reserved f) i (i + 1) } in
    MatchBool ((s.spare f == 0) && not grant)
    (Goes (touch.Leave (record { touch = p.touch; answer = answer.NoMemory })) s turn new)
    (Goes (touch.Changed (record { touch = p.touch; pending = change }))
    (record s { pending = put s.pending f (s.pending f + 1); spare = put s.spare f (max (s.spare f) 1) }) turn new)

unfoldable pub SharesSpare : CallRows
SharesSpare s t killed grant (call.Touch (touch.Missing p)) = TurnRow call.Touch (SharedSpareRow s grant p)
SharesSpare s t killed grant other = CallRow s t killed grant other

-- a touch and a map have changes open in one file, and the map commits first
abbrev pub shared_spare_run : List Event
shared_spare_run = calls 1 (op.MapNoReserve 0 0 1) 4 (calls 2 (op.Map 0 2 1) 3 (calls 1 (op.Load 0) 5 (steps 2 2 [])))

-- ---- a map that notices a kill leaves its change open
-- (right: MapChangedRow goes to abort)
abbrev pub DroppingRow : Pool → (killed : Bool) → Changed → Turn MapPhase → Pool → Type 0
DroppingRow s killed p turn new =
    MatchBool killed
    (Goes (map.Leave (record { map = p.map; answer = answer.Killed })) s turn new)
    (MapChangedRow s killed p turn new)

unfoldable pub DropsChange : CallRows
DropsChange s t killed grant (call.Map (map.Changed p)) = TurnRow call.Map (DroppingRow s killed p)
DropsChange s t killed grant other = CallRow s t killed grant other

-- a map is killed where its change is open
abbrev pub drop_run : List Event
drop_run = calls 1 (op.Map 0 0 1) 3 (Kill 1 ∷ steps 1 2 [])

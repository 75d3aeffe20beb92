-- Which indices a Map has promised to those who touch them.
use Rattle.std.specs.Prelude.{◌≡◌, ◌≢◌, ◌⊎◌, ℕ, ◌+◌, Bool, true, false, ◌==◌, ◌&&◌, nat_le, Option, Some, List, [], ◌∷◌, ◌++◌}
use Rattle.hp_base.specs.Indices.{is_within}
use Rattle.hp_base.specs.declared.answer.Answer.{Answer}
use Rattle.hp_base.specs.declared.answer.Answer.TheVariants as answer
use Rattle.hp_base.specs.declared.event.Event.TheVariants.{Step, Kill}
use Rattle.hp_machine.specs.declared.map.MapRequest.{MapRequest}
use Rattle.hp_machine.specs.declared.map.MapPhase.TheVariants as map
use Rattle.hp_machine.specs.declared.punch.Hole.{Hole}
use Rattle.hp_machine.specs.declared.punch.PunchPhase.TheVariants as punch
use Rattle.hp_machine.specs.declared.truncate.Truncation.{Truncation}
use Rattle.hp_machine.specs.declared.truncate.TruncatePhase.TheVariants as truncate
use Rattle.hp_machine.specs.declared.outcome.Outcome.TheVariants as outcome
use Rattle.hp_machine.specs.declared.call.Call.{Call}
use Rattle.hp_machine.specs.declared.call.Call.TheVariants as call
use Rattle.hp_machine.specs.declared.phase.Phase.{Phase}
use Rattle.hp_laws.specs.Histories.{Moment}

abbrev pub in_map : MapRequest → (file index : ℕ) → Bool
in_map m f i = (m.file == f) && is_within m.from (m.from + m.len) i

abbrev pub in_hole : Hole → (file index : ℕ) → Bool
in_hole h f i = (h.file == f) && is_within h.from (h.from + h.len) i

abbrev pub is_cut : Truncation → (file index : ℕ) → Bool
is_cut t f i = (t.file == f) && nat_le t.new i

-- a map that reserves promises its range where it leaves
abbrev pub can_promise : Option Call → (file index : ℕ) → Bool
can_promise (Some (call.Map (map.Leave p))) f i = p.map.reserve && in_map p.map f i
can_promise other f i = false

-- a punch takes back its range where it starts, a truncation all from the new size on
abbrev pub can_take_back : Option Call → (file index : ℕ) → Bool
can_take_back (Some (call.Punch (punch.Start p))) f i = in_hole p.hole f i
can_take_back (Some (call.Truncate (truncate.Start p))) f i = is_cut p.truncation f i
can_take_back other f i = false

-- a map that reserves and whose range has the index ends with Mapped
abbrev pub Promises : (file index : ℕ) → Moment → Type 0
Promises f i m = (t : ℕ) × (grant : Bool) × (base : ℕ) × (m.event ≡ Step t grant) × (m.outcome ≡ outcome.Ended (answer.Mapped base))
    × (can_promise (m.before.calls t) f i ≡ true)

-- a punch or a truncation that covers the index moves on from its start: it has taken the file lock
abbrev pub TakesBack : (file index : ℕ) → Moment → Type 0
TakesBack f i m = (t : ℕ) × (grant : Bool) × (phase : Phase) × (m.event ≡ Step t grant) × (m.outcome ≡ outcome.Moved phase)
    × (can_take_back (m.before.calls t) f i ≡ true)

-- the latest moment that promised the index or took it back promised it
abbrev pub IsPromised : (file index : ℕ) → List Moment → Type 0
IsPromised f i [] = ⊥
IsPromised f i (m ∷ ms) = Promises f i m ⊎ ((TakesBack f i m → ⊥) × IsPromised f i ms)

-- before each of the later moments and after them the index is promised; none of them is a denied step of the task, or
-- its kill
abbrev pub IsUndisturbed : (task file index : ℕ) → (later past : List Moment) → Type 0
IsUndisturbed t f i [] past = IsPromised f i past
IsUndisturbed t f i (m ∷ later) past = IsPromised f i (m ∷ (later ++ past)) × (m.event ≢ Step t false) × (m.event ≢ Kill t)
    × IsUndisturbed t f i later past

-- the answer isn't that there is no frame, nor that the quota is used up
abbrev pub TellsNoLack : Answer → Type 0
TellsNoLack a = (a ≢ answer.NoFrame) × (a ≢ answer.NoQuota)

-- a touch did what was asked
abbrev pub IsServed : Answer → Type 0
IsServed a = ((word : ℕ) × (a ≡ answer.Word word)) ⊎ (a ≡ answer.Done)

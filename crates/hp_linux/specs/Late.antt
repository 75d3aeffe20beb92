-- Runs in which a frame becomes free late: its call has left it, and it becomes free at some later moment, as a happening of its own.
use Rattle.std.specs.Prelude.{◌≡◌, ◌≤◌, ◌<◌, ℕ, Some, List, [], ◌∷◌}
use Rattle.hp_base.specs.Numbers.{put}
use Rattle.hp_base.specs.declared.event.Event.{Event}
use Rattle.hp_frames.specs.declared.frame.FrameState.TheVariants.{Free, Hand}
use Rattle.hp_machine.specs.State.{pool_of, with_pool}
use Rattle.hp_machine.specs.Events.{EventRows}
use Rattle.hp_machine.specs.Views.{hand}
use Rattle.hp_machine.specs.declared.outcome.Outcome.{Outcome}
use Rattle.hp_linux.specs.Whole.{Linux, WholeRow}

-- what happens in a run: an event and what is told of it, or a frame that was left to become free does so
pub data Happening : Type 0 where
  Does : (event : Event) → (told : Outcome) → Happening
  LetsGo : (frame : ℕ) → Happening

-- the events among what happens
abbrev pub events_in : List Happening → List Event
events_in [] = []
events_in (Does e told ∷ hs) = e ∷ events_in hs
events_in (LetsGo x ∷ hs) = events_in hs

-- the frames that become free late
abbrev pub frames_in : List Happening → List ℕ
frames_in [] = []
frames_in (Does e told ∷ hs) = frames_in hs
frames_in (LetsGo x ∷ hs) = x ∷ frames_in hs

-- the frame is in no hand of a call, and isn't free
abbrev pub IsLeft : Linux → (frame : ℕ) → Type 0
IsLeft l x =
    (x < l.state.frames) × (l.state.frame x ≡ Hand) × ((t : ℕ) → t ≤ l.state.geometry.tasks → hand (l.state.calls t) ≡ Some x → ⊥)

-- then it becomes free, and nothing else changes
abbrev pub let_go : Linux → (frame : ℕ) → Linux
let_go l x = record l { state = with_pool l.state (record (pool_of l.state) { frame = put l.state.frame x Free }) }

-- by these rows what happens leads from one state to the other
abbrev pub LateRun : EventRows → Linux → List Happening → Linux → Type 0
LateRun rows l [] new = new ≡ l
LateRun rows l (Does e told ∷ hs) new = (mid : Linux) × WholeRow rows l e told mid × LateRun rows mid hs new
LateRun rows l (LetsGo x ∷ hs) new = IsLeft l x × LateRun rows (let_go l x) hs new

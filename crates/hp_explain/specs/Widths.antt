-- How wide the columns of a text are.
use Rattle.std.specs.Prelude.{◌≡◌, ℕ, ◌+◌, ◌≤◌, ◌<◌, Bool, IsTrue, List, Some, length, slice_get, slice_index_or}
use Rattle.hp_base.specs.Text.{event_text}
use Rattle.hp_base.specs.declared.event.Event.{Event}
use Rattle.hp_explain.specs.Views.{column_in, is_shown}
use Rattle.hp_explain.specs.declared.view.View.{View}

-- the column of the event is wider than its text: it is shown, with what stands over it, and the event has room in it
abbrev pub HasRoom : (compact : Bool) → (tasks : ℕ) → (widths : List ℕ) → Event → Type 0
HasRoom compact tasks widths event = length (event_text event) < slice_index_or widths (column_in compact tasks event) 0

-- each of these events that has a row has room; the first is line 2
abbrev pub HaveRoom : View → (tasks : ℕ) → (widths : List ℕ) → List Event → Type 0
HaveRoom v tasks widths events =
    (k : ℕ) (event : Event) → slice_get events k ≡ Some event → IsTrue (is_shown v (k + 2) event) → HasRoom v.compact tasks widths event

-- there are as many columns as before, and none is narrower
pub record NoneNarrower (old new : List ℕ) : Type 0 where
  pub count : length new ≡ length old
  pub each : (column : ℕ) → slice_index_or old column 0 ≤ slice_index_or new column 0

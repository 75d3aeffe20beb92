-- What a table of all endings says.
use Rattle.std.specs.Cmp.Lexicographic.{pointwise}
use Rattle.std.specs.List.{IsDistinct}
use Rattle.std.specs.Prelude.{◌≡◌, ◌+◌, ◌<◌, ◌≤◌, ◌⊎◌, ◌*◌, ℕ, List, Option, All, Contains, length, min, nat_eq, slice_index_or}
use Rattle.hp_base.specs.declared.event.Event.{Event}
use Rattle.hp_watch.specs.Moments.{Moment, events_of}
use Rattle.hp_layers.specs.Layers as layers
use Rattle.hp_layers.specs.Layers.{IsOver, bytes_in}
use Rattle.hp_layers.specs.Named.{AreApart}
use Rattle.hp_layers.specs.Weighed.{IsAsMany}
use Rattle.hp_every.specs.declared.turn.Turn.{Turn}
use Rattle.hp_every.specs.Endings.{EndState, Ended, EndsSo, HasEnding, IsEndState, ended_at}
use Rattle.hp_every.specs.Search.{HasTurns, Question}
use Rattle.hp_layers.specs.declared.counting.RunCounts.{RunCounts}
use Rattle.hp_layers.specs.declared.limits.Limits.{Limits}
use Rattle.hp_search.specs.Searching.{AreLong, path_bytes}
use Rattle.hp_search.specs.declared.endings.EndingRow.{EndingRow}
use Rattle.hp_search.specs.declared.endings.EndingRows.{EndingRows}
use Rattle.hp_search.specs.declared.endings.EndingRows.TheVariants.{Whole, Cut}

-- the ending that a row tells
abbrev pub ended_of : EndingRow → Ended
ended_of row = record { answers = row.ended.items; free = row.free; resv = row.resv; used = row.used }

-- the row is that of a schedule of these turns, and of so many
pub record IsRowAt (a : Question) (turns : List Turn) (schedules : ℕ) (row : EndingRow) : Type 0 where
  pub has : HasTurns a turns
  pub made : events_of has.moments ≡ row.events.items
  pub ended : ended_of row ≡ ended_at has.moments has.last.core
  pub count : row.schedules ≡ schedules

-- each of the states is that of a schedule, and has its number
pub record AreStates (a : Question) (counts : RunCounts EndState) : Type 0 where
  pub each : All (IsEndState a) counts.states.items
  pub long : length counts.ways.items ≡ length counts.states.items

-- each row is that of the state at its place
pub record AreRowsOf (a : Question) (counts : RunCounts EndState) (rows : List EndingRow) : Type 0 where
  pub long : length rows ≡ length counts.states.items
  pub each : (k : ℕ) (s : EndState) (d : EndingRow) → k < length rows
      → IsRowAt a (slice_index_or counts.states.items k s).path.turns (slice_index_or counts.ways.items k 0) (slice_index_or rows k d)

-- the number is that of the lists of turns of which it holds: these are all of them, and no two are the same
pub record IsNumberOf (P : List Turn → Type 0) (n : ℕ) : Type 0 where
  pub all : List (List Turn)
  pub apart : AreApart all
  pub each : (turns : List Turn) → Contains all turns → P turns
  pub none_else : (turns : List Turn) → P turns → Contains all turns
  pub many : IsAsMany n (length all)

-- the events are those of a schedule that ends so, and each that does has as many at least
pub record IsShortestSo (a : Question) (e : Ended) (events : List Event) : Type 0 where
  pub moments : List Moment
  pub made : events_of moments ≡ events
  pub ends : EndsSo a moments e
  pub shortest : (others : List Moment) → EndsSo a others e → length moments ≤ length others

-- a row has an ending, the events of a shortest schedule that ends so, and the number of all that do
pub record IsRow (a : Question) (row : EndingRow) : Type 0 where
  pub shortest : IsShortestSo a (ended_of row) row.events.items
  pub number : IsNumberOf (HasEnding a (ended_of row)) row.schedules

-- Each schedule to its end has its ending in one of the rows, and no two of them have the same.
pub record AreAllRows (a : Question) (rows : List EndingRow) : Type 0 where
  pub each : (k : ℕ) (d : EndingRow) → k < length rows → IsRow a (slice_index_or rows k d)
  pub all : (moments : List Moment) (e : Ended) → EndsSo a moments e
      → (k : ℕ) × (k < length rows) × ((d : EndingRow) → ended_of (slice_index_or rows k d) ≡ e)
  pub one : (j k : ℕ) (d : EndingRow) → j < length rows → k < length rows
      → ended_of (slice_index_or rows j d) ≡ ended_of (slice_index_or rows k d) → j ≡ k

-- the key is that of a schedule of so many turns: of its place, and of its answers
pub record IsEndKeyOf (a : Question) (turns : ℕ) (key : List ℕ) : Type 0 where
  pub state : EndState
  pub right : IsEndState a state
  pub long : length state.path.turns ≡ turns
  pub is : key ≡ state.key

-- no two of these keys are equal, and each is one of so many turns
pub record AreEndKeysOf (a : Question) (turns : ℕ) (keys : List (List ℕ)) : Type 0 where
  pub distinct : IsDistinct (pointwise nat_eq) keys
  pub each : (key : List ℕ) → Contains keys key → IsEndKeyOf a turns key

-- schedules of so many turns, and of one turn fewer, have more such keys than the limit
pub record AreTooMany (a : Question) (limit turns : ℕ) : Type 0 where
  pub before : ℕ
  pub next : turns ≡ before + 1
  pub some : List (List ℕ)
  pub others : List (List ℕ)
  pub here : AreEndKeysOf a before some
  pub behind : AreEndKeysOf a turns others
  pub many : limit < length some + length others

-- how many bytes a table keeps of a schedule
abbrev pub end_bytes : EndState → ℕ
end_bytes s = min (path_bytes s.path + 2 * length s.key + 200) 18446744073709551615

-- these are schedules of so many turns, and no two of them have equal keys
pub record AreEndsApart (a : Question) (turns : ℕ) (ends : List EndState) : Type 0 where
  pub keys : List (List ℕ)
  pub apart : layers.AreKeysOf (pointwise nat_eq) (λ (s : EndState). s.key) keys ends
  pub each : (s : EndState) → Contains ends s → IsEndState a s × (length s.path.turns ≡ turns)

-- schedules of so many turns, and of one turn fewer, take more bytes than the limit, if there is one
pub record AreTooHeavy (a : Question) (limit : Option ℕ) (turns : ℕ) : Type 0 where
  pub before : ℕ
  pub next : turns ≡ before + 1
  pub some : List EndState
  pub others : List EndState
  pub here : AreEndsApart a before some
  pub behind : AreEndsApart a turns others
  pub many : IsOver (bytes_in end_bytes some + bytes_in end_bytes others) limit

-- Each row has fewer events than the limit of turns. A table is cut at that limit, up to which schedules go on, where there are too many
-- places and answers, or where they take too many bytes.
unfoldable pub AreWithin : Question → Limits → EndingRows → Type 0
AreWithin a limits (Whole rows) = All (λ row. length row.events.items < limits.turns) rows.items
AreWithin a limits (Cut turns) = ((turns ≡ limits.turns) × AreLong a turns) ⊎ AreTooMany a limits.states turns
    ⊎ AreTooHeavy a limits.bytes turns

-- a table has all endings; or the limits ran out
unfoldable pub AreAllEndings : Question → EndingRows → Type 0
AreAllEndings a (Whole rows) = AreAllRows a rows.items
AreAllEndings a (Cut turns) = Unit {0}

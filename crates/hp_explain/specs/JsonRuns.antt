-- What is read and written where a trace is explained in objects of JSON.
use Rattle.std.specs.Prelude.{◌≡◌, ℕ, List, [], ◌∷◌, ◌++◌, Option, ◌⊎◌}
use Rattle.std.specs.Io.KnownBytes.{Appends, Keeps}
use Rattle.hp_base.specs.Text.{Sizes, sizes}
use Rattle.hp_base.specs.declared.config.Config.{Config}
use Rattle.hp_base.specs.declared.event.Event.{Event}
use Rattle.hp_core.specs.Runs.{IsOpening}
use Rattle.hp_core.specs.State.{CoreState}
use Rattle.hp_text.specs.Collecting.{ReadsTrace, NotRead}
use Rattle.hp_text.specs.Writing.{Wrote, IsWriteFault}
use Rattle.hp_text.specs.declared.fault.ReplayFault.{ReplayFault}
use Rattle.hp_watch.specs.Happenings.{Happening, Happens, events_of}
use Rattle.hp_explain.specs.JsonObjects.{pool_object, objects_text, end_object}
use Rattle.hp_explain.specs.Views.{events_until}
use Rattle.hp_watch.specs.Holders.{AreHolders}
use Rattle.hp_explain.specs.declared.view.View.{View}

-- A reader had the bytes `from` left, and now has `to`; a writer held `before`, and now holds `after`.

-- A run of a front of these events, which `rest` is left of, from the opening state of a pool of these sizes; and the text of the pool's
-- object and those of its events. The events are lines 2 and on of the trace
pub record ObjectsBegun (v : View) (s : Sizes) (events rest : List Event) (new : CoreState) (text : List ℕ) : Type 0 where
  pub config : Config
  pub sizes_are : sizes config ≡ s
  pub first : CoreState
  pub opening : IsOpening config first
  pub waited : List (Option ℕ)
  pub are_holders : AreHolders first waited
  pub happenings : List Happening
  pub are_events : events_of happenings ++ rest ≡ events
  pub happens : Happens first happenings new
  pub is : text ≡ pool_object s ++ objects_text v 2 waited happenings

-- the text of a run of all events, with the object of the state to which it led
pub record Objects (v : View) (s : Sizes) (events : List Event) (text : List ℕ) : Type 0 where
  pub new : CoreState
  pub front : List ℕ
  pub begun : ObjectsBegun v s events [] new front
  pub is : text ≡ front ++ end_object new

-- the objects of a front of the events, without an end
pub record SomeObjects (v : View) (s : Sizes) (events : List Event) (text : List ℕ) : Type 0 where
  pub rest : List Event
  pub new : CoreState
  pub begun : ObjectsBegun v s events rest new text

-- the objects were written
pub record WroteObjects (v : View) (s : Sizes) (events : List Event) (before after : Option (List ℕ)) : Type 0 where
  pub text : List ℕ
  pub are : Objects v s events text
  pub wrote : Appends before after text

-- nothing was written, or a front of such a text
pub data WroteSomeObjects (v : View) (s : Sizes) (events : List Event) (before after : Option (List ℕ)) : Type 0 where
  no_objects : Keeps before after → WroteSomeObjects v s events before after
  some_objects : (text : List ℕ) → SomeObjects v s events text → Wrote before after text → WroteSomeObjects v s events before after
  all_objects : (text : List ℕ) → Objects v s events text → Wrote before after text → WroteSomeObjects v s events before after

-- the reader's bytes were the text of a trace, of which the objects were written
pub record ExplainedJson (v : View) (from to before after : Option (List ℕ)) : Type 0 where
  pub sizes : Sizes
  pub events : List Event
  pub reads : ReadsTrace from to sizes events
  pub wrote : WroteObjects v sizes (events_until v events) before after

-- they were, and a part was written
pub record ExplainedSomeJson (v : View) (from to before after : Option (List ℕ)) : Type 0 where
  pub sizes : Sizes
  pub events : List Event
  pub reads : ReadsTrace from to sizes events
  pub wrote : WroteSomeObjects v sizes (events_until v events) before after

-- nothing is written before the whole trace is read
abbrev pub NotExplainedJson : View → ReplayFault → Option (List ℕ) → Option (List ℕ) → Option (List ℕ) → Option (List ℕ) → Type 0
NotExplainedJson v fault from to before after =
    (NotRead fault from to × Keeps before after) ⊎ (IsWriteFault fault × ExplainedSomeJson v from to before after)

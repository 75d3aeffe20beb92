-- What is read and written where a trace is explained.
use Rattle.std.specs.Prelude.{◌≡◌, ℕ, List, [], ◌∷◌, ◌++◌, length, map, Option, ◌⊎◌}
use Rattle.std.specs.Io.KnownBytes.{Appends, Keeps}
use Rattle.hp_base.specs.Text.{Sizes, sizes}
use Rattle.hp_base.specs.declared.config.Config.{Config}
use Rattle.hp_base.specs.declared.event.Event.{Event}
use Rattle.hp_core.specs.Runs.{Row, IsOpening}
use Rattle.hp_core.specs.State.{CoreState}
use Rattle.hp_text.specs.Collecting.{ReadsTrace, NotRead}
use Rattle.hp_text.specs.Writing.{Wrote, IsWriteFault}
use Rattle.hp_text.specs.declared.fault.ReplayFault.{ReplayFault}
use Rattle.hp_watch.specs.Happenings.{Happening, Happens, events_of}
use Rattle.hp_explain.specs.Rows.{head_text, rows_text, end_text}
use Rattle.hp_explain.specs.Views.{column_count, events_until}
use Rattle.hp_watch.specs.Holders.{AreHolders}
use Rattle.hp_explain.specs.Widths.{HaveRoom}
use Rattle.hp_explain.specs.declared.view.View.{View}

-- A reader had the bytes `from` left, and now has `to`; a writer held `before`, and now holds `after`.

-- A run of these events from the opening state of a pool of these sizes, and the widths of its columns: one for all, or one for each
-- task of the pool and one for what is of none; each with room for the events that have rows. Its events are lines 2 and on of the trace
pub record Explanation (v : View) (s : Sizes) (events : List Event) (text : List ℕ) : Type 0 where
  pub config : Config
  pub sizes_are : sizes config ≡ s
  pub first : CoreState
  pub opening : IsOpening config first
  pub waited : List (Option ℕ)
  pub are_holders : AreHolders first waited
  pub widths : List ℕ
  pub width_each : length widths ≡ column_count v.compact s.tasks
  pub rooms : HaveRoom v s.tasks widths events
  pub happenings : List Happening
  pub are_events : events_of happenings ≡ events
  pub new : CoreState
  pub happens : Happens first happenings new
  pub is : text ≡ head_text v.compact s.quota widths ++ (rows_text v widths 2 waited happenings ++ end_text new)

-- the trace was explained
pub record WroteExplanation (v : View) (s : Sizes) (events : List Event) (before after : Option (List ℕ)) : Type 0 where
  pub text : List ℕ
  pub explains : Explanation v s events text
  pub wrote : Appends before after text

-- the rows of a front of it, without an end
pub record Beginning (v : View) (s : Sizes) (events : List Event) (text : List ℕ) : Type 0 where
  pub config : Config
  pub sizes_are : sizes config ≡ s
  pub first : CoreState
  pub opening : IsOpening config first
  pub waited : List (Option ℕ)
  pub are_holders : AreHolders first waited
  pub widths : List ℕ
  pub width_each : length widths ≡ column_count v.compact s.tasks
  pub rooms : HaveRoom v s.tasks widths events
  pub happenings : List Happening
  pub rest : List Event
  pub are_events : events_of happenings ++ rest ≡ events
  pub new : CoreState
  pub happens : Happens first happenings new
  pub is : text ≡ head_text v.compact s.quota widths ++ rows_text v widths 2 waited happenings

-- nothing was written, or a front of such a text
pub data PartlyExplained (v : View) (s : Sizes) (events : List Event) (before after : Option (List ℕ)) : Type 0 where
  nothing : Keeps before after → PartlyExplained v s events before after
  some_rows : (text : List ℕ) → Beginning v s events text → Wrote before after text → PartlyExplained v s events before after
  to_the_end : (text : List ℕ) → Explanation v s events text → Wrote before after text → PartlyExplained v s events before after

-- the reader's bytes were the text of a trace, which was explained
pub record Explained (v : View) (from to before after : Option (List ℕ)) : Type 0 where
  pub sizes : Sizes
  pub events : List Event
  pub reads : ReadsTrace from to sizes events
  pub wrote : WroteExplanation v sizes (events_until v events) before after

-- they were, and it was explained in part
pub record ExplainedPartly (v : View) (from to before after : Option (List ℕ)) : Type 0 where
  pub sizes : Sizes
  pub events : List Event
  pub reads : ReadsTrace from to sizes events
  pub wrote : PartlyExplained v sizes (events_until v events) before after

-- nothing is written before the whole trace is read
abbrev pub NotExplained : View → ReplayFault → Option (List ℕ) → Option (List ℕ) → Option (List ℕ) → Option (List ℕ) → Type 0
NotExplained v fault from to before after =
    (NotRead fault from to × Keeps before after) ⊎ (IsWriteFault fault × ExplainedPartly v from to before after)

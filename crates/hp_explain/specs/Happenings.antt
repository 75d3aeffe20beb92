-- The texts that tell of events, one after the other.
use Rattle.std.specs.Prelude.{◌≡◌, ℕ, suc, List, [], ◌∷◌, ◌++◌, Option}
use Rattle.std.specs.Io.KnownBytes.{Appends}
use Rattle.hp_base.specs.declared.event.Event.{Event}
use Rattle.hp_core.specs.State.{CoreState}
use Rattle.hp_text.specs.Writing.{Wrote}
use Rattle.hp_watch.specs.Happenings.{Happening, Happened, Happens, events_of}

-- A writer held `before`, and now holds `after`.

-- the text that tells of an event: of its line in the trace, of whom each task waited for before it, and of what happened
abbrev pub Telling : Type 0
Telling = (line : ℕ) → (waited : List (Option ℕ)) → Happening → List ℕ

-- the texts of these lines, which begin with that one
unfoldable pub texts_of : Telling → (line : ℕ) → (waited : List (Option ℕ)) → List Happening → List ℕ
texts_of tell line waited [] = []
texts_of tell line waited (h ∷ more) = tell line waited h ++ texts_of tell (suc line) h.holders more

-- The event happened, and its text was written. Before it tasks waited for these holders, and behind it for those.
pub record EventTold (tell : Telling) (line : ℕ) (event : Event) (old new : CoreState) (waited waits : List (Option ℕ))
    (before after : Option (List ℕ)) : Type 0 where
  pub happening : Happening
  pub is_event : happening.event ≡ event
  pub is_core : happening.core ≡ new
  pub are_holders : happening.holders ≡ waits
  pub happened : Happened old happening
  pub wrote : Appends before after (tell line waited happening)

-- the event happened, and a front of its text was written
pub record EventPartlyTold (tell : Telling) (line : ℕ) (event : Event) (old : CoreState) (waited : List (Option ℕ))
    (before after : Option (List ℕ)) : Type 0 where
  pub happening : Happening
  pub is_event : happening.event ≡ event
  pub happened : Happened old happening
  pub wrote : Wrote before after (tell line waited happening)

-- these events happened, and their texts were written
pub record EventsTold (tell : Telling) (line : ℕ) (events : List Event) (old new : CoreState) (waited : List (Option ℕ))
    (before after : Option (List ℕ)) : Type 0 where
  pub happenings : List Happening
  pub are_events : events_of happenings ≡ events
  pub happens : Happens old happenings new
  pub wrote : Appends before after (texts_of tell line waited happenings)

-- a front of them happened, and a front of their texts was written
pub record EventsPartlyTold (tell : Telling) (line : ℕ) (events : List Event) (old : CoreState) (waited : List (Option ℕ))
    (before after : Option (List ℕ)) : Type 0 where
  pub happenings : List Happening
  pub rest : List Event
  pub new : CoreState
  pub are_events : events_of happenings ++ rest ≡ events
  pub happens : Happens old happenings new
  pub wrote : Wrote before after (texts_of tell line waited happenings)

-- The pool's object, those of the events and that of the state, one behind the other.
use Rattle.std.proofs.Common.{◌≡◌, ℕ, List, [], ◌++◌, Option, refl, subst, inr, ◌∙◌}
use Rattle.std.specs.Prelude.{OnOk, IfErr, Result, Ok, Err}
use Rattle.std.specs.Io.KnownBytes.{Appends}
use Rattle.std.proofs.KnownBytes.{Appends-trans}
use Rattle.std.proofs.lemmas.List.{append-nil}
use Rattle.hp_base.specs.Text.{Sizes, sizes}
use Rattle.hp_base.specs.declared.config.Config.{Config}
use Rattle.hp_base.specs.declared.event.Event.{Event}
use Rattle.hp_core.specs.Runs.{IsOpening}
use Rattle.hp_core.specs.State.{CoreState}
use Rattle.hp_text.specs.Collecting.{ReadsTrace}
use Rattle.hp_text.specs.Writing.{Wrote, IsWriteFault}
use Rattle.hp_text.specs.declared.fault.ReplayFault.{ReplayFault}
use Rattle.hp_text.proofs.Writes.{Wrote-behind, Wrote-more}
use Rattle.hp_watch.specs.Happenings.{Happens, Happening, events_of}
use Rattle.hp_explain.specs.Happenings.{EventsTold, EventsPartlyTold}
use Rattle.hp_explain.specs.JsonObjects.{pool_object, shown_object, objects_text, end_object}
use Rattle.hp_explain.specs.JsonRuns.{ObjectsBegun, Objects, SomeObjects, WroteObjects, WroteSomeObjects, some_objects, all_objects}
use Rattle.hp_explain.specs.JsonRuns.{NotExplainedJson}
use Rattle.hp_watch.specs.Holders.{AreHolders}
use Rattle.hp_explain.specs.Views.{events_until}
use Rattle.hp_explain.specs.declared.view.View.{View}

-- a pool that was opened, and whom its tasks wait for
pub record OpenedPool (config : Config) (first : CoreState) (waited : List (Option ℕ)) : Type 0 where
  pub opening : IsOpening config first
  pub are_holders : AreHolders first waited

-- a front of the events happened
begun : (v : View) (config : Config) (events rest : List Event) (first new : CoreState) (waited : List (Option ℕ))
    (happenings : List Happening) → OpenedPool config first waited → events_of happenings ++ rest ≡ events
    → Happens first happenings new
    → ObjectsBegun v (sizes config) events rest new (pool_object (sizes config) ++ objects_text v 2 waited happenings)
begun v config events rest first new waited happenings o are happens =
    record {
      config = config;
      sizes_are = refl;
      first = first;
      opening = o.opening;
      waited = waited;
      are_holders = o.are_holders;
      happenings = happenings;
      are_events = are;
      happens = happens;
      is = refl;
    }

-- all did
objects : (v : View) (config : Config) (events : List Event) (first new : CoreState) (waited : List (Option ℕ)) (a b : Option (List ℕ))
    → OpenedPool config first waited → (r : EventsTold (shown_object v) 2 events first new waited a b)
    → Objects v (sizes config) events ((pool_object (sizes config) ++ objects_text v 2 waited r.happenings) ++ end_object new)
objects v config events first new waited a b o r =
    record {
      new = new;
      front = pool_object (sizes config) ++ objects_text v 2 waited r.happenings;
      begun = begun v config events [] first new waited r.happenings o (append-nil (events_of r.happenings) ∙ r.are_events) r.happens;
      is = refl;
    }

-- the pool's object and those of the events were written
front_wrote : (v : View) (config : Config) (events : List Event) (first new : CoreState) (waited : List (Option ℕ))
    (before a b : Option (List ℕ)) → Appends before a (pool_object (sizes config))
    → (r : EventsTold (shown_object v) 2 events first new waited a b)
    → Appends before b (pool_object (sizes config) ++ objects_text v 2 waited r.happenings)
front_wrote v config events first new waited before a b pool r =
    Appends-trans before a b (pool_object (sizes config)) (objects_text v 2 waited r.happenings) pool r.wrote

-- the pool's object was not written to its end
pub pool_stopped : (v : View) (config : Config) (events : List Event) (first : CoreState) (waited : List (Option ℕ))
    (before after : Option (List ℕ)) → OpenedPool config first waited → Wrote before after (pool_object (sizes config))
    → WroteSomeObjects v (sizes config) events before after
pool_stopped v config events first waited before after o pool =
    some_objects (pool_object (sizes config) ++ objects_text v 2 waited [])
    (record { rest = events; new = first; begun = begun v config events events first first waited [] o refl refl })
    (Wrote-more before after (pool_object (sizes config)) (objects_text v 2 waited []) pool)

-- nor were the objects of the events
pub events_stopped : (v : View) (config : Config) (events : List Event) (first : CoreState) (waited : List (Option ℕ))
    (before a after : Option (List ℕ)) → OpenedPool config first waited → Appends before a (pool_object (sizes config))
    → EventsPartlyTold (shown_object v) 2 events first waited a after → WroteSomeObjects v (sizes config) events before after
events_stopped v config events first waited before a after o pool r =
    some_objects (pool_object (sizes config) ++ objects_text v 2 waited r.happenings)
    (record { rest = r.rest; new = r.new; begun = begun v config events r.rest first r.new waited r.happenings o r.are_events r.happens })
    (Wrote-behind before a after (pool_object (sizes config)) (objects_text v 2 waited r.happenings) pool r.wrote)

-- ---- what comes of the end

pub all_wrote : {A : Type 0} (r : Result A ReplayFault) (v : View) (config : Config) (events slice : List Event)
    (first new : CoreState) (waited : List (Option ℕ)) (before a b after : Option (List ℕ)) → slice ≡ events
    → OpenedPool config first waited → Appends before a (pool_object (sizes config))
    → EventsTold (shown_object v) 2 slice first new waited a b → OnOk r (Appends b after (end_object new))
    → OnOk r (WroteObjects v (sizes config) events before after)
all_wrote (Ok x) v config events slice first new waited before a b after same o pool told end =
    subst (λ (list : List Event). WroteObjects v (sizes config) list before after) same
    (record {
      text = (pool_object (sizes config) ++ objects_text v 2 waited told.happenings) ++ end_object new;
      are = objects v config slice first new waited a b o told;
      wrote =
          Appends-trans before b after (pool_object (sizes config) ++ objects_text v 2 waited told.happenings) (end_object new)
          (front_wrote v config slice first new waited before a b pool told) end;
    })
all_wrote (Err fault) v config events slice first new waited before a b after same o pool told end = tt

pub stopped_at_the_end : {A : Type 0} (r : Result A ReplayFault) (v : View) (config : Config) (events slice : List Event)
    (first new : CoreState) (waited : List (Option ℕ)) (before a b after : Option (List ℕ)) → slice ≡ events
    → OpenedPool config first waited → Appends before a (pool_object (sizes config))
    → EventsTold (shown_object v) 2 slice first new waited a b
    → IfErr r (λ fault. IsWriteFault fault × Wrote b after (end_object new))
    → IfErr r (λ fault. IsWriteFault fault × WroteSomeObjects v (sizes config) events before after)
stopped_at_the_end (Ok x) v config events slice first new waited before a b after same o pool told end = tt
stopped_at_the_end (Err fault) v config events slice first new waited before a b after same o pool told end = (
  end.0,
  subst (λ (list : List Event). WroteSomeObjects v (sizes config) list before after) same
      (all_objects ((pool_object (sizes config) ++ objects_text v 2 waited told.happenings) ++ end_object new)
      (objects v config slice first new waited a b o told)
      (Wrote-behind before b after (pool_object (sizes config) ++ objects_text v 2 waited told.happenings) (end_object new)
      (front_wrote v config slice first new waited before a b pool told) end.1)),
)

-- what was written in part was read
pub not_explained : {A : Type 0} (r : Result A ReplayFault) (v : View) (from to before after : Option (List ℕ)) (s : Sizes)
    (events : List Event)
    → ReadsTrace from to s events → IfErr r (λ fault. IsWriteFault fault × WroteSomeObjects v s (events_until v events) before after)
    → IfErr r (λ fault. NotExplainedJson v fault from to before after)
not_explained (Ok x) v from to before after s events reads stopped = tt
not_explained (Err fault) v from to before after s events reads stopped =
    inr (stopped.0, record { sizes = s; events = events; reads = reads; wrote = stopped.1 })

-- The head, the rows and the end, one behind the other.
use Rattle.std.proofs.Common.{◌≡◌, ℕ, List, [], ◌++◌, length, Option, refl, sym, ap, subst, ◌∙◌}
use Rattle.std.proofs.Common.{inr}
use Rattle.std.specs.Prelude.{OnOk, IfErr, Result, Ok, Err}
use Rattle.std.specs.Io.KnownBytes.{Appends}
use Rattle.std.proofs.KnownBytes.{Appends-trans}
use Rattle.hp_base.specs.Text.{Sizes, sizes}
use Rattle.hp_base.specs.declared.config.Config.{Config}
use Rattle.hp_base.specs.declared.event.Event.{Event}
use Rattle.hp_core.specs.Runs.{IsOpening}
use Rattle.hp_core.specs.State.{CoreState}
use Rattle.hp_text.specs.Collecting.{ReadsTrace}
use Rattle.hp_text.specs.Writing.{Wrote, IsWriteFault}
use Rattle.hp_text.specs.declared.fault.ReplayFault.{ReplayFault}
use Rattle.hp_text.proofs.Writes.{Wrote-behind, Wrote-more}
use Rattle.hp_explain.specs.Happenings.{EventsTold, EventsPartlyTold}
use Rattle.hp_explain.specs.Rows.{head_text, rows_text, shown_text, end_text}
use Rattle.hp_explain.specs.Explaining.{Explanation, WroteExplanation}
use Rattle.hp_explain.specs.Explaining.{PartlyExplained, some_rows, to_the_end}
use Rattle.hp_explain.specs.Explaining.{NotExplained}
use Rattle.hp_watch.specs.Holders.{AreHolders}
use Rattle.hp_explain.specs.Views.{column_count, events_until}
use Rattle.hp_explain.specs.Widths.{HaveRoom}
use Rattle.hp_explain.specs.declared.view.View.{View}

-- a pool that was opened, whom its tasks wait for, and the widths of its columns
pub record Opened (v : View) (config : Config) (events : List Event) (widths : List ℕ) (first : CoreState)
    (waited : List (Option ℕ)) : Type 0 where
  pub opening : IsOpening config first
  pub are_holders : AreHolders first waited
  pub width_each : length widths ≡ column_count v.compact (sizes config).tasks
  pub rooms : HaveRoom v (sizes config).tasks widths events

pub opened : (v : View) (config : Config) (events slice : List Event) (widths items : List ℕ) (first : CoreState) (waited : List (Option ℕ))
    → slice ≡ events → IsOpening config first → AreHolders first waited → widths ≡ items
    → length items ≡ column_count v.compact (sizes config).tasks
    → HaveRoom v (sizes config).tasks items events → Opened v config slice widths first waited
opened v config events slice widths items first waited alike opening holders same count rooms =
    record {
      opening = opening;
      are_holders = holders;
      width_each = ap length same ∙ count;
      rooms =
          subst (λ (x : List ℕ). HaveRoom v (sizes config).tasks x slice) (sym same)
          (subst (HaveRoom v (sizes config).tasks items) (sym alike) rooms);
    }

-- a run of all events
explanation : (v : View) (config : Config) (events : List Event) (widths : List ℕ) (first new : CoreState) (waited : List (Option ℕ))
    (a b : Option (List ℕ))
    → Opened v config events widths first waited → (r : EventsTold (shown_text v widths) 2 events first new waited a b)
    → Explanation v (sizes config) events (head_text v.compact (sizes config).quota widths
    ++ (rows_text v widths 2 waited r.happenings ++ end_text new))
explanation v config events widths first new waited a b o r =
    record {
      config = config;
      sizes_are = refl;
      first = first;
      opening = o.opening;
      waited = waited;
      are_holders = o.are_holders;
      widths = widths;
      width_each = o.width_each;
      rooms = o.rooms;
      happenings = r.happenings;
      are_events = r.are_events;
      new = new;
      happens = r.happens;
      is = refl;
    }

pub explained : (v : View) (config : Config) (events : List Event) (widths : List ℕ) (first new : CoreState) (waited : List (Option ℕ))
    (before a b after : Option (List ℕ))
    → Opened v config events widths first waited → Appends before a (head_text v.compact (sizes config).quota widths)
    → EventsTold (shown_text v widths) 2 events first new waited a b
    → Appends b after (end_text new) → WroteExplanation v (sizes config) events before after
explained v config events widths first new waited before a b after o head r end =
    record {
      text = head_text v.compact (sizes config).quota widths ++ (rows_text v widths 2 waited r.happenings ++ end_text new);
      explains = explanation v config events widths first new waited a b o r;
      wrote =
          Appends-trans before a after (head_text v.compact (sizes config).quota widths) (rows_text v widths 2 waited r.happenings
          ++ end_text new) head
          (Appends-trans a b after (rows_text v widths 2 waited r.happenings) (end_text new) r.wrote end);
    }

-- the end was not written to its own
pub end_stopped : (v : View) (config : Config) (events : List Event) (widths : List ℕ) (first new : CoreState) (waited : List (Option ℕ))
    (before a b after : Option (List ℕ))
    → Opened v config events widths first waited → Appends before a (head_text v.compact (sizes config).quota widths)
    → EventsTold (shown_text v widths) 2 events first new waited a b
    → Wrote b after (end_text new) → PartlyExplained v (sizes config) events before after
end_stopped v config events widths first new waited before a b after o head r end =
    to_the_end (head_text v.compact (sizes config).quota widths ++ (rows_text v widths 2 waited r.happenings ++ end_text new))
    (explanation v config events widths first new waited a b o r)
    (Wrote-behind before a after (head_text v.compact (sizes config).quota widths) (rows_text v widths 2 waited r.happenings
    ++ end_text new) head
    (Wrote-behind a b after (rows_text v widths 2 waited r.happenings) (end_text new) r.wrote end))

-- nor were the rows
pub rows_stopped : (v : View) (config : Config) (events : List Event) (widths : List ℕ) (first : CoreState) (waited : List (Option ℕ))
    (before a after : Option (List ℕ))
    → Opened v config events widths first waited → Appends before a (head_text v.compact (sizes config).quota widths)
    → EventsPartlyTold (shown_text v widths) 2 events first waited a after
    → PartlyExplained v (sizes config) events before after
rows_stopped v config events widths first waited before a after o head r =
    some_rows (head_text v.compact (sizes config).quota widths ++ rows_text v widths 2 waited r.happenings)
    (record {
      config = config;
      sizes_are = refl;
      first = first;
      opening = o.opening;
      waited = waited;
      are_holders = o.are_holders;
      widths = widths;
      width_each = o.width_each;
      rooms = o.rooms;
      happenings = r.happenings;
      rest = r.rest;
      are_events = r.are_events;
      new = r.new;
      happens = r.happens;
      is = refl;
    })
    (Wrote-behind before a after (head_text v.compact (sizes config).quota widths) (rows_text v widths 2 waited r.happenings) head r.wrote)

-- nor was the head
pub head_stopped : (v : View) (config : Config) (events : List Event) (widths : List ℕ) (first : CoreState) (waited : List (Option ℕ))
    (before after : Option (List ℕ))
    → Opened v config events widths first waited → Wrote before after (head_text v.compact (sizes config).quota widths)
    → PartlyExplained v (sizes config) events before after
head_stopped v config events widths first waited before after o head =
    some_rows (head_text v.compact (sizes config).quota widths ++ rows_text v widths 2 waited [])
    (record {
      config = config;
      sizes_are = refl;
      first = first;
      opening = o.opening;
      waited = waited;
      are_holders = o.are_holders;
      widths = widths;
      width_each = o.width_each;
      rooms = o.rooms;
      happenings = [];
      rest = events;
      are_events = refl;
      new = first;
      happens = refl;
      is = refl;
    })
    (Wrote-more before after (head_text v.compact (sizes config).quota widths) (rows_text v widths 2 waited []) head)

-- ---- what comes of the end

pub explained_to_the_end : {A : Type 0} (r : Result A ReplayFault) (v : View) (config : Config) (events slice : List Event)
    (widths : List ℕ)
    (first new : CoreState) (waited : List (Option ℕ)) (before a b after : Option (List ℕ)) → slice ≡ events
    → Opened v config slice widths first waited
    → Appends before a (head_text v.compact (sizes config).quota widths)
    → EventsTold (shown_text v widths) 2 slice first new waited a b → OnOk r (Appends b after (end_text new))
    → OnOk r (WroteExplanation v (sizes config) events before after)
explained_to_the_end (Ok x) v config events slice widths first new waited before a b after same o head rows end =
    subst (λ (list : List Event). WroteExplanation v (sizes config) list before after) same
    (explained v config slice widths first new waited before a b after o head rows end)
explained_to_the_end (Err fault) v config events slice widths first new waited before a b after same o head rows end = tt

pub stopped_at_the_end : {A : Type 0} (r : Result A ReplayFault) (v : View) (config : Config) (events slice : List Event) (widths : List ℕ)
    (first new : CoreState) (waited : List (Option ℕ)) (before a b after : Option (List ℕ)) → slice ≡ events
    → Opened v config slice widths first waited
    → Appends before a (head_text v.compact (sizes config).quota widths) → EventsTold (shown_text v widths) 2 slice first new waited a b
    → IfErr r (λ fault. IsWriteFault fault × Wrote b after (end_text new))
    → IfErr r (λ fault. IsWriteFault fault × PartlyExplained v (sizes config) events before after)
stopped_at_the_end (Ok x) v config events slice widths first new waited before a b after same o head rows end = tt
stopped_at_the_end (Err fault) v config events slice widths first new waited before a b after same o head rows end = (
  end.0,
  subst (λ (list : List Event). PartlyExplained v (sizes config) list before after) same
      (end_stopped v config slice widths first new waited before a b after o head rows end.1),
)

-- what was explained in part was read
pub not_explained : {A : Type 0} (r : Result A ReplayFault) (v : View) (from to before after : Option (List ℕ)) (s : Sizes)
    (events : List Event)
    → ReadsTrace from to s events → IfErr r (λ fault. IsWriteFault fault × PartlyExplained v s (events_until v events) before after)
    → IfErr r (λ fault. NotExplained v fault from to before after)
not_explained (Ok x) v from to before after s events reads stopped = tt
not_explained (Err fault) v from to before after s events reads stopped =
    inr (stopped.0, record { sizes = s; events = events; reads = reads; wrote = stopped.1 })

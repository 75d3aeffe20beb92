-- What is told of a pool at the end of a race.
use Rattle.std.proofs.Common.{◌≡◌, ℕ, ◌+◌, List, [], ◌∷◌, ◌++◌, Bool, refl, sym, ap, subst, ◌∙◌, length, arith, inl, inr, ◌⊎◌}
use Rattle.std.specs.declared.alloc.AllocError.{AllocError}
use Rattle.std.specs.Prelude.{IfOk, Result, Ok, Err, ◌≤◌, ◌≢◌, true, false, IfSome, None, Option, Some, take, All}
use Rattle.std.proofs.lemmas.List.{length-map, length-take}
use Rattle.std.proofs.lemmas.Bool.{false≢true, true≢false}
use Rattle.hp_base.specs.declared.event.Event.{Event}
use Rattle.hp_base.specs.declared.config.Config.{Config}
use Rattle.hp_core.specs.State.{CoreState}
use Rattle.hp_core.specs.declared.readers.Tally.{Tally}
use Rattle.hp_text.specs.declared.script.Script.{Script}
use Rattle.hp_text.specs.declared.trace.TheConstants.{MOST_EVENTS}
use Rattle.hp_text.specs.declared.trace.Trace.{Trace}
use Rattle.hp_shared.proofs.Runs.{came_to, closes_with, follows_on}
use Rattle.hp_shared.specs.Closing.{ClosesPoolOf, ClosesWith, RefusesClose}
use Rattle.hp_shared.specs.Journal.{events_of, Follows, Interleaves, IsCameTo}
use Rattle.hp_shared.specs.Seats.{AllSeated, LeastMissing, lists_of}
use Rattle.hp_shared.specs.States.{SeatState, tally_of}
use Rattle.hp_shared.specs.declared.entry.Entry.{Entry}
use Rattle.hp_shared.specs.declared.fault.CloseFault.{CloseFault}
use Rattle.hp_shared.specs.declared.fault.CloseFault.TheVariants as fault
use Rattle.hp_race.specs.Racers.{AreFound, AreFoundAs, HasMadeBut, SomeLeft, SomeStrayed}
use Rattle.hp_race.specs.declared.racer.Found.{Found}
use Rattle.hp_race.proofs.Making.{made_by_gone}
use Rattle.hp_race.specs.Races.{Counts, HasClosedAnother, HasLived, HasOtherSizes, HasOvertaken, HaveDisagreed, IsKept, IsKeptOf}
use Rattle.hp_race.specs.Races.{IsOfScript, IsOnFound, IsRace, IsTold, IsToldAs, IsToldOfRefused, IsUnclosed}
use Rattle.hp_race.specs.declared.line.Race.{Race}
use Rattle.hp_race.specs.declared.line.Verdict.{Verdict}
use Rattle.hp_race.specs.declared.line.Verdict.TheVariants.{Closed, Disagree, Astray, Late}

none_earlier : (earlier : List Entry) → length earlier ≡ 0 → earlier ≡ []
none_earlier [] none = refl
none_earlier (e ∷ es) none = absurd (omega (arith, none))

-- the core that a closed pool gives out is one that a pool came to
closed_came : (seats : List SeatState) (core : CoreState) (first : ℕ) (journal : List Entry) → ClosesWith seats core first journal
    → IsCameTo core
closed_came seats core first journal h = came_to first h.1 core journal (h.0, h.2, h.3) h.5

-- so is that of a pool of this config
pub pool_came : (config : Config) (seats : List SeatState) (core : CoreState) (first : ℕ) (journal : List Entry)
    → ClosesPoolOf config seats core first journal → IsCameTo core
pool_came config seats core first journal h = closed_came seats core first journal (closes_with config seats core first journal h)

all_made : (mortal : Bool) (script : Script) (astray late : Bool) (tasks : List ℕ) (seats : List SeatState) → astray ≡ false
    → late ≡ false → AreFoundAs mortal astray late script tasks seats → All (HasMadeBut mortal script tasks) seats
all_made mortal script true late tasks seats is on calls = absurd (true≢false is)
all_made mortal script false true tasks seats is on calls = absurd (true≢false on)
all_made mortal script false false tasks seats is on calls = calls

some_left : (mortal : Bool) (script : Script) (astray late : Bool) (tasks : List ℕ) (seats : List SeatState) → astray ≡ false
    → late ≡ true → AreFoundAs mortal astray late script tasks seats → SomeLeft mortal script seats
some_left mortal script true late tasks seats is on calls = absurd (true≢false is)
some_left mortal script false true tasks seats is on calls = calls
some_left mortal script false false tasks seats is on calls = absurd (false≢true on)

some_strayed : (mortal : Bool) (script : Script) (astray late : Bool) (tasks : List ℕ) (seats : List SeatState) → astray ≡ true
    → AreFoundAs mortal astray late script tasks seats → SomeStrayed mortal script seats
some_strayed mortal script true late tasks seats is calls = calls
some_strayed mortal script false late tasks seats is calls = absurd (false≢true is)

-- a pool of the script's config that was closed at this core, with this journal
module _ (mortal : Bool) (script : Script) (found : Found) (seats : List SeatState) (core : CoreState) (first : ℕ) (journal : List Entry)
    (seated : AllSeated script.config.tasks seats) (count : length seats ≡ script.config.tasks)
    (h : ClosesPoolOf script.config seats core first journal) (calls : AreFound mortal script found seats) where
  -- had a race of the script
  race_of : IsOnFound script found core first journal Closed → IsRace mortal script journal core
  race_of is =
      let start = h.3 in
      let run : Follows start.0 (h.0 ++ journal) core = follows_on start.0 h.1 core h.0 journal start.2 h.5 in
      let none : h.0 ≡ [] = none_earlier h.0 (h.2 ∙ is.4) in
      let made = all_made mortal script found.astray found.late found.refused.items seats is.0 is.1 calls in
      record {
        opened = start.0;
        opening = start.1;
        run = subst (λ (es : List Entry). Follows start.0 (es ++ journal) core) none run;
        seats = seats;
        seated = seated;
        count = count;
        made = made_by_gone mortal script core found.refused.items seats is.2 made;
        order = subst (λ (p : ℕ). Interleaves p journal (lists_of seats)) is.4 h.4;
        waits = is.3;
      }

  came : IsCameTo core
  came = pool_came script.config seats core first journal h

  why_astray : IsOnFound script found core first journal Astray → SomeStrayed mortal script seats
      ⊎ ((¬ IsOfScript script first core)
      ⊎ (((task : ℕ) × LeastMissing script.config.tasks seats task) ⊎ (HasOtherSizes script ⊎ (HasLived ⊎ HasOvertaken script))))
  why_astray (inl strayed) = inl (some_strayed mortal script found.astray found.late found.refused.items seats strayed calls)
  why_astray (inr (inl lives)) = inr (inr (inr (inr (inl (core, found.refused.items, came, lives)))))
  why_astray (inr (inr (inl overtaken))) = inr (inr (inr (inr (inr (journal, overtaken)))))
  why_astray (inr (inr (inr other))) = inr (inl (λ whole. other whole.0))

  -- what is told of it
  told_closed_as : (race : Race) (v : Verdict) → IsOnFound script found core first journal v
      → Counts race (first + length journal) core → IsToldAs mortal script v race
  told_closed_as race Closed is counts =
      let all : first + length journal ≡ length journal = omega (arith, is.4) in
      record { journal = journal; core = core; is = race_of is; counts = (counts.0 ∙ all, counts.1, counts.2) }
  told_closed_as race (Disagree position) is counts = absurd is
  told_closed_as race Astray is counts =
      record { seats = seats; first = first; core = core; came = came; why = why_astray is; free = counts.1; resv = counts.2 }
  told_closed_as race Late is counts =
      record {
        seats = seats;
        left = some_left mortal script found.astray found.late found.refused.items seats is.0 is.1 calls;
        core = core;
        came = came;
        free = counts.1;
        resv = counts.2;
      }

  why_unclosed : (v : Verdict) → IsOnFound script found core first journal v → (v ≢ Closed) → SomeStrayed mortal script seats
      ⊎ (HasClosedAnother script ⊎ (((task : ℕ) × LeastMissing script.config.tasks seats task)
      ⊎ (HaveDisagreed seats ⊎ (HasLived ⊎ (HasOvertaken script ⊎ SomeLeft mortal script seats)))))
  why_unclosed Closed is not = absurd (not refl)
  why_unclosed (Disagree position) is not = absurd is
  why_unclosed Astray (inl strayed) not =
      inl (some_strayed mortal script found.astray found.late found.refused.items seats strayed calls)
  why_unclosed Astray (inr (inl lives)) not = inr (inr (inr (inr (inl (core, found.refused.items, came, lives)))))
  why_unclosed Astray (inr (inr (inl overtaken))) not = inr (inr (inr (inr (inr (inl (journal, overtaken))))))
  why_unclosed Astray (inr (inr (inr other))) not = inr (inl (first, core, came, λ whole. other whole.0))
  why_unclosed Late is not =
      inr (inr (inr (inr (inr (inr (some_left mortal script found.astray found.late found.refused.items seats is.0 is.1 calls))))))

  -- what is kept of it
  kept_closed_as : (kept : Option Trace) → IsKeptOf script found core first journal kept → IsKept mortal script kept
  kept_closed_as None is = record { seats = seats; why = why_unclosed is.0 is.1 is.2 }
  kept_closed_as (Some trace) is = record { journal = journal; core = core; is = race_of is.0; config = is.1; order = is.2 }

-- the same of one of a config that is the script's
module _ (mortal : Bool) (script : Script) (found : Found) (config : Config) (seats : List SeatState) (core : CoreState) (first : ℕ)
    (journal : List Entry) (seated : AllSeated config.tasks seats) (same : config ≡ script.config)
    (count : length seats ≡ script.config.tasks) (h : ClosesPoolOf config seats core first journal)
    (calls : AreFound mortal script found seats) where
  all_seated : AllSeated script.config.tasks seats
  all_seated = subst (λ (c : Config). AllSeated c.tasks seats) same seated

  closes : ClosesPoolOf script.config seats core first journal
  closes = subst (λ (c : Config). ClosesPoolOf c seats core first journal) same h

  pub told_closed : (entries : ℕ) (race : Race) → IsOnFound script found core first journal race.verdict → Counts race entries core
      → entries ≡ first + length journal → IsTold mortal script race
  told_closed entries race is counts all =
      told_closed_as mortal script found seats core first journal all_seated count closes calls race race.verdict is
      (counts.0 ∙ all, counts.1, counts.2)

  -- told where there is memory to tell it
  pub told_so : (entries : ℕ) → entries ≡ first + length journal → (told : Result Race AllocError)
      → IfOk told (λ race. IsOnFound script found core first journal race.verdict) → IfOk told (λ race. Counts race entries core)
      → IfOk told (λ race. IsTold mortal script race)
  told_so entries all (Ok race) is counts = told_closed entries race is counts all
  told_so entries all (Err fault) is counts = tt

  pub kept_closed : (kept : Option Trace) → IsKeptOf script found core first journal kept → IsKept mortal script kept
  kept_closed = kept_closed_as mortal script found seats core first journal all_seated count closes calls

-- what is told of one that wasn't
told_refused_as : (mortal : Bool) (script : Script) (seats : List SeatState) (core : CoreState) (tally : Tally) (race : Race)
    (why : CloseFault)
    → IsCameTo core → tally ≡ tally_of core → RefusesClose script.config seats why → IsToldOfRefused why tally race
    → IsTold mortal script race
told_refused_as mortal script seats core tally race (fault.SeatMissing task) reached same refused told =
    subst (λ (r : Race). IsTold mortal script r) (sym told)
    (record {
      seats = seats;
      first = 0;
      core = core;
      came = reached;
      why = inr (inr (inl (task, refused)));
      free = ap (λ (t : Tally). t.free) same;
      resv = ap (λ (t : Tally). t.resv) same;
    })
told_refused_as mortal script seats core tally race (fault.Disagree position) reached same refused told =
    subst (λ (r : Race). IsTold mortal script r) (sym told)
    (record {
      seats = seats;
      seated = refused.0;
      first = refused.1.0;
      journal = refused.1.1;
      fails = refused.1.2;
      core = core;
      came = reached;
      counts = (refl, ap (λ (t : Tally). t.free) same, ap (λ (t : Tally). t.resv) same);
    })
told_refused_as mortal script seats core tally race fault.OtherSizes reached same refused told =
    subst (λ (r : Race). IsTold mortal script r) (sym told)
    (record {
      seats = seats;
      first = 0;
      core = core;
      came = reached;
      why = inr (inr (inr (inl refused.1)));
      free = ap (λ (t : Tally). t.free) same;
      resv = ap (λ (t : Tally). t.resv) same;
    })
told_refused_as mortal script seats core tally race fault.Memory reached same refused told = absurd told

pub told_refused : (mortal : Bool) (script : Script) (config : Config) (seats : List SeatState) (core : CoreState) (tally : Tally)
    (race : Race)
    (why : CloseFault) → IsCameTo core → tally ≡ tally_of core → config ≡ script.config → RefusesClose config seats why
    → IsToldOfRefused why tally race → IsTold mortal script race
told_refused mortal script config seats core tally race why came is same refused told =
    told_refused_as mortal script seats core tally race why came is (subst (λ (c : Config). RefusesClose c seats why) same refused) told

-- a pool that wasn't closed had a race that wasn't
unclosed_as : (mortal : Bool) (script : Script) (seats : List SeatState) (why : CloseFault) → (why ≢ fault.Memory)
    → RefusesClose script.config seats why → IsUnclosed mortal script
unclosed_as mortal script seats (fault.SeatMissing task) not refused = record { seats = seats; why = inr (inr (inl (task, refused))) }
unclosed_as mortal script seats (fault.Disagree position) not refused =
    record { seats = seats; why = inr (inr (inr (inl (refused.1.0, refused.1.1, position, refused.1.2)))) }
unclosed_as mortal script seats fault.OtherSizes not refused =
    record { seats = seats; why = inr (inl (0, refused.1.0, refused.1.1, λ is. refused.1.2 is.1)) }
unclosed_as mortal script seats fault.Memory not refused = absurd (not refl)

-- so nothing is kept of it
pub kept_none : (mortal : Bool) (script : Script) (config : Config) (seats : List SeatState) (why : CloseFault) (kept : Option Trace)
    → config ≡ script.config → RefusesClose config seats why → kept ≡ None → (why ≢ fault.Memory) → IsKept mortal script kept
kept_none mortal script config seats why kept same refused none not =
    subst (λ (k : Option Trace). IsKept mortal script k) (sym none)
    (unclosed_as mortal script seats why not (subst (λ (c : Config). RefusesClose c seats why) same refused))

pub none_few : (kept : Option Trace) → kept ≡ None → IfSome kept (λ trace. length trace.events.items ≤ MOST_EVENTS)
none_few kept none = subst (λ (k : Option Trace). IfSome k (λ trace. length trace.events.items ≤ MOST_EVENTS)) (sym none) tt

few_taken : (n : ℕ) (journal : List Entry) (events : List Event) → events ≡ events_of (take n journal) → length events ≤ n
few_taken n journal events is =
    let many = length-map (take n journal) (λ (e : Entry). e.event) in
    let few = length-take n journal in
    omega (arith, ap length is, many, few)

-- and it is no longer than a trace may be
pub kept_few : (script : Script) (found : Found) (core : CoreState) (first : ℕ) (journal : List Entry) (kept : Option Trace)
    → IsKeptOf script found core first journal kept → IfSome kept (λ trace. length trace.events.items ≤ MOST_EVENTS)
kept_few script found core first journal None is = tt
kept_few script found core first journal (Some trace) is = few_taken MOST_EVENTS journal trace.events.items is.2

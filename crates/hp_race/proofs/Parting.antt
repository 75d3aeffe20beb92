-- Parts of a race, one after the other.
use Rattle.std.proofs.Common.{◌≡◌, ℕ, ◌+◌, List, [], ◌∷◌, ◌++◌, Bool, refl, sym, ap, subst, ◌∙◌, length, map, take, drop}
use Rattle.std.proofs.Common.{get_or, ◌<◌, ◌≤◌, max, inl, inr, arith}
use Rattle.std.specs.Prelude.{◌&&◌, true, false, not, Option, Some, None, is_some, MatchOption, All}
use Rattle.std.proofs.lemmas.Bool.{cases_lt, false≢true}
use Rattle.std.proofs.lemmas.List.{append-nil, drop_all, length-map, take_all, take_more}
use Rattle.std.proofs.lemmas.List.Elements.{All-map}
use Rattle.hp_base.specs.declared.config.Config.{Config}
use Rattle.hp_base.specs.declared.event.Op.{Op}
use Rattle.hp_core.specs.Runs.{IsOpening, Row}
use Rattle.hp_core.specs.State.{CoreState}
use Rattle.hp_core.specs.declared.readers.Tally.{Tally}
use Rattle.hp_text.specs.Scripts.{calls_of}
use Rattle.hp_text.specs.declared.script.Script.{Script}
use Rattle.hp_machine.specs.declared.outcome.Outcome.{Outcome}
use Rattle.hp_shared.proofs.Runs.{follows_more}
use Rattle.hp_shared.specs.Closing.{ClosesPoolOf, ClosesWith, RefusesClose}
use Rattle.hp_shared.specs.Cutting.{emptied}
use Rattle.hp_shared.specs.Journal.{Follows, Interleaves, IsCameTo}
use Rattle.hp_shared.specs.Seats.{AllSeated, LeastMissing, lists_of}
use Rattle.hp_shared.specs.States.{SeatState, tally_of}
use Rattle.hp_shared.specs.declared.entry.Entry.{Entry}
use Rattle.hp_shared.specs.declared.fault.CloseFault.{CloseFault}
use Rattle.hp_shared.specs.declared.fault.CloseFault.TheVariants as fault
use Rattle.hp_race.specs.Racers.{AreFoundIn, AreFoundInAs, HasMadeInBut, IsNew, are_gone_in}
use Rattle.hp_race.specs.declared.racer.Found.{Found}
use Rattle.hp_race.proofs.Making.{made_in_by_gone}
use Rattle.hp_race.specs.Parts.{AreRaceParts, GoesOn, IsAgain, IsRacePart, IsToTheEnd, IsToldInParts, IsToldInPartsAs}
use Rattle.hp_race.specs.Parts.{IsVerdictOnParts, RacePart, call_range}
use Rattle.hp_race.specs.Races.{Counts, IsToldOfRefused}
use Rattle.hp_race.specs.declared.line.Race.{Race}
use Rattle.hp_race.specs.declared.line.Verdict.{Verdict}
use Rattle.hp_race.specs.declared.line.Verdict.TheVariants.{Closed, Disagree, Astray, Late}
use Rattle.hp_race.specs.declared.call_range.CallRange.{CallRange}
use Rattle.hp_race.proofs.Told.{pool_came}

-- where no seat is missing, each task has one
pub all_seated : (tasks : ℕ) (seats : List SeatState) (missing : Option ℕ) → is_some missing ≡ false
    → MatchOption missing (AllSeated tasks seats) (LeastMissing tasks seats) → AllSeated tasks seats
all_seated tasks seats None none found = found
all_seated tasks seats (Some task) none found = absurd (false≢true (sym none))

-- the most calls of a task, of one task more
pub most_of : (lines : List (ℕ × Op)) (number most len now : ℕ)
    → ((task : ℕ) → 1 ≤ task → task ≤ number → length (calls_of lines task) ≤ most)
    → len ≡ length (calls_of lines (number + 1)) → now ≡ max len most
    → (task : ℕ) → 1 ≤ task → task ≤ number + 1 → length (calls_of lines task) ≤ now
most_of lines number most len now below is max_is task least last =
    elim (cases_lt number task) [
      | inl after ↦
          let same : task ≡ number + 1 = omega (arith, after, last) in
          let here : length (calls_of lines task) ≡ len = ap (λ (t : ℕ). length (calls_of lines t)) same ∙ sym is in
          omega (arith, here, max_is)
      | inr before ↦ omega (arith, below task least before, max_is)
    ]

-- one entry more of those that happen again
pub happens_on : (start core new : CoreState) (entries : List Entry) (i : ℕ) (entry : Entry) (outcome : Outcome) → i < length entries
    → entry ≡ get_or entries i entry → Follows start (take i entries) core → Row core entry.event outcome new → outcome ≡ entry.outcome
    → Follows start (take (i + 1) entries) new
happens_on start core new entries i entry outcome below is run row same =
    let more : take (i + 1) entries ≡ take i entries ++ entry ∷ [] =
    take_more entries i entry below ∙ ap (λ (e : Entry). take i entries ++ e ∷ []) (sym is) in
    subst (λ (es : List Entry). Follows start es new) (sym more)
    (follows_more start core new (take i entries) entry run (subst (λ (o : Outcome). Row core entry.event o new) same row))

-- what is cut off goes on from what was before, if its entries do
pub cut_on : (seats : List SeatState) (position first entries : ℕ) (old new pool : CoreState) (journal : List Entry)
    → ClosesWith seats pool first journal → GoesOn position old first journal entries new
    → (es : List Entry) × Interleaves position es (lists_of seats) × Follows old es new × (entries ≡ position + length es)
cut_on seats position first entries old new pool journal closes goes =
    (journal, subst (λ (p : ℕ). Interleaves p journal (lists_of seats)) goes.0 closes.4, goes.1, goes.2)

-- seats whose lists were cut off have made nothing
pub all_emptied : (seats now : List SeatState) → now ≡ map emptied seats → All IsNew now
all_emptied seats now is = subst (λ (l : List SeatState). All IsNew l) (sym is) (All-map IsNew emptied seats (λ k d below. refl))

pub as_many_emptied : (seats now : List SeatState) → now ≡ map emptied seats → length now ≡ length seats
as_many_emptied seats now is = ap length is ∙ length-map seats emptied

-- what a list that was lent holds afterwards, where as many were handed back
pub same_items : (now items : List SeatState) (len : ℕ) → len ≡ length items → length now ≡ length items → All IsNew now
    → All IsNew (take len (now ++ drop (length now) items))
same_items now items len full same new =
    let none : drop (length now) items ≡ [] = drop_all (length now) items (omega (arith, same)) in
    let whole : take len (now ++ drop (length now) items) ≡ now =
    ap (λ (rest : List SeatState). take len (now ++ rest)) none ∙ ap (λ (l : List SeatState). take len l) (append-nil now)
    ∙ take_all len now (omega (arith, full, same)) in
    subst (λ (l : List SeatState). All IsNew l) (sym whole) new

-- seats that made their calls, and what is cut off then, are a part, where all are gone of which calls were refused
pub part_made : (mortal : Bool) (script : Script) (calls : CallRange) (position now : ℕ) (start new : CoreState) (found : Found)
    (seats : List SeatState) (is_made : Bool)
    → is_made ≡ true → is_made ≡ (not found.astray && not found.late) → AreFoundIn mortal script calls found seats
    → are_gone_in new found.refused.items ≡ true
    → AllSeated script.config.tasks seats → length seats ≡ script.config.tasks
    → ((es : List Entry) × Interleaves position es (lists_of seats) × Follows start es new × (now ≡ position + length es))
    → (part : RacePart) × IsRacePart mortal script calls position start part × (now ≡ position + length part.entries) × (new ≡ part.core)
part_made mortal script calls position now start new found seats is_made well so had gone seated count cut = (
  record { seats = seats; entries = cut.0; core = new },
  record {
    seated = seated;
    count = count;
    made =
        made_in_by_gone mortal script calls new found.refused.items seats gone (by found.astray found.late (sym so ∙ well) had);
    order = cut.1;
    run = cut.2;
  },
  cut.3,
  refl,
)
  where
    by : (a l : Bool) → (not a && not l) ≡ true → AreFoundInAs mortal a l script calls found.refused.items seats
        → All (HasMadeInBut mortal script calls found.refused.items) seats
    by true l made some = absurd (false≢true made)
    by false true made some = absurd (false≢true made)
    by false false made all = all

-- whatever parts come behind one more come behind those before it
pub parts_on : (mortal : Bool) (script : Script) (most from next position now begun : ℕ) (start core new : CoreState)
    → ((parts : List RacePart) (entries : ℕ) (end : CoreState) → AreRaceParts mortal script most from position core parts entries end
    → (all : List RacePart) × AreRaceParts mortal script most 0 begun start all entries end)
    → ((part : RacePart) × IsRacePart mortal script (call_range from most) position core part × (now ≡ position + length part.entries)
    × (new ≡ part.core))
    → next ≡ from + most
    → (parts : List RacePart) (entries : ℕ) (end : CoreState) → AreRaceParts mortal script most next now new parts entries end
    → (all : List RacePart) × AreRaceParts mortal script most 0 begun start all entries end
parts_on mortal script most from next position now begun start core new before made is parts entries end rest =
    let part : RacePart = made.0 in
    before (part ∷ parts) entries end (
      made.1,
      subst (λ (c : CoreState). AreRaceParts mortal script most (from + most) (position + length part.entries) c parts entries end) made.3
          (subst (λ (n : ℕ). AreRaceParts mortal script most (from + most) n new parts entries end) made.2
          (subst (λ (n : ℕ). AreRaceParts mortal script most n now new parts entries end) is rest)),
    )

-- and where none comes, those before are all
pub parts_end : (mortal : Bool) (script : Script) (most from longest position begun : ℕ) (start core : CoreState)
    → ((parts : List RacePart) (entries : ℕ) (end : CoreState) → AreRaceParts mortal script most from position core parts entries end
    → (all : List RacePart) × AreRaceParts mortal script most 0 begun start all entries end)
    → IsToTheEnd script longest → longest ≤ from
    → (all : List RacePart) × AreRaceParts mortal script most 0 begun start all position core
parts_end mortal script most from longest position begun start core before short over =
    before [] position core ((λ task least last. omega (arith, over, short task least last)), refl, refl)

-- what is told of a pool that was closed behind the last part
told_parts_as : (mortal : Bool) (script : Script) (most : ℕ) (made : Bool) (opened core pool : CoreState) (begun entries first told : ℕ)
    (journal : List Entry)
    (seats : List SeatState) (race : Race) (v : Verdict)
    → IsOpening script.config opened → begun ≡ 0
    → (made ≡ true → (parts : List RacePart) × AreRaceParts mortal script most 0 begun opened parts entries core)
    → ClosesPoolOf script.config seats pool first journal → told ≡ first + length journal → Counts race told pool
    → IsVerdictOnParts made (IsAgain entries core first journal pool) v → IsToldInPartsAs mortal script most v race
told_parts_as mortal script most made opened core pool begun entries first told journal seats race Closed opening new parts closes all
    counts is =
    let are = parts is.0 in
    let none : length journal ≡ 0 = ap length is.1.1 in
    let many : entries ≡ race.entries = omega (arith, counts.0, all, none, is.1.0) in
    record {
      opened = opened;
      opening = opening;
      parts = are.0;
      core = core;
      are =
          subst (λ (n : ℕ). AreRaceParts mortal script most 0 0 opened are.0 n core) many
          (subst (λ (n : ℕ). AreRaceParts mortal script most 0 n opened are.0 entries core) new are.1);
      counts = (
        refl,
        counts.1 ∙ ap (λ (t : Tally). t.free) is.1.2,
        counts.2 ∙ ap (λ (t : Tally). t.resv) is.1.2,
      );
      seats = seats;
      pool = pool;
      rest =
          subst (λ (n : ℕ). ClosesPoolOf script.config seats pool n []) (is.1.0 ∙ many)
          (subst (λ (es : List Entry). ClosesPoolOf script.config seats pool first es) is.1.1 closes);
      same = is.1.2;
    }
told_parts_as mortal script most made opened core pool begun entries first told journal seats race (Disagree position) opening new parts
    closes all counts is =
    absurd is
told_parts_as mortal script most made opened core pool begun entries first told journal seats race Late opening new parts closes all counts
    is =
    absurd is
told_parts_as mortal script most made opened core pool begun entries first told journal seats race Astray opening new parts closes all
    counts is =
    record { core = pool; came = pool_came script.config seats pool first journal closes; free = counts.1; resv = counts.2 }

pub told_parts : (mortal : Bool) (script : Script) (most : ℕ) (made : Bool) (opened core pool : CoreState) (begun entries first told : ℕ)
    (journal : List Entry)
    (seats : List SeatState) (race : Race)
    → IsOpening script.config opened → begun ≡ 0
    → (made ≡ true → (parts : List RacePart) × AreRaceParts mortal script most 0 begun opened parts entries core)
    → (config : Config) → config ≡ script.config → ClosesPoolOf config seats pool first journal
    → told ≡ first + length journal → Counts race told pool
    → IsVerdictOnParts made (IsAgain entries core first journal pool) race.verdict → IsToldInParts mortal script most race
told_parts mortal script most made opened core pool begun entries first told journal seats race opening new parts config same closes
    all counts is =
    told_parts_as mortal script most made opened core pool begun entries first told journal seats race race.verdict opening new parts
    (subst (λ (c : Config). ClosesPoolOf c seats pool first journal) same closes) all counts is

-- what is told of one that wasn't
refused_as : (mortal : Bool) (script : Script) (most : ℕ) (seats : List SeatState) (core : CoreState) (tally : Tally) (race : Race)
    (why : CloseFault)
    → IsCameTo core → tally ≡ tally_of core → RefusesClose script.config seats why → IsToldOfRefused why tally race
    → IsToldInParts mortal script most race
refused_as mortal script most seats core tally race (fault.SeatMissing task) came same refused told =
    subst (λ (r : Race). IsToldInParts mortal script most r) (sym told)
    (record { core = core; came = came; free = ap (λ (t : Tally). t.free) same; resv = ap (λ (t : Tally). t.resv) same })
refused_as mortal script most seats core tally race (fault.Disagree position) came same refused told =
    subst (λ (r : Race). IsToldInParts mortal script most r) (sym told)
    (record {
      seats = seats;
      seated = refused.0;
      first = refused.1.0;
      journal = refused.1.1;
      fails = refused.1.2;
      core = core;
      came = came;
      counts = (refl, ap (λ (t : Tally). t.free) same, ap (λ (t : Tally). t.resv) same);
    })
refused_as mortal script most seats core tally race fault.OtherSizes came same refused told =
    subst (λ (r : Race). IsToldInParts mortal script most r) (sym told)
    (record { core = core; came = came; free = ap (λ (t : Tally). t.free) same; resv = ap (λ (t : Tally). t.resv) same })
refused_as mortal script most seats core tally race fault.Memory came same refused told = absurd told

pub refused_parts : (mortal : Bool) (script : Script) (most : ℕ) (config : Config) (seats : List SeatState) (core : CoreState)
    (tally : Tally)
    (race : Race) (why : CloseFault) → IsCameTo core → tally ≡ tally_of core → config ≡ script.config → RefusesClose config seats why
    → IsToldOfRefused why tally race → IsToldInParts mortal script most race
refused_parts mortal script most config seats core tally race why came is same refused told =
    refused_as mortal script most seats core tally race why came is (subst (λ (c : Config). RefusesClose c seats why) same refused) told

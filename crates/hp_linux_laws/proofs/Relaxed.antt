-- Relaxed rows keep what the machine's rows keep: four leaves more of one walk.
use Rattle.std.proofs.Common.{◌≡◌, ◌↔◌, ℕ, ◌+◌, ◌-◌, ◌<◌, ◌≤◌, refl, sym, subst, arith, inl, inr}
use Rattle.std.specs.Prelude.{Bool, is_some, nat_le, nat_lt, Option, Some, List, [], ◌∷◌}
use Rattle.hp_base.specs.Numbers.{put}
use Rattle.hp_base.specs.declared.event.Event.{Event}
use Rattle.hp_base.specs.declared.event.Event.TheVariants.{Begin, Step, Kill, Resize}
use Rattle.hp_base.proofs.Puts.{put2_same}
use Rattle.hp_machine.specs.State.{Geometry, Pool, State, pool_of, with_pool, is_dead, is_killed}
use Rattle.hp_machine.specs.Events.{CallRow, CallRows, RunBy, opening, lives_after}
use Rattle.hp_machine.specs.Headline.{Headline, IsBelow}
use Rattle.hp_machine.specs.declared.outcome.Life.{Life}
use Rattle.hp_machine.specs.declared.outcome.Outcome.{Outcome}
use Rattle.hp_machine.specs.declared.touch.Committed.{Committed}
use Rattle.hp_machine.specs.declared.touch.Found.{Found}
use Rattle.hp_machine.specs.declared.touch.Locked.{Locked}
use Rattle.hp_machine.specs.declared.touch.TouchPhase.{TouchPhase}
use Rattle.hp_machine.specs.declared.touch.TouchPhase.TheVariants as touch
use Rattle.hp_machine.specs.declared.punch.Want.{Want}
use Rattle.hp_machine.specs.declared.punch.PunchPhase.{PunchPhase}
use Rattle.hp_machine.specs.declared.punch.PunchPhase.TheVariants as punch
use Rattle.hp_machine.specs.declared.call.Call.{Call}
use Rattle.hp_machine.specs.declared.call.Call.TheVariants as call
use Rattle.hp_machine.specs.declared.call.Turn.{Turn}
use Rattle.hp_laws.specs.Laws.{NeverShort}
use Rattle.hp_laws.proofs.ByWrite.{keeps_inv}
use Rattle.hp_laws.proofs.Cover.{can_settle}
use Rattle.hp_laws.proofs.Deciding.{lt}
use Rattle.hp_laws.proofs.Did.{Did, Stepped, put_in, times_next, went}
use Rattle.hp_laws.proofs.Invariant.{Inv}
use Rattle.hp_laws.proofs.Passing.{reached_not_passed}
use Rattle.hp_laws.proofs.Reaching.{AllReached, Finds, TouchFinds, call_finds, none_to_find, placed_reached, step_reaches}
use Rattle.hp_laws.proofs.Runs.{Always, Lives, headline_of, life_set, lives_on, opens_reached, opens_well, row_keeps, row_reaches}
use Rattle.hp_laws.proofs.Runs.{settled_of}
use Rattle.hp_laws.proofs.Shared.{by_test, by_option, reach_at, stands_at}
use Rattle.hp_laws.proofs.Standing.{in_next}
use Rattle.hp_laws.proofs.Steps.{as_told, call_did}
use Rattle.hp_laws.proofs.TouchDid.{below_size, no_page, not_none, some_page}
use Rattle.hp_laws.proofs.Writes.{Enters, Nothing, Places}
use Rattle.hp_counterexamples.specs.Runs.{with_calls}
use Rattle.hp_linux.specs.Rows.{PageFirstRow, UnsizedCommittedRow, UnsizedFoundRow}
use Rattle.hp_linux_laws.specs.MayRows.{PunchPassesRow}
use Rattle.hp_linux_laws.specs.RelaxedRows.{AllButBelow, IsKeptBy, LookingEitherWay, RelaxedRow}

-- a page that is placed without a look at the size: below it, or a truncation has yet to pass
places_did : (s : State) (t : ℕ) (grant : Bool) (p : Committed) (turn : Turn TouchPhase) (new : Pool) → Inv s.geometry s
    → s.calls t ≡ Some (call.Touch (touch.Committed p)) → UnsizedCommittedRow (pool_of s) grant p turn new
    → Did call.Touch s t (touch.Committed p) turn new
places_did s t grant p turn new h e row =
    let y = stands_at s t _ h e in
    by_test grant row
    (λ granted r. went call.Touch s t (touch.Committed p) _ turn new (Places p.touch.file p.touch.index p.held) r
    (λ _ _. omega arith) (record {
      file = y.facts.aim.file;
      index = y.facts.aim.index;
      same = refl;
      some = refl;
      none = refl;
      balance = refl;
      owed = refl;
      marked = y.facts.marked;
      bare = y.facts.bare;
      held = y.slot;
      nobody = reached_not_passed s.geometry s p.touch.file p.touch.index h (reach_at s t _ h e);
      fill = tt;
      own = record {
        slot = y.slot;
        lock = tt;
        facts = record { aim = y.facts.aim; cached = not_none _ p.held (put2_same s.pages p.touch.file p.touch.index (Some p.held)) };
      };
    }))
    (λ denied r. went call.Touch s t (touch.Committed p) _ turn new Nothing r (λ _ _. omega arith)
    (record { same = refl; fill = reach_at s t _ h e; own = record { slot = y.slot; lock = tt; facts = y.facts } }))

-- an index that is passed
passes_did : (s : State) (t : ℕ) (p : Want) (turn : Turn PunchPhase) (new : Pool) → Inv s.geometry s
    → s.calls t ≡ Some (call.Punch (punch.Want p)) → PunchPassesRow (pool_of s) p turn new → Did call.Punch s t (punch.Want p) turn new
passes_did s t p turn new h e row =
    let y = stands_at s t _ h e in
    by_test (nat_lt (p.index + 1) (p.hole.from + p.hole.len)) row
    (λ further r. went call.Punch s t (punch.Want p) _ turn new Nothing r
    (λ _ m. let z = lt _ _ further in
    let w = times_next (p.hole.from + p.hole.len - (p.index + 1)) (p.hole.from + p.hole.len - (p.index + 1 + 1)) (6 + s.geometry.tasks)
    (omega arith) in omega arith)
    (record {
      same = refl;
      fill = tt;
      own = record { slot = tt; lock = y.lock; facts = record { aim = in_next s.geometry p.hole.len y.facts.aim (lt _ _ further) } };
    }))
    (λ last r. went call.Punch s t (punch.Want p) _ turn new Nothing r (λ _ _. omega arith)
    (record { same = refl; fill = tt; own = record { slot = tt; lock = y.lock; facts = record { file = y.facts.aim.file } } }))

-- a page that is translated without a look at the size
translates_did : (s : State) (t : ℕ) (grant : Bool) (p : Found) (turn : Turn TouchPhase) (new : Pool) → Inv s.geometry s
    → s.calls t ≡ Some (call.Touch (touch.Found p)) → UnsizedFoundRow (pool_of s) t grant p turn new
    → Did call.Touch s t (touch.Found p) turn new
translates_did s t grant p turn new h e row =
    let y = stands_at s t _ h e in
    by_test grant row
    (λ granted r. went call.Touch s t (touch.Found p) _ turn new (Enters p.touch.vpn r.0 p.touch.access) r.4 (λ _ _. omega arith) (record {
      reader = refl;
      place = (p.touch.file, p.touch.index);
      word = r.1;
      placed = r.3;
      same = refl;
      found = y.facts.aim.found;
      page = r.2;
      aim = refl;
      held = y.slot;
      fill = tt;
      own = record { slot = y.slot; lock = tt; facts = tt };
    }))
    (λ denied r. went call.Touch s t (touch.Found p) _ turn new Nothing r (λ _ _. omega arith)
    (record { same = refl; fill = tt; own = record { slot = y.slot; lock = tt; facts = tt } }))

-- a page that is looked for before the size is
looks_did : (s : State) (t : ℕ) (p : Locked) (turn : Turn TouchPhase) (new : Pool) → Inv s.geometry s
    → s.calls t ≡ Some (call.Touch (touch.Locked p)) → PageFirstRow (pool_of s) p turn new → Did call.Touch s t (touch.Locked p) turn new
looks_did s t p turn new h e row =
    let y = stands_at s t _ h e in
    by_test (is_some (s.pages p.touch.file p.touch.index)) row
    (λ page r. went call.Touch s t (touch.Locked p) _ turn new Nothing r (λ _ _. omega arith) (record {
      same = refl;
      fill = tt;
      own = record { slot = y.slot; lock = tt; facts = record { aim = y.facts.aim; cached = some_page _ page } };
    }))
    (λ none r. by_test (nat_le (s.size p.touch.file) p.touch.index) r
    (λ beyond r. went call.Touch s t (touch.Locked p) _ turn new Nothing r (λ _ _. omega arith)
    (record { same = refl; fill = tt; own = record { slot = y.slot; lock = tt; facts = tt } }))
    (λ below r. went call.Touch s t (touch.Locked p) _ turn new Nothing r (λ _ _. omega arith) (record {
      same = refl;
      fill = inl (below_size p.touch.index (s.size p.touch.file) below);
      own = record { slot = y.slot; lock = tt; facts = record { aim = y.facts.aim; bare = no_page _ none } };
    })))

-- ---- steps

-- each step by these rows wrote what fits
abbrev AllFit : CallRows → Type 0
AllFit rows =
    (s : State) (t : ℕ) (killed grant : Bool) (c : Call) (o : Outcome) (new : Pool) (next : Option Call)
    → Inv s.geometry s → 1 ≤ t → t < s.geometry.tasks + 1 → s.calls t ≡ Some c → rows (pool_of s) t killed grant c o new next
    → Stepped s t c o new next

-- and finds only what is reached
abbrev AllFind : CallRows → Type 0
AllFind rows =
    (s : State) (t : ℕ) (killed grant : Bool) (c : Call) (o : Outcome) (new : Pool) (next : Option Call)
    → Inv s.geometry s → s.calls t ≡ Some c → rows (pool_of s) t killed grant c o new next → Finds s t new next

-- relaxed rows do
relaxed_fit : AllFit RelaxedRow
unfolding RelaxedRow CallRow
relaxed_fit s t killed grant (call.Touch (touch.Committed p)) o new next h one l e (turn, inl row, tells, last) =
    call_did s t killed grant (call.Touch (touch.Committed p)) o new next h one l e (turn, row, tells, last)
relaxed_fit s t killed grant (call.Touch (touch.Committed p)) o new next h one l e (turn, inr row, tells, last) =
    as_told call.Touch s t (touch.Committed p) turn new o next tells last (places_did s t grant p turn new h e row)
relaxed_fit s t killed grant (call.Touch (touch.Found p)) o new next h one l e (turn, inl row, tells, last) =
    call_did s t killed grant (call.Touch (touch.Found p)) o new next h one l e (turn, row, tells, last)
relaxed_fit s t killed grant (call.Touch (touch.Found p)) o new next h one l e (turn, inr row, tells, last) =
    as_told call.Touch s t (touch.Found p) turn new o next tells last (translates_did s t grant p turn new h e row)
relaxed_fit s t killed grant (call.Punch (punch.Want p)) o new next h one l e (turn, inl row, tells, last) =
    call_did s t killed grant (call.Punch (punch.Want p)) o new next h one l e (turn, row, tells, last)
relaxed_fit s t killed grant (call.Punch (punch.Want p)) o new next h one l e (turn, inr row, tells, last) =
    as_told call.Punch s t (punch.Want p) turn new o next tells last (passes_did s t p turn new h e row)
relaxed_fit s t killed grant c o new next h one l e row = call_did s t killed grant c o new next h one l e row

relaxed_find : AllFind RelaxedRow
unfolding RelaxedRow CallRow
relaxed_find s t killed grant (call.Touch (touch.Committed p)) o new next h e (turn, inl row, tells, last) =
    call_finds s t killed grant (call.Touch (touch.Committed p)) o new next h e (turn, row, tells, last)
relaxed_find s t killed grant (call.Touch (touch.Committed p)) o new next h e (turn, inr row, tells, last) =
    subst (Finds s t new) (sym last) (by_test grant row
    (λ _ r. put_in (TouchFinds s t) r (placed_reached s t p h e))
    (λ _ r. put_in (TouchFinds s t) r tt))
relaxed_find s t killed grant (call.Touch (touch.Found p)) o new next h e (turn, inl row, tells, last) =
    call_finds s t killed grant (call.Touch (touch.Found p)) o new next h e (turn, row, tells, last)
relaxed_find s t killed grant (call.Touch (touch.Found p)) o new next h e (turn, inr row, tells, last) =
    subst (Finds s t new) (sym last) (by_test grant row
    (λ _ r. put_in (TouchFinds s t) r.4 tt)
    (λ _ r. put_in (TouchFinds s t) r tt))
relaxed_find s t killed grant (call.Punch (punch.Want p)) o new next h e (turn, inl row, tells, last) =
    call_finds s t killed grant (call.Punch (punch.Want p)) o new next h e (turn, row, tells, last)
relaxed_find s t killed grant (call.Punch (punch.Want p)) o new next h e (turn, inr row, tells, last) =
    subst (Finds s t new) (sym last) (none_to_find call.Punch s t turn new (λ p. refl))
relaxed_find s t killed grant c o new next h e row = call_finds s t killed grant c o new next h e row

-- of a touch that looks for its page first the one alone holds
either_fit : AllFit LookingEitherWay
unfolding LookingEitherWay CallRow
either_fit s t killed grant (call.Touch (touch.Locked p)) o new next h one l e (turn, inl row, tells, last) =
    call_did s t killed grant (call.Touch (touch.Locked p)) o new next h one l e (turn, row, tells, last)
either_fit s t killed grant (call.Touch (touch.Locked p)) o new next h one l e (turn, inr row, tells, last) =
    as_told call.Touch s t (touch.Locked p) turn new o next tells last (looks_did s t p turn new h e row)
either_fit s t killed grant c o new next h one l e row = relaxed_fit s t killed grant c o new next h one l e row

-- ---- runs

-- what an event does to what every event keeps, where steps wrote what fits
event_keeps : (rows : CallRows) → AllFit rows → (s : State) (event : Event) (o : Outcome) (n : State) → Always s
    → with_calls rows s event o n → Always n
event_keeps rows fit s (Step t grant) o n h row =
    by_test (is_dead (s.life t)) row
    (λ dead r. subst Always (sym r.1) h)
    (λ lives r. by_option (s.calls t) r
    (λ none r. subst Always (sym r.1) h)
    (λ c some r. let is = h.lives.there t lives in
    let low : t < s.geometry.tasks + 1 = (let a = is.1 in omega arith) in
    let k = keeps_inv s t c o r.0 r.1 h.inv is.0 low some (fit s t (is_killed (s.life t)) grant c o r.0 r.1 h.inv is.0 low some r.2) in
    subst Always (sym r.3) (record {
      inv = moved s t r.0 r.1 (lives_after s.life t c r.1) k;
      lives = subst (λ (g : Geometry). Lives g.tasks (lives_after s.life t c r.1) (put s.calls t r.1))
          (sym k.geometry) (lives_on s.geometry.tasks s.life s.calls t c r.1 h.lives some);
    })))
  where
    moved : (s : State) (t : ℕ) (pool : Pool) (next : Option Call) (lives : ℕ → Life)
        → Inv s.geometry (record (with_pool s pool) { calls = put s.calls t next })
        → Inv pool.geometry (record (with_pool s pool) { life = lives; calls = put s.calls t next })
    moved s t pool next lives k =
        subst (λ (g : Geometry). Inv g (record (with_pool s pool) { life = lives; calls = put s.calls t next }))
        (sym k.geometry) (life_set s.geometry (record (with_pool s pool) { calls = put s.calls t next }) lives k)
event_keeps rows fit s (Begin t p) o n h row = row_keeps s (Begin t p) o n h row
event_keeps rows fit s (Kill t) o n h row = row_keeps s (Kill t) o n h row
event_keeps rows fit s (Resize size) o n h row = row_keeps s (Resize size) o n h row

run_keeps : (rows : CallRows) → AllFit rows → (s : State) (log : List (Event × Outcome)) (n : State) → Always s
    → RunBy (with_calls rows) s log n → Always n
run_keeps rows fit s [] n h e = subst Always (sym e) h
run_keeps rows fit s (e ∷ es) n h (mid, row, rest) = run_keeps rows fit mid es n (event_keeps rows fit s e.0 e.1 mid h row) rest

-- and to what is translated, where they find only what is reached
event_reaches : (rows : CallRows) → AllFit rows → AllFind rows → (s : State) (event : Event) (o : Outcome) (n : State) → Always s
    → AllReached s → with_calls rows s event o n → AllReached n
event_reaches rows fit find s (Step t grant) o n h k row =
    by_test (is_dead (s.life t)) row
    (λ dead r. subst AllReached (sym r.1) k)
    (λ lives r. by_option (s.calls t) r
    (λ none r. subst AllReached (sym r.1) k)
    (λ c some r. let is = h.lives.there t lives in
    let low : t < s.geometry.tasks + 1 = (let a = is.1 in omega arith) in
    let did = fit s t (is_killed (s.life t)) grant c o r.0 r.1 h.inv is.0 low some r.2 in
    let finds = find s t (is_killed (s.life t)) grant c o r.0 r.1 h.inv some r.2 in
    subst AllReached (sym r.3) (step_reaches s t c o r.0 r.1 h.inv some did finds k)))
event_reaches rows fit find s (Begin t p) o n h k row = row_reaches s (Begin t p) o n h k row
event_reaches rows fit find s (Kill t) o n h k row = row_reaches s (Kill t) o n h k row
event_reaches rows fit find s (Resize size) o n h k row = row_reaches s (Resize size) o n h k row

run_reaches : (rows : CallRows) → AllFit rows → AllFind rows → (s : State) (log : List (Event × Outcome)) (n : State) → Always s
    → AllReached s → RunBy (with_calls rows) s log n → AllReached n
run_reaches rows fit find s [] n h k e = subst AllReached (sym e) k
run_reaches rows fit find s (e ∷ es) n h k (mid, row, rest) =
    run_reaches rows fit find mid es n (event_keeps rows fit s e.0 e.1 mid h row) (event_reaches rows fit find s e.0 e.1 mid h k row) rest

-- behind every run
always_by : (rows : CallRows) → AllFit rows → IsKeptBy rows Always
always_by rows fit frames log s run = run_keeps rows fit (opening s.geometry frames) log s (opens_well s.geometry frames) run

-- no count lacks what a call is about to take
short_of : (s : State) → Always s → NeverShort s
short_of s h t l = can_settle s.geometry s t (s.calls t) h.inv (omega arith) refl (h.inv.stands t)

-- the headline holds behind every run by relaxed rows
pub relaxed_headline : IsKeptBy RelaxedRow Headline
relaxed_headline frames log s run =
    headline_of s (always_by RelaxedRow relaxed_fit frames log s run)
    (run_reaches RelaxedRow relaxed_fit relaxed_find (opening s.geometry frames) log s (opens_well s.geometry frames)
    (opens_reached s.geometry frames) run)

pub relaxed_never_short : IsKeptBy RelaxedRow NeverShort
relaxed_never_short frames log s run = short_of s (always_by RelaxedRow relaxed_fit frames log s run)

-- where a touch looks for its page first every law holds that rests on what every event keeps
pub kept_either_way : (law : State → Type 0) → ((s : State) → Always s → law s) → IsKeptBy LookingEitherWay law
kept_either_way law holds frames log s run = holds s (always_by LookingEitherWay either_fit frames log s run)

-- so all of the headline but one clause
pub either_rest : IsKeptBy LookingEitherWay AllButBelow
either_rest = kept_either_way AllButBelow (λ s kept. let h = kept.inv in record {
  agree = h.entries.agree;
  place = h.place.one;
  count = h.count;
  enough = h.enough;
  settled = settled_of s kept;
  used = h.used;
  within = h.quota;
})

pub either_never_short : IsKeptBy LookingEitherWay NeverShort
either_never_short = kept_either_way NeverShort short_of

-- that clause is all that lacks
pub rest_and_below : (s : State) → Headline s ↔ (AllButBelow s × IsBelow s)
rest_and_below s = (
  λ h. (
    record {
      agree = h.agree;
      place = h.place;
      count = h.count;
      enough = h.enough;
      settled = h.settled;
      used = h.used;
      within = h.within;
    },
    h.below,
  ),
  λ p. let h = p.0 in record {
    agree = h.agree;
    place = h.place;
    below = p.1;
    count = h.count;
    enough = h.enough;
    settled = h.settled;
    used = h.used;
    within = h.within;
  },
)

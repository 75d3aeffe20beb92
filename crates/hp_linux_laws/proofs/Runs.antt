-- Every run is a list of entries.
use Rattle.std.proofs.Common.{◌≡◌, ℕ, ◌+◌, ◌-◌, ◌<◌, refl, ap, sym, ◌∙◌, subst, arith, inl, inr, ◌⊎◌, ◌≢◌, ◌≤◌}
use Rattle.std.specs.Prelude.{◌&&◌, Bool, true, false, not, max, nat_lt, Option, Some, None, List, [], ◌∷◌, ◌++◌, nat_le}
use Rattle.hp_base.specs.Numbers.{put, total}
use Rattle.hp_base.specs.declared.event.Op.{Op}
use Rattle.hp_base.specs.declared.event.Op.TheVariants as op
use Rattle.hp_base.specs.declared.event.Event.{Event}
use Rattle.hp_base.specs.declared.event.Event.TheVariants.{Begin, Step, Kill, Resize}
use Rattle.hp_base.proofs.Puts.{put_other, put_tells, same_or_other, put_same}
use Rattle.hp_base.proofs.Totals.{total_none}
use Rattle.hp_frames.specs.declared.frame.FrameState.{FrameState}
use Rattle.std.proofs.lemmas.Bool.Decides.{nat_tests}
use Rattle.hp_frames.specs.declared.frame.FrameState.TheVariants as frame
use Rattle.hp_machine.specs.State.{Geometry, Pool, State, pool_of, with_pool, is_alive, is_dead, is_killed, actives}
use Rattle.hp_machine.specs.Events.{CallRows, BeginRow, KillRow, first, is_exit, opening}
use Rattle.hp_machine.specs.Resizes.{ResizeRow, GrowsTo, Retires, is_size}
use Rattle.hp_machine.specs.Views.{behind, ahead, hand}
use Rattle.hp_machine.specs.declared.outcome.Life.{Life}
use Rattle.hp_machine.specs.declared.outcome.Life.TheVariants as life
use Rattle.hp_machine.specs.declared.outcome.Outcome.{Outcome}
use Rattle.hp_machine.specs.declared.call.Call.{Call}
use Rattle.hp_machine.specs.declared.call.Call.TheVariants as call
use Rattle.hp_laws.proofs.Invariant.{each_call, sum_after}
use Rattle.hp_laws.proofs.Runs.{opens_well}
use Rattle.hp_laws.proofs.Shared.{by_test, by_option}
use Rattle.hp_counterexamples.specs.Runs.{with_calls}
use Rattle.hp_linux.specs.Late.{Happening, Does, LetsGo, LateRun, IsLeft, let_go}
use Rattle.hp_linux.specs.Whole.{Linux, begins, lacks, lent, paid}
use Rattle.hp_accounts.specs.Books.{Books, Mark, Away, opens}
use Rattle.hp_accounts.specs.Entries.{Resizes, IsResized, AllMay, ends, Frees}
use Rattle.hp_machine.specs.Headline.{Place, Free, Hand, Page, Retired, IsAt}
use Rattle.hp_linux_laws.specs.MayRows.{MayRow}
use Rattle.hp_linux_laws.specs.RepairedRows.{AccountedRow, RepairedRow}
use Rattle.hp_linux_laws.specs.Laws.{AreAmong}
use Rattle.hp_linux_laws.proofs.Standing.{Stands}
use Rattle.hp_linux_laws.proofs.Stepping.{From, Booked, books_of, tables_of, seen}
use Rattle.hp_linux_laws.proofs.Listing.{Known, begins_at, steps_known, same_books, all_may, all_careful, ends_joined, ignored_joined, kept}
use Rattle.hp_linux_laws.proofs.Touches.{touch_steps, repaired_touch_steps}
use Rattle.hp_linux_laws.proofs.Maps.{map_steps, repaired_map_steps}
use Rattle.hp_linux_laws.proofs.Allocs.{alloc_steps, repaired_alloc_steps}
use Rattle.hp_linux_laws.proofs.Punches.{punch_steps, repaired_punch_steps}
use Rattle.hp_linux_laws.proofs.Truncates.{truncate_steps, accounted_truncate_steps, repaired_truncate_steps}
use Rattle.hp_linux_laws.proofs.Unmaps.{unmap_steps, exit_steps}

-- a step by rows is booked, wherever it begins
abbrev pub AreBooked : (exact careful : Bool) → CallRows → Type 0
AreBooked exact careful rows =
    (c : Call) (k : From c) (killed grant : Bool) (told : Outcome) (new : Pool) (next : Option Call) → k.exact ≡ exact
    → k.careful ≡ careful → rows (pool_of k.state) k.task killed grant c told new next → Booked c k new next

pub may_booked : AreBooked false false MayRow
unfolding MayRow
may_booked (call.Touch p) k killed grant told new next e w (turn, r, tells, last) =
    subst (Booked _ k new) (sym last) (touch_steps p k killed grant turn new e r)
may_booked (call.Map p) k killed grant told new next e w (turn, r, tells, last) =
    subst (Booked _ k new) (sym last) (map_steps p k killed grant turn new e r)
may_booked (call.Alloc p) k killed grant told new next e w (turn, r, tells, last) =
    subst (Booked _ k new) (sym last) (alloc_steps p k killed grant turn new e r)
may_booked (call.Punch p) k killed grant told new next e w (turn, r, tells, last) =
    subst (Booked _ k new) (sym last) (punch_steps p k killed grant turn new e r)
may_booked (call.Truncate p) k killed grant told new next e w (turn, r, tells, last) =
    subst (Booked _ k new) (sym last) (truncate_steps p k killed grant turn new w e r)
may_booked (call.Unmap p) k killed grant told new next e w (turn, r, tells, last) =
    subst (Booked _ k new) (sym last) (unmap_steps p k killed grant turn new r)
may_booked (call.Exit p) k killed grant told new next e w (turn, r, tells, last) =
    subst (Booked _ k new) (sym last) (exit_steps p k killed grant turn new r)

pub accounted_booked : AreBooked true false AccountedRow
unfolding AccountedRow
accounted_booked (call.Touch p) k killed grant told new next e w (turn, r, tells, last) =
    subst (Booked _ k new) (sym last) (repaired_touch_steps p k killed grant turn new r)
accounted_booked (call.Map p) k killed grant told new next e w (turn, r, tells, last) =
    subst (Booked _ k new) (sym last) (repaired_map_steps p k killed grant turn new r)
accounted_booked (call.Alloc p) k killed grant told new next e w (turn, r, tells, last) =
    subst (Booked _ k new) (sym last) (repaired_alloc_steps p k killed grant turn new r)
accounted_booked (call.Punch p) k killed grant told new next e w (turn, r, tells, last) =
    subst (Booked _ k new) (sym last) (repaired_punch_steps p k killed grant turn new r)
accounted_booked (call.Truncate p) k killed grant told new next e w (turn, r, tells, last) =
    subst (Booked _ k new) (sym last) (accounted_truncate_steps p k killed grant turn new w r)
accounted_booked (call.Unmap p) k killed grant told new next e w (turn, r, tells, last) =
    subst (Booked _ k new) (sym last) (unmap_steps p k killed grant turn new r)
accounted_booked (call.Exit p) k killed grant told new next e w (turn, r, tells, last) =
    subst (Booked _ k new) (sym last) (exit_steps p k killed grant turn new r)

pub repaired_booked : AreBooked true true RepairedRow
unfolding RepairedRow
repaired_booked (call.Touch p) k killed grant told new next e w (turn, r, tells, last) =
    subst (Booked _ k new) (sym last) (repaired_touch_steps p k killed grant turn new r)
repaired_booked (call.Map p) k killed grant told new next e w (turn, r, tells, last) =
    subst (Booked _ k new) (sym last) (repaired_map_steps p k killed grant turn new r)
repaired_booked (call.Alloc p) k killed grant told new next e w (turn, r, tells, last) =
    subst (Booked _ k new) (sym last) (repaired_alloc_steps p k killed grant turn new r)
repaired_booked (call.Punch p) k killed grant told new next e w (turn, r, tells, last) =
    subst (Booked _ k new) (sym last) (repaired_punch_steps p k killed grant turn new r)
repaired_booked (call.Truncate p) k killed grant told new next e w (turn, r, tells, last) =
    subst (Booked _ k new) (sym last) (repaired_truncate_steps p k killed grant turn new w r)
repaired_booked (call.Unmap p) k killed grant told new next e w (turn, r, tells, last) =
    subst (Booked _ k new) (sym last) (unmap_steps p k killed grant turn new r)
repaired_booked (call.Exit p) k killed grant told new next e w (turn, r, tells, last) =
    subst (Booked _ k new) (sym last) (exit_steps p k killed grant turn new r)

-- and by rows that are among these
pub among_booked : (exact careful : Bool) (some all : CallRows) → AreAmong some all → AreBooked exact careful all
    → AreBooked exact careful some
among_booked exact careful some all are h c k killed grant told new next e w row =
    h c k killed grant told new next e w (are (pool_of k.state) k.task killed grant c told new next row)

-- the state's equation put in
known_at : (exact careful : Bool) (g : Geometry) (frames d : ℕ) (a b : State) → b ≡ a → Known exact careful g frames a d
    → Known exact careful g frames b d
known_at exact careful g frames d a b e h = subst (λ (s : State). Known exact careful g frames s d) (sym e) h

-- a call that begins holds and owes nothing
first_seen : (o : Op) → seen (Some (first o)) ≡ (None, 0, 0)
first_seen (op.Map f from len) = refl
first_seen (op.MapNoReserve f from len) = refl
first_seen (op.Unmap base) = refl
first_seen (op.Load v) = refl
first_seen (op.Store v w) = refl
first_seen (op.Alloc f from len k) = refl
first_seen (op.Punch f from len) = refl
first_seen (op.Truncate f new) = refl
first_seen op.Exit = refl

first_stands : (g : Geometry) (exact : Bool) (ms : _) (es : ℕ → Option ℕ) (m : Mark) (o : Op) → m ≡ Away
    → Stands g exact ms es m (Some (first o))
first_stands g exact ms es m (op.Map f from len) e = e
first_stands g exact ms es m (op.MapNoReserve f from len) e = e
first_stands g exact ms es m (op.Unmap base) e = e
first_stands g exact ms es m (op.Load v) e = e
first_stands g exact ms es m (op.Store v w) e = e
first_stands g exact ms es m (op.Alloc f from len k) e = e
first_stands g exact ms es m (op.Punch f from len) e = e
first_stands g exact ms es m (op.Truncate f new) e = e
first_stands g exact ms es m op.Exit e = e

begin_known : (exact careful : Bool) (g : Geometry) (frames : ℕ) (s : State) (d t : ℕ) (o : Op) → Known exact careful g frames s d
    → is_dead (s.life t) ≡ false
    → s.calls t ≡ None → Known exact careful g frames (record s { calls = put s.calls t (Some (first o)) }) d
begin_known exact careful g frames s d t o h alive e =
    let low : t < s.geometry.tasks + 1 = (let l = (h.lives.there t alive).1 in omega arith) in
    let next = Some (first o) in
    let owed : total (s.geometry.tasks + 1) (λ u. behind (put s.calls t next u)) + behind None
    ≡ total (s.geometry.tasks + 1) (λ u. behind (s.calls u)) + behind next =
    sum_after behind (s.geometry.tasks + 1) s.calls t None next low e in
    let promised : total (s.geometry.tasks + 1) (λ u. ahead (put s.calls t next u)) + ahead None
    ≡ total (s.geometry.tasks + 1) (λ u. ahead (s.calls u)) + ahead next =
    sum_after ahead (s.geometry.tasks + 1) s.calls t None next low e in
    let a = ap (λ p. p.1) (first_seen o) in
    let b = ap (λ p. p.2) (first_seen o) in
    record {
      es = h.es;
      may = h.may;
      cares = h.cares;
      accounts = h.accounts;
      marks = h.marks;
      booked = h.booked;
      hands = h.hands;
      shows = h.shows ∙ same_books (tables_of (pool_of s)) (tables_of (pool_of s)) h.hands h.hands h.marks h.booked.0 h.booked.1 _ _ _ _
          refl refl (omega arith) (omega arith);
      counts = h.counts;
      stands = each_call (λ u p. Stands s.geometry careful (s.mappings u) (s.entries u) (h.marks u) p) s.calls t next (λ u q. h.stands u)
          (first_stands s.geometry careful (s.mappings t) (s.entries t) (h.marks t) o
          (subst (Stands s.geometry careful (s.mappings t) (s.entries t) (h.marks t)) e (h.stands t)));
      ranges = h.ranges;
      fits = h.fits;
      lives = record {
        there = h.lives.there;
        busy = λ u p z. elim (same_or_other u t) [
          | inl q ↦ ap (λ (m : ℕ). is_dead (s.life m)) q ∙ alive
          | inr q ↦ h.lives.busy u p (sym (put_other s.calls t next u q) ∙ z)
        ];
      };
      held = λ u l. h.held u l ∙ elim (same_or_other u t) [
        | inl q ↦ ap (λ (m : ℕ). hand (s.calls m)) q ∙ (ap hand e ∙ (sym (ap (λ p. p.0) (first_seen o))
            ∙ (sym (ap hand (put_same s.calls t next)) ∙ ap (λ (m : ℕ). hand (put s.calls t next m)) (sym q))))
        | inr q ↦ sym (ap hand (put_other s.calls t next u q))
      ];
      late = h.late;
    }

kill_known : (exact careful : Bool) (g : Geometry) (frames : ℕ) (s : State) (d t : ℕ) → Known exact careful g frames s d
    → is_alive (s.life t) ≡ true
    → Known exact careful g frames (record s { life = put s.life t life.Killed }) d
kill_known exact careful g frames s d t h alive = record {
  es = h.es;
  may = h.may;
  cares = h.cares;
  accounts = h.accounts;
  hands = h.hands;
  marks = h.marks;
  booked = h.booked;
  shows = h.shows;
  counts = h.counts;
  stands = h.stands;
  ranges = h.ranges;
  fits = h.fits;
  lives = record {
    there = λ u a. elim (put_tells s.life t life.Killed u) [
      | inl q ↦ h.lives.there u (ap (λ (m : ℕ). is_dead (s.life m)) q.0 ∙ not_dead (s.life t) alive)
      | inr q ↦ h.lives.there u (sym (ap is_dead q.1) ∙ a)
    ];
    busy = λ u p a. elim (put_tells s.life t life.Killed u) [
      | inl q ↦ ap is_dead q.1
      | inr q ↦ ap is_dead q.1 ∙ h.lives.busy u p a
    ];
  };
  held = h.held;
  late = h.late;
}
  where
    not_dead : (l : Life) → is_alive l ≡ true → is_dead l ≡ false
    not_dead life.Alive e = refl
    not_dead life.Killed e = refl
    not_dead life.Dead e = (let z : false ≡ true = e in cc)

-- other frames come and go
resize_known : (exact careful : Bool) (g : Geometry) (frames : ℕ) (s : State) (d n : ℕ) (frame : ℕ → FrameState)
    → Known exact careful g frames s d
    → ((hs : ℕ → Option ℕ) (m : ℕ → Mark) (c e : ℕ) → IsResized (books_of s hs m c e) n frame)
    → Known exact careful g frames (with_pool s (record (pool_of s) { frames = n; frame = frame })) d
resize_known exact careful g frames s d n frame h is = record {
  es = h.es ++ (Resizes n frame ∷ []);
  may = all_may (opens g frames) h.es (Resizes n frame ∷ []) h.may
      (subst (λ (q : Books). AllMay q (Resizes n frame ∷ [])) (sym h.shows) (is h.hands h.marks h.booked.0 h.booked.1, tt));
  cares = λ tight. all_careful (opens g frames) h.es (Resizes n frame ∷ []) (h.cares tight) (tt, tt);
  accounts = λ tight. (let i = ignored_joined h.es (Resizes n frame ∷ []) in let j = h.accounts tight in omega arith);
  hands = h.hands;
  marks = h.marks;
  booked = h.booked;
  shows = ends_joined (opens g frames) h.es (Resizes n frame ∷ []) ∙ ap (λ (q : Books). ends q (Resizes n frame ∷ [])) h.shows;
  counts = h.counts;
  stands = h.stands;
  ranges = h.ranges;
  fits = h.fits;
  lives = h.lives;
  held = h.held;
  late = h.late;
}

grown : (s : State) (hs : ℕ → Option ℕ) (m : ℕ → Mark) (c e n : ℕ) (frame : ℕ → FrameState) → GrowsTo (pool_of s) n frame
    → IsResized (books_of s hs m c e) (max s.frames n) frame
grown s hs m c e n frame h = record {
  wide = omega arith;
  each = λ x l. elim (h.each x l) [ inl d ↦ inl d | inr d ↦ inr (inr d) ];
  fresh = h.fresh;
  beyond = h.beyond;
}

retired : (s : State) (hs : ℕ → Option ℕ) (m : ℕ → Mark) (c e k : ℕ) (frame : ℕ → FrameState) → Retires (pool_of s) k frame
    → IsResized (books_of s hs m c e) s.frames frame
retired s hs m c e k frame h = record {
  wide = omega arith;
  each = λ x l. elim (h.each x) [ inl d ↦ inl d | inr d ↦ inr (inl (d.1, d.2)) ];
  fresh = λ x l r. absurd (omega arith);
  beyond = λ x l. elim (h.each x) [ inl d ↦ d | inr d ↦ (let z = d.0 in absurd (omega arith)) ];
}

-- an event by rows that are booked keeps what is known
row_known : (exact careful : Bool) (rows : CallRows) → AreBooked exact careful rows
    → (g : Geometry) (frames : ℕ) (s : State) (d : ℕ) (e : Event) (o : Outcome)
    (n : State) → Known exact careful g frames s d → with_calls rows s e o n → Known exact careful g frames n d
unfolding BeginRow KillRow ResizeRow
row_known exact careful rows are g frames s d (Begin t p) o n h row =
    by_test (is_dead (s.life t)) row
    (λ dead r. known_at exact careful g frames d s n r.1 h)
    (λ lives r. by_option (s.calls t) r
    (λ none r. by_test (is_killed (s.life t) && not (is_exit p)) r
    (λ killed r. known_at exact careful g frames d s n r.1 h)
    (λ may r. known_at exact careful g frames d _ n r.1 (begin_known exact careful g frames s d t p h lives none)))
    (λ c some r. known_at exact careful g frames d s n r.1 h))
row_known exact careful rows are g frames s d (Step t grant) o n h row =
    by_test (is_dead (s.life t)) row
    (λ dead r. known_at exact careful g frames d s n r.1 h)
    (λ lives r. by_option (s.calls t) r
    (λ none r. known_at exact careful g frames d s n r.1 h)
    (λ c some r. known_at exact careful g frames d _ n r.3 (steps_known exact careful g frames s d t c r.0 r.1 h lives some
    (are c (begins_at exact careful g frames s d t c h lives some) (is_killed (s.life t)) grant o r.0 r.1 refl refl r.2))))
row_known exact careful rows are g frames s d (Kill t) o n h row =
    by_test (is_alive (s.life t)) row
    (λ alive r. known_at exact careful g frames d _ n r.1 (kill_known exact careful g frames s d t h alive))
    (λ not r. known_at exact careful g frames d s n r.1 h)
row_known exact careful rows are g frames s d (Resize size) o n h (pool, row, is) =
    by_test (is_size size) row
    (λ _ r. by_test (nat_lt (actives (pool_of s)) size) r.1
    (λ _ q. known_at exact careful g frames d _ n (is ∙ ap (with_pool s) q.2)
    (resize_known exact careful g frames s d (max s.frames size) r.0 h (λ hs m c e. grown s hs m c e size r.0 q.0)))
    (λ _ q. known_at exact careful g frames d _ n (is ∙ ap (with_pool s) q.2)
    (resize_known exact careful g frames s d s.frames r.0 h (λ hs m c e. retired s hs m c e _ r.0 q.0))))
    (λ _ r. known_at exact careful g frames d s n (is ∙ ap (with_pool s) r.1) h)

-- what is lent is owed, and what is counted pays the debt
lent_known : (exact careful : Bool) (g : Geometry) (frames : ℕ) (s : State) (d k : ℕ) → Known exact careful g frames s d
    → Known exact careful g frames (lent s k) (d + k)
lent_known exact careful g frames s d k h = record {
  es = h.es;
  may = h.may;
  cares = h.cares;
  accounts = h.accounts;
  hands = h.hands;
  marks = h.marks;
  booked = h.booked;
  shows = h.shows;
  counts = (let a = h.counts in omega arith);
  stands = h.stands;
  ranges = h.ranges;
  fits = h.fits;
  lives = h.lives;
  held = h.held;
  late = h.late;
}

paid_known : (exact careful : Bool) (g : Geometry) (frames : ℕ) (s : State) (d : ℕ) → Known exact careful g frames s d
    → Known exact careful g frames (paid s d).state (paid s d).debt
paid_known exact careful g frames s d h = record {
  es = h.es;
  may = h.may;
  cares = h.cares;
  accounts = h.accounts;
  hands = h.hands;
  marks = h.marks;
  booked = h.booked;
  shows = h.shows;
  counts = (let a = h.counts in omega arith);
  stands = h.stands;
  ranges = h.ranges;
  fits = h.fits;
  lives = h.lives;
  held = h.held;
  late = h.late;
}

-- and one of count and debt is 0
abbrev pub IsKnown : (exact careful : Bool) → Geometry → (frames : ℕ) → Linux → Type 0
IsKnown exact careful g frames l = Known exact careful g frames l.state l.debt × ((l.state.resv ≡ 0) ⊎ (l.debt ≡ 0))

-- a frame that is left becomes free
let_go_known : (exact careful : Bool) (g : Geometry) (frames : ℕ) (l : Linux) (x : ℕ) → IsLeft l x → IsKnown exact careful g frames l
    → IsKnown exact careful g frames (let_go l x)
let_go_known exact careful g frames l x (low, is, nobody) (h, one) =
    let s = l.state in
    let k = s.geometry.tasks + 1 + x in
    let freed = Frees k x ∷ [] in (
      record {
        es = h.es ++ freed;
        may = all_may (opens g frames) h.es freed h.may (subst (λ (q : Books). AllMay q freed) (sym h.shows) (there, tt));
        cares = λ tight. all_careful (opens g frames) h.es freed (h.cares tight) (tt, tt);
        accounts = λ tight. (let i = ignored_joined h.es freed in let j = h.accounts tight in omega arith);
        hands = put h.hands k None;
        marks = h.marks;
        booked = h.booked;
        shows = ends_joined (opens g frames) h.es freed ∙ ap (λ (q : Books). ends q freed) h.shows;
        counts = h.counts;
        stands = h.stands;
        ranges = h.ranges;
        fits = h.fits;
        lives = h.lives;
        held = λ u m. put_other h.hands k None u (other u m) ∙ h.held u m;
        late = λ u y m f. elim (put_tells h.hands k None u) [
          | inl q ↦ (let d : ◌≡◌ {A = Option ℕ} None (Some y) = sym q.1 ∙ f in absurd (cc))
          | inr q ↦ h.late u y m (sym q.1 ∙ f)
        ];
      },
      one,
    )
  where
    other : (u : ℕ) → u ≤ l.state.geometry.tasks → u ≢ l.state.geometry.tasks + 1 + x
    other u m = λ e. (omega arith)

    at_hand : (p : Place) → IsAt l.state.frame h.hands l.state.pages x p → h.hands (l.state.geometry.tasks + 1 + x) ≡ Some x
    at_hand Free a = (let d : frame.Free ≡ frame.Hand = sym a ∙ is in absurd (cc))
    at_hand (Hand u) a = by_task (nat_le u l.state.geometry.tasks) refl
      where
        by_task : (b : Bool) → nat_le u l.state.geometry.tasks ≡ b → h.hands (l.state.geometry.tasks + 1 + x) ≡ Some x
        by_task true e =
            let m : u ≤ l.state.geometry.tasks = grind (arith, nat_tests) in absurd (nobody u m (sym (h.held u m) ∙ a))
        by_task false e =
            let m : l.state.geometry.tasks < u = grind (arith, nat_tests) in ap h.hands (sym (h.late u x m a)) ∙ a
    at_hand (Page f i) a =
        let p = (kept exact careful g frames l.state l.debt h).place.pages f i x a in
        (let d : frame.Placed p.0 ≡ frame.Hand = sym p.1 ∙ is in absurd (cc))
    at_hand Retired a = (let d : frame.Retired ≡ frame.Hand = sym a ∙ is in absurd (cc))

    there : h.hands (l.state.geometry.tasks + 1 + x) ≡ Some x
    there = let o = (kept exact careful g frames l.state l.debt h).place.one.one x low in at_hand o.0 o.1

pub run_known : (exact careful : Bool) (rows : CallRows) → AreBooked exact careful rows → (g : Geometry) (frames : ℕ) (l : Linux)
    (hs : List Happening) (n : Linux) → IsKnown exact careful g frames l → LateRun (with_calls rows) l hs n
    → IsKnown exact careful g frames n
run_known exact careful rows are g frames l [] n h e = subst (IsKnown exact careful g frames) (sym e) h
run_known exact careful rows are g frames l (LetsGo x ∷ hs) n h (left, rest) =
    run_known exact careful rows are g frames (let_go l x) hs n (let_go_known exact careful g frames l x left h) rest
run_known exact careful rows are g frames l (Does e told ∷ hs) n h (mid, (s, row, is), rest) =
    run_known exact careful rows are g frames mid hs n (subst (IsKnown exact careful g frames) (sym is) (here s
    (row_known exact careful rows are g frames (lent l.state (lacks l.state e)) (l.debt + lacks l.state e) e told s
    (lent_known exact careful g frames l.state l.debt (lacks l.state e) h.0) row))) rest
  where
    one_nil : (r d : ℕ) → (r - d ≡ 0) ⊎ (d - r ≡ 0)
    one_nil r d = grind arith

    here : (s : State) → Known exact careful g frames s (l.debt + lacks l.state e)
        → IsKnown exact careful g frames (paid s (l.debt + lacks l.state e))
    here s k = (paid_known exact careful g frames s (l.debt + lacks l.state e) k, one_nil s.resv (l.debt + lacks l.state e))

-- a pool that opens
pub opens_known : (exact careful : Bool) (g : Geometry) (frames : ℕ) → IsKnown exact careful g frames (begins g frames)
opens_known exact careful g frames = (
  record {
    es = [];
    may = tt;
    cares = λ e. tt;
    accounts = λ e. refl;
    hands = λ _. None;
    marks = λ _. Away;
    booked = (0, 0);
    shows = same_books (tables_of (pool_of (opening g frames))) (tables_of (pool_of (opening g frames))) (λ _. None) (λ _. None)
        (λ _. Away) 0 0
        0 _ 0 _ refl refl (sym (total_none (g.tasks + 1))) (sym (total_none (g.tasks + 1)));
    counts = refl;
    stands = λ u. refl;
    ranges = λ u. tt;
    fits = (λ f. omega arith, λ f i x e. (let d : ◌≡◌ {A = Option ℕ} None (Some x) = e in absurd (cc)));
    lives = (opens_well g frames).lives;
    held = λ u l. refl;
    late = λ u x l f. (let d : ◌≡◌ {A = Option ℕ} None (Some x) = f in absurd (cc));
  },
  inr refl,
)

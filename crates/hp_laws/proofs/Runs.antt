-- Every row keeps the invariant, so every run does.
use Rattle.std.proofs.Common.{◌≡◌, ℕ, ◌+◌, ◌<◌, ◌≤◌, refl, ap, sym, ◌∙◌, subst, arith, inl, inr}
use Rattle.std.specs.Prelude.{Bool, true, false, ◌&&◌, not, Option, Some, None, List, [], ◌∷◌, nat_lt, nat_le, if◌then◌else◌}
use Rattle.std.proofs.lemmas.Bool.Decides.{nat_tests}
use Rattle.hp_base.specs.Numbers.{put, total}
use Rattle.hp_base.specs.Indices.{vacant, count_below}
use Rattle.hp_base.specs.declared.event.Op.{Op}
use Rattle.hp_base.specs.declared.event.Op.TheVariants as op
use Rattle.hp_base.specs.declared.event.Event.{Event}
use Rattle.hp_base.specs.declared.event.Event.TheVariants.{Begin, Step, Kill, Resize}
use Rattle.hp_base.proofs.Counting.{count_below_none}
use Rattle.hp_frames.proofs.Quotas.{none_within}
use Rattle.hp_base.proofs.Puts.{put_tells, same_or_other, put_same, put_other}
use Rattle.hp_base.proofs.Totals.{total_none, total_same}
use Rattle.hp_frames.specs.declared.frame.FrameState.{FrameState}
use Rattle.hp_frames.specs.declared.frame.FrameState.TheVariants as state
use Rattle.hp_machine.specs.State.{Geometry, Pool, State, pool_of, with_pool, is_alive, is_killed, is_dead}
use Rattle.hp_machine.specs.Events.{Row, CallRow, BeginRow, StepRow, KillRow, Run, IsReached, opening, first, is_exit, lives_after}
use Rattle.hp_machine.specs.Headline.{Headline, IsBelow, Place, Free, Hand, Page, Retired, IsAt, OnePlace, vacant_in}
use Rattle.hp_machine.specs.Views.{behind, ahead}
use Rattle.hp_machine.specs.declared.outcome.Life.{Life}
use Rattle.hp_machine.specs.declared.outcome.Life.TheVariants as life
use Rattle.hp_machine.specs.declared.outcome.Outcome.{Outcome}
use Rattle.hp_machine.specs.declared.call.Call.{Call}
use Rattle.hp_machine.specs.declared.call.Call.TheVariants as call
use Rattle.hp_laws.proofs.Deciding.{never}
use Rattle.hp_laws.proofs.Invariant
use Rattle.hp_laws.proofs.Invariant.{Inv, stays}
use Rattle.hp_laws.proofs.Passing.{to_pass_locked, locks_file}
use Rattle.hp_laws.proofs.Resizing.{reframed, resize_cases, shift_keeps}
use Rattle.hp_laws.proofs.Shared.{by_test, by_option}
use Rattle.hp_laws.proofs.ByWrite.{keeps_inv}
use Rattle.hp_laws.proofs.Reaching.{AllReached, call_finds, goes_first, step_reaches}
use Rattle.hp_laws.proofs.Steps.{call_did}

-- tasks that aren't there are dead, and a dead task has no call in flight
pub record Lives (tasks : ℕ) (lives : ℕ → Life) (calls : ℕ → Option Call) : Type 0 where
  pub there : (t : ℕ) → is_dead (lives t) ≡ false → (1 ≤ t) × (t ≤ tasks)
  pub busy : (t : ℕ) (c : Call) → calls t ≡ Some c → is_dead (lives t) ≡ false

-- what every event keeps
pub record Always (s : State) : Type 0 where
  pub inv : Inv s.geometry s
  pub lives : Lives s.geometry.tasks s.life s.calls

-- life stands for itself
pub life_set : (g : Geometry) (s : State) (lives : ℕ → Life) → Inv g s → Inv g (record s { life = lives })
life_set g s lives h =
    record {
      layout = h.layout;
      count = h.count;
      enough = h.enough;
      used = h.used;
      quota = h.quota;
      place = h.place;
      entries = h.entries;
      inside = h.inside;
      sweep = h.sweep;
      reach = h.reach;
      sizes = h.sizes;
      changes = h.changes;
      spares = h.spares;
      holders = h.holders;
      stands = h.stands;
    }

-- a call that begins keeps the invariant: its first phase stands on nothing
first_keeps : (s : State) (t : ℕ) (o : Op) → Inv s.geometry s → t < s.geometry.tasks + 1 → s.calls t ≡ None
    → Inv s.geometry (Invariant.to s t (Some (first o)))
first_keeps s t (op.Map f from len) h l e = stays s.geometry s t None _ h l e refl tt (record { slot = tt; lock = tt; facts = tt })
first_keeps s t (op.MapNoReserve f from len) h l e = stays s.geometry s t None _ h l e refl tt (record { slot = tt; lock = tt; facts = tt })
first_keeps s t (op.Unmap base) h l e = stays s.geometry s t None _ h l e refl tt (record { slot = tt; lock = tt; facts = tt })
first_keeps s t (op.Load v) h l e = stays s.geometry s t None _ h l e refl tt (record { slot = tt; lock = tt; facts = tt })
first_keeps s t (op.Store v w) h l e = stays s.geometry s t None _ h l e refl tt (record { slot = tt; lock = tt; facts = tt })
first_keeps s t (op.Alloc f from len k) h l e = stays s.geometry s t None _ h l e refl tt (record { slot = tt; lock = tt; facts = tt })
first_keeps s t (op.Punch f from len) h l e = stays s.geometry s t None _ h l e refl tt (record { slot = tt; lock = tt; facts = tt })
first_keeps s t (op.Truncate f new) h l e = stays s.geometry s t None _ h l e refl tt (record { slot = tt; lock = tt; facts = tt })
first_keeps s t op.Exit h l e = stays s.geometry s t None _ h l e refl tt (record { slot = tt; lock = tt; facts = tt })

-- one step of a call keeps the invariant
pub call_keeps : (s : State) (t : ℕ) (killed grant : Bool) (c : Call) (o : Outcome) (new : Pool) (next : Option Call)
    → Inv s.geometry s → 1 ≤ t → t < s.geometry.tasks + 1 → s.calls t ≡ Some c → CallRow (pool_of s) t killed grant c o new next
    → Inv s.geometry (record (with_pool s new) { calls = put s.calls t next })
call_keeps s t killed grant c o new next h one l e row =
    keeps_inv s t c o new next h one l e (call_did s t killed grant c o new next h one l e row)

-- a task dies only where no call is left
pub lives_on : (tasks : ℕ) (lives : ℕ → Life) (calls : ℕ → Option Call) (t : ℕ) (c : Call) (next : Option Call)
    → Lives tasks lives calls → calls t ≡ Some c → Lives tasks (lives_after lives t c next) (put calls t next)
lives_on tasks lives calls t c next h e = here c next refl
  where
    same : Lives tasks lives (put calls t next)
    same = record {
      there = h.there;
      busy = λ u d a. elim (same_or_other u t) [
        | inl q ↦ ap (λ (m : ℕ). is_dead (lives m)) q ∙ h.busy t c e
        | inr q ↦ h.busy u d (sym (put_other calls t next u q) ∙ a)
      ];
    }

    dies : next ≡ None → Lives tasks (put lives t life.Dead) (put calls t next)
    dies none = record {
      there = λ u a. elim (put_tells lives t life.Dead u) [
        | inl q ↦ (let z : true ≡ false = sym (ap is_dead q.1) ∙ a in absurd (cc))
        | inr q ↦ h.there u (sym (ap is_dead q.1) ∙ a)
      ];
      busy = λ u d a. elim (same_or_other u t) [
        | inl q ↦ (let z : ◌≡◌ {A = Option Call} None (Some d) = sym none
            ∙ (sym (put_same calls t next) ∙ (ap (put calls t next) (sym q) ∙ a)) in absurd (cc))
        | inr q ↦ ap is_dead (put_other lives t life.Dead u q) ∙ h.busy u d (sym (put_other calls t next u q) ∙ a)
      ];
    }

    here : (d : Call) (m : Option Call) → next ≡ m → Lives tasks (lives_after lives t d m) (put calls t next)
    here (call.Exit p) None q = dies q
    here (call.Exit p) (Some m) q = same
    here (call.Touch p) m q = same
    here (call.Map p) m q = same
    here (call.Alloc p) m q = same
    here (call.Punch p) m q = same
    here (call.Truncate p) m q = same
    here (call.Unmap p) m q = same

-- the state's equation put in
in_state : (a b : State) → b ≡ a → Always a → Always b
in_state a b e h = subst Always (sym e) h

-- each row keeps what every event keeps
pub row_keeps : (s : State) (event : Event) (o : Outcome) (n : State) → Always s → Row s event o n → Always n
unfolding BeginRow StepRow KillRow
row_keeps s (Begin t p) o n h row =
    by_test (is_dead (s.life t)) row
    (λ dead r. in_state s n r.1 h)
    (λ lives r. by_option (s.calls t) r
    (λ none r. by_test (is_killed (s.life t) && not (is_exit p)) r
    (λ killed r. in_state s n r.1 h)
    (λ may r. let is = h.lives.there t lives in in_state (Invariant.to s t (Some (first p))) n r.1 (record {
      inv = first_keeps s t p h.inv (let a = is.1 in omega arith) none;
      lives = record {
        there = h.lives.there;
        busy = λ u d a. elim (same_or_other u t) [
          | inl q ↦ ap (λ (m : ℕ). is_dead (s.life m)) q ∙ lives
          | inr q ↦ h.lives.busy u d (sym (put_other s.calls t (Some (first p)) u q) ∙ a)
        ];
      };
    })))
    (λ c some r. in_state s n r.1 h))
row_keeps s (Step t grant) o n h row =
    by_test (is_dead (s.life t)) row
    (λ dead r. in_state s n r.1 h)
    (λ lives r. by_option (s.calls t) r
    (λ none r. in_state s n r.1 h)
    (λ c some r. let is = h.lives.there t lives in
    let k = call_keeps s t (is_killed (s.life t)) grant c o r.0 r.1 h.inv is.0 (let a = is.1 in omega arith) some r.2 in
    in_state (record (with_pool s r.0) { life = lives_after s.life t c r.1; calls = put s.calls t r.1 }) n r.3
    (record {
      inv = moved s t r.0 r.1 (lives_after s.life t c r.1) k;
      lives = subst (λ (g : Geometry). Lives g.tasks (lives_after s.life t c r.1) (put s.calls t r.1))
          (sym k.geometry) (lives_on s.geometry.tasks s.life s.calls t c r.1 h.lives some);
    })))
  where
    moved : (s : State) (t : ℕ) (pool : Pool) (next : Option Call) (lives : ℕ → Life)
        → Inv s.geometry (record (with_pool s pool) { calls = put s.calls t next })
        → Inv pool.geometry (record (with_pool s pool) { life = lives; calls = put s.calls t next })
    moved s t pool next lives k =
        subst (λ (g : Geometry). Inv g (record (with_pool s pool) { life = lives; calls = put s.calls t next }))
        (sym k.geometry) (life_set s.geometry (record (with_pool s pool) { calls = put s.calls t next }) lives k)
row_keeps s (Kill t) o n h row =
    by_test (is_alive (s.life t)) row
    (λ alive r. in_state (record s { life = put s.life t life.Killed }) n r.1 (record {
      inv = life_set s.geometry s _ h.inv;
      lives = record {
        there = λ u a. elim (put_tells s.life t life.Killed u) [
          | inl q ↦ h.lives.there u (ap (λ (m : ℕ). is_dead (s.life m)) q.0 ∙ not_dead (s.life t) alive)
          | inr q ↦ h.lives.there u (sym (ap is_dead q.1) ∙ a)
        ];
        busy = λ u d a. elim (put_tells s.life t life.Killed u) [
          | inl q ↦ ap is_dead q.1
          | inr q ↦ ap is_dead q.1 ∙ h.lives.busy u d a
        ];
      };
    }))
    (λ not r. in_state s n r.1 h)
  where
    not_dead : (l : Life) → is_alive l ≡ true → is_dead l ≡ false
    not_dead life.Alive e = refl
    not_dead life.Killed e = refl
    not_dead life.Dead e = (let z : false ≡ true = e in cc)
row_keeps s (Resize size) o n h row = resize_cases s size o n (Always n) row
    (λ why _ d. in_state s n d h)
    (λ told m frame _ shifts covered d. in_state (reframed s m frame) n d (record {
      inv = shift_keeps s.geometry s m frame h.inv shifts (covered h.inv.enough);
      lives = h.lives;
    }))

-- and what is translated stays reached
pub row_reaches : (s : State) (event : Event) (o : Outcome) (n : State) → Always s → AllReached s → Row s event o n → AllReached n
unfolding BeginRow StepRow KillRow
row_reaches s (Begin t p) o n h k row =
    by_test (is_dead (s.life t)) row
    (λ dead r. subst AllReached (sym r.1) k)
    (λ lives r. by_option (s.calls t) r
    (λ none r. by_test (is_killed (s.life t) && not (is_exit p)) r
    (λ killed r. subst AllReached (sym r.1) k)
    (λ may r. subst AllReached (sym r.1) (goes_first s t p none k)))
    (λ c some r. subst AllReached (sym r.1) k))
row_reaches s (Step t grant) o n h k row =
    by_test (is_dead (s.life t)) row
    (λ dead r. subst AllReached (sym r.1) k)
    (λ lives r. by_option (s.calls t) r
    (λ none r. subst AllReached (sym r.1) k)
    (λ c some r. let is = h.lives.there t lives in
    let did = call_did s t (is_killed (s.life t)) grant c o r.0 r.1 h.inv is.0 (let a = is.1 in omega arith) some r.2 in
    let finds = call_finds s t (is_killed (s.life t)) grant c o r.0 r.1 h.inv some r.2 in
    subst AllReached (sym r.3) (step_reaches s t c o r.0 r.1 h.inv some did finds k)))
row_reaches s (Kill t) o n h k row =
    by_test (is_alive (s.life t)) row
    (λ alive r. subst AllReached (sym r.1) k)
    (λ not r. subst AllReached (sym r.1) k)
row_reaches s (Resize size) o n h k row = resize_cases s size o n (AllReached n) row
    (λ why _ d. subst AllReached (sym d) k)
    (λ told m frame _ shifts covered d. subst AllReached (sym d) k)

-- and the measures
pub measures_stay : (s : State) (event : Event) (o : Outcome) (n : State) → Always s → Row s event o n → n.geometry ≡ s.geometry
unfolding BeginRow StepRow KillRow
measures_stay s (Begin t p) o n h row =
    by_test (is_dead (s.life t)) row
    (λ dead r. ap (λ (m : State). m.geometry) r.1)
    (λ lives r. by_option (s.calls t) r
    (λ none r. by_test (is_killed (s.life t) && not (is_exit p)) r
    (λ killed r. ap (λ (m : State). m.geometry) r.1)
    (λ may r. ap (λ (m : State). m.geometry) r.1))
    (λ c some r. ap (λ (m : State). m.geometry) r.1))
measures_stay s (Step t grant) o n h row =
    by_test (is_dead (s.life t)) row
    (λ dead r. ap (λ (m : State). m.geometry) r.1)
    (λ lives r. by_option (s.calls t) r
    (λ none r. ap (λ (m : State). m.geometry) r.1)
    (λ c some r. let is = h.lives.there t lives in
    let k = call_keeps s t (is_killed (s.life t)) grant c o r.0 r.1 h.inv is.0 (let a = is.1 in omega arith) some r.2 in
    ap (λ (m : State). m.geometry) r.3 ∙ k.geometry))
measures_stay s (Kill t) o n h row =
    by_test (is_alive (s.life t)) row
    (λ alive r. ap (λ (m : State). m.geometry) r.1)
    (λ not r. ap (λ (m : State). m.geometry) r.1)
measures_stay s (Resize size) o n h row = resize_cases s size o n (n.geometry ≡ s.geometry) row
    (λ why _ d. ap (λ (m : State). m.geometry) d)
    (λ told m frame _ shifts covered d. ap (λ (m : State). m.geometry) d)

-- so does each run
pub run_keeps : (s : State) (es : List (Event × Outcome)) (n : State) → Always s → Run s es n → Always n
run_keeps s [] n h r = subst Always (sym r) h
run_keeps s (e ∷ es) n h r = run_keeps r.0 es n (row_keeps s e.0 e.1 r.0 h r.1) r.2

-- and it keeps what is translated reached
pub run_reaches : (s : State) (es : List (Event × Outcome)) (n : State) → Always s → AllReached s → Run s es n → AllReached n
run_reaches s [] n h k r = subst AllReached (sym r) k
run_reaches s (e ∷ es) n h k r =
    run_reaches r.0 es n (row_keeps s e.0 e.1 r.0 h r.1) (row_reaches s e.0 e.1 r.0 h k r.1) r.2

-- nothing is in use at first
opening_place : (frames : ℕ) → OnePlace frames (λ x. if nat_lt x frames then state.Free else state.Hand) (λ _. None) (λ _ _. None)
opening_place frames = record {
  one = λ x l. (Free, starts x l, λ q a. only x q a);
  real = λ x q a. within x q a;
}
  where
    at_first : ℕ → FrameState
    at_first x = if nat_lt x frames then state.Free else state.Hand

    starts : (x : ℕ) → x < frames → (if nat_lt x frames then state.Free else state.Hand) ≡ state.Free
    starts x l = ap (λ (b : Bool). if b then state.Free else state.Hand) (low x l)
      where
        low : (x : ℕ) → x < frames → nat_lt x frames ≡ true
        low x l = grind (arith, nat_tests)

    only : (x : ℕ) (q : Place) → IsAt (λ x. if nat_lt x frames then state.Free else state.Hand) (λ _. None) (λ _ _. None) x q → q ≡ Free
    only x Free a = refl
    only x (Hand t) a = (let d : ◌≡◌ {A = Option ℕ} None (Some x) = a in cc)
    only x (Page f i) a = (let d : ◌≡◌ {A = Option ℕ} None (Some x) = a in cc)
    only x Retired a = here (nat_lt x frames) a
      where
        here : (b : Bool) → (if b then state.Free else state.Hand) ≡ state.Retired → Retired ≡ Free
        here true d = (let z : state.Free ≡ state.Retired = d in absurd (cc))
        here false d = (let z : state.Hand ≡ state.Retired = d in absurd (cc))

    within : (x : ℕ) (q : Place) → IsAt (λ x. if nat_lt x frames then state.Free else state.Hand) (λ _. None) (λ _ _. None) x q → x < frames
    within x Free a = here (nat_lt x frames) refl a
      where
        here : (b : Bool) → nat_lt x frames ≡ b → (if b then state.Free else state.Hand) ≡ state.Free → x < frames
        here true e d = grind (arith, nat_tests)
        here false e d = (let z : state.Hand ≡ state.Free = d in absurd (cc))
    within x (Hand t) a = (let d : ◌≡◌ {A = Option ℕ} None (Some x) = a in absurd (cc))
    within x (Page f i) a = (let d : ◌≡◌ {A = Option ℕ} None (Some x) = a in absurd (cc))
    within x Retired a = (let d : Retired ≡ Free = only x Retired a in absurd (cc))

-- an empty option has no value
no_value : {A P : Type 0} {x : A} → ◌≡◌ {A = Option A} None (Some x) → P
no_value d = absurd (cc)

-- where nothing is reserved, nothing reserved is without a page
nothing_vacant : (limit : ℕ) → vacant limit (λ _. false) (λ _. None) ≡ 0
unfolding vacant
nothing_vacant limit = count_below_none _ limit (λ k l. refl)

-- the state in which a pool opens is well
pub opens_well : (g : Geometry) (frames : ℕ) → Always (opening g frames)
opens_well g frames = record {
  inv = record {
    layout = record { geometry = refl; ranges = λ t. tt; spread = λ t. omega arith };
    count = (
        let a : total (g.tasks + 1) (λ _. 0) ≡ 0 = total_none (g.tasks + 1) in
        let c : total g.files (λ f. vacant g.limit (λ _. false) (λ _. None)) ≡ 0 =
        total_same g.files (λ _. 0) _ (λ j l. nothing_vacant g.limit) ∙ total_none g.files in
        omega arith);
    enough = omega arith;
    used = (
        let a : total (g.tasks + 1) (λ _. 0) ≡ 0 = total_none (g.tasks + 1) in
        let c : total g.files (λ f. count_below (λ _. false) g.limit) ≡ 0 =
        total_same g.files (λ _. 0) _ (λ j l. count_below_none _ g.limit (λ k d. refl)) ∙ total_none g.files in
        omega arith);
    quota = none_within g.quota;
    place = record { one = opening_place frames; hands = λ t x d. no_value d; pages = λ f i x d. no_value d };
    entries = record { agree = λ t v x d. no_value d; owners = λ t v x d. no_value d };
    inside = record { bare = λ f i d. refl; within = λ f i d. never d };
    sweep = record { past = λ u f j d. never d; gone = λ u f j d. never d };
    reach = λ w. tt;
    sizes = λ f. omega arith;
    changes = λ f. sym (total_none (g.tasks + 1));
    spares = λ f. omega arith;
    holders = record { slot = λ k u d. no_value d; lock = λ f u d. no_value d };
    stands = λ u. record { slot = tt; lock = tt; facts = tt };
  };
  lives = record { there = λ t e. here t (nat_le 1 t && nat_le t g.tasks) refl e; busy = λ t c d. no_value d };
}
  where
    here : (t : ℕ) (b : Bool) → (nat_le 1 t && nat_le t g.tasks) ≡ b → is_dead (if b then life.Alive else life.Dead) ≡ false
        → (1 ≤ t) × (t ≤ g.tasks)
    here t true e d = (grind (arith, nat_tests), grind (arith, nat_tests))
    here t false e d = (let z : true ≡ false = d in absurd (cc))

-- and translates nothing
pub opens_reached : (g : Geometry) (frames : ℕ) → AllReached (opening g frames)
opens_reached g frames = record { below = λ t v x f i d e. no_value d; found = λ w. tt }

-- what holds in every reached state
pub always : (s : State) → IsReached s → Always s
always s (frames, (events, run)) = run_keeps (opening s.geometry frames) events s (opens_well s.geometry frames) run

-- and what is translated there is reached
pub all_reached : (s : State) → IsReached s → AllReached s
all_reached s (frames, (events, run)) =
    run_reaches (opening s.geometry frames) events s (opens_well s.geometry frames) (opens_reached s.geometry frames) run

-- so it lies below the size where no truncation is under way
pub below_of : (s : State) → Always s → AllReached s → IsBelow s
below_of s kept reached t v x f i d e unlocked = elim (reached.below t v x f i d e) [
  | inl l ↦ l
  | inr a ↦ (let y : s.locks f ≡ Some a.0 = locks_file s.geometry s a.0 f kept.inv
      (to_pass_locked (s.calls a.0) f i a.1) in no_value (sym unlocked ∙ y))
]

-- where no call owes anything the count is that of the vacant indices
pub settled_of : (s : State) → Always s → ((t : ℕ) → (behind (s.calls t) ≡ 0) × (ahead (s.calls t) ≡ 0)) → s.resv ≡ vacant_in s
settled_of s kept none =
    let a : total (s.geometry.tasks + 1) (λ u. behind (s.calls u)) ≡ 0 =
    total_same (s.geometry.tasks + 1) (λ _. 0) _ (λ j l. (none j).0) ∙ total_none (s.geometry.tasks + 1) in
    let b : total (s.geometry.tasks + 1) (λ u. ahead (s.calls u)) ≡ 0 =
    total_same (s.geometry.tasks + 1) (λ _. 0) _ (λ j l. (none j).1) ∙ total_none (s.geometry.tasks + 1) in
    let c = kept.inv.count in
    omega arith

-- so the headline holds of it
pub headline_of : (s : State) → Always s → AllReached s → Headline s
headline_of s kept reached =
    let h = kept.inv in
    record {
      agree = h.entries.agree;
      place = h.place.one;
      below = below_of s kept reached;
      count = h.count;
      enough = h.enough;
      settled = settled_of s kept;
      used = h.used;
      within = h.quota;
    }

-- and in every reached state
pub headline : (s : State) → IsReached s → Headline s
headline s reached = headline_of s (always s reached) (all_reached s reached)

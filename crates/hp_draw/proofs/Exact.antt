-- Waits go on where tasks wait, and nowhere else.
use Rattle.std.proofs.Common.{◌≡◌, ℕ, zero, suc, ◌+◌, ◌<◌, ◌≤◌, Bool, true, false, List, [], ◌∷◌, ◌++◌, length, Option, All, refl}
use Rattle.std.proofs.Common.{sym, ap, subst, ◌∙◌, arith, ◌-◌, get_or, inl, inr}
use Rattle.std.specs.Prelude.{Some, None, IfSome, ◌⊎◌, ◌==◌, slice_get, unwrap_or, if◌then◌else◌}
use Rattle.std.proofs.Math.Seq.{get_or-append_seam}
use Rattle.std.proofs.lemmas.Bool.{eq-eqb, eqb-true, true≢false}
use Rattle.std.proofs.lemmas.Bool.Decides.{eqb_tells}
use Rattle.std.proofs.lemmas.List.{get_or_append_left}
use Rattle.std.proofs.lemmas.List.Elements.{All-nil, All-append, All-weaker}
use Rattle.std.proofs.lemmas.Option.{none-some, slice_get_within}
use Rattle.hp_base.proofs.Puts.{same_or_other}
use Rattle.hp_base.specs.Text.{Sizes}
use Rattle.hp_core.specs.Acquiring.{acquired_of}
use Rattle.hp_core.specs.Readers.{config_of}
use Rattle.hp_core.specs.Runs.{Row}
use Rattle.hp_core.specs.State.{CoreState}
use Rattle.hp_core.specs.Waiting.{WaitsFor}
use Rattle.hp_core.specs.declared.acquiring.Acquired.{Acquired}
use Rattle.hp_draw.specs.Lists.{listed}
use Rattle.hp_watch.specs.Happenings.{Happening, Happens}
use Rattle.hp_watch.specs.Holders.{AreHolders, AreHoldersOf}
use Rattle.hp_draw.specs.Sketches.{AreWaits, Drawn, after, after_all, ended, nothing_drawn, waiting_then}
use Rattle.hp_draw.specs.Waits.{GoesOn, IsShown, is_for, wait_left, waiting_after, waiting_tasks, waits_left}
use Rattle.hp_draw.specs.declared.waits.Wait.{Wait}
use Rattle.hp_draw.specs.declared.waits.Waiting.{Waiting}
use Rattle.hp_draw.proofs.Columns.{listed_all, row_keeps, waiting_count}

-- ---- for whom a task waits, in the list of all

some_same : {A : Type 0} (x y : A) → Some x ≡ Some y → x ≡ y
some_same x y e = ap (λ o. unwrap_or o x) e

some_below : {A : Type 0} (xs : List (Option A)) (t : ℕ) (w : A) → get_or xs t None ≡ Some w → t < length xs
some_below [] t w e = absurd (none-some w e)
some_below (x ∷ xs) zero w e = omega arith
some_below (x ∷ xs) (suc t) w e =
    let below = some_below xs t w e in
    omega (arith, below)

get_waiting : (core : CoreState) (at : ℕ) (holders : List (Option ℕ)) (before : List (Option Waiting)) (n t : ℕ) → t < n
    → get_or (waiting_tasks core at holders before n) t None
    ≡ waiting_after (get_or before t None) at (get_or holders t None) (acquired_of core (suc t))
unfolding waiting_tasks
get_waiting core at holders before zero t lt = absurd (omega (arith, lt))
get_waiting core at holders before (suc n) t lt = elim (same_or_other t n) [
  | inl e ↦ last e
  | inr other ↦ earlier other (get_waiting core at holders before n t (omega (arith, lt, other)))
]
  where
    front : List (Option Waiting)
    front = waiting_tasks core at holders before n

    its : ℕ → Option Waiting
    its k = waiting_after (get_or before k None) at (get_or holders k None) (acquired_of core (suc k))

    counted : length front ≡ n
    counted = waiting_count core at holders before n

    last : t ≡ n → get_or (front ++ (its n ∷ [])) t None ≡ its t
    last e =
        let here = subst (λ (k : ℕ). get_or (front ++ (its n ∷ [])) k None ≡ its n) counted (get_or-append_seam front (its n) [] None) in
        subst (λ (k : ℕ). get_or (front ++ (its n ∷ [])) k None ≡ its k) (sym e) here

    earlier : (t ≡ n → ⊥) → get_or front t None ≡ its t → get_or (front ++ (its n ∷ [])) t None ≡ its t
    earlier other is =
        get_or_append_left front (its n ∷ []) None t (omega (arith, lt, other, counted)) ∙ is

-- ---- a wait goes on only while its task waits

-- a task that waits so has since then waited for that holder, as is known of each moment before
abbrev IsHeld : (P : ℕ → ℕ → ℕ → Type 0) → (column at : ℕ) → Waiting → Type 0
IsHeld P column at w = (w.since ≤ at) × ((k : ℕ) → w.since ≤ k → k < at → P k column w.holder)

abbrev IsRight : (P : ℕ → ℕ → ℕ → Type 0) → Wait → Type 0
IsRight P w = (k : ℕ) → GoesOn w k → P k w.column w.waiting.holder

held_on : (P : ℕ → ℕ → ℕ → Type 0) (column at x : ℕ) (u : Waiting) → u.holder ≡ x → IsHeld P column at u → P at column x
    → IsHeld P column (suc at) u
held_on P column at x u same held now = (
  omega (arith, held.0),
  λ k since lt. elim (same_or_other k at) [
    | inl is ↦ subst (λ (i : ℕ). P i column u.holder) (sym is) (subst (λ (y : ℕ). P at column y) (sym same) now)
    | inr other ↦ held.1 k since (omega (arith, lt, other))
  ],
)

held_now : (P : ℕ → ℕ → ℕ → Type 0) (column at x : ℕ) (a : Acquired) → P at column x
    → IsHeld P column (suc at) (record { since = at; holder = x; wanted = a })
held_now P column at x a now = (
  omega arith,
  λ k since lt.
      let here : at ≡ k = omega (arith, since, lt) in
      subst (λ (i : ℕ). P i column x) here now,
)

held_if : (P : ℕ → ℕ → ℕ → Type 0) (column at : ℕ) (c : Bool) (u : Waiting) (x : ℕ) (a : Acquired) (w : Waiting) → (u.holder == x) ≡ c
    → IsHeld P column at u → P at column x → (if c then Some u else Some (record { since = at; holder = x; wanted = a })) ≡ Some w
    → IsHeld P column (suc at) w
held_if P column at true u x a w same held now e =
    subst (IsHeld P column (suc at)) (some_same u w e) (held_on P column at x u (eqb-true u.holder x same) held now)
held_if P column at false u x a w same held now e =
    subst (IsHeld P column (suc at)) (some_same (record { since = at; holder = x; wanted = a }) w e) (held_now P column at x a now)

held_after : (P : ℕ → ℕ → ℕ → Type 0) (column at : ℕ) (b : Option Waiting) (holder : Option ℕ) (a : Acquired) (w : Waiting)
    → ((u : Waiting) → b ≡ Some u → IsHeld P column at u) → ((x : ℕ) → holder ≡ Some x → P at column x)
    → waiting_after b at holder a ≡ Some w → IsHeld P column (suc at) w
held_after P column at b None a w held now e = absurd (none-some w e)
held_after P column at None (Some x) a w held now e =
    subst (IsHeld P column (suc at)) (some_same (record { since = at; holder = x; wanted = a }) w e)
    (held_now P column at x a (now x refl))
held_after P column at (Some u) (Some x) a w held now e =
    held_if P column at (u.holder == x) u x a w refl (held u refl) (now x refl) e

if_right : (P : ℕ → ℕ → ℕ → Type 0) (column at : ℕ) (c : Bool) (w : Waiting) → IsHeld P column at w
    → IfSome (if c then None else Some (record { column = column; waiting = w; until = at })) (IsRight P)
if_right P column at true w held = tt
if_right P column at false w held = λ k goes. held.1 k goes.0 goes.1

left_right : (P : ℕ → ℕ → ℕ → Type 0) (column at : ℕ) (b now : Option Waiting) → ((u : Waiting) → b ≡ Some u → IsHeld P column at u)
    → IfSome (wait_left column at b now) (IsRight P)
left_right P column at None now held = tt
left_right P column at (Some w) now held = if_right P column at (is_for now w.holder) w (held w refl)

all_right : (P : ℕ → ℕ → ℕ → Type 0) (at : ℕ) (before now : List (Option Waiting)) (n : ℕ)
    → ((t : ℕ) (u : Waiting) → get_or before t None ≡ Some u → IsHeld P (suc t) at u) → All (IsRight P) (waits_left at before now n)
unfolding waits_left
all_right P at before now zero held = All-nil (IsRight P)
all_right P at before now (suc n) held =
    All-append (IsRight P) (waits_left at before now n) _ (all_right P at before now n held)
    (listed_all (IsRight P) _ (left_right P (suc n) at _ _ (held n)))

-- ---- a wait goes on wherever its task waits

-- a task waits at that moment, and goes on to
abbrev IsOpen : List (Option Waiting) → (t k : ℕ) → Type 0
IsOpen waiting t k = (u : Waiting) × (get_or waiting t None ≡ Some u) × (u.since ≤ k)

shown_left : (column at : ℕ) (xs ys : List Wait) → IsShown column at xs → IsShown column at (xs ++ ys)
shown_left column at [] ys none = absurd none
shown_left column at (w ∷ xs) ys (inl here) = inl here
shown_left column at (w ∷ xs) ys (inr there) = inr (shown_left column at xs ys there)

shown_right : (column at : ℕ) (xs ys : List Wait) → IsShown column at ys → IsShown column at (xs ++ ys)
shown_right column at [] ys there = there
shown_right column at (w ∷ xs) ys there = inr (shown_right column at xs ys there)

ends_if : (c : Bool) (column at k : ℕ) (w : Waiting) → c ≡ false → w.since ≤ k → k < at
    → IsShown column k (listed (if c then None else Some (record { column = column; waiting = w; until = at })))
ends_if true column at k w e since lt = absurd (true≢false e)
ends_if false column at k w e since lt = inl (refl, (since, lt))

all_shown : (at : ℕ) (before now : List (Option Waiting)) (n t k : ℕ) (u : Waiting) → t < n → get_or before t None ≡ Some u
    → is_for (get_or now t None) u.holder ≡ false → u.since ≤ k → k < at → IsShown (suc t) k (waits_left at before now n)
unfolding waits_left
all_shown at before now zero t k u lt is over since within = absurd (omega (arith, lt))
all_shown at before now (suc n) t k u lt is over since within = elim (same_or_other t n) [
  | inl e ↦ shown_right (suc t) k (waits_left at before now n) _
      (subst (λ (m : ℕ). IsShown (suc t) k (listed (wait_left (suc m) at (get_or before m None) (get_or now m None)))) e here)
  | inr other ↦ shown_left (suc t) k (waits_left at before now n) _
      (all_shown at before now n t k u (omega (arith, lt, other)) is over since within)
]
  where
    here : IsShown (suc t) k (listed (wait_left (suc t) at (get_or before t None) (get_or now t None)))
    here =
        subst (λ (b : Option Waiting). IsShown (suc t) k (listed (wait_left (suc t) at b (get_or now t None)))) (sym is)
        (ends_if (is_for (get_or now t None) u.holder) (suc t) at k u over since within)

on_if : (c : Bool) (at x : ℕ) (u : Waiting) (a : Acquired) → (u.holder == x) ≡ c
    → (is_for (if c then Some u else Some (record { since = at; holder = x; wanted = a })) u.holder ≡ false)
    ⊎ ((if c then Some u else Some (record { since = at; holder = x; wanted = a })) ≡ Some u)
on_if true at x u a same = inr refl
on_if false at x u a same = elim (eqb_tells x u.holder) [
  | inl alike ↦ absurd (true≢false (sym (eq-eqb u.holder x (sym alike.1)) ∙ same))
  | inr unlike ↦ inl unlike.0
]

-- a task that waited goes on to do so, or its wait is over
on_or_over : (at : ℕ) (u : Waiting) (holder : Option ℕ) (a : Acquired)
    → (is_for (waiting_after (Some u) at holder a) u.holder ≡ false) ⊎ (waiting_after (Some u) at holder a ≡ Some u)
on_or_over at u None a = inl refl
on_or_over at u (Some x) a = on_if (u.holder == x) at x u a refl

opens_if : (c : Bool) (at x : ℕ) (u : Waiting) (a : Acquired) → u.since ≤ at
    → (w : Waiting) × ((if c then Some u else Some (record { since = at; holder = x; wanted = a })) ≡ Some w) × (w.since ≤ at)
opens_if true at x u a le = (u, refl, le)
opens_if false at x u a le = (record { since = at; holder = x; wanted = a }, refl, omega arith)

-- one that has a holder waits from that moment on, or since before
opens : (at : ℕ) (b : Option Waiting) (x : ℕ) (a : Acquired) → ((u : Waiting) → b ≡ Some u → u.since ≤ at)
    → (w : Waiting) × (waiting_after b at (Some x) a ≡ Some w) × (w.since ≤ at)
opens at None x a le = (record { since = at; holder = x; wanted = a }, refl, omega arith)
opens at (Some u) x a le = opens_if (u.holder == x) at x u a (le u refl)

-- ---- event by event

-- what is drawn before that moment says no more of waits than P, and no less than Q
record IsExact (P : ℕ → ℕ → ℕ → Type 0) (Q : ℕ → ℕ → Type 0) (n at : ℕ) (d : Drawn) : Type 0 where
  short : length d.waiting ≤ n
  goes : (t : ℕ) (u : Waiting) → get_or d.waiting t None ≡ Some u → IsHeld P (suc t) at u
  over : All (IsRight P) d.waits
  all : (k t : ℕ) → k < at → Q k (suc t) → IsShown (suc t) k d.waits ⊎ IsOpen d.waiting t k

step : (P : ℕ → ℕ → ℕ → Type 0) (Q : ℕ → ℕ → Type 0) (n at : ℕ) (d : Drawn) (h : Happening) → (config_of h.core).tasks ≡ n
    → AreHolders h.core h.holders
    → ((t x : ℕ) → get_or h.holders t None ≡ Some x → P at (suc t) x)
    → ((t : ℕ) → Q at (suc t) → (x : ℕ) × (get_or h.holders t None ≡ Some x))
    → IsExact P Q n at d → IsExact P Q n (suc at) (after at d h)
unfolding after
step P Q n at d h same are tells asks e =
    record {
      short = omega (arith, counted, same);
      goes = λ t u is. held_after P (suc t) at (was t) (holder t) (wanted t) u (e.goes t) (tells t)
          (sym (reads t (omega (arith, counted, some_below now t u is))) ∙ is);
      over =
          All-append (IsRight P) d.waits (waits_left at d.waiting now (length d.waiting)) e.over
          (all_right P at d.waiting now (length d.waiting) e.goes);
      all = λ k t lt asked. elim (same_or_other k at) [
        | inl is ↦ begins k t is asked
        | inr other ↦ onward k t (omega (arith, lt, other)) (e.all k t (omega (arith, lt, other)) asked)
      ];
    }
  where
    tasks : ℕ
    tasks = (config_of h.core).tasks

    now : List (Option Waiting)
    now = waiting_then at d h

    counted : length now ≡ tasks
    counted = waiting_count h.core at h.holders d.waiting tasks

    was : ℕ → Option Waiting
    was t = get_or d.waiting t None

    holder : ℕ → Option ℕ
    holder t = get_or h.holders t None

    wanted : ℕ → Acquired
    wanted t = acquired_of h.core (suc t)

    reads : (t : ℕ) → t < tasks → get_or now t None ≡ waiting_after (was t) at (holder t) (wanted t)
    reads t lt = get_waiting h.core at h.holders d.waiting tasks t lt

    IsNow : (t k : ℕ) → Type 0
    IsNow t k = IsShown (suc t) k (d.waits ++ waits_left at d.waiting now (length d.waiting)) ⊎ IsOpen now t k

    begins : (k t : ℕ) → k ≡ at → Q k (suc t) → IsNow t k
    begins k t is asked =
        let got = asks t (subst (λ (i : ℕ). Q i (suc t)) is asked) in
        let below : t < tasks = omega (arith, some_below h.holders t got.0 got.1, are.0) in
        let opened = opens at (was t) got.0 (wanted t) (λ u u_is. (e.goes t u u_is).0) in
        let read = subst (λ (o : Option ℕ). get_or now t None ≡ waiting_after (was t) at o (wanted t)) got.1 (reads t below) in
        inr (opened.0, read ∙ opened.1, subst (λ (i : ℕ). (opened.0).since ≤ i) (sym is) opened.2)

    stays_on : (k t : ℕ) → k < at → (u : Waiting) → was t ≡ Some u → u.since ≤ k → IsNow t k
    stays_on k t lt u is since =
        let within = some_below d.waiting t u is in
        let below : t < tasks = omega (arith, within, e.short, same) in
        let read = subst (λ (o : Option Waiting). get_or now t None ≡ waiting_after o at (holder t) (wanted t)) is (reads t below) in
        elim (on_or_over at u (holder t) (wanted t)) [
          | inl over ↦ inl (shown_right (suc t) k d.waits (waits_left at d.waiting now (length d.waiting))
              (all_shown at d.waiting now (length d.waiting) t k u within is (ap (λ (o : Option Waiting). is_for o u.holder) read ∙ over)
              since lt))
          | inr on ↦ inr (u, read ∙ on, since)
        ]

    onward : (k t : ℕ) → k < at → IsShown (suc t) k d.waits ⊎ IsOpen d.waiting t k → IsNow t k
    onward k t lt (inl shown) = inl (shown_left (suc t) k d.waits (waits_left at d.waiting now (length d.waiting)) shown)
    onward k t lt (inr waits) = stays_on k t lt waits.0 waits.1 waits.2

-- what is known of the waits behind each event of a list, of which the first is that moment's
record Tells (P : ℕ → ℕ → ℕ → Type 0) (Q : ℕ → ℕ → Type 0) (at : ℕ) (list : List Happening) : Type 0 where
  tells : (k : ℕ) (h : Happening) → slice_get list k ≡ Some h → (t x : ℕ) → get_or h.holders t None ≡ Some x → P (at + k) (suc t) x
  asks : (k : ℕ) (h : Happening) → slice_get list k ≡ Some h → (t : ℕ) → Q (at + k) (suc t)
      → (x : ℕ) × (get_or h.holders t None ≡ Some x)

later : (P : ℕ → ℕ → ℕ → Type 0) (Q : ℕ → ℕ → Type 0) (at : ℕ) (h : Happening) (more : List Happening) → Tells P Q at (h ∷ more)
    → Tells P Q (suc at) more
later P Q at h more t =
    record {
      tells = λ k g is u x holds.
          let next : at + suc k ≡ suc at + k = omega arith in
          subst (λ (i : ℕ). P i (suc u) x) next (t.tells (suc k) g is u x holds);
      asks = λ k g is u asked.
          let next : suc at + k ≡ at + suc k = omega arith in
          t.asks (suc k) g is u (subst (λ (i : ℕ). Q i (suc u)) next asked);
    }

all_steps : (P : ℕ → ℕ → ℕ → Type 0) (Q : ℕ → ℕ → Type 0) (n at : ℕ) (d : Drawn) (old new : CoreState) (list : List Happening)
    → (config_of old).tasks ≡ n → Happens old list new → Tells P Q at list → IsExact P Q n at d
    → IsExact P Q n (at + length list) (after_all at d list)
unfolding after_all
all_steps P Q n at d old new [] same happens t e =
    let here : at ≡ at + 0 = omega arith in
    subst (λ (i : ℕ). IsExact P Q n i d) here e
all_steps P Q n at d old new (h ∷ more) same happens t e =
    let next : suc at + length more ≡ at + suc (length more) = omega arith in
    let kept : (config_of h.core).tasks ≡ n =
    ap (λ (s : Sizes). s.tasks) (row_keeps old h.core h.event h.outcome happens.0.0) ∙ same in
    let here : at + 0 ≡ at = omega arith in
    let first =
    step P Q n at d h kept happens.0.1 (λ u x holds. subst (λ (i : ℕ). P i (suc u) x) here (t.tells 0 h refl u x holds))
    (λ u asked. t.asks 0 h refl u (subst (λ (i : ℕ). Q i (suc u)) (sym here) asked)) e in
    subst (λ (i : ℕ). IsExact P Q n i (after_all (suc at) (after at d h) more)) next
    (all_steps P Q n (suc at) (after at d h) h.core new more kept happens.1 (later P Q at h more t) first)

-- ---- the whole run

holders_there : (old new : CoreState) (list : List Happening) (k : ℕ) (h : Happening) → Happens old list new
    → slice_get list k ≡ Some h → AreHolders h.core h.holders
holders_there old new [] k h happens is = absurd (none-some h is)
holders_there old new (g ∷ more) zero h happens is =
    subst (λ (x : Happening). AreHolders x.core x.holders) (some_same g h is) happens.0.1
holders_there old new (g ∷ more) (suc k) h happens is = holders_there g.core new more k h happens.1 is

-- a task isn't blocked by somebody and by nobody
not_both : (core : CoreState) (t holder : ℕ) → WaitsFor core t None → WaitsFor core t (Some holder) → ⊥
unfolding WaitsFor
not_both core t holder none some = none true holder core (some true)

some_holder : (core : CoreState) (t holder : ℕ) (o : Option ℕ) → WaitsFor core t o → WaitsFor core t (Some holder)
    → (x : ℕ) × (o ≡ Some x)
some_holder core t holder None is waits = absurd (not_both core t holder is waits)
some_holder core t holder (Some x) is waits = (x, refl)

-- behind that event of the run, the task waits for that holder
abbrev WaitsAt : List Happening → (k t x : ℕ) → Type 0
WaitsAt list k t x = (h : Happening) → slice_get list k ≡ Some h → WaitsFor h.core t (Some x)

-- or for some holder
abbrev WaitsThere : (tasks : ℕ) → List Happening → (k t : ℕ) → Type 0
WaitsThere tasks list k t = (h : Happening) × (holder : ℕ) × (slice_get list k ≡ Some h) × (t ≤ tasks) × WaitsFor h.core t (Some holder)

tells_all : (tasks : ℕ) (old new : CoreState) (list : List Happening) → Happens old list new
    → ((k : ℕ) (h : Happening) → slice_get list k ≡ Some h → length h.holders ≡ tasks)
    → Tells (WaitsAt list) (WaitsThere tasks list) 0 list
unfolding AreHoldersOf
tells_all tasks old new list happens count =
    record {
      tells = λ k h is t x holds g g_is.
          let are = holders_there old new list k h happens is in
          let below = some_below h.holders t x holds in
          let same : k ≡ 0 + k = omega arith in
          let one = some_same h g (sym is ∙ subst (λ (i : ℕ). slice_get list i ≡ Some g) (sym same) g_is) in
          let place : suc t - 1 ≡ t = omega arith in
          let waits = subst (λ (i : ℕ). WaitsFor h.core (suc t) (get_or h.holders i None)) place
          (are.1 (suc t) None (omega arith) (omega (arith, below))) in
          subst (λ (y : Happening). WaitsFor y.core (suc t) (Some x)) one (subst (WaitsFor h.core (suc t)) holds waits);
      asks = λ k h is t asked.
          let same : 0 + k ≡ k = omega arith in
          let there = subst (λ (i : ℕ). slice_get list i ≡ Some asked.0) same asked.2 in
          let one = some_same asked.0 h (sym there ∙ is) in
          let are = holders_there old new list k h happens is in
          let long = count k h is in
          let place : suc t - 1 ≡ t = omega arith in
          let waits = subst (λ (i : ℕ). WaitsFor h.core (suc t) (get_or h.holders i None)) place
          (are.1 (suc t) None (omega arith) (omega (arith, long, asked.3))) in
          some_holder h.core (suc t) asked.1 (get_or h.holders t None) waits
          (subst (λ (y : Happening). WaitsFor y.core (suc t) (Some asked.1)) one asked.4);
    }

-- each event leaves the pool's tasks as many as they are

kept : (n : ℕ) (old : CoreState) (g : Happening) → (config_of old).tasks ≡ n → Row old g.event g.outcome g.core
    → (config_of g.core).tasks ≡ n
kept n old g same row = ap (λ (s : Sizes). s.tasks) (row_keeps old g.core g.event g.outcome row) ∙ same

as_many : (n : ℕ) (old new : CoreState) (list : List Happening) → (config_of old).tasks ≡ n → Happens old list new
    → (k : ℕ) (h : Happening) → slice_get list k ≡ Some h → length h.holders ≡ n
as_many n old new [] same happens k h is = absurd (none-some h is)
as_many n old new (g ∷ more) same happens zero h is =
    subst (λ (x : Happening). length x.holders ≡ n) (some_same g h is) (happens.0.1.0 ∙ kept n old g same happens.0.0)
as_many n old new (g ∷ more) same happens (suc k) h is =
    as_many n g.core new more (kept n old g same happens.0.0) happens.1 k h is

nothing_yet : (P : ℕ → ℕ → ℕ → Type 0) (Q : ℕ → ℕ → Type 0) (tasks : ℕ) → IsExact P Q tasks 0 (nothing_drawn tasks)
nothing_yet P Q tasks =
    record {
      short = omega arith;
      goes = λ t u is. absurd (none-some u is);
      over = All-nil (IsRight P);
      all = λ k t lt asked. absurd (omega (arith, lt));
    }

-- the waits that are drawn of a run go on where tasks wait, and nowhere else
pub exact_waits : (tasks : ℕ) (first new : CoreState) (list : List Happening) → (config_of first).tasks ≡ tasks → Happens first list new
    → AreWaits tasks list (ended (length list) (after_all 0 (nothing_drawn tasks) list)).waits
exact_waits tasks first new list same happens =
    record {
      held =
          All-weaker (IsRight P) (λ w. (k : ℕ) (h : Happening) → GoesOn w k → slice_get list k ≡ Some h
          → WaitsFor h.core w.column (Some w.waiting.holder)) (λ w right k h goes is. right k goes h is) (d.waits ++ last)
          (All-append (IsRight P) d.waits last e.over (all_right P at d.waiting [] (length d.waiting) e.goes));
      shown = λ k t holder h is one within waits.
          let place : t ≡ suc (t - 1) = omega (arith, one) in
          let asked : Q k (suc (t - 1)) = subst (Q k) place (h, holder, is, within, waits) in
          subst (λ (i : ℕ). IsShown i k (d.waits ++ last)) (sym place)
          (closed k (t - 1) (slice_get_within list k h is) (e.all k (t - 1) (slice_get_within list k h is) asked));
    }
  where
    P : ℕ → ℕ → ℕ → Type 0
    P = WaitsAt list

    Q : ℕ → ℕ → Type 0
    Q = WaitsThere tasks list

    at : ℕ
    at = length list

    d : Drawn
    d = after_all 0 (nothing_drawn tasks) list

    e : IsExact P Q tasks at d
    e =
        let here : 0 + length list ≡ length list = omega arith in
        subst (λ (i : ℕ). IsExact P Q tasks i d) here
        (all_steps P Q tasks 0 (nothing_drawn tasks) first new list same happens
        (tells_all tasks first new list happens (as_many tasks first new list same happens)) (nothing_yet P Q tasks))

    last : List Wait
    last = waits_left at d.waiting [] (length d.waiting)

    closed : (k t : ℕ) → k < at → IsShown (suc t) k d.waits ⊎ IsOpen d.waiting t k → IsShown (suc t) k (d.waits ++ last)
    closed k t lt (inl shown) = shown_left (suc t) k d.waits last shown
    closed k t lt (inr waits) =
        shown_right (suc t) k d.waits last
        (all_shown at d.waiting [] (length d.waiting) t k waits.0 (some_below d.waiting t waits.0 waits.1) waits.1 refl waits.2 lt)

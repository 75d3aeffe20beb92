-- A resize: what its frames keep, and that there are such frames.
use Rattle.std.proofs.Common.{◌≡◌, ℕ, zero, suc, ◌+◌, ◌-◌, ◌<◌, ◌≤◌, refl, sym, ap, ◌∙◌, subst, arith, inl, inr, ◌⊎◌}
use Rattle.std.specs.Prelude.{Bool, true, false, max, min, nat_le, nat_lt, ◌&&◌, if◌then◌else◌, Option, Some, MatchBool}
use Rattle.std.proofs.lemmas.Bool.Decides.{nat_tests}
use Rattle.hp_base.specs.Numbers.{put, bit}
use Rattle.hp_base.specs.Indices.{count_below}
use Rattle.hp_base.specs.declared.event.Event.TheVariants.{Resize}
use Rattle.hp_base.proofs.Counting.{count_below-ext, count_below_none, count_below-not, count_below-pairs, count_below_mono, count_below_wider, count_below_full}
use Rattle.hp_base.proofs.Puts.{put_same, put_other, same_or_other}
use Rattle.hp_base.proofs.Totals.{count_below-change, count_below_somewhere}
use Rattle.hp_frames.specs.Bank.{is_free, is_retired, is_active}
use Rattle.hp_frames.proofs.Frames.{free_is, retired_is}
use Rattle.hp_frames.specs.declared.frame.FrameState.{FrameState}
use Rattle.hp_frames.specs.declared.frame.FrameState.TheVariants as state
use Rattle.hp_machine.specs.Headline.{Place, Free, Hand, Page, Retired, IsAt}
use Rattle.hp_machine.specs.Events.{Row}
use Rattle.hp_machine.specs.Resizes.{is_size, GrowsTo, Retires, ResizeRow, surplus}
use Rattle.hp_machine.specs.State.{Geometry, Pool, State, pool_of, with_pool, free_frames, active_frames, actives, frees}
use Rattle.hp_machine.specs.declared.outcome.Outcome.{Outcome}
use Rattle.hp_machine.specs.declared.outcome.Outcome.TheVariants as outcome
use Rattle.hp_machine.specs.declared.outcome.Refusal.{Refusal}
use Rattle.hp_machine.specs.declared.outcome.Refusal.TheVariants as refusal
use Rattle.hp_laws.proofs.Invariant.{Inv}
use Rattle.hp_laws.proofs.Moves.{Placing}
use Rattle.hp_laws.proofs.Shared.{by_test}

-- frame x is where it was
abbrev pub Stays : (n m : ℕ) → (was is : FrameState) → ℕ → Type 0
Stays n m was is x = (is ≡ was) × (x < m → x < n)

-- it was retired or not there, and is free
abbrev pub Comes : (n m : ℕ) → (was is : FrameState) → ℕ → Type 0
Comes n m was is x = (is ≡ state.Free) × (x < m) × ((was ≡ state.Retired) ⊎ (n ≤ x))

-- it was free, and is retired
abbrev pub Goes : (was is : FrameState) → Type 0
Goes was is = (was ≡ state.Free) × (is ≡ state.Retired)

-- what a resize does to the frames, whichever way it goes; there were n numbers, and are m
pub record Shifts (n m : ℕ) (states new : ℕ → FrameState) : Type 0 where
  pub wide : n ≤ m
  pub each : (x : ℕ) → Stays n m (states x) (new x) x ⊎ (Comes n m (states x) (new x) x ⊎ Goes (states x) (new x))

-- a frame is seen to be somewhere by its own state alone
at_same : (states new : ℕ → FrameState) (hands : ℕ → Option ℕ) (pages : ℕ → ℕ → Option ℕ) (x : ℕ) (p : Place) → new x ≡ states x
    → IsAt states hands pages x p → IsAt new hands pages x p
at_same states new hands pages x Free e a = e ∙ a
at_same states new hands pages x (Hand t) e a = a
at_same states new hands pages x (Page f i) e a = a
at_same states new hands pages x Retired e a = e ∙ a

-- a frame in a hand stays where it was
in_hand : (n m : ℕ) (states new : ℕ → FrameState) (hands : ℕ → Option ℕ) (pages : ℕ → ℕ → Option ℕ) (t x : ℕ)
    → Placing n states hands pages → Shifts n m states new → hands t ≡ Some x → new x ≡ states x
in_hand n m states new hands pages t x h k e = elim (k.each x) [
  | inl a ↦ a.0
  | inr (inl a) ↦ elim a.2 [
    | inl b ↦ (let z : state.Retired ≡ state.Hand = sym b ∙ h.hands t x e in absurd (cc))
    | inr b ↦ (let l = h.one.real x (Hand t) e in absurd (omega arith))
  ]
  | inr (inr a) ↦ (let z : state.Free ≡ state.Hand = sym a.0 ∙ h.hands t x e in absurd (cc))
]

-- and so does a page
pub on_page : (n m : ℕ) (states new : ℕ → FrameState) (hands : ℕ → Option ℕ) (pages : ℕ → ℕ → Option ℕ) (f i x : ℕ)
    → Placing n states hands pages → Shifts n m states new → pages f i ≡ Some x → new x ≡ states x
on_page n m states new hands pages f i x h k e = let w = h.pages f i x e in elim (k.each x) [
  | inl a ↦ a.0
  | inr (inl a) ↦ elim a.2 [
    | inl b ↦ (let z : state.Retired ≡ state.Placed w.0 = sym b ∙ w.1 in absurd (cc))
    | inr b ↦ (let l = h.one.real x (Page f i) e in absurd (omega arith))
  ]
  | inr (inr a) ↦ (let z : state.Free ≡ state.Placed w.0 = sym a.0 ∙ w.1 in absurd (cc))
]

-- each frame is still in one place
pub shifted : (n m : ℕ) (states new : ℕ → FrameState) (hands : ℕ → Option ℕ) (pages : ℕ → ℕ → Option ℕ)
    → Placing n states hands pages → Shifts n m states new → Placing m new hands pages
shifted n m states new hands pages h k = record {
  one = record { one = λ x l. one x l; real = λ x q a. real x q a };
  hands = λ t x e. in_hand n m states new hands pages t x h k e ∙ h.hands t x e;
  pages = λ f i x e. let w = h.pages f i x e in (w.0, on_page n m states new hands pages f i x h k e ∙ w.1);
}
  where
    -- a frame that is neither in a hand nor a page is where its state says
    only_free : (x : ℕ) → new x ≡ state.Free → (q : Place) → IsAt new hands pages x q → q ≡ Free
    only_free x e Free a = refl
    only_free x e (Hand t) a =
        (let z : state.Free ≡ state.Hand = sym e ∙ (in_hand n m states new hands pages t x h k a ∙ h.hands t x a) in absurd (cc))
    only_free x e (Page f i) a = (let w = h.pages f i x a in
        let z : state.Free ≡ state.Placed w.0 = sym e ∙ (on_page n m states new hands pages f i x h k a ∙ w.1) in absurd (cc))
    only_free x e Retired a = (let z : state.Free ≡ state.Retired = sym e ∙ a in absurd (cc))

    only_retired : (x : ℕ) → new x ≡ state.Retired → (q : Place) → IsAt new hands pages x q → q ≡ Retired
    only_retired x e Free a = (let z : state.Retired ≡ state.Free = sym e ∙ a in absurd (cc))
    only_retired x e (Hand t) a =
        (let z : state.Retired ≡ state.Hand = sym e ∙ (in_hand n m states new hands pages t x h k a ∙ h.hands t x a) in absurd (cc))
    only_retired x e (Page f i) a = (let w = h.pages f i x a in
        let z : state.Retired ≡ state.Placed w.0 = sym e ∙ (on_page n m states new hands pages f i x h k a ∙ w.1) in absurd (cc))
    only_retired x e Retired a = refl

    one : (x : ℕ) → x < m → (p : Place) × IsAt new hands pages x p × ((q : Place) → IsAt new hands pages x q → q ≡ p)
    one x l = elim (k.each x) [
      | inl a ↦ (let o = h.one.one x (a.1 l) in (
        o.0,
        at_same states new hands pages x o.0 a.0 o.1,
        λ q b. o.2 q (at_same new states hands pages x q (sym a.0) b),
      ))
      | inr (inl a) ↦ (Free, a.0, λ q b. only_free x a.0 q b)
      | inr (inr a) ↦ (Retired, a.1, λ q b. only_retired x a.1 q b)
    ]

    real : (x : ℕ) (q : Place) → IsAt new hands pages x q → x < m
    real x q b = let wide = k.wide in elim (k.each x) [
      | inl a ↦ (let l = h.one.real x q (at_same new states hands pages x q (sym a.0) b) in omega arith)
      | inr (inl a) ↦ a.1
      | inr (inr a) ↦ (let l = h.one.real x Free a.0 in omega arith)
    ]

-- a pool that grows shifts its frames
pub grows : (s : Pool) (n : ℕ) (frame : ℕ → FrameState) → GrowsTo s n frame → Shifts s.frames (max s.frames n) s.frame frame
grows s n frame h = record {
  wide = omega arith;
  each = λ x. by_number x (nat_lt x s.frames) refl (nat_lt x (max s.frames n)) refl;
}
  where
    by_number : (x : ℕ) (b : Bool) → nat_lt x s.frames ≡ b → (c : Bool) → nat_lt x (max s.frames n) ≡ c
        → Stays s.frames (max s.frames n) (s.frame x) (frame x) x
        ⊎ (Comes s.frames (max s.frames n) (s.frame x) (frame x) x ⊎ Goes (s.frame x) (frame x))
    by_number x true d c e =
        let l : x < s.frames = grind (arith, nat_tests) in
        elim (h.each x l) [ inl a ↦ inl (a, λ _. l) | inr a ↦ inr (inl (a.1, omega arith, inl a.0)) ]
    by_number x false d true e =
        let l : s.frames ≤ x = grind (arith, nat_tests) in
        let m : x < max s.frames n = grind (arith, nat_tests) in
        inr (inl (h.fresh x l m, m, inr l))
    by_number x false d false e = inl (h.beyond x (grind (arith, nat_tests)), λ m. absurd (grind (arith, nat_tests)))

-- so does one whose frames are retired
pub retires : (s : Pool) (k : ℕ) (frame : ℕ → FrameState) → Retires s k frame → Shifts s.frames s.frames s.frame frame
retires s k frame h = record {
  wide = omega arith;
  each = λ x. elim (h.each x) [ inl a ↦ inl (a, λ l. l) | inr a ↦ inr (inr (a.1, a.2)) ];
}

-- no fewer frames are free in a pool that grows
pub grown_frees : (s : Pool) (n : ℕ) (frame : ℕ → FrameState) → GrowsTo s n frame
    → frees s ≤ free_frames frame (max s.frames n)
unfolding free_frames
grown_frees s n frame h =
    let a = count_below_mono (λ x. is_free (s.frame x)) (λ x. is_free (frame x)) s.frames (λ x l e. elim (h.each x l) [
      | inl d ↦ ap is_free d ∙ e
      | inr d ↦ ap is_free d.1
    ]) in
    let b = count_below_wider (λ x. is_free (frame x)) s.frames (max s.frames n) (omega arith) in
    omega arith

-- as many free frames go as frames are retired
pub retired_frees : (s : Pool) (k : ℕ) (frame : ℕ → FrameState) → Retires s k frame → free_frames frame s.frames + k ≡ frees s
unfolding free_frames active_frames
retired_frees s k frame h =
    let a = count_below-pairs (λ x. is_free (s.frame x)) (λ x. is_active (frame x)) (λ x. is_active (s.frame x))
    (λ x. is_free (frame x)) s.frames (λ x l. elim (h.each x) [ inl d ↦ rw d (omega arith) | inr d ↦ rw (d.1, d.2) refl ]) in
    let c = h.count in
    omega arith

-- of frames in one state as many can be turned to another as there are
turn_some : (holds : FrameState → Bool) (a b : FrameState) → ((v : FrameState) → holds v ≡ true → v ≡ a) → holds b ≡ false
    → (f : ℕ → FrameState) (n k : ℕ) → k ≤ count_below (λ x. holds (f x)) n
    → (new : ℕ → FrameState) × (count_below (λ x. holds (new x)) n + k ≡ count_below (λ x. holds (f x)) n)
    × ((x : ℕ) → (new x ≡ f x) ⊎ ((x < n) × (f x ≡ a) × (new x ≡ b)))
turn_some holds a b is_a isnt_b f n zero l = (f, omega arith, λ x. inl refl)
turn_some holds a b is_a isnt_b f n (suc k) l =
    let o = count_below_somewhere (λ x. holds (f x)) n (omega arith) in
    let change = count_below-change (λ x. holds (f x)) (λ x. holds (put f o.0 b x)) o.0 n o.1 (λ j d. ap holds (put_other f o.0 b j d)) in
    let was : bit (holds (f o.0)) ≡ 1 = ap bit o.2 in
    let is : bit (holds (put f o.0 b o.0)) ≡ 0 = ap (λ (v : FrameState). bit (holds v)) (put_same f o.0 b) ∙ ap bit isnt_b in
    let rest = turn_some holds a b is_a isnt_b (put f o.0 b) n k (omega arith) in
    let count = rest.1 in
    (rest.0, omega arith, λ x. each o.0 o.1 (is_a (f o.0) o.2) rest.0 x (rest.2 x))
  where
    each : (y : ℕ) → y < n → f y ≡ a → (new : ℕ → FrameState) (x : ℕ)
        → (new x ≡ put f y b x) ⊎ ((x < n) × (put f y b x ≡ a) × (new x ≡ b)) → (new x ≡ f x) ⊎ ((x < n) × (f x ≡ a) × (new x ≡ b))
    each y m at new x turn = elim (same_or_other x y) [
      | inl e ↦ inr (
        subst (λ (z : ℕ). z < n) (sym e) m,
        ap f e ∙ at,
        elim turn [
          | inl d ↦ d ∙ (ap (put f y b) e ∙ put_same f y b)
          | inr d ↦ d.2
        ],
      )
      | inr e ↦ elim turn [ inl d ↦ inl (d ∙ put_other f y b x e) | inr d ↦ inr (d.0, sym (put_other f y b x e) ∙ d.1, d.2) ]
    ]

-- each frame is either retired or not
all_counted : (f : ℕ → FrameState) (n : ℕ) → active_frames f n + count_below (λ x. is_retired (f x)) n ≡ n
unfolding active_frames
all_counted f n =
    let each = count_below-not (λ x. is_retired (f x)) n in
    let all = count_below_full (λ _. true) 0 n (omega arith) (λ k l m. refl) in
    let empty : count_below (λ _. true) 0 ≡ 0 = count_below_none (λ _. true) 0 (λ k l. absurd (omega arith)) in
    omega arith

-- so many free frames can be retired as there are
retire_some : (s : Pool) (k : ℕ) → k ≤ frees s → (frame : ℕ → FrameState) × Retires s k frame
unfolding free_frames active_frames
retire_some s k l =
    let o = turn_some is_free state.Free state.Retired free_is refl s.frame s.frames k l in
    let frees = o.1 in
    let each = count_below-pairs (λ x. is_free (s.frame x)) (λ x. is_active (o.0 x)) (λ x. is_active (s.frame x))
    (λ x. is_free (o.0 x)) s.frames (λ x l. elim (o.2 x) [ inl d ↦ rw d (omega arith) | inr d ↦ rw (d.1, d.2) refl ]) in
    (o.0, record { count = omega arith; each = o.2 })

-- and a pool can grow to any number of frames
grow_some : (s : Pool) (n : ℕ) → actives s < n → (frame : ℕ → FrameState) × GrowsTo s n frame
unfolding active_frames
grow_some s n l =
    let back = min (n - actives s) (count_below (λ x. is_retired (s.frame x)) s.frames) in
    let o = turn_some is_retired state.Retired state.Free retired_is refl s.frame s.frames back (omega arith) in
    let frame : ℕ → FrameState = λ x. if nat_lt x (max s.frames n) && nat_le s.frames x then state.Free else o.0 x in
    let turned = o.1 in
    let old = all_counted s.frame s.frames in
    let new = all_counted o.0 s.frames in
    let low = count_below-ext (λ x. is_active (frame x)) (λ x. is_active (o.0 x)) s.frames (λ x m. ap is_active (known o.0 x m)) in
    let full = count_below_full (λ x. is_active (frame x)) s.frames (max s.frames n) (omega arith)
    (λ x m r. ap is_active (fresh o.0 x m r)) in (
      frame,
      record {
        count = omega arith;
        each = λ x m. elim (o.2 x) [ inl d ↦ inl (known o.0 x m ∙ d) | inr d ↦ inr (d.1, known o.0 x m ∙ d.2) ];
        fresh = λ x m r. fresh o.0 x m r;
        beyond =
            λ x m. elim (o.2 x) [
              | inl d ↦ past o.0 x m ∙ d
              | inr d ↦ (let r = d.0 in absurd (omega arith))
            ];
      },
    )
  where
    known : (f : ℕ → FrameState) (x : ℕ) → x < s.frames
        → (if nat_lt x (max s.frames n) && nat_le s.frames x then state.Free else f x) ≡ f x
    known f x m = grind (arith, nat_tests)

    fresh : (f : ℕ → FrameState) (x : ℕ) → s.frames ≤ x → x < max s.frames n
        → (if nat_lt x (max s.frames n) && nat_le s.frames x then state.Free else f x) ≡ state.Free
    fresh f x m r = grind (arith, nat_tests)

    past : (f : ℕ → FrameState) (x : ℕ) → max s.frames n ≤ x
        → (if nat_lt x (max s.frames n) && nat_le s.frames x then state.Free else f x) ≡ f x
    past f x m = grind (arith, nat_tests)

-- the state with other frames
abbrev pub reframed : State → (frames : ℕ) → (ℕ → FrameState) → State
reframed s m frame = with_pool s (record (pool_of s) { frames = m; frame = frame })

-- so there is a pool after each resize
pub resize_leads : (s : Pool) (size : ℕ) → (o : Outcome) × (new : Pool) × ResizeRow s size o new
unfolding ResizeRow
resize_leads s size = by_size (is_size size) (nat_lt (actives s) size) refl
  where
    by_size : (may more : Bool) → nat_lt (actives s) size ≡ more → (o : Outcome) × (new : Pool)
        × MatchBool may
        ((frame : ℕ → FrameState) × MatchBool more
        (GrowsTo s size frame × (o ≡ outcome.Resized size) × (new ≡ record s { frames = max s.frames size; frame = frame }))
        (Retires s (surplus s size) frame × (o ≡ outcome.Resized (actives s - surplus s size)) × (new ≡ record s { frame = frame })))
        ((o ≡ outcome.Refused refusal.BadSize) × (new ≡ s))
    by_size true true e = let w = grow_some s size (grind (arith, nat_tests)) in (_, _, (w.0, (w.1, refl, refl)))
    by_size true false e = let w = retire_some s (surplus s size) (omega arith) in (_, _, (w.0, (w.1, refl, refl)))
    by_size false more e = (_, _, (refl, refl))

-- a Resize is refused and changes nothing, or frames come in or go, and the reserve count is covered still
pub resize_cases : (s : State) (size : ℕ) (o : Outcome) (n : State) (P : Type 0) → Row s (Resize size) o n
    → ((why : Refusal) → o ≡ outcome.Refused why → n ≡ s → P)
    → ((told m : ℕ) (frame : ℕ → FrameState) → o ≡ outcome.Resized told → Shifts s.frames m s.frame frame
    → (s.resv ≤ frees (pool_of s) → s.resv ≤ free_frames frame m) → n ≡ reframed s m frame → P) → P
unfolding ResizeRow
resize_cases s size o n P (pool, row, is) refused shifts =
    by_test (is_size size) row
    (λ _ r. by_test (nat_lt (actives (pool_of s)) size) r.1
    (λ _ q. shifts size (max s.frames size) r.0 q.1 (grows (pool_of s) size r.0 q.0)
    (λ covered. let more = grown_frees (pool_of s) size r.0 q.0 in omega arith) (is ∙ ap (with_pool s) q.2))
    (λ _ q. shifts _ s.frames r.0 q.1 (retires (pool_of s) _ r.0 q.0)
    (λ covered. let fewer = retired_frees (pool_of s) _ r.0 q.0 in omega arith) (is ∙ ap (with_pool s) q.2)))
    (λ _ r. refused _ r.0 (is ∙ ap (with_pool s) r.1))

-- a shift keeps what every row keeps
pub shift_keeps : (g : Geometry) (s : State) (m : ℕ) (frame : ℕ → FrameState) → Inv g s → Shifts s.frames m s.frame frame
    → s.resv ≤ free_frames frame m → Inv g (reframed s m frame)
shift_keeps g s m frame h shifts covered =
    record {
      layout = h.layout;
      count = h.count;
      enough = covered;
      used = h.used;
      quota = h.quota;
      place = shifted s.frames m s.frame frame _ s.pages h.place shifts;
      entries = h.entries;
      inside = h.inside;
      sweep = h.sweep;
      reach = h.reach;
      sizes = h.sizes;
      changes = h.changes;
      spares = h.spares;
      holders = h.holders;
      stands = h.stands;
    }

-- A resize by which a pool shrinks, computed together with the proof that it is its row.
use Rattle.std.proofs.Common.{◌≡◌, ℕ, zero, suc, ◌+◌, ◌-◌, ◌<◌, refl, ap, ◌∙◌, arith, ◌⊎◌, inl, inr}
use Rattle.std.specs.Prelude.{Bool, true, false, ◌==◌, nat_lt, Option, Some, None}
use Rattle.std.specs.Prelude.{MatchBool}
use Rattle.std.proofs.lemmas.Bool.Decides.{nat_tests, eqb_tells}
use Rattle.hp_base.specs.Numbers.{put}
use Rattle.hp_frames.specs.declared.frame.FrameState.{FrameState}
use Rattle.hp_frames.specs.declared.frame.FrameState.TheVariants as state
use Rattle.hp_frames.specs.Bank.{is_free}
use Rattle.hp_machine.specs.State.{Pool, active_frames, actives}
use Rattle.hp_machine.specs.Resizes.{Retires, ResizeRow, is_size, surplus}
use Rattle.hp_machine.specs.Events.{ResizeRows}
use Rattle.hp_machine.specs.declared.outcome.Outcome.{Outcome}
use Rattle.hp_machine.specs.declared.outcome.Outcome.TheVariants.{Resized}
use Rattle.hp_counterexamples.proofs.Searching.{Clear, pick, bind, free_is}

-- some outcome and some pool after it meet the row, where this finds them
abbrev pub Resizing : (Outcome → Pool → Type 0) → Type 0
Resizing row = Option ((o : Outcome) × (new : Pool) × row o new × Clear new.geometry.limit new.pages)

-- a row that is one of two
abbrev pub pick_bool : {A B : Outcome → Pool → Type 0} (b : Bool) → Resizing A → Resizing B
    → Resizing (λ o n. MatchBool b (A o n) (B o n))
pick_bool true a b = a
pick_bool false a b = b

-- frames of which each is where it was, or was one that may be retired and is
abbrev pub Shrunk : (may : FrameState → Bool) → (frames : ℕ) → (ℕ → FrameState) → Type 0
Shrunk may frames frame =
    (new : ℕ → FrameState)
    × ((x : ℕ) → (new x ≡ frame x) ⊎ ((x < frames) × (may (frame x) ≡ true) × (new x ≡ state.Retired)))

-- what is below n is below n + 1; and one more is retired
pub within_more : (may : FrameState → Bool) (n : ℕ) (frame new : ℕ → FrameState)
    → ((x : ℕ) → (new x ≡ frame x) ⊎ ((x < n) × (may (frame x) ≡ true) × (new x ≡ state.Retired)))
    → (x : ℕ) → (new x ≡ frame x) ⊎ ((x < suc n) × (may (frame x) ≡ true) × (new x ≡ state.Retired))
within_more may n frame new h x = elim (h x) [ inl a ↦ inl a | inr b ↦ inr ((let l = b.0 in omega arith), b.1, b.2) ]

pub one_retired : (may : FrameState → Bool) (n : ℕ) (frame new : ℕ → FrameState) → may (frame n) ≡ true
    → ((x : ℕ) → (new x ≡ frame x) ⊎ ((x < n) × (may (frame x) ≡ true) × (new x ≡ state.Retired)))
    → (x : ℕ)
    → (put new n state.Retired x ≡ frame x) ⊎
    ((x < suc n) × (may (frame x) ≡ true) × (put new n state.Retired x ≡ state.Retired))
unfolding put
one_retired may n frame new e h x = elim (eqb_tells x n) [
  | inl d ↦ inr ((let z = d.1 in omega arith), ap (λ (k : ℕ). may (frame k)) d.1 ∙ e, rw d.0 refl)
  | inr d ↦ elim (h x) [ inl a ↦ inl (rw d.0 a) | inr b ↦ inr ((let l = b.0 in omega arith), b.1, rw d.0 b.2) ]
]

-- the topmost k of the first n frames that may be retired are
abbrev pub retired : (may : FrameState → Bool) (k n : ℕ) (frame : ℕ → FrameState) → Shrunk may n frame
retired may k zero frame = (frame, λ x. inl refl)
retired may zero (suc n) frame = (frame, λ x. inl refl)
retired may (suc k) (suc n) frame = pick (may (frame n))
    (λ e. let rest = retired may k n frame in (put rest.0 n state.Retired, one_retired may n frame rest.0 e rest.1))
    (λ _. let rest = retired may (suc k) n frame in (rest.0, within_more may n frame rest.0 rest.1))

pub same_number : (a b : ℕ) → (a == b) ≡ true → a ≡ b
same_number a b e = grind (arith, nat_tests)

-- as many as are to be retired
abbrev pub as_many : (s : Pool) (k : ℕ) (frame : ℕ → FrameState) → Option (active_frames frame s.frames + k ≡ actives s)
as_many s k frame = pick (active_frames frame s.frames + k == actives s) (λ e. Some (same_number _ _ e)) (λ _. None)

-- so the free frames that go are retired as the right row says
pub retires : (s : Pool) (k : ℕ) (new : Shrunk is_free s.frames s.frame) → active_frames new.0 s.frames + k ≡ actives s
    → Retires s k new.0
retires s k new e = record {
  count = e;
  each = λ x. elim (new.1 x) [ inl a ↦ inl a | inr b ↦ inr (b.0, free_is (s.frame x) b.1, b.2) ];
}

-- a resize by these rows is found
abbrev pub TriesResizes : ResizeRows → Type 0
TriesResizes rows = (s : Pool) (n : ℕ) → Clear s.geometry.limit s.pages → Resizing (rows s n)

-- the second of two, where the test fails
pub falls : (A B : Type 0) (b : Bool) → b ≡ false → B → MatchBool b A B
falls A B true e x = (let d : true ≡ false = e in absurd (cc))
falls A B false e x = x

-- the right row, where the pool shrinks
abbrev pub try_resize : TriesResizes ResizeRow
unfolding ResizeRow
try_resize s n h =
    pick_bool (is_size n)
    (pick (nat_lt (actives s) n) (λ _. None)
    (λ no. let new = retired is_free (surplus s n) s.frames s.frame in
    bind (as_many s (surplus s n) new.0)
    (λ e. Some (
      Resized (actives s - surplus s n),
      record s { frame = new.0 },
      (new.0, falls _ _ (nat_lt (actives s) n) no (retires s (surplus s n) new e, refl, refl)),
      h,
    ))))
    (Some (_, s, (refl, refl), h))

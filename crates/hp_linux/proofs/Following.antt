-- A recording, followed line by line.
use Rattle.std.proofs.Common.{◌≡◌, ℕ, zero, suc, ◌+◌, ◌<◌, ◌≤◌, refl, ap, sym, ◌∙◌, arith, inl, inr}
use Rattle.std.specs.Prelude.{true, false, ◌==◌, nat_lt, is_some, Option, Some, None, List, [], ◌∷◌}
use Rattle.std.proofs.lemmas.Bool.Decides.{nat_tests, eqb_tells}
use Rattle.hp_base.specs.declared.event.Event.{Event}
use Rattle.hp_frames.specs.declared.frame.FrameState.{FrameState}
use Rattle.hp_frames.specs.declared.frame.FrameState.TheVariants as state
use Rattle.hp_machine.specs.State.{Geometry, frees, pool_of}
use Rattle.hp_machine.specs.Events.{EventRows}
use Rattle.hp_machine.specs.Views.{hand}
use Rattle.hp_counterexamples.proofs.Searching.{Clear, bind, pick}
use Rattle.hp_counterexamples.proofs.Running.{Tries}
use Rattle.hp_counterexamples.proofs.Breaking.{equal, never}
use Rattle.hp_linux.specs.Whole.{Linux, begins, lacks, lent, paid}
use Rattle.hp_linux.specs.Late.{Happening, Does, LetsGo, IsLeft, LateRun, events_in, frames_in, let_go}
use Rattle.hp_linux.specs.Following.{Line, Follows, IsFollowed, all_go}

-- that two numbers are equal, where they are
abbrev pub same : (a b : ℕ) → Option (a ≡ b)
same a b = pick (a == b) (λ e. Some (equal a b e)) (λ _. None)

-- ---- a frame that is left

-- that a frame is in a hand, where it is
abbrev pub in_hand : (frame : FrameState) → Option (frame ≡ state.Hand)
in_hand state.Free = None
in_hand state.Hand = Some refl
in_hand (state.Placed word) = None
in_hand state.Retired = None

pub not_none : (x : ℕ) → ◌≡◌ {A = Option ℕ} None (Some x) → ⊥
not_none x q = cc

pub no_other : (x y : ℕ) → (y == x) ≡ false → Some y ≡ Some x → ⊥
no_other x y e q = (let d : y ≡ x = cc in grind (arith, nat_tests))

-- that it isn't in this hand, where it isn't
abbrev pub not_in : (x : ℕ) (o : Option ℕ) → Option (o ≡ Some x → ⊥)
not_in x None = Some (not_none x)
not_in x (Some y) = pick (y == x) (λ _. None) (λ e. Some (no_other x y e))

pub nobody : (hands : ℕ → Option ℕ) (x t : ℕ) → t < 0 → hands t ≡ Some x → ⊥
nobody hands x t m q = (omega arith)

pub one_more : (hands : ℕ → Option ℕ) (x n : ℕ) → (hands n ≡ Some x → ⊥) → ((t : ℕ) → t < n → hands t ≡ Some x → ⊥)
    → (t : ℕ) → t < suc n → hands t ≡ Some x → ⊥
one_more hands x n here below t m q = elim (eqb_tells t n) [
  | inl d ↦ here (ap hands (sym d.1) ∙ q)
  | inr d ↦ below t (let z = d.1 in omega arith) q
]

-- that it is in none of these hands, where it isn't
abbrev pub in_none : (hands : ℕ → Option ℕ) (x n : ℕ) → Option ((t : ℕ) → t < n → hands t ≡ Some x → ⊥)
in_none hands x zero = Some (nobody hands x)
in_none hands x (suc n) =
    bind (not_in x (hands n)) (λ here. bind (in_none hands x n) (λ below. Some (one_more hands x n here below)))

pub lower : (a b : ℕ) → nat_lt a b ≡ true → a < b
lower a b e = grind (arith, nat_tests)

pub all_apart : (l : Linux) (x : ℕ) → ((t : ℕ) → t < suc l.state.geometry.tasks → hand (l.state.calls t) ≡ Some x → ⊥)
    → (t : ℕ) → t ≤ l.state.geometry.tasks → hand (l.state.calls t) ≡ Some x → ⊥
all_apart l x none t m = none t (omega arith)

-- that a frame is left, where it is
abbrev pub is_left : (l : Linux) (x : ℕ) → Option (IsLeft l x)
is_left l x =
    bind (pick (nat_lt x l.state.frames) (λ e. Some (lower x l.state.frames e)) (λ _. None))
    (λ low. bind (in_hand (l.state.frame x))
    (λ held. bind (in_none (λ t. hand (l.state.calls t)) x (suc l.state.geometry.tasks))
    (λ none. Some (low, held, all_apart l x none))))

-- ---- a line

-- by these rows the events happen, and then these frames become free, where pages lie below the limit
abbrev pub LateRan : EventRows → Linux → List Event → (frames : List ℕ) → Type 0
LateRan rows l events frames =
    (log : List Happening) × (n : Linux) × (events_in log ≡ events) × (frames_in log ≡ frames) × LateRun rows l log n
    × Clear n.state.geometry.limit n.state.pages

abbrev pub frees_late : (rows : EventRows) (l : Linux) (frames : List ℕ) → Clear l.state.geometry.limit l.state.pages
    → Option (LateRan rows l [] frames)
frees_late rows l [] h = Some ([], l, refl, refl, refl, h)
frees_late rows l (x ∷ xs) h =
    bind (is_left l x) (λ left. bind (frees_late rows (let_go l x) xs h)
    (λ rest. Some (LetsGo x ∷ rest.0, rest.1, rest.2, ap (λ (l : List ℕ). x ∷ l) rest.3, (left, rest.4), rest.5)))

abbrev pub late_run : (rows : EventRows) → Tries rows → (l : Linux) (events : List Event) (frames : List ℕ)
    → Clear l.state.geometry.limit l.state.pages → Option (LateRan rows l events frames)
late_run rows tries l [] frames h = frees_late rows l frames h
late_run rows tries l (e ∷ es) frames h =
    bind (tries (lent l.state (lacks l.state e)) e h)
    (λ r. bind (late_run rows tries (paid r.1 (l.debt + lacks l.state e)) es frames r.3)
    (λ rest. Some (
      Does e r.0 ∷ rest.0,
      rest.1,
      ap (λ (l : List Event). e ∷ l) rest.2,
      rest.3,
      (paid r.1 (l.debt + lacks l.state e), (r.1, r.2, refl), rest.4),
      rest.5,
    )))

-- the lines from here on, where they can be followed
abbrev pub follow : (rows : EventRows) → Tries rows → (l : Linux) (lines : List Line)
    → Clear l.state.geometry.limit l.state.pages → Option ((n : Linux) × Follows rows l lines n)
follow rows tries l [] h = Some (l, refl)
follow rows tries l (x ∷ xs) h =
    bind (late_run rows tries l x.events x.late h)
    (λ r. bind (pick (all_go r.0) (λ e. Some e) (λ _. None))
    (λ go. bind (same (frees (pool_of r.1.state)) x.free)
    (λ a. bind (same r.1.state.resv x.counted)
    (λ b. bind (same r.1.debt x.debt)
    (λ c. bind (follow rows tries r.1 xs r.5) (λ n. Some (n.0, (r.0, r.1, r.2, r.3, go, r.4, a, b, c, n.1))))))))

-- so they are followed, where the search finds that
pub follows_so : (rows : EventRows) (tries : Tries rows) (g : Geometry) (frames : ℕ) (lines : List Line)
    → is_some (follow rows tries (begins g frames) lines (λ f i l. refl)) ≡ true → IsFollowed rows g frames lines
follows_so rows tries g frames lines e = here (follow rows tries (begins g frames) lines (λ f i l. refl)) e
  where
    here : (o : Option ((n : Linux) × Follows rows (begins g frames) lines n)) → is_some o ≡ true → IsFollowed rows g frames lines
    here None e = never e
    here (Some r) e = r

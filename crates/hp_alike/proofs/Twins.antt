-- Twins: two states that runs reached and that differ in the names of frames alone. Whatever happens to both tells the same,
-- and leaves twins.
use Rattle.std.proofs.Common.{◌≡◌, ℕ, refl, ap, sym, ◌∙◌, subst}
use Rattle.std.specs.Prelude.{Bool, List, [], ◌∷◌, Option, None, Some, is_some}
use Rattle.std.specs.Option.{option_map}
use Rattle.hp_base.specs.declared.event.Event.{Event}
use Rattle.hp_base.specs.declared.event.Event.TheVariants.{Step}
use Rattle.hp_machine.specs.State.{State, Geometry, free_frames, pool_of}
use Rattle.hp_machine.specs.Events.{Row, IsReached, opening}
use Rattle.hp_machine.specs.declared.outcome.Outcome.{Outcome}
use Rattle.hp_machine.specs.declared.outcome.Outcome.TheVariants.{Blocked}
use Rattle.hp_laws.proofs.Leads.{no_dead_ends}
use Rattle.hp_laws.proofs.Runs.{always}
use Rattle.hp_laws.proofs.Waiting.{blocked_by_holder}
use Rattle.hp_sequential.specs.Renaming.{renamed, call_renamed, Alike}
use Rattle.hp_sequential.proofs.Runs.{run_alike, frames_hidden}
use Rattle.hp_sequential.proofs.Parts.{frees_renamed}
use Rattle.hp_core.proofs.Holds.{reached_next}
use Rattle.hp_core.specs.State.{CoreState, as_state}
use Rattle.hp_core.specs.Runs as core
use Rattle.hp_core.specs.Waiting.{WaitsFor}

pub record Twins (s n : State) : Type 0 where
  pub reached : IsReached s
  pub other : IsReached n
  pub alike : Alike s n

-- a pool that opens is reached
pub opening_reached : (g : Geometry) (frames : ℕ) → IsReached (opening g frames)
opening_reached g frames = (frames, ([], refl))

-- two that open alike are twins
pub opening_twins : (g : Geometry) (frames : ℕ) (s n : State) → s ≡ opening g frames → n ≡ opening g frames → Twins s n
opening_twins g frames s n a b = record {
  reached = subst IsReached (sym a) (opening_reached g frames);
  other = subst IsReached (sym b) (opening_reached g frames);
  alike = (frames_hidden g frames [] [] s n a b refl).1;
}

-- the first of a list of one
the_outcome : {e : Event} {o p : Outcome} → ◌≡◌ {A = List (Event × Outcome)} ((e, p) ∷ []) ((e, o) ∷ []) → p ≡ o
the_outcome {e} {o} {p} d = let pair : ◌≡◌ {A = Event × Outcome} (e, p) (e, o) = cc in ap (λ (x : Event × Outcome). x.1) pair

-- one event of both
pub told_same : (s n v w : State) (e : Event) (o p : Outcome) → Twins s n → Row s e o v → Row n e p w → (p ≡ o) × Twins v w
told_same s n v w e o p t a b =
    let from : Row (renamed t.alike.0 s) e p w = subst (λ (m : State). Row m e p w) t.alike.1 b in
    let both = run_alike s t.alike.0 ((e, o) ∷ []) ((e, p) ∷ []) v w (always s t.reached) (v, a, refl) (w, from, refl) refl in (
      the_outcome both.0,
      record { reached = reached_next s v e o t.reached a; other = reached_next n w e p t.other b; alike = both.1 },
    )

-- an option has a value as well after its value is mapped
pub still_some : {A B : Type 0} (f : A → B) (o : Option A) → is_some (option_map f o) ≡ is_some o
still_some f None = refl
still_some f (Some x) = refl

-- twins have the same calls in flight, lives and counts
pub same_busy : (s n : State) (t : ℕ) → Twins s n → is_some (n.calls t) ≡ is_some (s.calls t)
same_busy s n t h =
    ap (λ (m : State). is_some (m.calls t)) h.alike.1 ∙ still_some (call_renamed h.alike.0.to) (s.calls t)

pub same_life : (s n : State) (t : ℕ) → Twins s n → n.life t ≡ s.life t
same_life s n t h = ap (λ (m : State). m.life t) h.alike.1

pub same_resv : (s n : State) → Twins s n → n.resv ≡ s.resv
same_resv s n h = ap (λ (m : State). m.resv) h.alike.1

pub same_free : (s n : State) → Twins s n → free_frames n.frame n.frames ≡ free_frames s.frame s.frames
same_free s n h = ap (λ (m : State). free_frames m.frame m.frames) h.alike.1 ∙ frees_renamed (pool_of s) h.alike.0 refl

-- a blocked step of one tells that the other's is blocked
pub blocked_there : (s n v : State) (t holder : ℕ) (grant : Bool) → Twins s n → Row s (Step t grant) (Blocked holder) v
    → Row n (Step t grant) (Blocked holder) n
blocked_there s n v t holder grant h a =
    let next = no_dead_ends n (Step t grant) h.other in
    let same = (told_same s n v next.1 (Step t grant) (Blocked holder) next.0 h a next.2).0 in
    let b : Row n (Step t grant) (Blocked holder) next.1 = subst (λ (o : Outcome). Row n (Step t grant) o next.1) same next.2 in
    subst (λ (m : State). Row n (Step t grant) (Blocked holder) m) (blocked_by_holder n t grant holder next.1 h.other b).0 b

blocked_here : (s n w : State) (t holder : ℕ) (grant : Bool) → Twins s n → Row n (Step t grant) (Blocked holder) w
    → Row s (Step t grant) (Blocked holder) s
blocked_here s n w t holder grant h b =
    let next = no_dead_ends s (Step t grant) h.reached in
    let same = (told_same s n next.1 w (Step t grant) next.0 (Blocked holder) h next.2 b).0 in
    let a : Row s (Step t grant) (Blocked holder) next.1 = subst (λ (o : Outcome). Row s (Step t grant) o next.1) (sym same) next.2 in
    subst (λ (m : State). Row s (Step t grant) (Blocked holder) m) (blocked_by_holder s t grant holder next.1 h.reached a).0 a

-- a task of which no step is blocked in one waits for nobody in the other
pub waits_there : (s n : CoreState) (t : ℕ) → Twins (as_state s) (as_state n) → WaitsFor s t None → WaitsFor n t None
unfolding WaitsFor core.Row
waits_there s n t h none =
    λ grant holder new row. none grant holder s (blocked_here (as_state s) (as_state n) (as_state new) t holder grant h row.0, refl)

pub waits_here : (s n : CoreState) (t : ℕ) → Twins (as_state s) (as_state n) → WaitsFor n t None → WaitsFor s t None
unfolding WaitsFor core.Row
waits_here s n t h none =
    λ grant holder new row. none grant holder n (blocked_there (as_state s) (as_state n) (as_state new) t holder grant h row.0, refl)

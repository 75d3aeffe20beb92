-- Frames don't show in any run.
use Rattle.std.proofs.Common.{◌≡◌, ℕ, refl, ap, sym, ◌∙◌, subst}
use Rattle.std.specs.Prelude.{Some, List, [], ◌∷◌}
use Rattle.hp_base.specs.declared.event.Event.{Event}
use Rattle.hp_frames.specs.declared.frame.FrameState.TheVariants as state
use Rattle.hp_machine.specs.Headline.{Free}
use Rattle.hp_machine.specs.State.{Geometry, State}
use Rattle.hp_machine.specs.Events.{Row, Run, opening}
use Rattle.hp_machine.specs.declared.outcome.Outcome.{Outcome}
use Rattle.hp_laws.proofs.Invariant.{Inv}
use Rattle.hp_laws.proofs.Runs.{Always, row_keeps, opens_well}
use Rattle.hp_laws.specs.Histories.{events_of}
use Rattle.hp_sequential.specs.Renaming.{Renaming, renamed, Alike}
use Rattle.hp_sequential.proofs.Events.{InUse, event_row}
use Rattle.hp_sequential.proofs.Names.{as_many, own_names, wider}
use Rattle.hp_sequential.proofs.Parts.{IsUsed}

-- in a reached state what names a frame names one in use
in_use : (s : State) → Inv s.geometry s → InUse s
in_use s h = record {
  pool = record {
    pages = page;
    entries = λ t v x q. (let place = h.entries.agree t v x q in page place.0.0 place.0.1 x place.2);
    real = λ x q. h.place.one.real x Free q;
    count = refl;
  };
  hands = λ u x q. (
    λ d. (let z : state.Hand ≡ state.Free = sym (h.place.hands u x q) ∙ d in cc),
    λ d. (let z : state.Hand ≡ state.Retired = sym (h.place.hands u x q) ∙ d in cc),
  );
}
  where
    page : (f i x : ℕ) → s.pages f i ≡ Some x → IsUsed (s.frame x)
    page f i x q = (let k = h.place.pages f i x q in (
      λ d. (let z : state.Placed k.0 ≡ state.Free = sym k.1 ∙ d in cc),
      λ d. (let z : state.Placed k.0 ≡ state.Retired = sym k.1 ∙ d in cc),
    ))

-- lists whose first events, first outcomes and rests are equal are equal
same_lists : {e f : Event × Outcome} {es fs : List (Event × Outcome)} → f.0 ≡ e.0 → f.1 ≡ e.1 → fs ≡ es
    → ◌≡◌ {A = List (Event × Outcome)} (f ∷ fs) (e ∷ es)
same_lists a b c = λ i. (a i, b i) ∷ c i

-- two runs of the same events, from a state and from the renamed one, tell the same and end in states that are each
-- other renamed
pub run_alike : (s : State) (r : Renaming s.frames) (es fs : List (Event × Outcome)) (after after' : State) → Always s
    → Run s es after → Run (renamed r s) fs after' → events_of fs ≡ events_of es → (fs ≡ es) × Alike after after'
unfolding wider
run_alike s r [] [] after after' h a b e =
    (refl, (wider (as_many (ap (λ (m : State). m.frames) a)) r, b ∙ sym (ap (renamed r) a)))
run_alike s r [] (f ∷ fs) after after' h a b e = absurd (cc)
run_alike s r (v ∷ es) [] after after' h a b e = absurd (cc)
run_alike s r (v ∷ es) (f ∷ fs) after after' h a b e =
    let same : f.0 ≡ v.0 = (cc) in
    let rest : events_of fs ≡ events_of es = (cc) in
    let row : Row (renamed r s) v.0 f.1 b.0 = subst (λ (u : Event). Row (renamed r s) u f.1 b.0) same b.1 in
    let both = event_row s r v.0 v.1 f.1 a.0 b.0 (in_use s h.inv) a.1 row in
    let z = run_alike a.0 both.names es fs after after' (row_keeps s v.0 v.1 a.0 h a.1) a.2
    (subst (λ (n : State). Run n fs after') both.states b.2) rest in
    (same_lists same both.tells z.0, z.1)

-- so two runs of the same events from one opening
pub frames_hidden : (g : Geometry) (frames : ℕ) (es fs : List (Event × Outcome)) (s n : State) → Run (opening g frames) es s
    → Run (opening g frames) fs n → events_of fs ≡ events_of es → (fs ≡ es) × Alike s n
unfolding own_names
frames_hidden g frames es fs s n a b e = run_alike (opening g frames) (own_names frames) es fs s n (opens_well g frames) a b e

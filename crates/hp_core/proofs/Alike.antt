-- Two cores that were opened alike, and to which the same happened, look alike.
use Rattle.std.proofs.Common.{◌≡◌, List, [], ◌∷◌, length, refl, sym, ◌∙◌, ap, subst, arith}
use Rattle.std.specs.List.{zip}
use Rattle.std.proofs.lemmas.Slice.Zip.{seconds-zip}
use Rattle.std.specs.Prelude.{ℕ, map}
use Rattle.hp_base.specs.Text.{sizes}
use Rattle.hp_base.specs.declared.config.Config.{Config}
use Rattle.hp_base.specs.declared.event.Event.{Event}
use Rattle.hp_machine.specs.State.{Geometry, State}
use Rattle.hp_machine.specs.Events as rows
use Rattle.hp_machine.specs.declared.outcome.Outcome.{Outcome}
use Rattle.hp_laws.specs.Histories.{events_of}
use Rattle.hp_sequential.specs.Renaming.{Alike}
use Rattle.hp_core.specs.State.{as_state}
use Rattle.hp_core.specs.Runs.{Run, IsOpening, geometry}
use Rattle.hp_core.specs.RunLaws.{FramesDontShow}

-- the events of a list that was put together are those that went in
events_in : (es : List Event) (os : List Outcome) → length os ≡ length es → events_of (zip es os) ≡ es
events_in [] os l = refl
events_in (e ∷ es) [] l = absurd (omega (arith, l))
events_in (e ∷ es) (o ∷ os) l = ap (λ (xs : List Event). e ∷ xs) (events_in es os (omega (arith, l)))

-- the outcomes too
same_told : (es : List Event) (os ps : List Outcome) → length os ≡ length es → length ps ≡ length es → zip es ps ≡ zip es os → ps ≡ os
same_told es os ps l m e =
    sym (seconds-zip es ps m)
    ∙ (ap (λ (xs : List (Event × Outcome)). map (λ (p : Event × Outcome). p.1) xs) e ∙ seconds-zip es os l)

-- what the machine says of two runs from its opening
abbrev MachineSays : Type 0
MachineSays = (g : Geometry) (frames : ℕ) (es fs : List (Event × Outcome)) (s n : State)
    → rows.Run (rows.opening g frames) es s → rows.Run (rows.opening g frames) fs n → events_of fs ≡ events_of es
    → (fs ≡ es) × Alike s n

-- so two cores of one config to which the same happened told the same, and are equal up to names of frames
pub frames_hidden : MachineSays → (config : Config) → FramesDontShow config
unfolding Run IsOpening
frames_hidden says config a b s n events told other open_a open_b run_a run_b =
    let both = says (geometry (sizes config)) config.frames (zip events told) (zip events other) (as_state s) (as_state n)
    (subst (λ (o : State). rows.Run o (zip events told) (as_state s)) open_a.1 run_a.0)
    (subst (λ (o : State). rows.Run o (zip events other) (as_state n)) open_b.1 run_b.0)
    (events_in events other run_b.1 ∙ sym (events_in events told run_a.1)) in
    (same_told events told other run_a.1 run_b.1 both.0, both.1)

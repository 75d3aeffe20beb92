-- Which turns are tried.
use Rattle.std.proofs.Common.{◌≡◌, ◌∙◌, ℕ, refl, ap, sym, subst, inl, inr, arith, List, [], ◌∷◌, ◌++◌}
use Rattle.std.proofs.lemmas.List.Elements.{Contains-push, Contains-push_cases}
use Rattle.std.specs.Prelude.{Bool, Contains, true, false}
use Rattle.hp_explore.specs.Schedule.{Plan}
use Rattle.hp_every.specs.declared.turn.Turn.{Turn}
use Rattle.hp_every.specs.declared.turn.Turn.TheVariants.{Next}
use Rattle.hp_every.specs.Eager.{AreTried, IsEager}
use Rattle.hp_every.specs.Schedules.{MayTurn, Place}
use Rattle.hp_every.specs.Turns.{AreAllTurns}
use Rattle.hp_every.proofs.First.{goes_turn}
use Rattle.hp_every.proofs.Tried.{one_eager}

-- its begin alone
tried_one : (plan : Plan) (p : Place) (t : ℕ) (turns : List Turn) → IsEager plan p t → turns ≡ [] ++ Next t ∷ [] → AreTried plan p true turns
unfolding AreTried
tried_one plan p t turns h is turn = (
  λ there. (
      let same : Next t ≡ turn = elim (Contains-push_cases [] (Next t) turn (subst (λ (xs : List Turn). Contains xs turn) is there)) [
        | inl none ↦ (let low = none.1 in absurd (omega (arith, low)))
        | inr e ↦ e
      ] in (
        subst (MayTurn plan p) same (goes_turn plan p t h.calm h.goes),
        λ u other. sym same ∙ ap (λ (x : ℕ). Next x) (one_eager plan p t u h other),
      )),
  λ both. subst (λ (xs : List Turn). Contains xs turn) (sym is)
      (subst (Contains ([] ++ Next t ∷ [])) (sym (both.1 t h)) (Contains-push [] (Next t))),
)

-- and so where the search is known to be eager
pub tried_begin : (plan : Plan) (p : Place) (eager : Bool) (t : ℕ) (turns : List Turn) → eager ≡ true → IsEager plan p t → turns ≡ [] ++ Next t ∷ []
    → AreTried plan p eager turns
tried_begin plan p eager t turns is h all = subst (λ (b : Bool). AreTried plan p b turns) (sym is) (tried_one plan p t turns h all)

-- all turns, where no task is eager or the search isn't
pub tried_all : (plan : Plan) (p : Place) (eager : Bool) (turns : List Turn) → (eager ≡ true → (task : ℕ) → IsEager plan p task → ⊥)
    → AreAllTurns plan p turns → AreTried plan p eager turns
unfolding AreTried AreAllTurns
tried_all plan p true turns none all turn =
    (λ there. ((all turn).0 there, λ u other. absurd (none refl u other)), λ both. (all turn).1 both.0)
tried_all plan p false turns none all turn = (λ there. ((all turn).0 there, tt), λ both. (all turn).1 both.0)

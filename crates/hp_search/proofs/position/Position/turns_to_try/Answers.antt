use Rattle.std.proofs.Common.{◌≡◌, ◌∙◌, ◌∷◌, ◌++◌, [], ℕ, List, ap}
use Rattle.std.specs.Prelude.{true}
use Rattle.hp_laws.proofs.Deciding.{clash}
use Rattle.hp_every.specs.Eager.{IsEager}
use Rattle.hp_every.specs.declared.turn.Turn.{Turn}
use Rattle.hp_every.specs.declared.turn.Turn.TheVariants.{Next}
use Rattle.hp_search.specs.Searching.{place_of}
use Rattle.hp_search.proofs.Hastening.{tried_all, tried_begin}
use Rattle.hp_search.proofs.position.Position.turns_to_try.Goals as goal
use Rattle.hp_search.proofs.position.Position.turns_to_try.Goals.{then-query+in_default, else-query}

pub returns-in-Some : goal.returns-in-Some
returns-in-Some c =
    tried_begin c.args.query.plan.now (place_of c.args.self.now) c.args.query.eager c.in-Some.task c.push.new.self.items c.if-query.true
    c.in-Some.ensures.some (c.in_ok-push.ensures.items ∙ ap (λ (xs : List Turn). xs ++ Next c.in-Some.task ∷ []) c.new-turns.ensures.items)

pub returns : goal.returns
returns c =
    let plan = c.args.query.plan.now in
    let p = place_of c.args.self.now in
    let none : c.args.query.eager ≡ true → (task : ℕ) → IsEager plan p task → ⊥ = elim c.if-query.branch [
      | then-query+in_default w ↦ λ e. w.eager_task.ensures.none w.in_default.is
      | else-query w ↦ λ e. clash c.args.query.eager e w.if-query.false
    ] in
    tried_all plan p c.args.query.eager c.in_ok-turns.turns.items none c.in_ok-turns.ensures.all

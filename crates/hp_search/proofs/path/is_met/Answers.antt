use Rattle.std.proofs.Common.{◌∙◌, List, ap, length, refl}
use Rattle.hp_every.specs.declared.turn.Turn.{Turn}
use Rattle.std.specs.Prelude.{◌==◌}
use Rattle.hp_search.specs.Searching.{place_of}
use Rattle.hp_search.proofs.Kept.{ends_met}
use Rattle.hp_search.proofs.path.is_met.Goals as goal

pub returns-then-not-are_met : goal.returns-then-not-are_met
returns-then-not-are_met c = λ first moments core know. (
  λ e. let bad : ⊥ = cc in absurd bad,
  λ h. absurd (c.if-not-are_met.ensures.missed refl c.args.query.conditions.now first moments (c.core.ensures.core ∙ core) know h.meets),
)

pub returns : goal.returns
returns c = λ first moments core know. (
    let conditions = c.args.query.conditions.now in
    let some = c.if-not-has_final.ensures.some refl in
    ends_met c.args.query.plan.now conditions first moments (place_of c.args.position.now) c.in_ok-turns.turns.items c.is_empty.result
    (c.if-not-are_met.ensures.met refl conditions first moments (c.core.ensures.core ∙ core)
    know)
    some.0 some.1 some.2 c.in_ok-turns.ensures.all
    (c.is_empty.ensures ∙ ap (λ (xs : List Turn). length xs == 0) c.as_slice.ensures.value))

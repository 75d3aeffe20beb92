-- Places that turns lead to are reached, and those with equal words differ in the names of frames alone.
use Rattle.std.proofs.Common.{◌≡◌, ℕ, ap, sym, ◌∙◌, subst, List, [], ◌∷◌, ◌++◌}
use Rattle.std.specs.Prelude.{IsSomeAnd}
use Rattle.hp_base.specs.Text.{sizes}
use Rattle.hp_machine.specs.State.{State}
use Rattle.hp_machine.specs.Events.{IsReached}
use Rattle.hp_machine.specs.Wants.{Wants}
use Rattle.hp_alike.proofs.Twins.{opening_reached}
use Rattle.hp_core.specs.State.{as_state}
use Rattle.hp_core.specs.Runs.{IsOpening, Row, geometry}
use Rattle.hp_core.proofs.Holds.{reached_next}
use Rattle.hp_text.specs.declared.script.Script.{Script}
use Rattle.hp_watch.specs.Moments.{Moment}
use Rattle.hp_key.specs.Key.{key_words}
use Rattle.hp_key.specs.Numbers.{counted, wide}
use Rattle.hp_key.proofs.Calls.{own_counted}
use Rattle.hp_key.proofs.Same.{same_key}
use Rattle.hp_key.proofs.Tells.{cons_same, tells_wide}
use Rattle.hp_explore.specs.Schedule.{Plan}
use Rattle.hp_every.specs.Schedules.{Place, Leads, first_place, plan_for}
use Rattle.hp_every.specs.Places.{AreAlike, IsPlaceOf, place_words}

-- a place that turns lead to is reached, and has the sizes of the first
led : (plan : Plan) (first : Place) (moments : List Moment) (last : Place) → Leads plan first moments last
    → IsReached (as_state first.core) → IsReached (as_state last.core) × (last.core.sizes ≡ first.core.sizes)
unfolding Leads Row
led plan first [] last same reached =
    (subst (λ (p : Place). IsReached (as_state p.core)) (sym same) reached, ap (λ (p : Place). p.core.sizes) same)
led plan first (m ∷ before) last (p, leads, core, turn) reached =
    let so_far = led plan first before p leads reached in (
      reached_next (as_state p.core) (as_state last.core) m.event m.outcome so_far.0 turn.row.0,
      turn.row.1 ∙ so_far.1,
    )

-- so a place of a script is reached, and has the script's sizes
pub place_reached : (script : Script) (p : Place) → IsPlaceOf script p
    → IsReached (as_state p.core) × (p.core.sizes ≡ sizes script.config)
unfolding IsOpening
place_reached script p h =
    let opens : IsReached (as_state h.first) =
    subst IsReached (sym h.schedule.opening.1) (opening_reached (geometry (sizes script.config)) script.config.frames) in
    let there = led (plan_for script) (first_place script h.denials h.kills h.first) h.moments p h.schedule.leads opens in
    (there.0, there.1 ∙ h.schedule.opening.0)

-- equal words are of places that differ in the names of frames alone
pub alike_words : (script : Script) (p q : Place) → IsPlaceOf script p → IsPlaceOf script q → place_words p ≡ place_words q → AreAlike p q
alike_words script p q some other e =
    let denials = cons_same p.denials q.denials (p.kills ∷ (counted wide p.made ++ key_words p.core))
    (q.kills ∷ (counted wide q.made ++ key_words q.core)) e in
    let kills = cons_same p.kills q.kills (counted wide p.made ++ key_words p.core)
    (counted wide q.made ++ key_words q.core) denials.1 in
    let made = (own_counted tells_wide).tells p.made q.made (key_words p.core) (key_words q.core) kills.1 in
    let here = place_reached script p some in
    let there = place_reached script q other in
    record {
      state = same_key p.core q.core here.0 there.0 made.1;
      sizes = here.1 ∙ sym there.1;
      made = made.0;
      denials = denials.0;
      kills = kills.0;
    }

-- the call in flight wants memory
abbrev pub StateWants : State → ℕ → Type 0
StateWants s t = IsSomeAnd (s.calls t) (λ call. Wants s.pool t call)

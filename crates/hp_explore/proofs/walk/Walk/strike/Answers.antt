use Rattle.std.proofs.Common.{◌≡◌, ◌<◌, ◌∙◌, ℕ, List, filter, length, take, ap, refl, sym, arith, length-take-le}
use Rattle.std.specs.Prelude.{Bool, true, false, [], ◌∷◌, ◌++◌, cond, not, if◌then◌else◌, slice_index}
use Rattle.std.proofs.lemmas.List.{append-nil}
use Rattle.std.proofs.lemmas.List.Elements.{filter_more}
use Rattle.std.proofs.lemmas.List.Filters.{length-filter_both}
use Rattle.hp_explore.specs.CanNow.{can_now}
use Rattle.hp_explore.proofs.Retained.{is_told}
use Rattle.hp_explore.proofs.walk.Walk.strike.Goals as goal

pub push_if-requires-clause-room : goal.push_if-requires-clause-room
push_if-requires-clause-room c =
    let listed = c.copy-before.result in
    let test = can_now c.args.plan.now c.args.self.now in
    let front : length (take c.loop-place.place listed) ≡ c.loop-place.place = length-take-le c.loop-place.place listed
    (omega (arith, c.loop-place-test.true, c.len-place-end.ensures.len)) in
    omega (
      arith,
      ap (λ (ts : List ℕ). length ts) c.loop-place.invariant,
      length-filter_both test (λ t. not (test t)) (λ t. refl) (take c.loop-place.place listed),
      front,
      c.loop-place-test.true,
      c.len-place-end.ensures.few,
    )

pub loop-place-preserved : goal.loop-place-preserved
loop-place-preserved c =
    let listed = c.copy-before.result in
    let place = c.loop-place.place in
    let t = c.at-task.result in
    let test = can_now c.args.plan.now c.args.self.now in
    let within : place < length listed = omega (arith, c.loop-place-test.true, c.len-place-end.ensures.len) in
    let told : c.can_turn-can.result ≡ test (slice_index listed place) =
    is_told c.args.plan.now c.args.self.now t c.can_turn-can.result c.can_turn-can.ensures.can c.can_turn-can.ensures.cannot
    ∙ ap test c.at-task.ensures.task in
    c.push_if.ensures
    ∙ (λ i. if told i then c.loop-place.invariant i ++ c.at-task.ensures.task i ∷ [] else c.loop-place.invariant i)
    ∙ (either (test (slice_index listed place)) (filter test (take place listed)) (slice_index listed place)
    ∙ sym (filter_more test listed place 0 within))
  where
    either : (b : Bool) (xs : List ℕ) (x : ℕ) → (if b then xs ++ x ∷ [] else xs) ≡ xs ++ cond b (x ∷ []) []
    either true xs x = refl
    either false xs x = sym (append-nil xs)

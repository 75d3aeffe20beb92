use Rattle.std.proofs.Common.{arith, ◌≡◌, sym, ◌∷◌, ◌⊎◌, [], ℕ, suc, ◌+◌, ◌<◌, ◌≤◌, inl, inr, refl, subst, List, length}
use Rattle.std.proofs.lemmas.List.{nil_from_length}
use Rattle.hp_layers.specs.Layers.{AreKeysOf, AreNext, AreValid, IsCutAtLimits, IsLayer, IsLong, IsRight}
use Rattle.hp_layers.specs.Layers.{LacksBytes, LacksRoom, MeetsAt, NoneBefore, NoneIsMet}
use Rattle.hp_layers.proofs.Bytes.{over}
use Rattle.hp_layers.proofs.Covering.{first_keys}
use Rattle.hp_layers.proofs.Layering.{first_layer, layer_misses, layer_valid, long_first, long_next, never, next_is_layer}
use Rattle.hp_layers.proofs.Layering.{none_before_first, none_before_next, shortest}
use Rattle.hp_layers.proofs.searching.search.Goals as goal

pub loop-turns-init : goal.loop-turns-init
loop-turns-init g c =
    let key_eq = g.met.M.Key.Eq g.world.𝓛 g.world.𝓜 g.world.𝓡 ((λ s x. x), (λ x. x), (λ x. x), λ x. x) in
    let turns = g.met.M.Turns g.world.𝓛 g.world.𝓜 g.world.𝓡 ((λ s x. x), (λ x. x), (λ x. x), λ x. x) in
    let turn = g.M.Turns.turn c.args.system.now in
    let alike = g.M.Turns.alike c.args.system.now in
    let meets = g.M.Turns.meets c.args.system.now in
    let key_of = g.M.Turns.key_of c.args.system.now in
    let good = turns.as_good c.args.system.now in (
      subst (λ (l : List _). IsLayer turn alike c.args.first 0 l)
          (sym c.in_ok-layer.ensures.states)
          (first_layer turn alike c.args.first (good.itself c.args.first c.requires)),
      none_before_first turn meets c.args.first,
      (
        key_of c.args.first ∷ [],
        subst (λ (l : List _). AreKeysOf g.M.Key.PartialEq.eq key_of (key_of c.args.first ∷ []) l)
            (sym c.in_ok-layer.ensures.states)
            (first_keys g.M.Key.PartialEq.eq key_of c.args.first key_eq.laws.symm),
      ),
      long_first turn c.args.first,
      c.in_ok-layer.ensures.bytes,
    )

pub returns-then-is_empty : goal.returns-then-is_empty
unfolding IsRight IsCutAtLimits
returns-then-is_empty g c =
    let turn = g.M.Turns.turn c.args.system.now in
    let alike = g.M.Turns.alike c.args.system.now in
    let meets = g.M.Turns.meets c.args.system.now in
    let none : length c.loop-turns.layer.states.items ≡ 0 = grind (arith, c.if-is_empty.true, c.if-is_empty.ensures) in
    record {
      right = never turn alike meets c.args.first c.loop-turns.turns
          (subst (λ (l : List _). IsLayer turn alike c.args.first c.loop-turns.turns l) (nil_from_length c.loop-turns.layer.states.items none)
          c.loop-turns.invariant.0)
          c.loop-turns.invariant.1;
      cut = tt;
    }

pub returns-in-Some : goal.returns-in-Some
unfolding IsRight IsCutAtLimits
returns-in-Some g c =
    let meets = g.M.Turns.meets c.args.system.now in
    record {
      right = shortest (g.M.Turns.turn c.args.system.now) (g.M.Turns.alike c.args.system.now) meets c.args.first
          c.loop-turns.turns c.loop-turns.layer.states.items c.in-Some.place c.swap_remove-state.result c.loop-turns.invariant.0
          c.loop-turns.invariant.1
          (subst (λ (l : List _). MeetsAt meets l c.in-Some.place) c.deref.ensures.value c.in-Some.ensures.met)
          c.swap_remove-state.ensures.value;
      cut = c.loop-turns-test.true;
    }

-- none is met within this layer either
pub returns-in_default-2 : goal.returns-in_default-2
unfolding IsRight IsCutAtLimits
returns-in_default-2 g c =
    let turns = g.met.M.Turns g.world.𝓛 g.world.𝓜 g.world.𝓡 ((λ s x. x), (λ x. x), (λ x. x), λ x. x) in
    let turn = g.M.Turns.turn c.args.system.now in
    let meets = g.M.Turns.meets c.args.system.now in
    let key_of = g.M.Turns.key_of c.args.system.now in
    let bytes_of = g.M.Turns.bytes_of c.args.system.now in
    let room = c.room_behind-room.result in
    let wide : c.args.limits.states ≤ length c.loop-turns.layer.states.items + room.states =
    grind (arith, c.room_behind-room.ensures.states, c.len-in-loop-turns.ensures) in
    let more = rw c.in_default-2.is at c.in_ok-next.ensures.none in
    record {
      right = none_before_next turn meets c.args.first c.loop-turns.turns c.loop-turns.invariant.1
          (layer_misses (g.M.Turns.valid c.args.system.now) turn (g.M.Turns.alike c.args.system.now) meets c.args.first c.loop-turns.turns
          c.loop-turns.layer.states.items (turns.as_good c.args.system.now) c.loop-turns.invariant.0
          (subst (λ (l : List _). NoneIsMet meets l) c.deref.ensures.value (c.in_default.ensures.none refl)));
      cut = inr (over g.M.Key.PartialEq.eq key_of turn (g.M.Turns.alike c.args.system.now) bytes_of c.args.first c.args.limits
          room.states room.bytes c.loop-turns.turns c.loop-turns.layer.bytes c.loop-turns.invariant.2.0 c.loop-turns.layer.states.items
          c.loop-turns.invariant.2.1 c.loop-turns.invariant.0 c.loop-turns.invariant.4
          (subst (λ (l : List _). LacksRoom g.M.Key.PartialEq.eq key_of turn l room.states
          ⊎ LacksBytes g.M.Key.PartialEq.eq key_of turn bytes_of l room.bytes) c.deref-in-loop-turns.ensures.value more) wide
          c.room_behind-room.ensures.bytes);
    }

pub loop-turns-preserved : goal.loop-turns-preserved
loop-turns-preserved g c =
    let turns = g.met.M.Turns g.world.𝓛 g.world.𝓜 g.world.𝓡 ((λ s x. x), (λ x. x), (λ x. x), λ x. x) in
    let turn = g.M.Turns.turn c.args.system.now in
    let alike = g.M.Turns.alike c.args.system.now in
    let meets = g.M.Turns.meets c.args.system.now in
    let good = turns.as_good c.args.system.now in
    let n = c.loop-turns.turns in
    let some : 0 < length c.loop-turns.layer.states.items = grind (arith, c.if-is_empty.false, c.if-is_empty.ensures) in
    let next : suc n ≡ n + 1 = omega arith in (
      subst (λ (k : ℕ). IsLayer turn alike c.args.first k c.in-Some-2.next.states.items) next
          (next_is_layer (g.M.Turns.valid c.args.system.now) turn alike meets c.args.first n c.loop-turns.layer.states.items
          c.in-Some-2.next.states.items good c.loop-turns.invariant.0
          (subst (λ (l : List _). AreNext turn alike l c.in-Some-2.next.states.items) c.deref-in-loop-turns.ensures.value
          (rw c.in-Some-2.is at c.in_ok-next.ensures.next))),
      none_before_next turn meets c.args.first n c.loop-turns.invariant.1
          (layer_misses (g.M.Turns.valid c.args.system.now) turn alike meets c.args.first n c.loop-turns.layer.states.items good
          c.loop-turns.invariant.0
          (subst (λ (l : List _). NoneIsMet meets l) c.deref.ensures.value (c.in_default.ensures.none refl))),
      rw c.in-Some-2.is at c.in_ok-next.ensures.keys,
      long_next turn alike c.args.first n c.loop-turns.layer.states.items c.loop-turns.invariant.0 some c.loop-turns.invariant.3,
      rw c.in-Some-2.is at c.in_ok-next.ensures.bytes,
    )

pub returns : goal.returns
unfolding IsRight IsCutAtLimits
returns g c =
    let e : c.loop-turns.turns ≡ c.args.limits.turns = omega (arith, c.loop-turns.auto, c.loop-turns-test.false) in
    record {
      right = subst (NoneBefore (g.M.Turns.turn c.args.system.now) (g.M.Turns.meets c.args.system.now) c.args.first) e
          c.loop-turns.invariant.1;
      cut = inl (refl, subst (IsLong (g.M.Turns.turn c.args.system.now) c.args.first) e c.loop-turns.invariant.3);
    }

pub next_layer-requires-clause-layer : goal.next_layer-requires-clause-layer
next_layer-requires-clause-layer g c κs live =
    let turns = g.met.M.Turns g.world.𝓛 g.world.𝓜 g.world.𝓡 ((λ s x. x), (λ x. x), (λ x. x), λ x. x) in
    let valid = g.M.Turns.valid c.args.system.now in
    let good = turns.as_good c.args.system.now in
    subst (λ (l : List _). AreValid valid l) (sym c.deref-in-loop-turns.ensures.value)
    (layer_valid valid (g.M.Turns.turn c.args.system.now) (g.M.Turns.alike c.args.system.now) c.args.first c.loop-turns.turns
    c.loop-turns.layer.states.items good.stays c.requires c.loop-turns.invariant.0)

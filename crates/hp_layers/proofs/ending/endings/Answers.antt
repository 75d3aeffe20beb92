use Rattle.std.proofs.Common.{arith, ◌≡◌, ◌∙◌, sym, ap, ◌∷◌, [], ℕ, suc, ◌+◌, ◌<◌, ◌≤◌, inl, inr, refl, subst, List, length}
use Rattle.std.specs.Prelude.{None, Some}
use Rattle.std.specs.HashMap.{get}
use Rattle.std.specs.Map.{lookup}
use Rattle.std.proofs.lemmas.Grind.{common_steps}
use Rattle.std.proofs.lemmas.List.{nil_from_length}
use Rattle.hp_layers.specs.Ended.{AreCutAtLimits, AreRight, HasEndings, has_place}
use Rattle.hp_layers.specs.Layers.{AreKeysOf, IsLayer, IsLong}
use Rattle.hp_layers.specs.Named.{AreAllTold, AreTold}
use Rattle.hp_layers.proofs.Bytes.{over}
use Rattle.hp_layers.proofs.Covering.{first_keys}
use Rattle.hp_layers.proofs.Indexing.{none_indexed}
use Rattle.hp_layers.proofs.Layering.{ends, first_layer, layer_valid, long_first, long_next, next_is_layer}
use Rattle.hp_layers.proofs.Seating.{places_stand}
use Rattle.hp_layers.proofs.Spreading.{AreSpread, no_run_left, spread_first, spread_next, told_first, told_more}
use Rattle.hp_layers.proofs.Taking.{all_ended, ended_before, has_before_first, has_before_next, none_shortest, shortest_next}
use Rattle.hp_layers.proofs.ending.endings.Goals as goal

pub loop-turns-init : goal.loop-turns-init
loop-turns-init g c =
    let key_eq = g.met.M.Key.Eq g.world.𝓛 g.world.𝓜 g.world.𝓡 ((λ s x. x), (λ x. x), (λ x. x), λ x. x) in
    let turns = g.met.M.Turns g.world.𝓛 g.world.𝓜 g.world.𝓡 ((λ s x. x), (λ x. x), (λ x. x), λ x. x) in
    let ends_so = g.met.M.Ends g.world.𝓛 g.world.𝓜 g.world.𝓡 ((λ s x. x), (λ x. x), (λ x. x), λ x. x) in
    let m = c.args.system.now in
    let first = c.args.first in
    let turn = g.M.Turns.turn m in
    let alike = g.M.Turns.alike m in
    let step = g.M.Ends.step m in
    let ending = g.M.Ends.ending_of m in
    let eq = g.M.Ending.PartialEq.eq in
    let key_of = g.M.Turns.key_of m in
    let good = turns.as_good m in
    let itself = good.itself first c.requires in
    let none : (q : _) → get eq c.new-places.result q ≡ None = λ q. ap (lookup (eq q)) c.new-places.ensures.empty in
    let states = c.in_ok-layer.ensures.states in
    let ns = c.in_ok-layer.ensures.ways in
    record {
      layer = subst (λ (l : List _). IsLayer turn alike first 0 l) (sym states) (first_layer turn alike first itself);
      even = ap (λ (l : List ℕ). length l) ns ∙ sym (ap (λ (l : List _). length l) states);
      long = ap (λ (l : List ℕ). length l) c.no_counts-counts.ensures.ways
          ∙ sym (ap (λ (l : List _). length l) c.no_counts-counts.ensures.states);
      indexed = none_indexed eq (λ s e. ending s ≡ Some e) (get eq c.new-places.result) c.no_counts-counts.result.states.items none
          c.no_counts-counts.ensures.states;
      shortest = none_shortest turn ending first c.no_counts-counts.result.states.items c.no_counts-counts.ensures.states;
      before = has_before_first turn ending first (has_place (get eq c.new-places.result));
      keys = (
        key_of first ∷ [],
        subst (λ (l : List _). AreKeysOf g.M.Key.PartialEq.eq key_of (key_of first ∷ []) l) (sym states)
            (first_keys g.M.Key.PartialEq.eq key_of first key_eq.laws.symm),
      );
      bytes = c.in_ok-layer.ensures.bytes;
      spread = spread_first step alike first _ states ns itself;
      goes_on = long_first turn first;
      told = told_first turn alike step first (ends_so.are_named m) good.onward itself eq ending (ends_so.ends_alike m)
          c.no_counts-counts.result c.no_counts-counts.ensures.states c.no_counts-counts.ensures.ways;
    }

pub next_counts-requires-clause-valid : goal.next_counts-requires-clause-valid
next_counts-requires-clause-valid g c κs live =
    let turns = g.met.M.Turns g.world.𝓛 g.world.𝓜 g.world.𝓡 ((λ s x. x), (λ x. x), (λ x. x), λ x. x) in
    let good = turns.as_good c.args.system.now in
    layer_valid (g.M.Turns.valid c.args.system.now) (g.M.Turns.turn c.args.system.now) (g.M.Turns.alike c.args.system.now) c.args.first
    c.loop-turns.turns c.loop-turns.layer.counts.states.items good.stays c.requires c.loop-turns.invariant.layer

pub returns-then-is_empty : goal.returns-then-is_empty
unfolding AreRight AreCutAtLimits AreAllTold
returns-then-is_empty g c =
    let ends_so = g.met.M.Ends g.world.𝓛 g.world.𝓜 g.world.𝓡 ((λ s x. x), (λ x. x), (λ x. x), λ x. x) in
    let m = c.args.system.now in
    let turn = g.M.Turns.turn m in
    let alike = g.M.Turns.alike m in
    let ending = g.M.Ends.ending_of m in
    let eq = g.M.Ending.PartialEq.eq in
    let was = c.loop-turns.invariant in
    let short : length c.loop-turns.layer.counts.states.items ≡ 0 = grind (arith, common_steps, c.if-is_empty.true, c.if-is_empty.ensures) in
    let none = nil_from_length c.loop-turns.layer.counts.states.items short in
    let empty = subst (λ (l : List _). IsLayer turn alike c.args.first c.loop-turns.turns l) none was.layer in
    record {
      right = (
        all_ended turn alike ending c.args.first (has_place (get eq c.loop-turns.places)) c.loop-turns.turns c.loop-turns.counts.states.items
            empty was.before
            (places_stand eq ending (get eq c.loop-turns.places) c.loop-turns.counts.states.items (ends_so.ends_alike m).one c.args.first
            was.indexed),
        was.shortest,
      );
      counted = (
        c.loop-turns.turns,
        was.told,
        no_run_left turn alike (g.M.Ends.step m) c.args.first (ends_so.are_named m) c.loop-turns.turns empty,
      );
      cut = λ n s le r.
          ends turn alike c.args.first c.loop-turns.turns empty n (omega (arith, le, c.loop-turns-test.true)) s r;
    }

-- the endings of this layer are taken
pub returns-in_default : goal.returns-in_default
unfolding AreRight AreCutAtLimits AreAllTold
returns-in_default g c =
    let turns = g.met.M.Turns g.world.𝓛 g.world.𝓜 g.world.𝓡 ((λ s x. x), (λ x. x), (λ x. x), λ x. x) in
    let ends_so = g.met.M.Ends g.world.𝓛 g.world.𝓜 g.world.𝓡 ((λ s x. x), (λ x. x), (λ x. x), λ x. x) in
    let m = c.args.system.now in
    let turn = g.M.Turns.turn m in
    let alike = g.M.Turns.alike m in
    let step = g.M.Ends.step m in
    let ending = g.M.Ends.ending_of m in
    let eq = g.M.Ending.PartialEq.eq in
    let good = turns.as_good m in
    let was = c.loop-turns.invariant in
    let took = c.in_ok-take_counts.ensures in
    let before = get eq c.loop-turns.places in
    let after = get eq c.take_counts.new.places in
    let has = has_place before in
    let more = has_place after in
    let n = c.loop-turns.turns in
    let states = c.loop-turns.layer.counts.states.items in
    let room = c.room_behind-room.result in
    let wide : c.args.limits.states ≤ length states + room.states =
    grind (arith, common_steps, c.room_behind-room.ensures.states, c.len-in-loop-turns.ensures) in
    let lacks = rw c.in_default.is at c.in_ok-next.ensures.none in
    record {
      right = (
        ended_before turn ending c.args.first more (n + 1) c.take_counts.new.table.states.items
            (has_before_next eq turn alike ending c.args.first has more n states c.loop-turns.counts.states.items
            c.take_counts.new.table.states.items (ends_so.ends_alike m) was.layer took.taken was.before)
            (places_stand eq ending after c.take_counts.new.table.states.items (ends_so.ends_alike m).one c.args.first took.indexed),
        shortest_next turn alike ending c.args.first has more n states c.loop-turns.counts.states.items
            c.take_counts.new.table.states.items was.layer took.taken was.before was.shortest,
      );
      counted = told_more turn alike step c.args.first (ends_so.are_named m) good.onward (good.itself c.args.first c.requires) eq ending
          (ends_so.ends_alike m) n before after c.loop-turns.layer.counts c.loop-turns.counts c.take_counts.new.table was.even was.spread
          took.ways took.indexed was.told took.long;
      cut = inr (over g.M.Key.PartialEq.eq (g.M.Turns.key_of m) turn alike (g.M.Turns.bytes_of m) c.args.first c.args.limits
          room.states room.bytes n c.loop-turns.layer.bytes was.keys.0 states was.keys.1 was.layer was.bytes lacks wide
          c.room_behind-room.ensures.bytes);
    }

pub loop-turns-preserved : goal.loop-turns-preserved
loop-turns-preserved g c =
    let turns = g.met.M.Turns g.world.𝓛 g.world.𝓜 g.world.𝓡 ((λ s x. x), (λ x. x), (λ x. x), λ x. x) in
    let ends_so = g.met.M.Ends g.world.𝓛 g.world.𝓜 g.world.𝓡 ((λ s x. x), (λ x. x), (λ x. x), λ x. x) in
    let m = c.args.system.now in
    let turn = g.M.Turns.turn m in
    let alike = g.M.Turns.alike m in
    let step = g.M.Ends.step m in
    let ending = g.M.Ends.ending_of m in
    let eq = g.M.Ending.PartialEq.eq in
    let good = turns.as_good m in
    let was = c.loop-turns.invariant in
    let took = c.in_ok-take_counts.ensures in
    let before = get eq c.loop-turns.places in
    let after = get eq c.take_counts.new.places in
    let has = has_place before in
    let more = has_place after in
    let n = c.loop-turns.turns in
    let layer = c.loop-turns.layer.counts in
    let itself = good.itself c.args.first c.requires in
    let some : 0 < length layer.states.items = grind (arith, common_steps, c.if-is_empty.false, c.if-is_empty.ensures) in
    let next : suc n ≡ n + 1 = omega arith in
    record {
      layer = subst (λ (k : ℕ). IsLayer turn alike c.args.first k c.in-Some.next.counts.states.items) next
          (next_is_layer (g.M.Turns.valid m) turn alike (g.M.Turns.meets m) c.args.first n layer.states.items c.in-Some.next.counts.states.items good
          was.layer (rw c.in-Some.is at c.in_ok-next.ensures.next));
      even = rw c.in-Some.is at c.in_ok-next.ensures.long;
      long = took.long;
      indexed = took.indexed;
      shortest = shortest_next turn alike ending c.args.first has more n layer.states.items c.loop-turns.counts.states.items
          c.take_counts.new.table.states.items was.layer took.taken was.before was.shortest;
      before = has_before_next eq turn alike ending c.args.first has more n layer.states.items c.loop-turns.counts.states.items
          c.take_counts.new.table.states.items (ends_so.ends_alike m) was.layer took.taken was.before;
      keys = rw c.in-Some.is at c.in_ok-next.ensures.keys;
      bytes = rw c.in-Some.is at c.in_ok-next.ensures.bytes;
      spread = subst (λ (k : ℕ). AreSpread step alike c.args.first k c.in-Some.next.counts) next
          (spread_next turn alike step c.args.first (ends_so.are_named m) good.onward itself n layer c.in-Some.next.counts was.even was.spread
          (rw c.in-Some.is at c.in_ok-next.ensures.goes));
      goes_on = long_next turn alike c.args.first n layer.states.items was.layer some was.goes_on;
      told = told_more turn alike step c.args.first (ends_so.are_named m) good.onward itself eq ending (ends_so.ends_alike m) n before
          after layer c.loop-turns.counts c.take_counts.new.table was.even was.spread took.ways took.indexed was.told took.long;
    }

pub returns : goal.returns
unfolding AreRight AreCutAtLimits AreAllTold
returns g c =
    let ends_so = g.met.M.Ends g.world.𝓛 g.world.𝓜 g.world.𝓡 ((λ s x. x), (λ x. x), (λ x. x), λ x. x) in
    let m = c.args.system.now in
    let turn = g.M.Turns.turn m in
    let ending = g.M.Ends.ending_of m in
    let eq = g.M.Ending.PartialEq.eq in
    let was = c.loop-turns.invariant in
    let e : c.loop-turns.turns ≡ c.args.limits.turns = omega (arith, c.loop-turns.auto, c.loop-turns-test.false) in
    let places = get eq c.loop-turns.places in
    record {
      right = (
        subst (λ (k : ℕ). (n : ℕ) → n < k → HasEndings turn ending c.args.first c.loop-turns.counts.states.items n) e
            (ended_before turn ending c.args.first (has_place places) c.loop-turns.turns c.loop-turns.counts.states.items was.before
            (places_stand eq ending places c.loop-turns.counts.states.items (ends_so.ends_alike m).one c.args.first was.indexed)),
        was.shortest,
      );
      counted = subst (λ (k : ℕ). AreTold (g.M.Ends.step m) ending c.args.first k c.loop-turns.counts) e was.told;
      cut = inl (refl, subst (IsLong turn c.args.first) e was.goes_on);
    }

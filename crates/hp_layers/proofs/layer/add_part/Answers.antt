use Rattle.std.proofs.Common.{◌+◌, ℕ, arith, length, List, subst, sym, take}
use Rattle.std.specs.HashSet.{contains}
use Rattle.hp_layers.specs.Layers.{AreAllAfter, AreNext, IsGathered}
use Rattle.hp_layers.proofs.Bytes.{fits, lacks}
use Rattle.hp_layers.proofs.Covering.{after_one, are_valid, next_on, valid_after}
use Rattle.hp_layers.proofs.Portions.{at_end, at_place, in_layer, item_at, item_there, part_valid, take_in_part}
use Rattle.hp_layers.proofs.layer.add_part.Goals as goal

pub take_or_make-requires-clause-there : goal.take_or_make-requires-clause-there
take_or_make-requires-clause-there g c κs live =
    part_valid (g.M.Turns.valid c.args.system.now) c.args.layer.now c.requires.layer c.args.begin c.args.end c.requires.order c.requires.within
    c.loop-place.place c.loop-place-test.true

pub add_all-requires-clause-states : goal.add_all-requires-clause-states
add_all-requires-clause-states g c κs live =
    let turns = g.met.M.Turns g.world.𝓛 g.world.𝓜 g.world.𝓡 ((λ s x. x), (λ x. x), (λ x. x), λ x. x) in
    let turn = g.M.Turns.turn c.args.system.now in
    let alike = g.M.Turns.alike c.args.system.now in
    let valid = g.M.Turns.valid c.args.system.now in
    let good = turns.as_good c.args.system.now in
    let layer = c.args.layer.now in
    let k = c.args.begin + c.loop-place.place in
    let after = c.in_ok-after.after.items in
    let there = in_layer c.args.begin c.args.end c.loop-place.place (length c.args.layer.now) c.requires.order c.requires.within c.loop-place-test.true in
    let s = item_at layer k there in
    valid_after valid turn alike s.0 after good.stays (are_valid valid layer c.requires.layer s.0 (item_there layer k there))
    (at_place (λ (x : _). AreAllAfter turn alike x after) layer k there c.in_ok-after.ensures.right)

pub loop-place-preserved : goal.loop-place-preserved
loop-place-preserved g c =
    let turns = g.met.M.Turns g.world.𝓛 g.world.𝓜 g.world.𝓡 ((λ s x. x), (λ x. x), (λ x. x), λ x. x) in
    let turn = g.M.Turns.turn c.args.system.now in
    let alike = g.M.Turns.alike c.args.system.now in
    let good = turns.as_good c.args.system.now in
    let layer = c.args.layer.now in
    let k = c.args.begin + c.loop-place.place in
    let after = c.in_ok-after.after.items in
    let new = c.add_all.new.next.states.items in
    let was = c.loop-place.invariant.gathered in
    let there = in_layer c.args.begin c.args.end c.loop-place.place (length c.args.layer.now) c.requires.order c.requires.within c.loop-place-test.true in
    let s = item_at layer k there in
    let right = at_place (λ (x : _). AreAllAfter turn alike x after) layer k there c.in_ok-after.ensures.right in
    record {
      gathered = record {
        stand = c.in_ok-add_all.ensures.stand;
        next_of = subst (λ (l : List _). AreNext turn alike l new) (sym (take_in_part layer c.args.begin c.loop-place.place there))
            (next_on turn alike (take k layer) c.loop-place.next.states.items after new s.0 good.onward was.next_of right
            c.in_ok-add_all.ensures.added);
        are_valid = c.in_ok-add_all.ensures.next;
        counted = c.in_ok-add_all.ensures.counted;
        fits = fits c.exceeds.result c.args.room.states c.args.room.bytes c.len.result _ c.add_all.new.next.bytes c.exceeds.ensures
            c.if-exceeds.false (grind (arith, c.len.ensures));
        are_bytes = c.in_ok-add_all.ensures.bytes;
      };
      own = c.in_ok-after.ensures.own;
    }

pub returns-then-exceeds-clause-none : goal.returns-then-exceeds-clause-none
returns-then-exceeds-clause-none g c = λ gives.
    let turn = g.M.Turns.turn c.args.system.now in
    let alike = g.M.Turns.alike c.args.system.now in
    let layer = c.args.layer.now in
    let k = c.args.begin + c.loop-place.place in
    let after = c.in_ok-after.after.items in
    let there = in_layer c.args.begin c.args.end c.loop-place.place (length c.args.layer.now) c.requires.order c.requires.within c.loop-place-test.true in
    let s = item_at layer k there in
    let right = at_place (λ (x : _). AreAllAfter turn alike x after) layer k there c.in_ok-after.ensures.right in
    lacks g.M.Key.PartialEq.eq (g.M.Turns.key_of c.args.system.now) turn (g.M.Turns.bytes_of c.args.system.now) layer
    c.add_all.new.next.states.items c.add_all.new.seen.keys c.args.room.states c.args.room.bytes c.len.result c.add_all.new.next.bytes
    c.in_ok-add_all.ensures.counted c.in_ok-add_all.ensures.stand c.in_ok-add_all.ensures.bytes (grind (arith, c.len.ensures))
    (c.exceeds.ensures.0 c.if-exceeds.true)
    (λ t. after_one turn alike layer c.loop-place.next.states.items after c.add_all.new.next.states.items k s.0 t (item_there layer k there)
    c.loop-place.invariant.gathered.next_of right c.in_ok-add_all.ensures.added)

pub returns-clause-gathered : goal.returns-clause-gathered
returns-clause-gathered g c = λ gives.
    let whole = at_end c.args.begin c.args.end c.loop-place.place c.requires.order c.loop-place.auto.place-end c.loop-place-test.false in
    subst (λ (k : ℕ). IsGathered g.M.Key.PartialEq.eq (g.M.Turns.key_of c.args.system.now) (g.M.Turns.valid c.args.system.now)
    (g.M.Turns.turn c.args.system.now) (g.M.Turns.alike c.args.system.now) (g.M.Turns.bytes_of c.args.system.now) c.args.room.states
    c.args.room.bytes (take k c.args.layer.now) (contains g.M.Key.PartialEq.eq c.loop-place.seen) c.loop-place.seen.keys
    c.loop-place.next.states.items c.loop-place.next.bytes) whole
    c.loop-place.invariant.gathered

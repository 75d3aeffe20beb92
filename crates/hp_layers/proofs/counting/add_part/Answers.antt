use Rattle.std.proofs.Common.{◌≡◌, ◌∙◌, ℕ, ◌+◌, ◌++◌, ◌∷◌, [], List, arith, get_or, ap, length, subst, sym, take}
use Rattle.std.specs.Prelude.{map}
use Rattle.std.specs.HashMap.{get}
use Rattle.std.proofs.lemmas.Grind.{common_steps}
use Rattle.std.proofs.lemmas.List.{length-take-le, take_more}
use Rattle.hp_layers.specs.Layers.{AreNext}
use Rattle.hp_layers.specs.Named.{AreEach, IsTallied, MoveSo}
use Rattle.hp_layers.proofs.Bytes.{fits, lacks}
use Rattle.hp_layers.proofs.Covering.{after_one, are_valid, next_on, valid_after}
use Rattle.hp_layers.proofs.Indexing.{have_one_place, indexed_keys}
use Rattle.hp_layers.proofs.Portions.{at_end, at_place, in_layer, item_at, item_there, part_valid, take_in_part}
use Rattle.hp_layers.proofs.Spreading.{all_after, more_moves}
use Rattle.hp_layers.proofs.counting.add_part.Goals as goal

pub take_or_make-requires-clause-there : goal.take_or_make-requires-clause-there
take_or_make-requires-clause-there g c κs live =
    part_valid (g.M.Turns.valid c.args.system.now) c.args.layer.now c.requires.layer c.args.begin c.args.end c.requires.order c.requires.within
    c.loop-place.place c.loop-place-test.true

pub add_each-requires-clause-states : goal.add_each-requires-clause-states
add_each-requires-clause-states g c κs live =
    let turns = g.met.M.Turns g.world.𝓛 g.world.𝓜 g.world.𝓡 ((λ s x. x), (λ x. x), (λ x. x), λ x. x) in
    let ends_so = g.met.M.Ends g.world.𝓛 g.world.𝓜 g.world.𝓡 ((λ s x. x), (λ x. x), (λ x. x), λ x. x) in
    let m = c.args.system.now in
    let good = turns.as_good m in
    let states = c.args.layer.now in
    let k = c.args.begin + c.loop-place.place in
    let there = in_layer c.args.begin c.args.end c.loop-place.place (length states) c.requires.order c.requires.within c.loop-place-test.true in
    let state = (item_at states k there).0 in
    let each = at_place (λ (x : _). AreEach (g.M.Ends.step m) x c.in_ok-after.after.items) states k there c.in_ok-after.ensures.right in
    let own = are_valid (g.M.Turns.valid m) states c.requires.layer state (item_there states k there) in
    valid_after (g.M.Turns.valid m) (g.M.Turns.turn m) (g.M.Turns.alike m) state c.in_ok-after.after.items good.stays own
    (all_after g.M.Key.PartialEq.eq (g.M.Turns.key_of m) (g.M.Turns.valid m) (g.M.Turns.turn m) (g.M.Turns.alike m) (g.M.Ends.step m)
    (turns.same_key m) good.stays (ends_so.are_named m) state c.in_ok-after.after.items (good.itself state own) each)

pub loop-place-preserved : goal.loop-place-preserved
loop-place-preserved g c =
    let turns = g.met.M.Turns g.world.𝓛 g.world.𝓜 g.world.𝓡 ((λ s x. x), (λ x. x), (λ x. x), λ x. x) in
    let ends_so = g.met.M.Ends g.world.𝓛 g.world.𝓜 g.world.𝓡 ((λ s x. x), (λ x. x), (λ x. x), λ x. x) in
    let m = c.args.system.now in
    let eq = g.M.Key.PartialEq.eq in
    let good = turns.as_good m in
    let turn = g.M.Turns.turn m in
    let alike = g.M.Turns.alike m in
    let ns = c.args.ways.now in
    let states = c.args.layer.now in
    let k = c.args.begin + c.loop-place.place in
    let within = in_layer c.args.begin c.args.end c.loop-place.place (length states) c.requires.order c.requires.within c.loop-place-test.true in
    let there = in_layer c.args.begin c.args.end c.loop-place.place (length ns) c.requires.order
    (omega (arith, c.requires.within, c.requires.ways)) c.loop-place-test.true in
    let added = c.in_ok-add_each.ensures in
    let was = c.loop-place.invariant.tallied in
    let state = (item_at states k within).0 in
    let each = at_place (λ (x : _). AreEach (g.M.Ends.step m) x c.in_ok-after.after.items) states k within c.in_ok-after.ensures.right in
    let own = are_valid (g.M.Turns.valid m) states c.requires.layer state (item_there states k within) in
    let after = all_after eq (g.M.Turns.key_of m) (g.M.Turns.valid m) turn alike (g.M.Ends.step m) (turns.same_key m) good.stays
    (ends_so.are_named m) state c.in_ok-after.after.items (good.itself state own) each in
    let one = take_in_part states c.args.begin c.loop-place.place within in
    let two : take (c.args.begin + (c.loop-place.place + 1)) ns ≡ take k ns ++ get_or ns k 0 ∷ [] =
    (let next : c.args.begin + (c.loop-place.place + 1) ≡ k + 1 = omega arith in ap (λ (j : ℕ). take j ns) next ∙ take_more ns k 0 there) in
    let so = more_moves (g.M.Ends.step m) (g.M.Turns.key_of m) (get eq c.loop-place.seats) (get eq c.add_each.new.places) (take k states)
    (take k ns) c.loop-place.next.counts.ways.items c.add_each.new.next.counts.ways.items state (get_or ns k 0) c.in_ok-after.after.items
    (length-take-le k ns (omega (arith, there)) ∙ sym (length-take-le k states (omega (arith, within)))) was.moves added.kept
    each added.each in
    record {
      tallied = record {
        are_valid = added.valid;
        long = added.long;
        indexed = added.indexed;
        next_of = subst (λ (l : List _). AreNext turn alike l c.add_each.new.next.counts.states.items) (sym one)
            (next_on turn alike (take k states) c.loop-place.next.counts.states.items c.in_ok-after.after.items
            c.add_each.new.next.counts.states.items state good.onward was.next_of after added.added);
        moves = subst (λ (l : List ℕ). MoveSo (g.M.Ends.step m) (g.M.Turns.key_of m) (get eq c.add_each.new.places)
            (take (c.args.begin + (c.loop-place.place + 1)) states) l c.add_each.new.next.counts.ways.items) (sym two)
            (subst (λ (l : List _). MoveSo (g.M.Ends.step m) (g.M.Turns.key_of m) (get eq c.add_each.new.places) l
            (take k ns ++ get_or ns k 0 ∷ []) c.add_each.new.next.counts.ways.items) (sym one) so);
        fits = fits c.exceeds.result c.args.room.states c.args.room.bytes c.len-many.result _ c.add_each.new.next.bytes c.exceeds.ensures
            c.if-exceeds.false (grind (arith, common_steps, c.len-many.ensures));
        are_bytes = added.bytes;
      };
      own = c.in_ok-after.ensures.own;
    }

pub returns-then-exceeds-clause-none : goal.returns-then-exceeds-clause-none
returns-then-exceeds-clause-none g c = λ gives.
    let key_eq = g.met.M.Key.Eq g.world.𝓛 g.world.𝓜 g.world.𝓡 ((λ s x. x), (λ x. x), (λ x. x), λ x. x) in
    let turns = g.met.M.Turns g.world.𝓛 g.world.𝓜 g.world.𝓡 ((λ s x. x), (λ x. x), (λ x. x), λ x. x) in
    let ends_so = g.met.M.Ends g.world.𝓛 g.world.𝓜 g.world.𝓡 ((λ s x. x), (λ x. x), (λ x. x), λ x. x) in
    let m = c.args.system.now in
    let eq = g.M.Key.PartialEq.eq in
    let laws = key_eq.laws in
    let good = turns.as_good m in
    let turn = g.M.Turns.turn m in
    let alike = g.M.Turns.alike m in
    let key_of = g.M.Turns.key_of m in
    let states = c.args.layer.now in
    let k = c.args.begin + c.loop-place.place in
    let next = c.add_each.new.next.counts.states.items in
    let within = in_layer c.args.begin c.args.end c.loop-place.place (length states) c.requires.order c.requires.within c.loop-place-test.true in
    let state = (item_at states k within).0 in
    let each = at_place (λ (x : _). AreEach (g.M.Ends.step m) x c.in_ok-after.after.items) states k within c.in_ok-after.ensures.right in
    let there = item_there states k within in
    let own = are_valid (g.M.Turns.valid m) states c.requires.layer state there in
    let after = all_after eq key_of (g.M.Turns.valid m) turn alike (g.M.Ends.step m) (turns.same_key m) good.stays
    (ends_so.are_named m) state c.in_ok-after.after.items (good.itself state own) each in
    let keys = indexed_keys eq key_of laws.symm (get eq c.add_each.new.places) next
    (have_one_place eq c.add_each.new.places.entries laws.congr) c.in_ok-add_each.ensures.indexed in
    lacks eq key_of turn (g.M.Turns.bytes_of m) states next (map key_of next) c.args.room.states c.args.room.bytes c.len-many.result
    c.add_each.new.next.bytes keys.counted keys.stand c.in_ok-add_each.ensures.bytes (grind (arith, common_steps, c.len-many.ensures))
    (c.exceeds.ensures.0 c.if-exceeds.true)
    (λ t. after_one turn alike states c.loop-place.next.counts.states.items c.in_ok-after.after.items next k state t there
    c.loop-place.invariant.tallied.next_of after c.in_ok-add_each.ensures.added)

pub returns-clause-tallied : goal.returns-clause-tallied
returns-clause-tallied g c = λ gives.
    let m = c.args.system.now in
    let whole = at_end c.args.begin c.args.end c.loop-place.place c.requires.order c.loop-place.auto.place-end c.loop-place-test.false in
    subst (λ (k : ℕ). IsTallied (g.M.Ends.step m) g.M.Key.PartialEq.eq (g.M.Turns.key_of m) (g.M.Turns.valid m) (g.M.Turns.turn m)
    (g.M.Turns.alike m) (g.M.Turns.bytes_of m) c.args.room.states c.args.room.bytes (take k c.args.layer.now) (take k c.args.ways.now)
    (get g.M.Key.PartialEq.eq c.loop-place.seats) c.loop-place.next.counts c.loop-place.next.bytes) whole c.loop-place.invariant.tallied

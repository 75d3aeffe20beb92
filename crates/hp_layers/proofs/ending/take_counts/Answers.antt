use Rattle.std.proofs.Common.{◌≡◌, ◌∙◌, ◌++◌, ◌∷◌, [], ℕ, ◌+◌, List, length, ap, arith}
use Rattle.std.specs.HashMap.{get}
use Rattle.std.proofs.lemmas.Grind.{common_steps}
use Rattle.std.proofs.lemmas.List.{length_push, nil_from_length}
use Rattle.hp_layers.specs.Ended.{has_place}
use Rattle.hp_layers.proofs.Seating.{takes_rest_all, takes_rest_more, takes_rest_none}
use Rattle.hp_layers.proofs.Taking.{takes_all, takes_more, takes_none}
use Rattle.hp_layers.proofs.ending.take_counts.Goals as goal

pub loop-state-init : goal.loop-state-init
loop-state-init g c =
    let ending = g.M.Ends.ending_of c.args.system.now in
    let place = get g.M.Ending.PartialEq.eq c.args.places.now in
    record {
      layer = c.requires.layer;
      long = c.requires.long;
      indexed = c.requires.indexed;
      taken = takes_none ending (has_place place) c.args.table.now.states.items c.args.layer.states.items;
      rest = takes_rest_none ending place c.args.layer.states.items c.args.layer.ways.items c.args.table.now;
    }

pub loop-state-preserved : goal.loop-state-preserved
loop-state-preserved g c =
    let ending = g.M.Ends.ending_of c.args.system.now in
    let eq = g.M.Ending.PartialEq.eq in
    let ns = c.loop-state.ways.items in
    let states = c.loop-state.states.items in
    let fewer = c.pop-in-Some.new.self.items in
    let less = c.pop.new.self.items in
    let is : ns ≡ fewer ++ c.unwrap-more.result ∷ [] = rw c.unwrap-more.ensures at c.pop-in-Some.ensures.items in
    let are : states ≡ less ++ c.in-Some.state ∷ [] = c.in-Some.ensures.items in
    let one : length ns ≡ length fewer + 1 = ap (λ (l : List ℕ). length l) is ∙ length_push fewer c.unwrap-more.result in
    let two : length states ≡ length less + 1 = ap (λ (l : List _). length l) are ∙ length_push less c.in-Some.state in
    let was = c.loop-state.invariant in
    let took = c.in_ok-take_way.ensures in
    let old = get eq c.args.places.now in
    let before = get eq c.loop-state.places in
    let after = get eq c.take_way.new.places in
    record {
      layer = omega (arith, one, two, was.layer);
      long = took.long;
      indexed = took.indexed;
      taken = takes_more ending (has_place old) (has_place before) (has_place after) c.args.table.now.states.items
          c.args.layer.states.items states less c.loop-state.table.states.items c.take_way.new.table.states.items c.in-Some.state was.taken are
          took.taken;
      rest = takes_rest_more ending old before after c.args.layer.states.items states less c.args.layer.ways.items ns fewer
          c.args.table.now c.loop-state.table c.take_way.new.table c.in-Some.state c.unwrap-more.result was.rest are is took.seat;
    }

pub returns-clause-taken : goal.returns-clause-taken
returns-clause-taken g c =
    let ending = g.M.Ends.ending_of c.args.system.now in
    let eq = g.M.Ending.PartialEq.eq in
    let none : c.loop-state.states.items ≡ [] = grind (arith, common_steps) in
    takes_all ending (has_place (get eq c.args.places.now)) (has_place (get eq c.loop-state.places)) c.args.table.now.states.items
    c.args.layer.states.items c.loop-state.states.items c.loop-state.table.states.items none c.loop-state.invariant.taken

pub returns-clause-ways : goal.returns-clause-ways
returns-clause-ways g c =
    let ending = g.M.Ends.ending_of c.args.system.now in
    let eq = g.M.Ending.PartialEq.eq in
    let none : c.loop-state.states.items ≡ [] = grind (arith, common_steps) in
    let even = c.loop-state.invariant.layer in
    let short = ap (λ (l : List _). length l) none in
    let empty : c.loop-state.ways.items ≡ [] = nil_from_length c.loop-state.ways.items (omega (arith, even, short)) in
    takes_rest_all ending (get eq c.args.places.now) (get eq c.loop-state.places) c.args.layer c.loop-state.states.items
    c.loop-state.ways.items c.args.table.now c.loop-state.table c.loop-state.invariant.rest none empty

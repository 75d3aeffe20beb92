use Rattle.std.proofs.Common.{◌≡◌, ◌∙◌, sym}
use Rattle.std.specs.Prelude.{Option, Some}
use Rattle.std.specs.HashMap.{get}
use Rattle.hp_layers.proofs.Indexing.{have_one_place, indexed_more, indexed_within}
use Rattle.hp_layers.proofs.Seating.{adds_no_seat, adds_one_seat, takes_none_of, takes_put}
use Rattle.hp_layers.proofs.ending.take_way.Goals as goal

pub returns-in_default-clause-taken : goal.returns-in_default-clause-taken
returns-in_default-clause-taken g c =
    takes_none_of (g.M.Ends.ending_of c.args.system.now) (get g.M.Ending.PartialEq.eq c.args.places.now) c.args.table.now.states.items
    c.args.state (sym c.in_ok-ending.ensures ∙ c.in_default.is)

pub returns-in_default-clause-seat : goal.returns-in_default-clause-seat
returns-in_default-clause-seat g c =
    adds_no_seat (g.M.Ends.ending_of c.args.system.now c.args.state) (get g.M.Ending.PartialEq.eq c.args.places.now) c.args.more
    c.args.table.now (sym c.in_ok-ending.ensures ∙ c.in_default.is)

pub add_ways-requires-clause-within : goal.add_ways-requires-clause-within
add_ways-requires-clause-within g c =
    let eq = g.M.Ending.PartialEq.eq in
    indexed_within eq (λ s e. g.M.Ends.ending_of c.args.system.now s ≡ Some e) (get eq c.args.places.now) c.args.table.now.states.items
    c.requires.indexed

pub returns-clause-indexed : goal.returns-clause-indexed
returns-clause-indexed g c =
    let ending_eq = g.met.M.Ending.Eq g.world.𝓛 g.world.𝓜 g.world.𝓡 ((λ s x. x), (λ x. x), (λ x. x), λ x. x) in
    let eq = g.M.Ending.PartialEq.eq in
    let ending = g.M.Ends.ending_of c.args.system.now in
    let is : ending c.args.state ≡ Some c.in-Some.ending = sym c.in_ok-ending.ensures ∙ c.in-Some.is in
    indexed_more eq (get eq c.args.places.now) (get eq c.add_ways.new.places) (λ s e. ending s ≡ Some e) c.in-Some.ending
    c.args.table.now.states.items c.args.state (have_one_place eq c.args.places.now.entries ending_eq.laws.congr) is
    (λ h q. (let same : ◌≡◌ {A = Option _} (Some h) (Some c.in-Some.ending) = sym q ∙ is in cc)) c.requires.indexed
    c.add_ways.new.counts.states.items c.in_ok-add_ways.ensures.added.puts

pub returns-clause-taken : goal.returns-clause-taken
returns-clause-taken g c =
    let ending_eq = g.met.M.Ending.Eq g.world.𝓛 g.world.𝓜 g.world.𝓡 ((λ s x. x), (λ x. x), (λ x. x), λ x. x) in
    let eq = g.M.Ending.PartialEq.eq in
    let ending = g.M.Ends.ending_of c.args.system.now in
    let is : ending c.args.state ≡ Some c.in-Some.ending = sym c.in_ok-ending.ensures ∙ c.in-Some.is in
    takes_put eq ending (get eq c.args.places.now) (get eq c.add_ways.new.places) c.in-Some.ending c.args.more c.args.table.now
    c.add_ways.new.counts c.args.state (have_one_place eq c.args.places.now.entries ending_eq.laws.congr) is
    c.in_ok-add_ways.ensures.added

pub returns-clause-seat : goal.returns-clause-seat
returns-clause-seat g c =
    let ending_eq = g.met.M.Ending.Eq g.world.𝓛 g.world.𝓜 g.world.𝓡 ((λ s x. x), (λ x. x), (λ x. x), λ x. x) in
    let eq = g.M.Ending.PartialEq.eq in
    let ending = g.M.Ends.ending_of c.args.system.now in
    let is : ending c.args.state ≡ Some c.in-Some.ending = sym c.in_ok-ending.ensures ∙ c.in-Some.is in
    adds_one_seat eq (ending c.args.state) (get eq c.args.places.now) (get eq c.add_ways.new.places) c.in-Some.ending c.args.more
    c.args.table.now c.add_ways.new.counts c.args.state (have_one_place eq c.args.places.now.entries ending_eq.laws.congr) is
    c.in_ok-add_ways.ensures.added

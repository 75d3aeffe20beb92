use Rattle.std.proofs.Common.{◌≡◌, ◌∙◌, ℕ, ◌+◌, [], List, sym, ap, subst, arith}
use Rattle.std.specs.Prelude.{min}
use Rattle.std.specs.HashMap.{get}
use Rattle.std.proofs.lemmas.Grind.{common_steps}
use Rattle.std.proofs.lemmas.List.Elements.{Contains-get_or}
use Rattle.hp_layers.proofs.Bytes.{bytes_with_some}
use Rattle.hp_layers.proofs.Covering.{AddsMost, adds_all, adds_none, adds_one, covered_by, valid_before, valid_last, valid_on}
use Rattle.hp_layers.proofs.Indexing.{have_one_place, indexed_more, indexed_within, keeps_none, keeps_on, placed, puts_keep, puts_some}
use Rattle.hp_layers.proofs.Spreading.{adds_rest_all, adds_rest_more, adds_rest_none}
use Rattle.hp_layers.proofs.counting.add_each.Goals as goal

pub loop-state-init : goal.loop-state-init
loop-state-init g c =
    let m = c.args.system.now in
    let place = get g.M.Key.PartialEq.eq c.args.places.now in
    record {
      left = c.requires.states;
      valid = c.requires.valid;
      long = c.requires.long;
      indexed = c.requires.indexed;
      bytes = c.requires.bytes;
      kept = keeps_none place;
      most = adds_none (g.M.Turns.alike m) c.args.next.now.counts.states.items c.args.states.items;
      rest = adds_rest_none (g.M.Turns.key_of m) place c.args.states.items c.args.more c.args.next.now.counts.ways.items;
    }

pub add_ways-requires-clause-within : goal.add_ways-requires-clause-within
add_ways-requires-clause-within g c =
    let eq = g.M.Key.PartialEq.eq in
    indexed_within eq (λ s k. g.M.Turns.key_of c.args.system.now s ≡ k) (get eq c.loop-state.places) c.loop-state.next.counts.states.items
    c.loop-state.invariant.indexed

pub loop-state-preserved : goal.loop-state-preserved
loop-state-preserved g c =
    let key_eq = g.met.M.Key.Eq g.world.𝓛 g.world.𝓜 g.world.𝓡 ((λ s x. x), (λ x. x), (λ x. x), λ x. x) in
    let m = c.args.system.now in
    let eq = g.M.Key.PartialEq.eq in
    let laws = key_eq.laws in
    let key_of = g.M.Turns.key_of m in
    let valid = g.M.Turns.valid m in
    let alike = g.M.Turns.alike m in
    let states = c.loop-state.next.counts.states.items in
    let state = c.in-Some.state in
    let before = get eq c.loop-state.places in
    let after = get eq c.add_ways.new.places in
    let was = c.loop-state.invariant in
    let own = valid_last valid c.loop-state.left.items c.pop.new.self.items state c.in-Some.ensures.items was.left in
    let added = c.in_ok-add_ways.ensures.added in
    let one = have_one_place eq c.loop-state.places.entries laws.congr in
    let key : c.in_ok-key.key ≡ key_of state = c.in_ok-key.ensures in
    let grows = puts_some eq before after c.in_ok-key.key states c.add_ways.new.counts.states.items state added.puts in
    let keeps = puts_keep eq before after c.in_ok-key.key states c.add_ways.new.counts.states.items state one added.puts in
    let valid_then = valid_on valid states c.add_ways.new.counts.states.items state was.valid own grows in
    let indexed = indexed_more eq before after (λ s k. key_of s ≡ k) c.in_ok-key.key states state one (sym key) (λ h is. sym is ∙ sym key)
    was.indexed c.add_ways.new.counts.states.items added.puts in
    let at = sym (ap after key) ∙ added.is in
    record {
      left = valid_before valid c.loop-state.left.items c.pop.new.self.items state c.in-Some.ensures.items was.left;
      valid = valid_then;
      long = c.in_ok-add_ways.ensures.long;
      indexed = indexed;
      bytes = bytes_with_some (g.M.Turns.bytes_of m) states c.add_ways.new.counts.states.items state c.loop-state.next.bytes
          c.bytes_with-next.result was.bytes grows (λ same. c.bytes_with-next.ensures.same (omega (arith, same, c.len-before.ensures, c.len.ensures)))
          (λ other. c.bytes_with-next.ensures.more (λ same. other (omega (arith, same, c.len-before.ensures, c.len.ensures)))
          ∙ ap (λ (n : ℕ). min (c.loop-state.next.bytes + n) 18446744073709551615) c.bytes-bytes.ensures);
      kept = keeps_on (get eq c.args.places.now) before after was.kept keeps;
      most = adds_one alike c.args.next.now.counts.states.items c.args.states.items c.loop-state.left.items c.pop.new.self.items states
          c.add_ways.new.counts.states.items state was.most c.in-Some.ensures.items grows
          (covered_by alike c.add_ways.new.counts.states.items state _
          (Contains-get_or c.add_ways.new.counts.states.items added.at state (indexed.stands (key_of state) added.at at).0)
          (placed eq key_of valid alike after c.add_ways.new.counts.states.items state added.at state (g.met.M.Turns.same_key m) own valid_then
          indexed at));
      rest = adds_rest_more eq key_of before after c.args.states.items c.loop-state.left.items c.pop.new.self.items c.args.more
          c.args.next.now.counts.ways.items c.loop-state.next.counts c.add_ways.new.counts c.in_ok-key.key state was.rest c.in-Some.ensures.items added
          key keeps;
    }

pub returns-clause-added : goal.returns-clause-added
returns-clause-added g c =
    let none : c.loop-state.left.items ≡ [] = grind (arith, common_steps) in
    adds_all (g.M.Turns.alike c.args.system.now) c.args.next.now.counts.states.items c.args.states.items c.loop-state.next.counts.states.items
    (subst (λ (l : List _). AddsMost (g.M.Turns.alike c.args.system.now) c.args.next.now.counts.states.items c.args.states.items l
    c.loop-state.next.counts.states.items) none c.loop-state.invariant.most)

pub returns-clause-each : goal.returns-clause-each
returns-clause-each g c =
    let none : c.loop-state.left.items ≡ [] = grind (arith, common_steps) in
    adds_rest_all (g.M.Turns.key_of c.args.system.now) (get g.M.Key.PartialEq.eq c.loop-state.places) c.args.states.items
    c.loop-state.left.items c.args.more c.args.next.now.counts.ways.items c.loop-state.next.counts.ways.items c.loop-state.invariant.rest none

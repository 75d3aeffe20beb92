use Rattle.hp_layers.proofs.Covering.{adds_one, valid_before, valid_last}
use Rattle.hp_layers.proofs.layer.add_all.Goals as goal

pub loop-state-preserved : goal.loop-state-preserved
loop-state-preserved g c = (
  c.in_ok-add.ensures.stand,
  adds_one (g.M.Turns.alike c.args.system.now) c.args.next.now.states.items c.args.states.items c.loop-state.left.items c.pop.new.self.items
      c.loop-state.next.states.items c.add.new.next.states.items c.in-Some.state c.loop-state.invariant.1 c.in-Some.ensures.items
      c.in_ok-add.ensures.grows c.in_ok-add.ensures.covered,
  c.in_ok-add.ensures.next,
  valid_before (g.M.Turns.valid c.args.system.now) c.loop-state.left.items c.pop.new.self.items c.in-Some.state c.in-Some.ensures.items
      c.loop-state.invariant.3,
  c.in_ok-add.ensures.counted,
  c.in_ok-add.ensures.bytes,
)

pub add-requires-clause-state : goal.add-requires-clause-state
add-requires-clause-state g c κs within =
    valid_last (g.M.Turns.valid c.args.system.now) c.loop-state.left.items c.pop.new.self.items c.in-Some.state c.in-Some.ensures.items
    c.loop-state.invariant.3

use Rattle.hp_hunt.proofs.Cuts.{all_left, left_of_left}
use Rattle.hp_hunt.proofs.belonging.cut_calls.Goals as goal

pub loop-place-init : goal.loop-place-init
loop-place-init g c = record { left = all_left c.args.events.now.items; meets = c.requires }

pub loop-place-preserved : goal.loop-place-preserved
loop-place-preserved g c = record {
  left = left_of_left c.try_call.new.events.items c.loop-place.events.items c.args.events.now.items c.in_ok-try_call.ensures.left
      c.loop-place.invariant.left;
  meets = c.in_ok-try_call.ensures.meets;
}

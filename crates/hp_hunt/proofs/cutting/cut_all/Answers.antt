use Rattle.hp_hunt.proofs.Cuts.{left_of_left}
use Rattle.hp_hunt.proofs.cutting.cut_all.Goals as goal

pub loop-init : goal.loop-init
loop-init g c =
    let first = c.args.events.now.items in
    let second = c.cut_tasks.new.events.items in
    let third = c.cut_halves.new.events.items in
    record {
      left = left_of_left c.cut_calls.new.events.items third first c.in_ok-cut_calls.ensures.left
          (left_of_left third second first c.in_ok-cut_halves.ensures.left c.in_ok-cut_tasks.ensures.left);
      meets = c.in_ok-cut_calls.ensures.meets;
    }

pub loop-preserved : goal.loop-preserved
loop-preserved g c = record {
  left = left_of_left c.cut_each.new.events.items c.loop.events.items c.args.events.now.items c.in_ok-cut_each.ensures.left
      c.loop.invariant.left;
  meets = c.in_ok-cut_each.ensures.meets;
}

pub returns : goal.returns
returns g c = record {
  some = left_of_left c.cut_each.new.events.items c.loop.events.items c.args.events.now.items c.in_ok-cut_each.ensures.left
      c.loop.invariant.left;
  meets = c.in_ok-cut_each.ensures.meets;
  each = c.in_ok-cut_each.ensures.none c.if-branch.false;
}

use Rattle.std.proofs.Common.{arith}
use Rattle.hp_hunt.proofs.Lefts.{left_left, left_of_cut, sum_left}
use Rattle.hp_hunt.proofs.minimizing.make_small.Goals as goal

pub loop-events-init : goal.loop-events-init
loop-events-init g c = record {
  left = left_of_cut c.cut_all.new.events.items c.args.events.now.items c.in_ok-cut_all.ensures.some;
  meets = c.in_ok-cut_all.ensures.meets;
  each = c.in_ok-cut_all.ensures.each;
}

pub loop-events-smaller : goal.loop-events-smaller
loop-events-smaller g c =
    let lower = c.lower_each.new.events.items in
    let cut = c.cut_all-in-loop-events.new.events.items in
    omega (arith, c.in_ok-lower_each.ensures.smaller c.if-branch.true, sum_left cut lower (left_of_cut cut lower c.in_ok-cut_all-2.ensures.some))

pub loop-events-preserved : goal.loop-events-preserved
loop-events-preserved g c =
    let old = c.args.events.now.items in
    let mid = c.loop-events.events.items in
    let lower = c.lower_each.new.events.items in
    let cut = c.cut_all-in-loop-events.new.events.items in
    record {
      left = left_left cut lower old (left_of_cut cut lower c.in_ok-cut_all-2.ensures.some)
          (left_left lower mid old c.in_ok-lower_each.ensures.left c.loop-events.invariant.left);
      meets = c.in_ok-cut_all-2.ensures.meets;
      each = c.in_ok-cut_all-2.ensures.each;
    }

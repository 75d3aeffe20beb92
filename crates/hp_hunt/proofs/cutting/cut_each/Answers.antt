use Rattle.std.proofs.Common.{◌≡◌, ◌∙◌, ◌≤◌, ◌+◌, ◌-◌, List, length, ap, arith}
use Rattle.hp_base.specs.declared.event.Event.{Event}
use Rattle.hp_hunt.proofs.Cuts.{all_left, cut_length, step_left}
use Rattle.hp_hunt.proofs.cutting.cut_each.Goals as goal

pub loop-place-init : goal.loop-place-init
loop-place-init g c = record {
  within = omega (arith, c.len-place.ensures);
  left = all_left c.args.events.now.items;
  meets = c.requires;
  fewer = λ is. let bad : ⊥ = cc in absurd bad;
  no_more = omega arith;
  none = λ is k low high. absurd (omega (arith, low, high, c.len-place.ensures));
}

-- an event went
pub loop-place-preserved-then-branch : goal.loop-place-preserved-then-branch
loop-place-preserved-then-branch g c =
    let mid = c.loop-place.events.items in
    let new = c.try_cut.new.events.items in
    let from = c.loop-place.place - 1 in
    let was = c.loop-place.invariant in
    let went = c.in_ok-try_cut.ensures.dropped c.if-branch.true in
    let within : from + 1 ≤ length mid = omega (arith, c.loop-place-test.true, was.within) in
    let fewer : length new + 1 ≡ length mid =
    ap (λ (x : List Event). length x + 1) went.0 ∙ cut_length from 1 mid within in
    record {
      within = omega (arith, within, fewer);
      left = step_left c.args.events.now.items mid new from 1 c.in_ok-try_cut.field-0 (λ e. went.0)
          (λ e. (c.in_ok-try_cut.ensures.kept e).0) was.left;
      meets = went.1;
      fewer = λ is. omega (arith, fewer, was.no_more);
      no_more = omega (arith, fewer, was.no_more);
      none = λ is. let bad : ⊥ = cc in absurd bad;
    }

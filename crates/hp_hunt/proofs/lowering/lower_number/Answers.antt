-- a smaller number stands there
use Rattle.std.proofs.Common.{◌≡◌, ◌<◌, ◌∙◌, ◌-◌, List, length, ap, arith, refl, subst, sym}
use Rattle.hp_base.specs.declared.event.Event.{Event}
use Rattle.hp_hunt.specs.Lowering.{sum_of}
use Rattle.hp_hunt.specs.Numbers.{IsLeft, number_at}
use Rattle.hp_hunt.proofs.Lefts.{left_left, left_self, number_count, number_left, number_less, number_now, sum_left}
use Rattle.hp_hunt.proofs.lowering.lower_number.Goals as goal

pub loop-step-init : goal.loop-step-init
loop-step-init g c =
    let now : c.number_at-step.result ≡ number_at c.args.events.now.items c.args.place c.args.which =
    c.number_at-step.ensures ∙ ap (λ (x : List Event). number_at x c.args.place c.args.which) c.deref.ensures.value in
    record {
      count = omega arith;
      left = left_self c.args.events.now.items;
      meets = c.requires.meets;
      smaller = λ is. let bad : ⊥ = cc in absurd bad;
      same = λ is. refl;
      within = omega (arith, now);
      lowest = λ is lt. absurd (omega (arith, is, lt, now));
    }

pub loop-step-preserved-then-branch : goal.loop-step-preserved-then-branch
loop-step-preserved-then-branch g c =
    let old = c.args.events.now.items in
    let mid = c.loop-step.events.items in
    let new = c.try_number.new.events.items in
    let place = c.args.place in
    let which = c.args.which in
    let n = c.number_at.result - c.loop-step.step in
    let was = c.loop-step.invariant in
    let there : place < length mid = omega (arith, was.count, c.requires.there) in
    let read : c.number_at.result ≡ number_at mid place which =
    c.number_at.ensures ∙ ap (λ (x : List Event). number_at x place which) c.deref-in-loop-step.ensures.value in
    let less : n < number_at mid place which = omega (arith, was.within, c.loop-step-test.true, read) in
    let told = c.in_ok-try_number.ensures.lowered c.if-branch.true in
    let now : number_at new place which ≡ n =
    ap (λ (x : List Event). number_at x place which) told.0 ∙ number_now mid place which n there (omega (arith, less)) in
    record {
      count = ap (λ (x : List Event). length x) told.0 ∙ number_count mid place which n there ∙ was.count;
      left = left_left new mid old
          (subst (λ (x : List Event). IsLeft x mid) (sym told.0) (number_left mid place which n there (omega (arith, less)))) was.left;
      meets = told.1;
      smaller = λ is. omega (arith, ap (λ (x : List Event). sum_of x) told.0, number_less mid place which n there less, sum_left mid old was.left);
      same = λ is. let bad : ⊥ = cc in absurd bad;
      within = omega (arith, c.min-step.ensures, now);
      lowest = λ is lt. absurd (omega (arith, is, lt, c.min-step.ensures, now, c.loop-step-test.true));
    }

use Rattle.std.proofs.Common.{◌≡◌, ◌∙◌, ◌-◌, List, ap, arith, inl, inr, refl, subst, sym}
use Rattle.hp_base.proofs.Puts.{same_or_other}
use Rattle.hp_base.specs.declared.event.Event.{Event}
use Rattle.hp_hunt.specs.Lowering.{IsLowest, sum_of}
use Rattle.hp_hunt.proofs.Lefts.{left_left, left_self, number_past, sum_left}
use Rattle.hp_hunt.proofs.lowering.lower_each.Goals as goal

pub loop-place-init : goal.loop-place-init
loop-place-init g c = record {
  within = omega (arith, c.len-place.ensures);
  count = omega arith;
  left = left_self c.args.events.now.items;
  meets = c.requires;
  smaller = λ is. let bad : ⊥ = cc in absurd bad;
  same = λ is. refl;
  lowest = λ is k which low high lt. absurd (omega (arith, low, high, c.len-place.ensures));
}

pub loop-place-preserved-then-branch : goal.loop-place-preserved-then-branch
loop-place-preserved-then-branch g c =
    let old = c.args.events.now.items in
    let mid = c.loop-place.events.items in
    let new = c.lower_event.new.events.items in
    let told = c.in_ok-lower_event.ensures in
    let was = c.loop-place.invariant in
    record {
      within = omega (arith, was.within, told.count);
      count = told.count ∙ was.count;
      left = left_left new mid old told.left was.left;
      meets = told.meets;
      smaller = λ is. omega (arith, told.smaller c.if-branch.true, sum_left mid old was.left);
      same = λ is. let bad : ⊥ = cc in absurd bad;
      lowest = λ is. let bad : ⊥ = cc in absurd bad;
    }

pub loop-place-preserved : goal.loop-place-preserved
loop-place-preserved g c =
    let old = c.args.events.now.items in
    let mid = c.loop-place.events.items in
    let new = c.lower_event.new.events.items in
    let place = c.loop-place.place - 1 in
    let told = c.in_ok-lower_event.ensures in
    let was = c.loop-place.invariant in
    let same : new ≡ mid = told.same c.if-branch.false in
    record {
      within = omega (arith, was.within, told.count);
      count = told.count ∙ was.count;
      left = left_left new mid old told.left was.left;
      meets = told.meets;
      smaller = λ is. omega (arith, ap (λ (x : List Event). sum_of x) same, was.smaller is);
      same = λ is. same ∙ was.same is;
      lowest = λ is k which low high. elim (same_or_other k place) [
        | inl here ↦ subst (λ n. IsLowest c.args.config c.args.conditions.now new n which) (sym here) (told.lowest c.if-branch.false which)
        | inr other ↦ subst (λ (x : List Event). IsLowest c.args.config c.args.conditions.now x k which) (sym same)
            (was.lowest is k which (grind (arith, low, other, c.loop-place-test.true)) (omega (arith, high, told.count)))
      ];
    }

pub returns-clause-lowest : goal.returns-clause-lowest
returns-clause-lowest g c = λ is place which lt.
    let events = c.loop-place.events.items in
    c.loop-place.invariant.lowest is place which (omega (arith, c.loop-place-test.false))
    (grind (arith, lt, number_past events place which)) lt

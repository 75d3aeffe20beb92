use Rattle.std.proofs.Common.{◌≡◌, ◌+◌, ◌∙◌, length, ap, refl, arith}
use Rattle.std.specs.Prelude.{Bool, true, false, [], ◌∷◌, ◌++◌, if◌then◌else◌}
use Rattle.hp_explore.proofs.Runnable.{none_yet, one_more, no_more, no_more_than, in_range_none, in_range_more, in_range_same}
use Rattle.hp_explore.specs.Schedule.{World, AreRunnableOf}
use Rattle.hp_explore.proofs.Runnable.{InRange}
use Rattle.hp_explore.proofs.walk.Walk.list_runnable.Goals as goal

-- no more tasks than a pool has
pub push_if-requires-clause-room : goal.push_if-requires-clause-room
push_if-requires-clause-room c =
    let w = c.args.self.now in
    let few = no_more_than c.args.plan.now w c.loop-place.place c.loop-place.tasks c.loop-place.invariant.runnable in
    let seen = ap (λ (v : World). length v.made) c.self.view_is in
    omega (arith, few, seen, c.self.invariant.few, c.len-place-end.ensures, c.loop-place-test.true)

pub loop-place-init : goal.loop-place-init
loop-place-init c = record {
  runnable = none_yet c.args.plan.now c.args.self.now c.clear.new.self c.clear.ensures;
  in_range = in_range_none (length c.args.self.now.made) c.clear.new.self c.clear.ensures;
}

pub loop-place-preserved : goal.loop-place-preserved
loop-place-preserved c =
    let plan = c.args.plan.now in
    let w = c.args.self.now in
    let n = c.loop-place.place in
    let old = c.loop-place.tasks in
    let new = c.push_if.new.self in
    let seen = ap (λ (v : World). length v.made) c.self.view_is in
    let many : c.len-place-end.result ≡ length w.made = omega (arith, c.len-place-end.ensures, seen) in
    elim c.can_turn-can.result as (λ b. c.can_turn-can.result ≡ b
    → record { runnable : AreRunnableOf plan w (n + 1) new; in_range : InRange (length w.made) new }) [
      | true ↦ λ e. let is = c.push_if.ensures ∙ ap (λ (b : Bool). if b then old ++ (n + 1) ∷ [] else old) e in record {
        runnable = one_more plan w n old new c.loop-place.invariant.runnable (c.can_turn-can.ensures.can e) is;
        in_range = in_range_more (length w.made) n old new c.loop-place.invariant.in_range (omega (arith, many, c.loop-place-test.true)) is;
      }
      | false ↦ λ e. let is = c.push_if.ensures ∙ ap (λ (b : Bool). if b then old ++ (n + 1) ∷ [] else old) e in record {
        runnable = no_more plan w n old new c.loop-place.invariant.runnable (c.can_turn-can.ensures.cannot e) is;
        in_range = in_range_same (length w.made) old new c.loop-place.invariant.in_range is;
      }
    ] refl

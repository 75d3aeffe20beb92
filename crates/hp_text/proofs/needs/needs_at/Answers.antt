use Rattle.std.proofs.Common.{◌≡◌, ◌<◌, ap, ◌∙◌, arith, length, inl, inr}
use Rattle.std.specs.Prelude.{slice_index_or}
use Rattle.hp_text.specs.declared.script.Wait.{Wait}
use Rattle.hp_text.proofs.Counting.{finds_none, finds_on, finds_all, same_at, pushes, skips}
use Rattle.hp_text.proofs.needs.needs_at.Goals as goal
use Rattle.hp_text.proofs.needs.needs_at.Goals.{then-loop-next-test+else-waits-next, else-loop-next-test}
use Rattle.hp_text.proofs.needs.needs_at.Goals.{then-task-ge1+then-task-counts+in_ok-push, else-task-ge1}
use Rattle.hp_text.proofs.needs.needs_at.Goals.{else-task-ge1-via-then-task-ge1+else-task-counts, else-task-ge1-via-else-task-ge1}

pub loop-next-init : goal.loop-next-init
loop-next-init c =
    finds_none c.args.waits.now c.args.call c.args.counts.now c.args.before c.new-needs.result.items c.requires.split c.new-needs.ensures.items

-- the next wait is none of the call
over : (c : goal.Left-loop-next) (d : Wait) → c.loop-next.next < length c.args.waits.now
    → (slice_index_or c.args.waits.now c.loop-next.next d).call ≡ c.args.call → ⊥
over c d within is = elim c.loop-next-test.branch [
  | then-loop-next-test+else-waits-next w ↦
      w.if-waits-next.false (ap (λ (x : Wait). x.call) (same_at c.args.waits.now c.loop-next.next w.index-waits-next.result d within) ∙ is)
  | else-loop-next-test w ↦ omega (arith, within, w.loop-next-test.false)
]

pub returns-clause-needs : goal.returns-clause-needs
returns-clause-needs c =
    (finds_all c.args.waits.now c.args.call c.args.counts.now c.loop-next.next c.loop-next.needs.items c.requires.in_order
    c.loop-next.invariant (λ d within is. over c d within is)).needs_are

pub returns-clause-split : goal.returns-clause-split
returns-clause-split c =
    (finds_all c.args.waits.now c.args.call c.args.counts.now c.loop-next.next c.loop-next.needs.items c.requires.in_order
    c.loop-next.invariant (λ d within is. over c d within is)).split

pub loop-next-preserved : goal.loop-next-preserved
loop-next-preserved c =
    let waits = c.args.waits.now in
    let counts = c.args.counts.now in
    let next = c.loop-next.next in
    let n = c.number-task.result in
    let w = slice_index_or waits next c.index-waits-next-in-loop-next.result in
    let old = c.loop-next.needs.items in
    let more = c.if-task-ge1.needs.items in
    let within : next < length waits = omega (arith, c.loop-next-test.true) in
    finds_on waits c.args.call counts next old more w c.loop-next.invariant within
    (same_at waits next w c.index-waits-next-in-loop-next.result within)
    (ap (λ (x : Wait). x.call) (same_at waits next c.index-waits-next-in-loop-next.result c.index-waits-next.result within)
    ∙ c.if-waits-next.true)
    (elim c.if-task-ge1.branch [
      | then-task-ge1+then-task-counts+in_ok-push b ↦ pushes counts w n old more c.number-task.ensures b.if-task-ge1.true b.if-task-counts.true
          (ap (λ v. v.items) b.needs-is ∙ b.in_ok-push.ensures.items)
      | else-task-ge1 b ↦ skips counts w n old more c.number-task.ensures
          (elim b.else-task-ge1.branch [
            | else-task-ge1-via-then-task-ge1+else-task-counts e ↦ inr e.if-task-counts.false
            | else-task-ge1-via-else-task-ge1 e ↦ inl e.if-task-ge1.false
          ])
          (ap (λ v. v.items) b.needs-is)
    ])

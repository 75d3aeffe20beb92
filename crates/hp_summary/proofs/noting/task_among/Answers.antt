use Rattle.std.proofs.Common.{arith}
use Rattle.hp_summary.proofs.noting.task_among.Goals as goal
use Rattle.hp_summary.proofs.noting.task_among.Goals.{in_default-via-in-Some+then-number-ge1+else-number-tasks, in_default-via-in-Some+else-number-ge1, in_default-via-in_default}

pub returns-in_default-clause-none : goal.returns-in_default-clause-none
returns-in_default-clause-none c = λ is u one there of. elim c.in_default.branch [
  | in_default-via-in-Some+then-number-ge1+else-number-tasks w ↦ (
      let same = rw w.in-Some.is at c.task_of.ensures.some in
      absurd (omega (arith, same u of, there, w.if-number-tasks.false, w.number-then-number-ge1.ensures))
      )
  | in_default-via-in-Some+else-number-ge1 w ↦ (
      let same = rw w.in-Some.is at c.task_of.ensures.some in
      absurd (omega (arith, same u of, one, w.if-number-ge1.false, w.number.ensures))
      )
  | in_default-via-in_default w ↦ c.task_of.ensures.none w.in_default.is u of
]

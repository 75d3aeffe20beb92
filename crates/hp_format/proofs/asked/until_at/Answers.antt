use Rattle.std.proofs.Common.{ℕ, List, sym, ap, ◌∙◌}
use Rattle.hp_text.proofs.Options.{none_some, some_is}
use Rattle.hp_format.specs.Asked.{goal_word}
use Rattle.hp_format.specs.Reading.{until_at}
use Rattle.hp_format.proofs.Readings.{until_again, until_takes}
use Rattle.hp_format.proofs.asked.until_at.Goals as goal

pub returns-in_err-task-clause-none : goal.returns-in_err-task-clause-none
returns-in_err-task-clause-none c _ task goal fits is =
    none_some (c.in_err-task.ensures ∙ ap until_at is ∙ until_again task (goal_word goal) fits)

pub returns-in_err-goal-clause-none : goal.returns-in_err-goal-clause-none
returns-in_err-goal-clause-none c _ task goal fits is =
    let same = some_is (c.in_ok-task.task, c.in_ok-task.word.now) (task, goal_word goal)
    (c.in_ok-task.ensures ∙ ap until_at is ∙ until_again task (goal_word goal) fits) in
    c.goal_named.ensures.none c.in_err-goal.was goal (sym (ap (λ (p : ℕ × List ℕ). p.1) same))

pub returns-clause-asked : goal.returns-clause-asked
returns-clause-asked c =
    rw (c.new.ensures, c.in_ok-goal.ensures.word) (until_takes c.args.words.now c.in_ok-task.task c.in_ok-task.word.now
    (sym c.in_ok-task.ensures))

use Rattle.std.proofs.Common.{sym}
use Rattle.hp_format.proofs.Readings.{repeated_takes}
use Rattle.hp_format.proofs.asked.repeated_at.Goals as goal

pub returns-clause-asked : goal.returns-clause-asked
returns-clause-asked c =
    rw c.new.ensures (repeated_takes c.args.granted c.args.words.now c.in_ok-after_word.field-0.now c.in_ok-task.task
    c.in_ok-task.rest.now c.in_ok-times.times (rw (← c.step_verb.ensures) (sym c.in_ok-after_word.ensures))
    (sym c.in_ok-task.ensures) (sym c.in_ok-times.ensures))

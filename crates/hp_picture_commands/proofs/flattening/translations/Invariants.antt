use Rattle.std.proofs.Common.{◌≡◌, take}
use Rattle.hp_picture_commands.proofs.flattening.translations.Given as goal

abbrev pub invariant-loop-task : goal.invariant-loop-task
invariant-loop-task l = l.entries.items ≡ take l.task-index l.tables

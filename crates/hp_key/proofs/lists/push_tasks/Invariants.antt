use Rattle.std.proofs.Common.{◌≡◌, ◌++◌, ◌∷◌, length, take}
use Rattle.std.specs.List.{flat_map}
use Rattle.hp_key.specs.Key.{task_words}
use Rattle.hp_key.proofs.lists.push_tasks.Given as goal

abbrev pub invariant-loop-task_state : goal.invariant-loop-task_state
invariant-loop-task_state l =
    l.words.items ≡ l.fn.words.items ++ (length l.task_states ∷ flat_map task_words (take l.task_state-index l.task_states))

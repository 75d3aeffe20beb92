-- How the words of the loose form are read, from the front.
use Rattle.std.specs.Prelude.{ℕ, ◌&&◌, Bool, List, Option, Some, None, codes, nat_le, if◌then◌else◌}
use Rattle.hp_base.specs.declared.event.Event.TheVariants.{Step}
use Rattle.hp_text.specs.Reading.{◌>>=◌, after_word, last_at, limit, number_at}
use Rattle.hp_format.specs.Asked.{step_verb}
use Rattle.hp_format.specs.declared.asked.Asked.{Asked}
use Rattle.hp_format.specs.declared.asked.Asked.TheVariants.{Times}

-- whether a step may be repeated so many times
abbrev pub is_few : ℕ → Bool
is_few times = nat_le 1 times && nat_le times 1000000

-- how many times a step is to be made, as the last of a line
unfoldable pub times_at : List ℕ → Option ℕ
times_at words = do
  rest ← after_word (codes " *") words
  times ← last_at rest
  if is_few times then Some times else None

-- steps of a task that are repeated
unfoldable pub repeated_at : (granted : Bool) → List ℕ → Option Asked
repeated_at granted words = do
  rest ← after_word (step_verb granted) words
  task ← number_at limit rest
  times ← times_at task.1
  Some (Times (Step task.0 granted) times)

-- the task whose steps are made until something is reached, and the word of that
unfoldable pub until_at : List ℕ → Option (ℕ × List ℕ)
until_at words = do
  rest ← after_word (codes "step ") words
  task ← number_at limit rest
  word ← after_word (codes " until ") task.1
  Some (task.0, word)

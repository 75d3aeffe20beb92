-- What a condition seeks, as a text spells it.
use Rattle.std.specs.Prelude.{ℕ, ◌==◌, List, [], ◌∷◌, ◌++◌, Bool, true, false, Option, Some, None, codes, if◌then◌else◌, length, min}
use Rattle.std.specs.Option.{option_map, option_map_or, option_or}
use Rattle.std.specs.Str.{bytes_eq}
use Rattle.hp_machine.specs.Text.{phase_word}
use Rattle.hp_machine.specs.declared.phase.Phase.{Phase}
use Rattle.hp_phases.specs.Phases.{all_phases}
use Rattle.hp_text.specs.Reading.{◌>>=◌, after_word, limit}
use Rattle.hp_watch.specs.CallWords.{word_text}
use Rattle.hp_hunt.specs.declared.condition.AnswerName.{AnswerName}
use Rattle.hp_hunt.specs.declared.condition.AnswerName.TheVariants.{Word, Linux}
use Rattle.hp_hunt.specs.declared.condition.CallChoice.{CallChoice}
use Rattle.hp_hunt.specs.declared.condition.CallChoice.TheVariants.{Any, Number, Named}
use Rattle.hp_hunt.specs.declared.condition.Comparison.{Comparison}
use Rattle.hp_hunt.specs.declared.condition.Condition.{Condition}
use Rattle.hp_hunt.specs.declared.condition.PoolCount.{PoolCount}
use Rattle.hp_hunt.specs.declared.condition.PoolCount.TheVariants.{Resv, Free, Used, Reserved, Pages}
use Rattle.hp_hunt.specs.declared.condition.Relation.{Relation}
use Rattle.hp_hunt.specs.declared.condition.Relation.TheVariants.{Below, AtMost, Equal, AtLeast, Above}
use Rattle.hp_hunt.specs.declared.condition.Sought.{Sought}
use Rattle.hp_hunt.specs.declared.condition.Sought.TheVariants as sought
use Rattle.hp_hunt.specs.declared.condition.SoughtAnswer.{SoughtAnswer}
use Rattle.hp_conditions.specs.declared.kind.Kind.{Kind}
use Rattle.hp_conditions.specs.declared.kind.Kind.TheVariants as kind
use Rattle.hp_conditions.specs.Numbers.{counted_at, number_at}
use Rattle.hp_conditions.specs.Pieces.{alternatives_of, split}
use Rattle.hp_conditions.specs.Words.{all_answers, all_calls, all_linux, answer_word, linux_word, named, sign}

-- `T` or `*`: a task, or any
unfoldable pub task_at : List ℕ → Option (Option ℕ)
task_at text = if bytes_eq text (codes "*") then Some None else option_map Some (counted_at text)

-- `K`, the name of a call or `*`: the call of that number, each of that name, or any
unfoldable pub call_at : List ℕ → Option CallChoice
call_at text =
    if bytes_eq text (codes "*") then Some Any
    else (option_or (option_map Named (named word_text all_calls text)) (option_map Number (counted_at text)))

-- `WORD`: what Linux says, or an answer
unfoldable pub answer_at : List ℕ → Option AnswerName
answer_at text = option_or (option_map Linux (named linux_word all_linux text)) (option_map Word (named answer_word all_answers text))

-- `T:K=WORD`
unfoldable pub ended_at : (counted : Option Comparison) → List ℕ → Option SoughtAnswer
ended_at counted text = do
  parts ← split (codes "=") text
  of ← split (codes ":") parts.0
  task ← task_at of.0
  call ← call_at of.1
  name ← answer_at parts.1
  Some (record { task = task; call = call; name = name; counted = counted })

-- `reserved:F` or `pages:F`
unfoldable pub file_count : (name : List ℕ) → (file : ℕ) → Option PoolCount
file_count name file =
    if bytes_eq name (codes "reserved") then Some (Reserved file) else (if bytes_eq name (codes "pages") then Some (Pages file) else None)

-- `resv`, `free` or `used`
unfoldable pub pool_count : List ℕ → Option PoolCount
pool_count text =
    if bytes_eq text (codes "resv") then Some Resv
    else (if bytes_eq text (codes "free") then Some Free else (if bytes_eq text (codes "used") then Some Used else None))

-- `COUNT`
unfoldable pub count_at : List ℕ → Option PoolCount
count_at text = option_map_or (λ s. number_at s.1 >>= file_count s.0) (split (codes ":") text) (pool_count text)

-- the sign of that comparison in the text, what stands before it, and what stands behind it
abbrev pub signed_by : Relation → List ℕ → Option (Relation × List ℕ × List ℕ)
signed_by r text = option_map (λ s. (r, s.0, s.1)) (split (sign r) text)

-- the first of these that is there: a sign is looked for before those that it begins with
unfoldable pub signed : List ℕ → Option (Relation × List ℕ × List ℕ)
signed text =
    option_or (signed_by AtMost text)
    (option_or (signed_by AtLeast text) (option_or (signed_by Below text) (option_or (signed_by Above text) (signed_by Equal text))))

-- no count is below 0
abbrev pub can_be : Relation → ℕ → Bool
can_be Below n = if n == 0 then false else true
can_be AtMost n = true
can_be Equal n = true
can_be AtLeast n = true
can_be Above n = true

-- `COUNT=N`, and the like with other signs
unfoldable pub comparison_at : List ℕ → Option Comparison
comparison_at text = do
  parts ← signed text
  number ← number_at parts.2
  count ← count_at parts.1
  if can_be parts.0 number then Some (record { count = count; relation = parts.0; number = number }) else None

-- `T:P`: a task, and where its call stands
unfoldable pub standing_at : List ℕ → Option (ℕ × Phase)
standing_at text = do
  parts ← split (codes ":") text
  task ← counted_at parts.0
  phase ← named phase_word all_phases parts.1
  Some (task, phase)

-- `T:P,U:Q`
unfoldable pub meeting_at : List ℕ → Option Sought
meeting_at text = do
  parts ← split (codes ",") text
  one ← standing_at parts.0
  other ← standing_at parts.1
  Some (sought.Meet one.0 one.1 other.0 other.1)

-- `T:K=WORD COUNT=N`
unfoldable pub counted_answer_at : List ℕ → Option Sought
counted_answer_at text = do
  parts ← split (codes " ") text
  counted ← comparison_at parts.1
  answer ← ended_at (Some counted) parts.0
  Some (sought.Answer answer)

-- the value of an option
abbrev pub sought_at : Kind → List ℕ → Option Sought
sought_at kind.Answer text = option_map sought.Answer (ended_at None text)
sought_at kind.At text = counted_answer_at text
sought_at kind.Blocked text = option_map sought.Blocked (task_at text)
sought_at kind.Meet text = meeting_at text
sought_at kind.Final text = option_map sought.Final (comparison_at text)

-- whether it is to be found, and what: behind `not ` it is not to be found
abbrev pub wanted_at : List ℕ → Bool × List ℕ
wanted_at text = option_map_or (λ rest. (false, rest)) (after_word (codes "not ") text) (true, text)

-- an alternative
unfoldable pub condition_at : Kind → (choice : ℕ) → List ℕ → Option Condition
condition_at k choice text = do
  it ← sought_at k ((wanted_at text).1)
  Some (record { sought = it; wanted = (wanted_at text).0; choice = choice })

-- the conditions, and behind them these alternatives
unfoldable pub add_each : Kind → (choice : ℕ) → List Condition → List (List ℕ) → Option (List Condition)
add_each k choice before [] = Some before
add_each k choice before (text ∷ texts) = condition_at k choice text >>= λ c. add_each k choice (before ++ c ∷ []) texts

-- the number of the next alternatives: no two of those that are given have one
abbrev pub next_choice : List Condition → ℕ
next_choice before = min (length before) limit

-- the conditions, and behind them the alternatives of the value
abbrev pub alternatives_behind : Kind → List Condition → List ℕ → Option (List Condition)
alternatives_behind k before text = add_each k (next_choice before) before (alternatives_of text)

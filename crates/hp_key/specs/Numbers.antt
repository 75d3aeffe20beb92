-- Numbers, and what is told by a few of them, as words of 32 bits.
use Rattle.std.specs.Prelude.{ℕ, ◌/◌, ◌%◌, ◌∷◌, [], List, length, Option, Some, None}
use Rattle.std.specs.List.{flat_map}
use Rattle.hp_base.specs.declared.answer.Answer.{Answer}
use Rattle.hp_base.specs.declared.answer.Answer.TheVariants as answer
use Rattle.hp_machine.specs.declared.touch.Access.{Access}
use Rattle.hp_machine.specs.declared.touch.Access.TheVariants.{Load, Store}
use Rattle.hp_machine.specs.declared.outcome.Life.{Life}
use Rattle.hp_machine.specs.declared.outcome.Life.TheVariants.{Alive, Killed, Dead}
use Rattle.hp_key.specs.declared.carried.Change.{Change}

-- a number of 32 bits
abbrev pub number_words : ℕ → List ℕ
number_words n = n ∷ []

-- a number of 64 bits, its lower half first
abbrev pub wide : ℕ → List ℕ
wide n = (n % 4294967296) ∷ (n / 4294967296) ∷ []

-- what may be there: 0, or 1 and its words
abbrev pub maybe : {A : Type 0} → (A → List ℕ) → Option A → List ℕ
maybe words None = 0 ∷ []
maybe words (Some a) = 1 ∷ words a

-- a list: how many there are, and the words of each
abbrev pub counted : {A : Type 0} → (A → List ℕ) → List A → List ℕ
counted words xs = length xs ∷ flat_map words xs

-- what is done with a page's word
abbrev pub access_words : Access → List ℕ
access_words Load = 0 ∷ []
access_words (Store word) = 1 ∷ wide word

-- a change of a reserve map
abbrev pub change_words : Change → List ℕ
change_words c = c.from ∷ c.to ∷ c.missing ∷ []

-- which answer it is
abbrev pub answer_number : Answer → ℕ
answer_number (answer.Mapped base) = 0
answer_number (answer.Word word) = 1
answer_number answer.Done = 2
answer_number answer.Segv = 3
answer_number answer.Beyond = 4
answer_number answer.NoFrame = 5
answer_number answer.NoQuota = 6
answer_number answer.NoMemory = 7
answer_number answer.Interrupted = 8
answer_number answer.Killed = 9
answer_number answer.BadFile = 10
answer_number answer.BadRange = 11
answer_number answer.NotMapped = 12
answer_number answer.NoAddress = 13

-- the number that it names, or 0
abbrev pub answer_value : Answer → ℕ
answer_value (answer.Mapped base) = base
answer_value (answer.Word word) = word
answer_value answer.Done = 0
answer_value answer.Segv = 0
answer_value answer.Beyond = 0
answer_value answer.NoFrame = 0
answer_value answer.NoQuota = 0
answer_value answer.NoMemory = 0
answer_value answer.Interrupted = 0
answer_value answer.Killed = 0
answer_value answer.BadFile = 0
answer_value answer.BadRange = 0
answer_value answer.NotMapped = 0
answer_value answer.NoAddress = 0

-- an answer
abbrev pub answer_words : Answer → List ℕ
answer_words a = answer_number a ∷ wide (answer_value a)

-- how a task lives
abbrev pub life_number : Life → ℕ
life_number Alive = 0
life_number Killed = 1
life_number Dead = 2

-- The words of conditions.
use Rattle.std.specs.Prelude.{ℕ, List, [], ◌∷◌, Option, Some, None, codes, if◌then◌else◌}
use Rattle.std.specs.Str.{bytes_eq}
use Rattle.hp_watch.specs.declared.call_word.CallWord.{CallWord}
use Rattle.hp_watch.specs.declared.call_word.CallWord.TheVariants as call
use Rattle.hp_hunt.specs.declared.condition.AnswerWord.{AnswerWord}
use Rattle.hp_hunt.specs.declared.condition.AnswerWord.TheVariants as answer
use Rattle.hp_hunt.specs.declared.condition.LinuxAnswer.{LinuxAnswer}
use Rattle.hp_hunt.specs.declared.condition.LinuxAnswer.TheVariants as linux
use Rattle.hp_hunt.specs.declared.condition.Relation.{Relation}
use Rattle.hp_hunt.specs.declared.condition.Relation.TheVariants as relation
use Rattle.hp_conditions.specs.declared.kind.Kind.{Kind}
use Rattle.hp_conditions.specs.declared.kind.Kind.TheVariants as kind

-- the first of these that has the text for its word
abbrev pub named : {A : Type 0} → (word : A → List ℕ) → List A → (text : List ℕ) → Option A
named word [] text = None
named word (x ∷ xs) text = if bytes_eq text (word x) then Some x else named word xs text

-- an answer, as a replay prints it
abbrev pub answer_word : AnswerWord → List ℕ
answer_word answer.Mapped = codes "mapped"
answer_word answer.Word = codes "word"
answer_word answer.Done = codes "done"
answer_word answer.Segv = codes "segv"
answer_word answer.Beyond = codes "beyond"
answer_word answer.NoFrame = codes "noframe"
answer_word answer.NoQuota = codes "noquota"
answer_word answer.NoMemory = codes "nomemory"
answer_word answer.Interrupted = codes "interrupted"
answer_word answer.Killed = codes "killed"
answer_word answer.BadFile = codes "badfile"
answer_word answer.BadRange = codes "badrange"
answer_word answer.NotMapped = codes "notmapped"
answer_word answer.NoAddress = codes "noaddress"

abbrev pub all_answers : List AnswerWord
all_answers =
    answer.Mapped ∷ answer.Word ∷ answer.Done ∷ answer.Segv ∷ answer.Beyond ∷ answer.NoFrame ∷ answer.NoQuota ∷ answer.NoMemory
    ∷ answer.Interrupted ∷ answer.Killed ∷ answer.BadFile ∷ answer.BadRange ∷ answer.NotMapped ∷ answer.NoAddress ∷ []

-- what Linux says
abbrev pub linux_word : LinuxAnswer → List ℕ
linux_word linux.Sigsegv = codes "SIGSEGV"
linux_word linux.Sigbus = codes "SIGBUS"
linux_word linux.Enospc = codes "ENOSPC"
linux_word linux.Enomem = codes "ENOMEM"
linux_word linux.Eintr = codes "EINTR"

abbrev pub all_linux : List LinuxAnswer
all_linux = linux.Sigsegv ∷ linux.Sigbus ∷ linux.Enospc ∷ linux.Enomem ∷ linux.Eintr ∷ []

-- the calls that a condition may name
abbrev pub all_calls : List CallWord
all_calls =
    call.Map ∷ call.MapNoReserve ∷ call.Unmap ∷ call.Load ∷ call.Store ∷ call.Alloc ∷ call.AllocKeep ∷ call.Punch ∷ call.Truncate
    ∷ call.Exit ∷ []

-- how a count compares with a number
abbrev pub sign : Relation → List ℕ
sign relation.Below = codes "<"
sign relation.AtMost = codes "<="
sign relation.Equal = codes "="
sign relation.AtLeast = codes ">="
sign relation.Above = codes ">"

-- the option of the program that says such conditions
abbrev pub kind_word : Kind → List ℕ
kind_word kind.Answer = codes "answer"
kind_word kind.At = codes "at"
kind_word kind.Blocked = codes "blocked"
kind_word kind.Meet = codes "meet"
kind_word kind.Final = codes "final"

abbrev pub all_kinds : List Kind
all_kinds = kind.Answer ∷ kind.At ∷ kind.Blocked ∷ kind.Meet ∷ kind.Final ∷ []

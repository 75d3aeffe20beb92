-- What a line of the loose form asks for.
use Rattle.std.specs.Prelude.{◌≡◌, ◌≤◌, ℕ, Bool, true, false, List, [], ◌++◌, Option, None, Some, codes}
use Rattle.std.specs.Fmt.{decimal}
use Rattle.hp_base.specs.declared.event.Event.{Event}
use Rattle.hp_base.specs.declared.event.Event.TheVariants.{Begin, Step, Kill, Resize}
use Rattle.hp_machine.specs.Text.{phase_word}
use Rattle.hp_format.specs.Tidy.{tidy}
use Rattle.hp_format.specs.declared.asked.Asked.{Asked}
use Rattle.hp_format.specs.declared.asked.Asked.TheVariants.{Nothing, Times, Until}
use Rattle.hp_format.specs.declared.asked.Goal.{Goal}
use Rattle.hp_format.specs.declared.asked.Goal.TheVariants.{Stands, Ended}
use Rattle.hp_text.specs.Fits.{EventFits, IsShort}
use Rattle.hp_text.specs.Reading.{event_at}

-- the word of what steps are made until: a phase, as a replay prints it behind `moved`, or the end of the call
abbrev pub goal_word : Goal → List ℕ
goal_word (Stands phase) = phase_word phase
goal_word Ended = codes "ended"

-- the verb of a step, as memory is granted to it or denied
abbrev pub step_verb : (granted : Bool) → List ℕ
step_verb true = codes "step "
step_verb false = codes "deny "

-- `step T *N` or `deny T *N`, where N is 1 to 1,000,000
abbrev pub IsRepeated : List ℕ → Event → (times : ℕ) → Type 0
IsRepeated words (Begin task op) times = ⊥
IsRepeated words (Step task granted) times =
    (words ≡ step_verb granted ++ (decimal task ++ (codes " *" ++ decimal times))) × (1 ≤ times) × (times ≤ 1000000)
IsRepeated words (Kill task) times = ⊥
IsRepeated words (Resize frames) times = ⊥

-- an event, as in a strict trace, is asked for once
abbrev pub IsOnce : Event → Asked → Type 0
IsOnce event asked = asked ≡ Times event 1

-- what these words, which are no strict event, ask for
abbrev pub AreAsked : List ℕ → Asked → Type 0
AreAsked words Nothing = words ≡ []
AreAsked words (Times event times) = IsRepeated words event times
AreAsked words (Until task goal) = words ≡ codes "step " ++ (decimal task ++ (codes " until " ++ goal_word goal))

-- what the words ask for: an event, where they are one
abbrev pub AreAskedOf : Option Event → List ℕ → Asked → Type 0
AreAskedOf (Some event) words asked = IsOnce event asked
AreAskedOf None words asked = AreAsked words asked

-- what the line asks for: a strict event is itself, and of another line the words count
abbrev pub IsAskedOf : Option Event → List ℕ → Asked → Type 0
IsAskedOf (Some event) line asked = IsOnce event asked
IsAskedOf None line asked = AreAskedOf (event_at (tidy line)) (tidy line) asked

abbrev pub IsAsked : List ℕ → Asked → Type 0
IsAsked line asked = IsAskedOf (event_at line) line asked

-- the numbers are in their types' ranges, as they are in each value of a program
abbrev pub AskedFits : Asked → Type 0
AskedFits Nothing = Unit {0}
AskedFits (Times event times) = EventFits event
AskedFits (Until task goal) = IsShort task

-- no such thing is asked for by these words, which are no strict event
abbrev pub HaveNoReading : List ℕ → Type 0
HaveNoReading words = (asked : Asked) → AskedFits asked → AreAsked words asked → ⊥

-- nor by this line, be it an event or not
abbrev pub HasNoReading : List ℕ → Type 0
HasNoReading line = (asked : Asked) → AskedFits asked → IsAsked line asked → ⊥

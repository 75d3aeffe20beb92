-- What is said of every driver: the rounds that it makes, and where one stops.
use Rattle.std.specs.Prelude.{◌≡◌, ℕ, List, ◌++◌}
use Rattle.hp_base.specs.declared.answer.Answer.{Answer}
use Rattle.hp_base.specs.declared.event.Op.{Op}
use Rattle.hp_client.specs.Heard.{heard_of}
use Rattle.hp_client.specs.declared.fault.ClientFault.{ClientFault}

-- rounds: what a driver was, the calls, their answers, and what it is then
abbrev pub Rounds : Type 0 → Type 1
Rounds D = D → List (ℕ × Op) → List Answer → D → Type 0

-- rounds without an end: their fault, what a driver was, the calls, and what it is then
abbrev pub Stops : Type 0 → Type 1
Stops D = ClientFault → D → List (ℕ × Op) → D → Type 0

-- what a driver has heard
abbrev pub Hears : Type 0 → Type 0
Hears D = D → List (ℕ × Op × Answer)

-- a round was made, and its calls were heard with their answers
abbrev pub IsHeard : {D : Type 0} → Hears D → Rounds D → Rounds D
IsHeard heard makes old calls answers new = makes old calls answers new × (heard new ≡ heard old ++ heard_of calls answers)

-- a round stopped, and nothing was heard of it
abbrev pub IsUnheard : {D : Type 0} → Hears D → Stops D → Stops D
IsUnheard heard stops fault old calls new = stops fault old calls new × (heard new ≡ heard old)

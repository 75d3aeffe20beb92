-- What a driver has heard.
use Rattle.std.specs.Prelude.{ℕ, ◌≢◌, AllPairs, List, [], ◌∷◌}
use Rattle.hp_base.specs.declared.answer.Answer.{Answer}
use Rattle.hp_base.specs.declared.event.Op.{Op}
use Rattle.hp_core.specs.State.{CoreState}

-- each call with the answer given, in order
abbrev pub heard_of : List (ℕ × Op) → List Answer → List (ℕ × Op × Answer)
heard_of [] answers = []
heard_of (call ∷ calls) [] = []
heard_of (call ∷ calls) (answer ∷ answers) = (call.0, call.1, answer) ∷ heard_of calls answers

-- no two of the calls are of one task
abbrev pub AreApart : List (ℕ × Op) → Type 0
AreApart calls = AllPairs (λ one other. one.0 ≢ other.0) calls

-- what a driver of a core is: its core, and what it has heard
pub record DriverState : Type 0 where
  pub core : CoreState
  pub heard : List (ℕ × Op × Answer)

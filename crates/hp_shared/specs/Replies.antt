-- What a seat's list gains by a call with this reply.
use Rattle.std.specs.Prelude.{◌≡◌, ℕ, Bool, true, false, List, MatchBool, ◌⊎◌}
use Rattle.hp_base.specs.declared.event.Op.{Op}
use Rattle.hp_base.specs.declared.event.Event.TheVariants.{Begin, Step}
use Rattle.hp_machine.specs.declared.outcome.Outcome.TheVariants as outcome
use Rattle.hp_machine.specs.declared.outcome.Refusal.{Refusal}
use Rattle.hp_machine.specs.declared.outcome.Refusal.TheVariants.{InCall, Idle}
use Rattle.hp_shared.specs.declared.entry.Entry.{Entry}
use Rattle.hp_shared.specs.declared.fault.Reply.{Reply}
use Rattle.hp_shared.specs.declared.fault.Reply.TheVariants.{Ended, Refused}
use Rattle.hp_shared.specs.declared.fault.CallFault.{CallFault}
use Rattle.hp_shared.specs.declared.fault.CallFault.TheVariants.{Memory}
use Rattle.hp_shared.specs.Calls.{Gained, BegunThen, MovedToEnd, AllMoved, in_call}
use Rattle.hp_shared.specs.Journal.{IsRowOf}

-- some core that the pool came to refuses the begin so
abbrev pub RefusesBegin : (task : ℕ) → Op → Refusal → Type 0
RefusesBegin task op why = IsRowOf (Begin task op) (outcome.Refused why)

-- some core that the pool came to refuses a step of the task so
abbrev pub RefusesStep : (task : ℕ) → Refusal → Type 0
RefusesStep task why = (grant : Bool) × IsRowOf (Step task grant) (outcome.Refused why)

-- the steps of a call that had begun
abbrev pub Steps : (task : ℕ) → Reply → List Entry → Type 0
Steps task (Ended answer) entries = MovedToEnd task answer entries
Steps task (Refused why) entries = AllMoved task entries × RefusesStep task why

-- Refused: the seat has a call in flight, or the begin is refused, and nothing is made; or a step behind it is
abbrev pub CallRefused : (task : ℕ) → Op → Refusal → List Entry → List Entry → Type 0
CallRefused task op why old new =
    ((in_call old ≡ true) × (why ≡ InCall) × (new ≡ old))
    ⊎ (RefusesBegin task op why × (new ≡ old))
    ⊎ (RefusesStep task why × Gained old new (BegunThen task op (AllMoved task)))

-- with an answer: a begin, moves, and the end with that answer
abbrev pub IsCall : (task : ℕ) → Op → Reply → List Entry → List Entry → Type 0
IsCall task op (Ended answer) old new = Gained old new (BegunThen task op (MovedToEnd task answer))
IsCall task op (Refused why) old new = CallRefused task op why old new

-- the same of a call that the seat had in flight. Refused: it has none, and nothing is made; or a step is
abbrev pub IsResumed : (task : ℕ) → Reply → List Entry → List Entry → Type 0
IsResumed task (Ended answer) old new = Gained old new (MovedToEnd task answer)
IsResumed task (Refused why) old new =
    ((in_call old ≡ false) × (why ≡ Idle) × (new ≡ old)) ⊎ (RefusesStep task why × Gained old new (AllMoved task))

-- for want of memory: nothing, or, where the call was begun, a begin and moves
abbrev pub StoppedCall : (task : ℕ) → Op → CallFault → List Entry → List Entry → Type 0
StoppedCall task op (Memory begun) old new =
    MatchBool begun (Gained old new (BegunThen task op (AllMoved task))) (new ≡ old)

-- A turn that names no phase, as the turn of an operation.
use Rattle.hp_machine.specs.Standings.{Want, Nothing, Lock, Slot}
use Rattle.hp_machine.specs.declared.call.Turn.{Turn}
use Rattle.hp_machine.specs.declared.call.Turn.TheVariants.{Moved, Blocked, Ended}

-- from a phase to the next
abbrev pub carried : {P : Type 0} → P → P → Turn (Unit {0}) → Turn P
carried here next (Moved u) = Moved next
carried here next (Blocked u holder) = Blocked here holder
carried here next (Ended a) = Ended a

-- where a turn is blocked, that holds of the phase at which the call stands again
abbrev pub IfBlocked : {P : Type 0} → Turn P → (P → Type 0) → Type 0
IfBlocked (Moved p) Q = Unit {0}
IfBlocked (Blocked p holder) Q = Q p
IfBlocked (Ended a) Q = Unit {0}

-- where a call wants a lock or a slot, that holds: no other can be blocked
abbrev pub IfWanting : Want → Type 0 → Type 0
IfWanting Nothing Q = Unit {0}
IfWanting (Lock f) Q = Q
IfWanting (Slot f i) Q = Q

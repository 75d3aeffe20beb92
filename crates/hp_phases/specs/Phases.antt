-- The phases in which calls stand, in one order.
use Rattle.std.specs.Prelude.{ℕ, ◌+◌, List, [], ◌∷◌, ◌++◌}
use Rattle.hp_machine.specs.Text.{outcome_text}
use Rattle.hp_machine.specs.declared.outcome.Outcome.TheVariants as outcome
use Rattle.hp_machine.specs.declared.phase.Phase.{Phase}
use Rattle.hp_machine.specs.declared.phase.Phase.TheVariants as phase

-- the place of each phase among all 27
abbrev pub place_of : Phase → ℕ
place_of phase.Start = 0
place_of phase.Look = 1
place_of phase.Want = 2
place_of phase.Locked = 3
place_of phase.Missing = 4
place_of phase.Changed = 5
place_of phase.Abort = 6
place_of phase.Taken = 7
place_of phase.Settle = 8
place_of phase.Committed = 9
place_of phase.Restore = 10
place_of phase.Found = 11
place_of phase.Leave = 12
place_of phase.Room = 13
place_of phase.Accounted = 14
place_of phase.Enter = 15
place_of phase.Head = 16
place_of phase.Unslot = 17
place_of phase.Extend = 18
place_of phase.Unmap = 19
place_of phase.Evict = 20
place_of phase.Delete = 21
place_of phase.Free = 22
place_of phase.Size = 23
place_of phase.Tail = 24
place_of phase.Clear = 25
place_of phase.Drop = 26

-- all phases, in that order
abbrev pub all_phases : List Phase
all_phases =
    phase.Start ∷ phase.Look ∷ phase.Want ∷ phase.Locked ∷ phase.Missing ∷ phase.Changed ∷ phase.Abort ∷ phase.Taken ∷ phase.Settle
    ∷ phase.Committed ∷ phase.Restore ∷ phase.Found ∷ phase.Leave ∷ phase.Room ∷ phase.Accounted ∷ phase.Enter ∷ phase.Head
    ∷ phase.Unslot ∷ phase.Extend ∷ phase.Unmap ∷ phase.Evict ∷ phase.Delete ∷ phase.Free ∷ phase.Size ∷ phase.Tail ∷ phase.Clear
    ∷ phase.Drop ∷ []

-- the number of each, counted from 1
abbrev pub phase_number : Phase → ℕ
phase_number p = place_of p + 1

-- what a replay prints of a move to it
abbrev pub moved_line : Phase → List ℕ
moved_line p = outcome_text (outcome.Moved p) ++ 10 ∷ []

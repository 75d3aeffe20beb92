-- What a call in flight owes and holds: the columns of the table of standings, each by itself.
use Rattle.std.specs.Prelude.{ℕ, ◌==◌, Option, Some, None}
use Rattle.hp_base.specs.Numbers.{bit}
use Rattle.hp_machine.specs.Standings.{Progress, NoChange, Counts, GivesUp, Want, Nothing, Lock, Slot, standing_of}
use Rattle.hp_machine.specs.declared.call.Call.{Call}

-- what the call owes: reservations that are still counted for pages which it took or took away
abbrev pub behind : Option Call → ℕ
behind c = (standing_of c).behind

-- and reservations that it counted for indices which it hasn't entered, or has taken away
abbrev pub ahead : Option Call → ℕ
ahead c = (standing_of c).ahead

-- what it owes to the used count: indices that are counted and that it hasn't entered, or has taken away
abbrev pub used_ahead : Option Call → ℕ
used_ahead c = (standing_of c).used_ahead

-- the frame in its hand
abbrev pub hand : Option Call → Option ℕ
hand c = (standing_of c).hand

-- the file in whose map a change is in progress
abbrev pub file_changed : Progress → Option ℕ
file_changed NoChange = None
file_changed (Counts f change) = Some f
file_changed (GivesUp f) = Some f

-- the file in whose map it has a change open
abbrev pub change_in : Option Call → Option ℕ
change_in c = file_changed (standing_of c).change

-- 1 where it has a change open in that file's map
abbrev pub opens : (file : ℕ) → Option Call → ℕ
opens f call = elim (change_in call) [ None ↦ 0 | Some k ↦ bit (k == f) ]

-- the file whose lock it holds
abbrev pub locked_file : Option Call → Option ℕ
locked_file c = (standing_of c).lock

-- the file and index whose slot it holds
abbrev pub slot_held : Option Call → Option (ℕ × ℕ)
slot_held c = (standing_of c).slot

abbrev pub lock_of : Want → Option ℕ
lock_of Nothing = None
lock_of (Lock f) = Some f
lock_of (Slot f i) = None

abbrev pub slot_of_want : Want → Option (ℕ × ℕ)
slot_of_want Nothing = None
slot_of_want (Lock f) = None
slot_of_want (Slot f i) = Some (f, i)

-- the file whose lock it takes next
abbrev pub wants_lock : Option Call → Option ℕ
wants_lock c = lock_of (standing_of c).wants

-- the file and index whose slot it takes next
abbrev pub wants_slot : Option Call → Option (ℕ × ℕ)
wants_slot c = slot_of_want (standing_of c).wants

-- The events that a line of a trace may spell.
use Rattle.std.specs.Prelude.{ℕ, ◌^◌, ◌<◌}
use Rattle.hp_base.specs.declared.event.Op.{Op}
use Rattle.hp_base.specs.declared.event.Op.TheVariants.{Map, MapNoReserve, Unmap, Load, Store, Alloc, Punch, Truncate, Exit}
use Rattle.hp_base.specs.declared.event.Event.{Event}
use Rattle.hp_base.specs.declared.event.Event.TheVariants.{Begin, Step, Kill, Resize}

-- a number of 32 bits, as each but a word is
abbrev pub IsShort : ℕ → Type 0
IsShort n = n < 2 ^ 32

-- the numbers are in their types' ranges, as they are in each value of a program
abbrev pub OpFits : Op → Type 0
OpFits (Map file from len) = IsShort file × IsShort from × IsShort len
OpFits (MapNoReserve file from len) = IsShort file × IsShort from × IsShort len
OpFits (Unmap base) = IsShort base
OpFits (Load vpn) = IsShort vpn
OpFits (Store vpn word) = IsShort vpn × (word < 2 ^ 64)
OpFits (Alloc file from len keep) = IsShort file × IsShort from × IsShort len
OpFits (Punch file from len) = IsShort file × IsShort from × IsShort len
OpFits (Truncate file new) = IsShort file × IsShort new
OpFits Exit = Unit {0}

abbrev pub EventFits : Event → Type 0
EventFits (Begin task op) = IsShort task × OpFits op
EventFits (Step task granted) = IsShort task
EventFits (Kill task) = IsShort task
EventFits (Resize frames) = IsShort frames

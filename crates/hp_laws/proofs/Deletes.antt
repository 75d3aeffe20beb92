-- Which index a step takes out of the reserve map.
use Rattle.std.specs.Prelude.{ℕ, ◌==◌, ◌&&◌, nat_le, Bool, false, Option, Some}
use Rattle.hp_machine.specs.declared.punch.PunchPhase.TheVariants as punch
use Rattle.hp_machine.specs.declared.truncate.TruncatePhase.TheVariants as truncate
use Rattle.hp_machine.specs.declared.call.Call.{Call}
use Rattle.hp_machine.specs.declared.call.Call.TheVariants as call

-- the index that the call's next step takes out of the reserve map
abbrev pub deletes : Option Call → (file index : ℕ) → Bool
deletes (Some (call.Punch (punch.Delete p))) f i = (p.hole.file == f) && (p.index == i)
deletes (Some (call.Truncate (truncate.Tail p))) f i = (p.truncation.file == f) && nat_le p.truncation.new i
deletes other f i = false

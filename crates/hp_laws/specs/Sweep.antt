-- How calls stand to the indices of their file: where one may still place a page, and which ones a
-- truncation has yet to pass, has passed, or has taken out of the reserve map.
use Rattle.std.specs.Prelude.{ℕ, ◌==◌, ◌&&◌, nat_le, nat_lt, Bool, false, Option, Some, None}
use Rattle.hp_machine.specs.Standings.{Work, NoWork, Makes, Uses, Removes, Removed, Sweep, NoSweep, At, Past, Gone, standing_of}
use Rattle.hp_machine.specs.declared.call.Call.{Call}

-- what a call that makes a page there says of the file and index whose slot it holds; others say nothing
abbrev pub made_at : Work → Option (ℕ × ℕ) → Option (ℕ × ℕ)
made_at NoWork place = None
made_at Makes place = place
made_at Uses place = None
made_at Removes place = None
made_at Removed place = None

-- of those that hold no file lock, which touches are
abbrev pub unlocked : Option ℕ → Option (ℕ × ℕ) → Option (ℕ × ℕ)
unlocked None place = place
unlocked (Some f) place = None

-- the file and index at which a touch may place a page: it was below the size
abbrev pub fills : Option Call → Option (ℕ × ℕ)
fills c = unlocked (standing_of c).lock (made_at (standing_of c).work (standing_of c).slot)

abbrev pub is_to_pass : Sweep → (file index : ℕ) → Bool
is_to_pass NoSweep f i = false
is_to_pass (At file at) f i = (file == f) && nat_le i at
is_to_pass (Past file new) f i = false
is_to_pass (Gone file new) f i = false

abbrev pub is_passed : Sweep → (file index : ℕ) → Bool
is_passed NoSweep f i = false
is_passed (At file at) f i = (file == f) && nat_lt at i
is_passed (Past file new) f i = (file == f) && nat_le new i
is_passed (Gone file new) f i = (file == f) && nat_le new i

abbrev pub is_gone : Sweep → (file index : ℕ) → Bool
is_gone NoSweep f i = false
is_gone (At file at) f i = false
is_gone (Past file new) f i = false
is_gone (Gone file new) f i = (file == f) && nat_le new i

-- a truncation that set the size has yet to pass that index
abbrev pub to_pass : Option Call → (file index : ℕ) → Bool
to_pass c f i = is_to_pass (standing_of c).sweep f i

-- or has passed it
abbrev pub passed : Option Call → (file index : ℕ) → Bool
passed c f i = is_passed (standing_of c).sweep f i

-- or has taken it out of the reserve map
abbrev pub gone : Option Call → (file index : ℕ) → Bool
gone c f i = is_gone (standing_of c).sweep f i

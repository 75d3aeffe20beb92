-- What comes of `hugepool race`.
use Rattle.std.specs.Prelude.{ℕ, List, Option, Some, None, Bool, map}
use Rattle.std.specs.Int.NonZero.{non_zero_u32_get}
use Rattle.std.specs.Option.{option_map}
use Rattle.hp_base.specs.Text.{sizes}
use Rattle.hp_text.specs.declared.script.Script.{Script}
use Rattle.hp_race.specs.Calls.{is_mortal}
use Rattle.hp_race.specs.Writing.{WroteRaces, WroteSomeRaces, WroteSomeTrace, WroteTrace}
use Rattle.hp_text.specs.Collecting.{ReadsTrace}
use Rattle.hp_text.specs.ScriptLines.{HasLinesFault, ReadsScript}
use Rattle.hp_text.specs.Scripts.{begin_of, HasScriptFault}
use Rattle.hp_text.specs.declared.fault.ReplayFault.{ReplayFault}
use Rattle.hp_command.specs.declared.request.Racing.{Racing}
use Rattle.hp_command.specs.declared.request.Racing.TheVariants.{Times, Trace}

-- how the script of these races is read: its calls may wait where no journal is cut
abbrev pub ReadsRaced : Racing → (from to : Option (List ℕ)) → Script → Type 0
ReadsRaced (Times times (Some cut) chances) from to script = ReadsTrace from to (sizes script.config) (map begin_of script.calls.items)
ReadsRaced (Times times None chances) from to script =
    ReadsScript from to (sizes script.config) script.calls.items script.waits.items
ReadsRaced (Trace chances) from to script = ReadsScript from to (sizes script.config) script.calls.items script.waits.items

-- and which faults its bytes have
abbrev pub HasRacedFault : Racing → (bytes : List ℕ) → ReplayFault → Type 0
HasRacedFault (Times times (Some cut) chances) bytes fault = HasScriptFault bytes fault
HasRacedFault (Times times None chances) bytes fault = HasLinesFault bytes fault
HasRacedFault (Trace chances) bytes fault = HasLinesFault bytes fault

-- what a script's races have written; all were closed, or some weren't
abbrev pub WroteRacing : Racing → Script → (closed : Bool) → (before after : Option (List ℕ)) → Type 0
WroteRacing (Times times cut chances) script closed before after =
    WroteRaces (is_mortal chances) script (option_map non_zero_u32_get cut) times closed before after
WroteRacing (Trace chances) script closed before after = WroteTrace (is_mortal chances) script closed before after

-- what they have written where not all of it was
abbrev pub WroteSomeRacing : Racing → Script → (before after : Option (List ℕ)) → Type 0
WroteSomeRacing (Times times cut chances) script before after =
    WroteSomeRaces (is_mortal chances) script (option_map non_zero_u32_get cut) times before after
WroteSomeRacing (Trace chances) script before after = WroteSomeTrace (is_mortal chances) script before after

-- A script was read, and a line written for each race of it, or the trace of one. A reader had the bytes `from` left, and now
-- has `to`; an output held `before`, and now holds `after`
pub record Races (r : Racing) (closed : Bool) (from to before after : Option (List ℕ)) : Type 0 where
  pub script : Script
  pub reads : ReadsRaced r from to script
  pub wrote : WroteRacing r script closed before after

-- a script was read, and a front of that written
pub record RacesPartly (r : Racing) (from to before after : Option (List ℕ)) : Type 0 where
  pub script : Script
  pub reads : ReadsRaced r from to script
  pub wrote : WroteSomeRacing r script before after

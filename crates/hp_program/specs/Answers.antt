-- What is answered to a command, and what was read and written then.
use Rattle.std.specs.Prelude.{◌≡◌, ℕ, List, [], Option, Some, None, ◌⊎◌, Bool, true, false, IfSome, Result, Ok, Err}
use Rattle.std.specs.Io.KnownBytes.{Keeps}
use Rattle.hp_base.specs.Text.{Sizes, sizes}
use Rattle.hp_base.specs.declared.event.Event.{Event}
use Rattle.hp_text.specs.Collecting.{ReadsTrace}
use Rattle.hp_text.specs.ScriptLines.{ReadsScript}
use Rattle.hp_text.specs.Streams.{sink_at}
use Rattle.hp_text.specs.Writing.{IsWriteFault}
use Rattle.hp_text.specs.declared.fault.ReplayFault.{ReplayFault}
use Rattle.hp_text.specs.declared.fault.ReplayFault.TheVariants.{BadLine, BadHeader, Read, Write, Memory}
use Rattle.hp_text.specs.declared.script.Script.{Script}
use Rattle.hp_program.specs.Endings.{HoldsFront, ReaderAt}

-- A reader had the bytes `from` left, and now has `to`; an output held `before`, and now holds `after`.

-- What was done where a request was not: nothing is written before all is read, so nothing was written and no write failed, or
-- there was a fault of writing and `Partly` says how far it went; whether the sink had failed, and whether it has now
abbrev pub NotDone : (Partly : Type 0) → ReplayFault → (old new : ℕ) → (before after : Option (List ℕ)) → Type 0
NotDone Partly fault old new before after =
    (Keeps before after × (new ≡ old)) ⊎ (IsWriteFault fault × Partly × (new ≡ sink_at fault old))

-- where the output is there
abbrev pub IfThere : Option (Option (List ℕ)) → (Option (List ℕ) → Type 0) → Type 0
IfThere None P = ⊥
IfThere (Some after) P = P after

-- ---- runs of a script, in lines to an output without a buffer

-- what was written where a request ended with this fault: nothing where the script was not read, else nothing or a part
abbrev pub PartAt : (Option (List ℕ) → Type 0) → ReplayFault → Option (List ℕ) → Option (List ℕ) → Type 0
PartAt Partly BadHeader before after = Keeps before after
PartAt Partly (BadLine n) before after = Keeps before after
PartAt Partly Read before after = Keeps before after
PartAt Partly Write before after = Keeps before after ⊎ Partly after
PartAt Partly Memory before after = Keeps before after ⊎ Partly after

-- What is answered where these are done, and all runs came to their ends or some didn't; a fault of reading is told where the
-- reader failed, and a bad line where it is
abbrev pub AnsweredRuns : (Bool → Option (List ℕ) → Type 0) → (Option (List ℕ) → Type 0) → (ReplayFault → Type 0)
    → Result Bool ReplayFault → (old new : ℕ) → Option (List ℕ) → Option (Option (List ℕ)) → Type 0
AnsweredRuns Done Partly Bad (Ok ended) old new before after = (new ≡ old) × IfThere after (Done ended)
AnsweredRuns Done Partly Bad (Err fault) old new before after =
    ReaderAt fault old new × Bad fault × IfThere after (PartAt Partly fault before)

-- ---- a text about the trace or the script that was read, which is read whole before anything is written: `Done` says of the streams that
-- it was written, `IsFront` of a text that such a one begins with it, `Bad` of the bytes that this is their fault

-- a trace was read, and this text is of it
pub record OfTrace (Is : Sizes → List Event → List ℕ → Type 0) (from to : Option (List ℕ)) (text : List ℕ) : Type 0 where
  pub sizes : Sizes
  pub events : List Event
  pub reads : ReadsTrace from to sizes events
  pub is : Is sizes events text

-- a script was, and this text is of it
pub record OfScript (Is : Script → List ℕ → Type 0) (from to : Option (List ℕ)) (text : List ℕ) : Type 0 where
  pub script : Script
  pub reads : ReadsScript from to (sizes script.config) script.calls.items script.waits.items
  pub is : Is script text

-- what the output holds is a front of what it held, and of such a text
pub record TextShort (IsFront : Option (List ℕ) → Option (List ℕ) → List ℕ → Type 0) (from to before after : Option (List ℕ))
    : Type 0 where
  pub text : List ℕ
  pub is_front : IsFront from to text
  pub holds : HoldsFront before after text

-- what was written where the text was not written to its end: nothing where the trace was not read, else a front
abbrev pub TextIn : (Option (List ℕ) → Option (List ℕ) → List ℕ → Type 0) → ReplayFault → Option (List ℕ) → Option (List ℕ)
    → Option (List ℕ) → Option (List ℕ) → Type 0
TextIn IsFront BadHeader from to before after = Keeps before after
TextIn IsFront (BadLine n) from to before after = Keeps before after
TextIn IsFront Read from to before after = Keeps before after
TextIn IsFront Write from to before after = HoldsFront before after [] ⊎ TextShort IsFront from to before after
TextIn IsFront Memory from to before after = HoldsFront before after [] ⊎ TextShort IsFront from to before after

-- where the output went with a buffer that was refused, nothing was read
abbrev pub TextAt : (Option (List ℕ) → Option (List ℕ) → List ℕ → Type 0) → ReplayFault → Option (List ℕ) → Option (List ℕ)
    → Option (List ℕ) → Option (Option (List ℕ)) → Type 0
TextAt IsFront fault from to before None = (fault ≡ Memory) × Keeps from to
TextAt IsFront fault from to before (Some after) = TextIn IsFront fault from to before after

abbrev pub AnsweredText : (Option (List ℕ) → Option (List ℕ) → Option (List ℕ) → Option (List ℕ) → Type 0)
    → (Option (List ℕ) → Option (List ℕ) → List ℕ → Type 0) → (List ℕ → ReplayFault → Type 0) → Result (Unit {0}) ReplayFault
    → Option (List ℕ) → Option (List ℕ) → (old new : ℕ) → Option (List ℕ) → Option (Option (List ℕ)) → Type 0
AnsweredText Done IsFront Bad (Ok x) from to old new before after = (new ≡ old) × IfThere after (Done from to before)
AnsweredText Done IsFront Bad (Err fault) from to old new before after =
    ReaderAt fault old new × IfSome from (λ bytes. Bad bytes fault) × TextAt IsFront fault from to before after

-- What is answered where what was read is searched: whether what is looked for is there. If it is, a text is written as above; if it
-- isn't, `Misses` holds of what was read, and nothing is written
abbrev pub AnsweredHunt : (Option (List ℕ) → Option (List ℕ) → Option (List ℕ) → Option (List ℕ) → Type 0)
    → (Option (List ℕ) → Option (List ℕ) → Type 0) → (Option (List ℕ) → Option (List ℕ) → List ℕ → Type 0)
    → (List ℕ → ReplayFault → Type 0) → Result Bool ReplayFault → Option (List ℕ) → Option (List ℕ)
    → (old new : ℕ) → Option (List ℕ) → Option (Option (List ℕ)) → Type 0
AnsweredHunt Done Misses IsFront Bad (Ok true) from to old new before after =
    AnsweredText Done IsFront Bad (Ok tt) from to old new before after
AnsweredHunt Done Misses IsFront Bad (Ok false) from to old new before after =
    (new ≡ old) × Misses from to × IfThere after (λ held. Keeps before held)
AnsweredHunt Done Misses IsFront Bad (Err fault) from to old new before after =
    AnsweredText Done IsFront Bad (Err fault) from to old new before after

-- ---- the status with which the program ends

-- 1 after a fault
abbrev pub status_of_text : Result (Unit {0}) ReplayFault → ℕ
status_of_text (Ok x) = 0
status_of_text (Err fault) = 1

-- and where some runs didn't come to their ends, or nothing was found
abbrev pub status_of_runs : Result Bool ReplayFault → ℕ
status_of_runs (Ok true) = 0
status_of_runs (Ok false) = 1
status_of_runs (Err fault) = 1

-- The one spelling of each outcome: what Display writes.
use Rattle.std.specs.Prelude.{List, ℕ, ◌++◌, codes}
use Rattle.std.specs.Fmt.{decimal}
use Rattle.hp_base.specs.Text.{answer_text}
use Rattle.hp_machine.specs.declared.phase.Phase.{Phase}
use Rattle.hp_machine.specs.declared.phase.Phase.TheVariants as word
use Rattle.hp_machine.specs.declared.outcome.Refusal.{Refusal}
use Rattle.hp_machine.specs.declared.outcome.Refusal.TheVariants as refusal
use Rattle.hp_machine.specs.declared.outcome.Outcome.{Outcome}
use Rattle.hp_machine.specs.declared.outcome.Outcome.TheVariants as outcome
use Rattle.hp_machine.specs.declared.outcome.Life.{Life}
use Rattle.hp_machine.specs.declared.outcome.Life.TheVariants as life

abbrev pub phase_word : Phase → List ℕ
phase_word word.Start = codes "start"
phase_word word.Look = codes "look"
phase_word word.Want = codes "want"
phase_word word.Locked = codes "locked"
phase_word word.Missing = codes "missing"
phase_word word.Changed = codes "changed"
phase_word word.Abort = codes "abort"
phase_word word.Taken = codes "taken"
phase_word word.Settle = codes "settle"
phase_word word.Committed = codes "committed"
phase_word word.Restore = codes "restore"
phase_word word.Found = codes "found"
phase_word word.Leave = codes "leave"
phase_word word.Room = codes "room"
phase_word word.Accounted = codes "accounted"
phase_word word.Enter = codes "enter"
phase_word word.Head = codes "head"
phase_word word.Unslot = codes "unslot"
phase_word word.Extend = codes "extend"
phase_word word.Unmap = codes "unmap"
phase_word word.Evict = codes "evict"
phase_word word.Delete = codes "delete"
phase_word word.Free = codes "free"
phase_word word.Size = codes "size"
phase_word word.Tail = codes "tail"
phase_word word.Clear = codes "clear"
phase_word word.Drop = codes "drop"

abbrev pub refusal_word : Refusal → List ℕ
refusal_word refusal.NotAlive = codes "notalive"
refusal_word refusal.InCall = codes "incall"
refusal_word refusal.Idle = codes "idle"
refusal_word refusal.BadSize = codes "badsize"

abbrev pub life_word : Life → List ℕ
life_word life.Alive = codes "alive"
life_word life.Killed = codes "killed"
life_word life.Dead = codes "dead"

abbrev pub outcome_text : Outcome → List ℕ
outcome_text outcome.Begun = codes "begun"
outcome_text (outcome.Moved phase) = codes "moved " ++ phase_word phase
outcome_text (outcome.Blocked task) = codes "blocked " ++ decimal task
outcome_text (outcome.Ended answer) = codes "ended " ++ answer_text answer
outcome_text outcome.Marked = codes "marked"
outcome_text (outcome.Resized frames) = codes "resized " ++ decimal frames
outcome_text (outcome.Refused refusal) = codes "refused " ++ refusal_word refusal

-- Each case is one of the numbers' lists.
use Rattle.std.proofs.Common.{◌≡◌, Some, ap, refl}
use Rattle.std.specs.Prelude.{Option}
use Rattle.std.specs.Option.{option_map}
use Rattle.hp_base.specs.declared.answer.Answer.{Answer}
use Rattle.hp_base.specs.declared.answer.Answer.TheVariants as answer
use Rattle.hp_machine.specs.declared.outcome.Outcome.{Outcome}
use Rattle.hp_machine.specs.declared.outcome.Outcome.TheVariants as outcome
use Rattle.hp_machine.specs.declared.outcome.Refusal.{Refusal}
use Rattle.hp_machine.specs.declared.outcome.Refusal.TheVariants as refusal
use Rattle.hp_machine.specs.declared.phase.Phase.{Phase}
use Rattle.hp_machine.specs.declared.phase.Phase.TheVariants as phase
use Rattle.hp_phases.specs.Phases.{phase_number}
use Rattle.hp_words.specs.Words.{outcome_named, outcome_words, phase_numbered, refusal_number, refusal_numbered}
use Rattle.hp_words.proofs.laws.each_outcome_is_named.Goals as goal

of_phase : (p : Phase) → phase_numbered (phase_number p) ≡ Some p
of_phase phase.Start = refl
of_phase phase.Look = refl
of_phase phase.Want = refl
of_phase phase.Locked = refl
of_phase phase.Missing = refl
of_phase phase.Changed = refl
of_phase phase.Abort = refl
of_phase phase.Taken = refl
of_phase phase.Settle = refl
of_phase phase.Committed = refl
of_phase phase.Restore = refl
of_phase phase.Found = refl
of_phase phase.Leave = refl
of_phase phase.Room = refl
of_phase phase.Accounted = refl
of_phase phase.Enter = refl
of_phase phase.Head = refl
of_phase phase.Unslot = refl
of_phase phase.Extend = refl
of_phase phase.Unmap = refl
of_phase phase.Evict = refl
of_phase phase.Delete = refl
of_phase phase.Free = refl
of_phase phase.Size = refl
of_phase phase.Tail = refl
of_phase phase.Clear = refl
of_phase phase.Drop = refl

of_refusal : (r : Refusal) → refusal_numbered (refusal_number r) ≡ Some r
of_refusal refusal.NotAlive = refl
of_refusal refusal.InCall = refl
of_refusal refusal.Idle = refl
of_refusal refusal.BadSize = refl

of_end : (a : Answer) → outcome_named (outcome_words (outcome.Ended a)) ≡ Some (outcome.Ended a)
of_end (answer.Mapped n) = refl
of_end (answer.Word n) = refl
of_end answer.Done = refl
of_end answer.Segv = refl
of_end answer.Beyond = refl
of_end answer.NoFrame = refl
of_end answer.NoQuota = refl
of_end answer.NoMemory = refl
of_end answer.Interrupted = refl
of_end answer.Killed = refl
of_end answer.BadFile = refl
of_end answer.BadRange = refl
of_end answer.NotMapped = refl
of_end answer.NoAddress = refl

of_outcome : (o : Outcome) → outcome_named (outcome_words o) ≡ Some o
of_outcome outcome.Begun = refl
of_outcome (outcome.Moved p) = ap (λ (q : Option Phase). option_map outcome.Moved q) (of_phase p)
of_outcome (outcome.Blocked t) = refl
of_outcome (outcome.Ended a) = of_end a
of_outcome outcome.Marked = refl
of_outcome (outcome.Resized n) = refl
of_outcome (outcome.Refused r) = ap (λ (q : Option Refusal). option_map outcome.Refused q) (of_refusal r)

pub returns : goal.returns
returns c = of_outcome

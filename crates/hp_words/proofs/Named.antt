-- What numbers name: read back, each event, outcome, phase and refusal is the one that was written.
use Rattle.std.proofs.Common.{◌≡◌, ◌∙◌, ◌-◌, ℕ, ap, arith, refl, sym}
use Rattle.std.specs.Prelude.{◌==◌, true, false, Option, Some, None, if◌then◌else◌, slice_index_or}
use Rattle.std.specs.Option.{option_map}
use Rattle.hp_base.specs.declared.event.Op.TheVariants as op
use Rattle.hp_base.specs.declared.event.Event.{Event}
use Rattle.hp_base.specs.declared.event.Event.TheVariants.{Begin, Step, Kill, Resize}
use Rattle.hp_base.specs.declared.answer.Answer.{Answer}
use Rattle.hp_base.specs.declared.answer.Answer.TheVariants as answer
use Rattle.hp_machine.specs.declared.outcome.Outcome.{Outcome}
use Rattle.hp_machine.specs.declared.outcome.Outcome.TheVariants as outcome
use Rattle.hp_machine.specs.declared.outcome.Refusal.{Refusal}
use Rattle.hp_machine.specs.declared.outcome.Refusal.TheVariants as refusal
use Rattle.hp_machine.specs.declared.phase.Phase.{Phase}
use Rattle.hp_machine.specs.declared.phase.Phase.TheVariants as phase
use Rattle.hp_phases.specs.Phases.{all_phases, phase_number, place_of}
use Rattle.hp_phases.proofs.Places.{there}
use Rattle.hp_words.specs.declared.outcome_words.OutcomeWords.{OutcomeWords}
use Rattle.hp_words.specs.Words.{event_named, event_words, outcome_words, refusal_number}

-- what is read back as it was written is written as nothing else is
own : {A B : Type 0} (write : A → B) (read : B → Option A) → ((a : A) → read (write a) ≡ Some a)
    → (some other : A) → write some ≡ write other → some ≡ other
own write read back some other e =
    let same : Some some ≡ Some other = sym (back some) ∙ ap read e ∙ back other in
    cc

-- ---- events

pub named : (event : Event) → event_named (event_words event) ≡ Some event
named (Begin t (op.Map f i n)) = refl
named (Begin t (op.MapNoReserve f i n)) = refl
named (Begin t (op.Unmap b)) = refl
named (Begin t (op.Load v)) = refl
named (Begin t (op.Store v w)) = refl
named (Begin t (op.Alloc f i n false)) = refl
named (Begin t (op.Alloc f i n true)) = refl
named (Begin t (op.Punch f i n)) = refl
named (Begin t (op.Truncate f n)) = refl
named (Begin t op.Exit) = refl
named (Step t true) = refl
named (Step t false) = refl
named (Kill t) = refl
named (Resize n) = refl

pub events_own : (some other : Event) → event_words some ≡ event_words other → some ≡ other
events_own = own event_words event_named named

-- ---- phases and refusals

abbrev phase_numbered : ℕ → Phase
phase_numbered n = slice_index_or all_phases (n - 1) phase.Start

phase_back : (p : Phase) → phase_numbered (phase_number p) ≡ p
phase_back p =
    let back : phase_number p - 1 ≡ place_of p = omega arith in
    ap (λ (k : ℕ). slice_index_or all_phases k phase.Start) back ∙ (there p).1

abbrev refusal_numbered : ℕ → Option Refusal
refusal_numbered n =
    if n == 1 then Some refusal.NotAlive
    else if n == 2 then Some refusal.InCall
    else if n == 3 then Some refusal.Idle
    else if n == 4 then Some refusal.BadSize
    else None

refusal_back : (r : Refusal) → refusal_numbered (refusal_number r) ≡ Some r
refusal_back refusal.NotAlive = refl
refusal_back refusal.InCall = refl
refusal_back refusal.Idle = refl
refusal_back refusal.BadSize = refl

pub refusals_own : (some other : Refusal) → refusal_number some ≡ refusal_number other → some ≡ other
refusals_own = own refusal_number refusal_numbered refusal_back

-- ---- outcomes

abbrev answer_of : OutcomeWords → Option Answer
answer_of o =
    if o.answer == 1 then Some (answer.Mapped o.page)
    else if o.answer == 2 then Some (answer.Word o.word)
    else if o.answer == 3 then Some answer.Done
    else if o.answer == 4 then Some answer.Segv
    else if o.answer == 5 then Some answer.Beyond
    else if o.answer == 6 then Some answer.NoFrame
    else if o.answer == 7 then Some answer.NoQuota
    else if o.answer == 8 then Some answer.NoMemory
    else if o.answer == 9 then Some answer.Interrupted
    else if o.answer == 10 then Some answer.Killed
    else if o.answer == 11 then Some answer.BadFile
    else if o.answer == 12 then Some answer.BadRange
    else if o.answer == 13 then Some answer.NotMapped
    else if o.answer == 14 then Some answer.NoAddress
    else None

abbrev outcome_of : OutcomeWords → Option Outcome
outcome_of o =
    if o.kind == 0 then Some outcome.Begun
    else if o.kind == 1 then Some (outcome.Moved (phase_numbered o.phase))
    else if o.kind == 2 then Some (outcome.Blocked o.task)
    else if o.kind == 3 then option_map outcome.Ended (answer_of o)
    else if o.kind == 4 then Some outcome.Marked
    else if o.kind == 5 then Some (outcome.Resized o.frames)
    else if o.kind == 6 then option_map outcome.Refused (refusal_numbered o.refusal)
    else None

outcome_back : (o : Outcome) → outcome_of (outcome_words o) ≡ Some o
outcome_back outcome.Begun = refl
outcome_back (outcome.Moved p) = ap (λ (q : Phase). Some (outcome.Moved q)) (phase_back p)
outcome_back (outcome.Blocked t) = refl
outcome_back (outcome.Ended (answer.Mapped b)) = refl
outcome_back (outcome.Ended (answer.Word w)) = refl
outcome_back (outcome.Ended answer.Done) = refl
outcome_back (outcome.Ended answer.Segv) = refl
outcome_back (outcome.Ended answer.Beyond) = refl
outcome_back (outcome.Ended answer.NoFrame) = refl
outcome_back (outcome.Ended answer.NoQuota) = refl
outcome_back (outcome.Ended answer.NoMemory) = refl
outcome_back (outcome.Ended answer.Interrupted) = refl
outcome_back (outcome.Ended answer.Killed) = refl
outcome_back (outcome.Ended answer.BadFile) = refl
outcome_back (outcome.Ended answer.BadRange) = refl
outcome_back (outcome.Ended answer.NotMapped) = refl
outcome_back (outcome.Ended answer.NoAddress) = refl
outcome_back outcome.Marked = refl
outcome_back (outcome.Resized n) = refl
outcome_back (outcome.Refused r) = ap (option_map outcome.Refused) (refusal_back r)

pub outcomes_own : (some other : Outcome) → outcome_words some ≡ outcome_words other → some ≡ other
outcomes_own = own outcome_words outcome_of outcome_back

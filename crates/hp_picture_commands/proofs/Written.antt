-- What is answered where the state at the end of a trace is written.
use Rattle.std.proofs.Common.{◌≡◌, ◌≤◌, ◌⊎◌, ℕ, List, Option, Some, length, refl, ap, inl, inr, ◌∙◌, arith}
use Rattle.std.specs.Prelude.{OnOk, OnErr, IfErr, IfSome, Result, Ok, Err, nat_lt}
use Rattle.std.specs.Io.KnownBytes.{Appends, Keeps, append_known}
use Rattle.std.proofs.KnownBytes.{Appends-kept}
use Rattle.hp_agree.proofs.Agreement.{agree_on_listed}
use Rattle.hp_agree.specs.Flat.{counts_of, places_of}
use Rattle.hp_audit.specs.Findings.{IsRight}
use Rattle.hp_audit.specs.declared.picture.Picture.{Picture}
use Rattle.hp_base.specs.Limits.{IsWithinLimits}
use Rattle.hp_base.specs.Text.{Sizes, sizes}
use Rattle.hp_base.specs.declared.config.Config.{Config}
use Rattle.hp_base.specs.declared.event.Event.{Event}
use Rattle.hp_core.specs.Pictures.{IsPicture}
use Rattle.hp_core.specs.Readers.{config_of}
use Rattle.hp_core.specs.Runs.{IsOfConfig}
use Rattle.hp_core.specs.State.{CoreState, as_state}
use Rattle.hp_core.proofs.Reading.{few_files_of}
use Rattle.hp_format.specs.Drafts.{IsLed}
use Rattle.hp_machine.specs.State.{Geometry}
use Rattle.hp_picture.specs.Pictures.{PlacesState, picture_of}
use Rattle.hp_picture.specs.Text.{AreShortCounts, picture_text}
use Rattle.hp_picture.specs.declared.picture.Counts.{Counts}
use Rattle.hp_picture_commands.proofs.Listed.{is_listed}
use Rattle.hp_picture_commands.specs.States.{AnsweredState, IsEndText, IsStateText, Writes, WroteSomeState, WroteState}
use Rattle.hp_program.specs.Answers.{NotDone, OfTrace}
use Rattle.hp_program.proofs.Answers.{HasFront, Passes, answered_text, flushed_whole, no_trace_fault}
use Rattle.hp_program.proofs.Buffered.{all_of, holds}
use Rattle.hp_text.specs.Collecting.{ReadsTrace}
use Rattle.hp_text.specs.Streams.{TellsReads, TellsWrites, sink_at}
use Rattle.hp_text.specs.Traces.{HasFault}
use Rattle.hp_text.specs.Writing.{IsWriteFault, Wrote}
use Rattle.hp_text.specs.declared.fault.ReplayFault.{ReplayFault}
use Rattle.hp_text.specs.declared.fault.ReplayFault.TheVariants.{BadLine, BadHeader, Read, Write, Memory}

-- a text of one kind is one of another
pub writes_as : (Is As : List ℕ → Type 0) (How : Option (List ℕ) → Option (List ℕ) → List ℕ → Type 0) (before after : Option (List ℕ))
    → ((text : List ℕ) → Is text → As text) → Writes Is How before after → Writes As How before after
writes_as Is As How before after turn (text, is, how) = (text, turn text is, how)

pub not_done_as : (P Q : Type 0) (fault : ReplayFault) (old new : ℕ) (before after : Option (List ℕ)) → (P → Q)
    → NotDone P fault old new before after → NotDone Q fault old new before after
not_done_as P Q fault old new before after turn (inl none) = inl none
not_done_as P Q fault old new before after turn (inr (is, partly, told)) = inr (is, turn partly, told)

-- a core's files are few
pub few_files : (s : CoreState) (config : Config) (p : Picture) → IsOfConfig s → sizes config ≡ config_of s
    → IsWithinLimits config.frames config.files config.slots config.tasks → IsPicture s p → length p.files.items ≤ 16
unfolding config_of
few_files s config p of same within is =
    let own : (as_state s).geometry.files ≡ s.sizes.files = ap (λ (g : Geometry). g.files) of.0 in
    let asked : config.files ≡ s.sizes.files = ap (λ (z : Sizes). z.files) same in
    omega (arith, few_files_of config.frames config.files config.slots config.tasks within, is.as_many, own, asked)

-- the text of a core's picture
state_text : (s : CoreState) (p : Picture) (counts : Counts) (places : PlacesState) → IsPicture s p → IsRight p → counts ≡ counts_of p
    → places ≡ places_of p → picture_of (picture_text counts places) ≡ Ok (counts, places) → IsStateText s (picture_text counts places)
state_text s p counts places of right counts_are places_are again =
    record {
      picture = p;
      of_core = of;
      right = right;
      nothing = ((agree_on_listed p (is_listed s p of)).0 right).1;
      is = rw (counts_are, places_are) refl;
      again = rw (← counts_are, ← places_are) again;
    }

-- what was written of it
pub state_written : (s : CoreState) (p : Picture) (counts : Counts) (places : PlacesState) → IsPicture s p → IsRight p
    → counts ≡ counts_of p → places ≡ places_of p → AreShortCounts counts → (before after : Option (List ℕ)) (old new : ℕ)
    → (r : Result (Unit {0}) ReplayFault) → OnOk r (Appends before after (picture_text counts places))
    → (r ≡ Err Memory) ⊎ (AreShortCounts counts → picture_of (picture_text counts places) ≡ Ok (counts, places))
    → (r ≡ Err Memory → Keeps before after) → IfErr r (λ fault. IsWriteFault fault × Wrote before after (picture_text counts places))
    → TellsWrites r old new → OnOk r (Writes (IsStateText s) Appends before after)
    × IfErr r (λ fault. NotDone (Writes (IsStateText s) Wrote before after) fault old new before after)
state_written s p counts places of right counts_are places_are short before after old new (Ok x) done (inl memory) none stopped told =
    absurd cc
state_written s p counts places of right counts_are places_are short before after old new (Ok x) done (inr again) none stopped told =
    ((picture_text counts places, state_text s p counts places of right counts_are places_are (again short), done), tt)
state_written s p counts places of right counts_are places_are short before after old new (Err fault) done (inl memory) none stopped told =
    let is : fault ≡ Memory = cc in
    (tt, inl (none memory, told ∙ ap (λ (f : ReplayFault). sink_at f old) is))
state_written s p counts places of right counts_are places_are short before after old new (Err fault) done (inr again) none stopped told = (
  tt,
  inr (
    stopped.0,
    (picture_text counts places, state_text s p counts places of right counts_are places_are (again short), stopped.1),
    told,
  ),
)

-- the state of a core to which these events happened is that at their end
pub at_end : (config : Config) (core : CoreState) (events : List Event) → IsLed config core events → (text : List ℕ)
    → IsStateText core text → IsEndText (sizes config) events text
at_end config core events led text state = record { config = config; sizes_are = refl; core = core; led = led; state = state }

-- a text of a trace that was read
pub of_read : (from to : Option (List ℕ)) (s : Sizes) (events : List Event) → ReadsTrace from to s events → (text : List ℕ)
    → IsEndText s events text → OfTrace IsEndText from to text
of_read from to s events reads text is = record { sizes = s; events = events; reads = reads; is = is }

-- a fault of writing is none of reading
pub wrote_reads : (r : Result (Unit {0}) ReplayFault) (old new : ℕ) → new ≡ old → IfErr r (λ fault. IsWriteFault fault)
    → TellsReads r old new
wrote_reads (Ok x) old new same is = same
wrote_reads (Err BadHeader) old new same is = absurd is
wrote_reads (Err (BadLine n)) old new same is = absurd is
wrote_reads (Err Read) old new same is = absurd is
wrote_reads (Err Write) old new same is = same
wrote_reads (Err Memory) old new same is = same

states_front : (from to before mid after : Option (List ℕ)) (left text : List ℕ) → OfTrace IsEndText from to text → Wrote before mid text
    → Keeps mid (append_known after left) → HasFront (OfTrace IsEndText) from to before after
states_front from to before mid after left text of wrote kept =
    inr (record { text = text; is_front = of; holds = holds before mid after left text wrote kept })

states_pass : Passes WroteState WroteSomeState (OfTrace IsEndText)
states_pass =
    record {
      kept = λ from to before mid after kept h. (h.0, h.1, Appends-kept before mid after h.0 h.2 kept);
      whole = λ from to before mid after left kept h. states_front from to before mid after left h.0 h.1 (all_of before mid h.0 h.2) kept;
      part = λ from to before mid after left kept h. states_front from to before mid after left h.0 h.1 h.2 kept;
    }

pub answered_state : {E : Type 0} (from to : Option (List ℕ)) (old new : ℕ) (start before mid after : Option (List ℕ)) (first failures : ℕ)
    (written answer : Result (Unit {0}) ReplayFault) (flushed : Result (Unit {0}) E)
    → start ≡ before → first ≡ 0 → OnOk written (WroteState from to start mid)
    → IfErr written (λ fault. NotDone (WroteSomeState from to start mid) fault first failures start mid)
    → IfErr written (λ fault. IfSome from (λ bytes. HasFault bytes fault)) → TellsReads written old new → OnOk written (failures ≡ first)
    → Keeps mid after → OnOk flushed (answer ≡ written) → OnErr flushed (answer ≡ Err Write)
    → AnsweredState answer from to old new before (Some after)
answered_state from to old new start before mid after first failures written answer flushed same clean done short bad reads good kept =
    answered_text WroteState WroteSomeState (OfTrace IsEndText) HasFault states_pass from to old new start before mid after first failures
    written answer flushed same clean done short bad (no_trace_fault from Write tt) reads good
    (flushed_whole (nat_lt 0 failures) flushed mid after kept)

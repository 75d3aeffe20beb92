-- What is answered of a script whose runs or races are told, in lines to an output without a buffer.
use Rattle.std.proofs.Common.{◌≡◌, ℕ, List, Option, Some, None, Bool, true, false, refl, subst, inl, inr, arith}
use Rattle.std.specs.Prelude.{◌==◌, OnOk, OnErr, IfErr, IfOk, IfSome, Result, Ok, Err}
use Rattle.std.specs.Io.KnownBytes.{Appends, Keeps}
use Rattle.std.proofs.KnownBytes.{Appends-kept, Keeps-trans}
use Rattle.hp_base.specs.Text.{sizes}
use Rattle.hp_command.specs.declared.request.Racing.{Racing}
use Rattle.hp_command.specs.declared.request.Racing.TheVariants.{Times, Trace}
use Rattle.hp_text.specs.declared.script.Script.{Script}
use Rattle.hp_race.specs.Text.{lines_text as race_lines}
use Rattle.hp_explore.specs.declared.exploration.Exploration.{Exploration}
use Rattle.hp_text.specs.declared.fault.ReplayFault.{ReplayFault}
use Rattle.hp_text.specs.declared.fault.ReplayFault.TheVariants.{BadLine, BadHeader, Read, Write, Memory}
use Rattle.hp_explore.specs.RunLines.{lines_text, WroteRuns, WroteSomeRuns}
use Rattle.hp_text.specs.ScriptLines.{HasLinesFault, ReadsScript}
use Rattle.hp_text.specs.Streams.{sink_at, TellsReads, TellsWrites}
use Rattle.hp_text.specs.Traces.{trace_text}
use Rattle.hp_text.specs.Writing.{IsWriteFault, Wrote}
use Rattle.hp_summary.specs.Summaries.{Summarizes}
use Rattle.hp_summary.specs.SummaryText.{summary_text}
use Rattle.hp_summary.specs.declared.gathering.Survey.{Survey}
use Rattle.hp_summary.specs.declared.summary.Summary.{Summary}
use Rattle.hp_program.specs.Answers.{NotDone}
use Rattle.hp_program.proofs.Answers.{answered_runs, front_kept, no_lines_fault, part_reached, reached}
use Rattle.hp_program.proofs.Buffered.{all_of}
use Rattle.hp_script_commands.specs.Racing.{HasRacedFault, Races, RacesPartly, ReadsRaced, WroteRacing, WroteSomeRacing}
use Rattle.hp_script_commands.specs.Runs.{Explores, ExploresPartly, AnsweredExplore, AnsweredRace, AnsweredSummary}
use Rattle.hp_script_commands.specs.Summing.{SumsUp, SumsUpPartly}

-- a fault of writing tells nothing of the bytes that were read
raced_fault : (r : Racing) (bytes : List ℕ) (fault : ReplayFault) → IsWriteFault fault → HasRacedFault r bytes fault
raced_fault (Times times (Some cut) chances) bytes BadHeader is = absurd is
raced_fault (Times times (Some cut) chances) bytes (BadLine n) is = absurd is
raced_fault (Times times (Some cut) chances) bytes Read is = absurd is
raced_fault (Times times (Some cut) chances) bytes Write is = tt
raced_fault (Times times (Some cut) chances) bytes Memory is = tt
raced_fault (Times times None chances) bytes BadHeader is = absurd is
raced_fault (Times times None chances) bytes (BadLine n) is = absurd is
raced_fault (Times times None chances) bytes Read is = absurd is
raced_fault (Times times None chances) bytes Write is = tt
raced_fault (Times times None chances) bytes Memory is = tt
raced_fault (Trace chances) bytes BadHeader is = absurd is
raced_fault (Trace chances) bytes (BadLine n) is = absurd is
raced_fault (Trace chances) bytes Read is = absurd is
raced_fault (Trace chances) bytes Write is = tt
raced_fault (Trace chances) bytes Memory is = tt

no_raced_fault : (r : Racing) (from : Option (List ℕ)) (fault : ReplayFault) → IsWriteFault fault
    → IfSome from (λ bytes. HasRacedFault r bytes fault)
no_raced_fault r None fault is = tt
no_raced_fault r (Some bytes) fault is = raced_fault r bytes fault is

explores_kept : (e : Exploration) (finished : Bool) (from to start before mid after : Option (List ℕ)) → start ≡ before → Keeps mid after
    → Explores e finished from to start mid → Explores e finished from to before after
explores_kept e finished from to start before mid after same kept h =
    subst (λ (x : Option (List ℕ)). Explores e finished from to x after) same
    (record {
      script = h.script;
      reads = h.reads;
      runs = record {
        lines = h.runs.lines;
        are = h.runs.are;
        wrote = Appends-kept start mid after (lines_text h.runs.lines) h.runs.wrote kept;
        ends = h.runs.ends;
      };
    })

wrote_kept : (r : Racing) (script : Script) (closed : Bool) (before mid after : Option (List ℕ)) → Keeps mid after
    → WroteRacing r script closed before mid → WroteRacing r script closed before after
wrote_kept (Times times cut chances) script closed before mid after kept h =
    record {
      races = h.races;
      count = h.count;
      each = h.each;
      wrote = Appends-kept before mid after (race_lines 0 h.races) h.wrote kept;
      ends = h.ends;
    }
wrote_kept (Trace chances) script true before mid after kept h = (
  h.0,
  h.1,
  Appends-kept before mid after (trace_text (sizes script.config) h.0) h.2 kept,
)
wrote_kept (Trace chances) script false before mid after kept h = (h.0, Keeps-trans before mid after h.1 kept)

races_kept : (r : Racing) (closed : Bool) (from to start before mid after : Option (List ℕ)) → start ≡ before → Keeps mid after
    → Races r closed from to start mid → Races r closed from to before after
races_kept r closed from to start before mid after same kept h =
    subst (λ (x : Option (List ℕ)). Races r closed from to x after) same
    (record { script = h.script; reads = h.reads; wrote = wrote_kept r h.script closed start mid after kept h.wrote })

explores_partly : (e : Exploration) (finished : Bool) (from to before after : Option (List ℕ)) → Explores e finished from to before after
    → ExploresPartly e from to before after
explores_partly e finished from to before after h =
    record {
      script = h.script;
      reads = h.reads;
      runs = record {
        runs = e.runs;
        few = omega arith;
        lines = h.runs.lines;
        are = h.runs.are;
        wrote = all_of before after (lines_text h.runs.lines) h.runs.wrote;
      };
    }

explores_partly_kept : (e : Exploration) (from to start before mid after : Option (List ℕ)) → start ≡ before → Keeps mid after
    → ExploresPartly e from to start mid → ExploresPartly e from to before after
explores_partly_kept e from to start before mid after same kept h =
    record {
      script = h.script;
      reads = h.reads;
      runs = record {
        runs = h.runs.runs;
        few = h.runs.few;
        lines = h.runs.lines;
        are = h.runs.are;
        wrote = front_kept start before mid after (lines_text h.runs.lines) same kept h.runs.wrote;
      };
    }

pub answered_explore : {E : Type 0} (e : Exploration) (from to : Option (List ℕ)) (old new unfailed failures : ℕ)
    (start before mid after : Option (List ℕ))
    (explored answer : Result Bool ReplayFault) (flushed : Result (Unit {0}) E) → start ≡ before
    → IfOk explored (λ finished. Explores e finished from to start mid)
    → IfErr explored (λ fault. NotDone (ExploresPartly e from to start mid) fault unfailed failures start mid)
    → IfErr explored (λ fault. IfSome from (λ bytes. HasLinesFault bytes fault))
    → TellsReads explored old new → Keeps mid after → OnOk flushed (answer ≡ explored)
    → OnErr flushed (answer ≡ Err Write) → AnsweredExplore e answer from to old new before (Some after)
answered_explore e from to old new unfailed failures start before mid after explored answer flushed same done short bad reads kept is not =
    answered_runs (λ ended out. Explores e ended from to before out) (ExploresPartly e from to before)
    (λ f. IfSome from (λ bytes. HasLinesFault bytes f)) old new unfailed failures before after explored flushed answer
    (reached (λ ended. Explores e ended from to start mid) (λ ended. Explores e ended from to before after) explored
    (λ ended h. explores_kept e ended from to start before mid after same kept h) done)
    (λ ended h. explores_partly e ended from to before after h)
    (part_reached (ExploresPartly e from to start mid) (ExploresPartly e from to before) explored unfailed failures start before mid after
    same kept (explores_partly_kept e from to start before mid after same kept) short)
    bad (no_lines_fault from Write tt) reads is not

sums_kept : (v : Survey) (finished : Bool) (from to start before mid after : Option (List ℕ)) → start ≡ before → Keeps mid after
    → SumsUp v finished from to start mid → SumsUp v finished from to before after
sums_kept v finished from to start before mid after same kept h =
    subst (λ (x : Option (List ℕ)). SumsUp v finished from to x after) same
    (record {
      script = h.script;
      summary = h.summary;
      reads = h.reads;
      is = h.is;
      wrote = Appends-kept start mid after (summary_text v.seed h.summary) h.wrote kept;
      ends = h.ends;
    })

sums_partly : (v : Survey) (finished : Bool) (from to before after : Option (List ℕ)) → SumsUp v finished from to before after
    → SumsUpPartly v from to before after
sums_partly v finished from to before after h =
    record {
      script = h.script;
      summary = h.summary;
      reads = h.reads;
      is = h.is;
      wrote = all_of before after (summary_text v.seed h.summary) h.wrote;
    }

sums_partly_kept : (v : Survey) (from to start before mid after : Option (List ℕ)) → start ≡ before → Keeps mid after
    → SumsUpPartly v from to start mid → SumsUpPartly v from to before after
sums_partly_kept v from to start before mid after same kept h =
    record {
      script = h.script;
      summary = h.summary;
      reads = h.reads;
      is = h.is;
      wrote = front_kept start before mid after (summary_text v.seed h.summary) same kept h.wrote;
    }

pub answered_summary : {E : Type 0} (v : Survey) (from to : Option (List ℕ)) (old new unfailed failures : ℕ)
    (start before mid after : Option (List ℕ))
    (summed answer : Result Bool ReplayFault) (flushed : Result (Unit {0}) E) → start ≡ before
    → IfOk summed (λ finished. SumsUp v finished from to start mid)
    → IfErr summed (λ fault. NotDone (SumsUpPartly v from to start mid) fault unfailed failures start mid)
    → IfErr summed (λ fault. IfSome from (λ bytes. HasLinesFault bytes fault))
    → TellsReads summed old new → Keeps mid after → OnOk flushed (answer ≡ summed)
    → OnErr flushed (answer ≡ Err Write) → AnsweredSummary v answer from to old new before (Some after)
answered_summary v from to old new unfailed failures start before mid after summed answer flushed same done short bad reads kept is not =
    answered_runs (λ ended out. SumsUp v ended from to before out) (SumsUpPartly v from to before)
    (λ f. IfSome from (λ bytes. HasLinesFault bytes f)) old new unfailed failures before after summed flushed answer
    (reached (λ ended. SumsUp v ended from to start mid) (λ ended. SumsUp v ended from to before after) summed
    (λ ended h. sums_kept v ended from to start before mid after same kept h) done)
    (λ ended h. sums_partly v ended from to before after h)
    (part_reached (SumsUpPartly v from to start mid) (SumsUpPartly v from to before) summed unfailed failures start before mid after
    same kept (sums_partly_kept v from to start before mid after same kept) short)
    bad (no_lines_fault from Write tt) reads is not

wrote_some : (r : Racing) (script : Script) (closed : Bool) (before after : Option (List ℕ)) → WroteRacing r script closed before after
    → WroteSomeRacing r script before after
wrote_some (Times times cut chances) script closed before after h =
    record {
      races = h.races;
      few = omega (arith, h.count);
      each = h.each;
      wrote = all_of before after (race_lines 0 h.races) h.wrote;
    }
wrote_some (Trace chances) script true before after h =
    inr (h.0, h.1, all_of before after (trace_text (sizes script.config) h.0) h.2)
wrote_some (Trace chances) script false before after h = inl h.1

some_kept : (r : Racing) (script : Script) (start before mid after : Option (List ℕ)) → start ≡ before → Keeps mid after
    → WroteSomeRacing r script start mid → WroteSomeRacing r script before after
some_kept (Times times cut chances) script start before mid after same kept h =
    record {
      races = h.races;
      few = h.few;
      each = h.each;
      wrote = front_kept start before mid after (race_lines 0 h.races) same kept h.wrote;
    }
some_kept (Trace chances) script start before mid after same kept (inl none) =
    inl (subst (λ (b : Option (List ℕ)). Keeps b after) same (Keeps-trans start mid after none kept))
some_kept (Trace chances) script start before mid after same kept (inr (events, is, wrote)) =
    inr (events, is, front_kept start before mid after (trace_text (sizes script.config) events) same kept wrote)

pub answered_race : {E : Type 0} (r : Racing) (from to : Option (List ℕ)) (old new unfailed failures : ℕ)
    (start before mid after : Option (List ℕ))
    (raced answer : Result Bool ReplayFault) (flushed : Result (Unit {0}) E) → start ≡ before
    → IfOk raced (λ closed. Races r closed from to start mid)
    → IfErr raced (λ fault. NotDone (RacesPartly r from to start mid) fault unfailed failures start mid)
    → IfErr raced (λ fault. IfSome from (λ bytes. HasRacedFault r bytes fault))
    → TellsReads raced old new → Keeps mid after → OnOk flushed (answer ≡ raced)
    → OnErr flushed (answer ≡ Err Write) → AnsweredRace r answer from to old new before (Some after)
answered_race r from to old new unfailed failures start before mid after raced answer flushed same done short bad reads kept is not =
    answered_runs (λ ended out. Races r ended from to before out) (RacesPartly r from to before)
    (λ f. IfSome from (λ bytes. HasRacedFault r bytes f)) old new unfailed failures before after raced flushed answer
    (reached (λ ended. Races r ended from to start mid) (λ ended. Races r ended from to before after) raced
    (λ ended h. races_kept r ended from to start before mid after same kept h) done)
    (λ ended h. record { script = h.script; reads = h.reads; wrote = wrote_some r h.script ended before after h.wrote })
    (part_reached (RacesPartly r from to start mid) (RacesPartly r from to before) raced unfailed failures start before mid after
    same kept (λ h. record {
      script = h.script;
      reads = h.reads;
      wrote = some_kept r h.script start before mid after same kept h.wrote;
    }) short)
    bad (no_raced_fault r from Write tt) reads is not

-- a script was read, and its lines written
module _ (e : Exploration) (from to before after : Option (List ℕ)) (script : Script)
    (reads : ReadsScript from to (sizes script.config) script.calls.items script.waits.items) where
  pub explores : (explored : Result Bool ReplayFault) → IfOk explored (λ finished. WroteRuns script e finished before after)
      → IfOk explored (λ finished. Explores e finished from to before after)
  explores (Ok finished) runs = record { script = script; reads = reads; runs = runs }
  explores (Err fault) runs = tt

  pub explores_short : (explored : Result Bool ReplayFault) (old new : ℕ)
      → IfErr explored (λ fault. IsWriteFault fault × WroteSomeRuns script e before after) → TellsWrites explored old new
      → IfErr explored (λ fault. NotDone (ExploresPartly e from to before after) fault old new before after)
  explores_short (Ok finished) old new short told = tt
  explores_short (Err fault) old new (is, runs) told = inr (is, record { script = script; reads = reads; runs = runs }, told)

-- and the summary of its runs
module _ (v : Survey) (from to before after : Option (List ℕ)) (script : Script)
    (reads : ReadsScript from to (sizes script.config) script.calls.items script.waits.items) (summary : Summary)
    (is : Summarizes script v summary) where
  pub sums_up : Appends before after (summary_text v.seed summary)
      → SumsUp v (summary.finished == summary.runs) from to before after
  sums_up wrote = record { script = script; summary = summary; reads = reads; is = is; wrote = wrote; ends = refl }

  pub sums_short : (fault : ReplayFault) (old new : ℕ) → IsWriteFault fault → Wrote before after (summary_text v.seed summary)
      → new ≡ sink_at fault old → NotDone (SumsUpPartly v from to before after) fault old new before after
  sums_short fault old new of wrote told =
      inr (of, record { script = script; summary = summary; reads = reads; is = is; wrote = wrote }, told)

-- and what its races write
module _ (r : Racing) (from to before after : Option (List ℕ)) (script : Script)
    (reads : ReadsRaced r from to script) where
  pub races : (raced : Result Bool ReplayFault) → IfOk raced (λ closed. WroteRacing r script closed before after)
      → IfOk raced (λ closed. Races r closed from to before after)
  races (Ok closed) wrote = record { script = script; reads = reads; wrote = wrote }
  races (Err fault) wrote = tt

  pub races_short : (raced : Result Bool ReplayFault) (old new : ℕ)
      → IfErr raced (λ fault. IsWriteFault fault × WroteSomeRacing r script before after) → TellsWrites raced old new
      → IfErr raced (λ fault. NotDone (RacesPartly r from to before after) fault old new before after)
  races_short (Ok closed) old new short told = tt
  races_short (Err fault) old new (is, wrote) told = inr (is, record { script = script; reads = reads; wrote = wrote }, told)

-- A schedule that was found among all, through a buffer.
use Rattle.std.proofs.Common.{◌≡◌, ℕ, ◌≤◌, List, Option, Bool, true, length, refl, subst, sym, inr}
use Rattle.std.specs.Prelude.{◌⊎◌, IfErr, IfOk, MatchBool, OnOk, Result, Ok, Err}
use Rattle.std.specs.Io.KnownBytes.{Appends, Keeps, append_known}
use Rattle.std.proofs.KnownBytes.{Appends-kept}
use Rattle.hp_base.specs.Text.{Sizes, sizes}
use Rattle.hp_base.specs.declared.event.Event.{Event}
use Rattle.hp_command.specs.declared.request.EverySearch.{EverySearch}
use Rattle.hp_program.proofs.Answers.{HasFront, Passes}
use Rattle.hp_program.proofs.Buffered.{all_of, holds}
use Rattle.hp_every.specs.Schedules.{IsShortest, NoScheduleMeets, ScheduleMeets}
use Rattle.hp_every.specs.Search.{Question}
use Rattle.hp_layers.specs.declared.limits.Limits.{Limits}
use Rattle.hp_program.specs.Answers.{NotDone, OfScript}
use Rattle.hp_search.specs.Searching.{AreLong, IsAnswer, IsTooHeavy, IsTooMany, IsWithin}
use Rattle.hp_search.specs.declared.reachability.Reachability.{Reachability}
use Rattle.hp_search.specs.declared.reachability.Reachability.TheVariants.{Never, Met, Cut}
use Rattle.hp_script_commands.specs.Searching.{FindsEvery, FindsEveryPartly, IsShortestOf, IsShortestText, MissesEvery}
use Rattle.hp_text.specs.ScriptLines.{ReadsScript}
use Rattle.hp_text.specs.Streams.{TellsWrites}
use Rattle.hp_text.specs.Traces.{trace_text}
use Rattle.hp_text.specs.Writing.{IsWriteFault, Wrote}
use Rattle.hp_text.specs.declared.fault.ReplayFault.{ReplayFault}
use Rattle.hp_text.specs.declared.script.Script.{Script}
use Rattle.hp_text.specs.declared.trace.Trace.{Trace}
use Rattle.hp_watch.specs.Moments.{Moment}

module _ (s : EverySearch) (from to before mid after : Option (List ℕ)) (left : List ℕ) (kept : Keeps mid (append_known after left)) where
  finds_front : (script : Script) (events : List Event) → ReadsScript from to (sizes script.config) script.calls.items script.waits.items
      → IsShortestOf s script events → Wrote before mid (trace_text (sizes script.config) events)
      → HasFront (OfScript (IsShortestText s)) from to before after
  finds_front script events reads is wrote =
      inr (record {
        text = trace_text (sizes script.config) events;
        is_front = record { script = script; reads = reads; is = record { events = events; is = is; spelt = refl } };
        holds = holds before mid after left (trace_text (sizes script.config) events) wrote kept;
      })

pub finds_every_pass : (s : EverySearch) → Passes (FindsEvery s) (FindsEveryPartly s) (OfScript (IsShortestText s))
finds_every_pass s =
    record {
      kept = λ from to before mid after kept h. record {
        script = h.script;
        events = h.events;
        reads = h.reads;
        is = h.is;
        wrote = Appends-kept before mid after (trace_text (sizes h.script.config) h.events) h.wrote kept;
      };
      whole = λ from to before mid after left kept h. finds_front s from to before mid after left kept h.script h.events h.reads h.is
          (all_of before mid (trace_text (sizes h.script.config) h.events) h.wrote);
      part = λ from to before mid after left kept h. finds_front s from to before mid after left kept h.script h.events h.reads h.is h.wrote;
    }

-- what is said of all schedules, as it was found
pub answer_met : (a : Question) (every : Reachability) (trace : Trace) → every ≡ Met trace → IsAnswer a every
    → IsShortest a.script a.denials a.kills a.conditions trace.events.items × (sizes trace.config ≡ sizes a.script.config)
unfolding IsAnswer
answer_met a every trace is h = subst (IsAnswer a) is h

pub answer_never : (a : Question) (every : Reachability) → every ≡ Never → IsAnswer a every → NoScheduleMeets a.script a.denials a.kills a.conditions
unfolding IsAnswer
answer_never a every is h = subst (IsAnswer a) is h

pub answer_cut : (a : Question) (every : Reachability) (turns : ℕ) → every ≡ Cut turns → IsAnswer a every
    → (moments : List Moment) → ScheduleMeets a.script a.denials a.kills a.conditions moments → turns ≤ length moments
unfolding IsAnswer
answer_cut a every turns is h = subst (IsAnswer a) is h

-- a search that is cut is cut at its limits
pub within_cut : (a : Question) (limits : Limits) (every : Reachability) (turns : ℕ) → every ≡ Cut turns → IsWithin a limits every
    → ((turns ≡ limits.turns) × AreLong a turns) ⊎ IsTooMany a limits.states turns ⊎ IsTooHeavy a limits.bytes turns
within_cut a limits every turns is h = subst (IsWithin a limits) is h

-- a script was read, and this schedule of it found
module _ (s : EverySearch) (cut : Option ℕ) (from to before after : Option (List ℕ)) (script : Script) (trace : Trace)
    (reads : ReadsScript from to (sizes script.config) script.calls.items script.waits.items)
    (is : IsShortestOf s script trace.events.items) (same : sizes trace.config ≡ sizes script.config) where
  pub finds_every : (written : Result Bool ReplayFault)
      → OnOk written (Appends before after (trace_text (sizes trace.config) trace.events.items))
      → IfOk written (λ met. met ≡ true)
      → IfOk written (λ met. MatchBool met (FindsEvery s from to before after) (MissesEvery s cut from to × Keeps before after))
  finds_every (Err e) wrote met = tt
  finds_every (Ok b) wrote met =
      let it : FindsEvery s from to before after = record {
        script = script;
        events = trace.events.items;
        reads = reads;
        is = is;
        wrote = subst (λ (z : Sizes). Appends before after (trace_text z trace.events.items)) same wrote;
      } in
      subst (λ (x : Bool). MatchBool x (FindsEvery s from to before after) (MissesEvery s cut from to × Keeps before after)) (sym met) it

  pub finds_every_short : (written : Result Bool ReplayFault) (old new : ℕ)
      → IfErr written (λ fault. IsWriteFault fault × Wrote before after (trace_text (sizes trace.config) trace.events.items))
      → TellsWrites written old new
      → IfErr written (λ fault. NotDone (FindsEveryPartly s from to before after) fault old new before after)
  finds_every_short (Ok b) old new short told = tt
  finds_every_short (Err fault) old new (write, wrote) told =
      let it : FindsEveryPartly s from to before after = record {
        script = script;
        events = trace.events.items;
        reads = reads;
        is = is;
        wrote = subst (λ (z : Sizes). Wrote before after (trace_text z trace.events.items)) same wrote;
      } in
      inr (write, it, told)

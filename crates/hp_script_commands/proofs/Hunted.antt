-- What was found, and what is left of a trace, through a buffer.
use Rattle.std.proofs.Common.{◌≡◌, ℕ, List, Option, true, refl, sym, subst, inr}
use Rattle.std.specs.Prelude.{OnOk, IfErr, IfOk, MatchBool, Result, Ok, Err, Bool}
use Rattle.std.specs.Io.KnownBytes.{Appends, Keeps, append_known}
use Rattle.std.proofs.KnownBytes.{Appends-kept}
use Rattle.hp_base.specs.Text.{Sizes, sizes}
use Rattle.hp_base.specs.declared.config.Config.{Config}
use Rattle.hp_base.specs.declared.event.Event.{Event}
use Rattle.hp_hunt.specs.Cutting.{IsSmall}
use Rattle.hp_hunt.specs.Hunting.{IsFound}
use Rattle.hp_hunt.specs.declared.condition.Condition.{Condition}
use Rattle.hp_hunt.specs.declared.finding.Found.{Found}
use Rattle.hp_program.proofs.Buffered.{all_of, holds}
use Rattle.hp_text.specs.Collecting.{ReadsTrace}
use Rattle.hp_text.specs.ScriptLines.{ReadsScript}
use Rattle.hp_text.specs.Streams.{TellsWrites}
use Rattle.hp_text.specs.Traces.{trace_text}
use Rattle.hp_text.specs.Writing.{IsWriteFault, Wrote}
use Rattle.hp_text.specs.declared.fault.ReplayFault.{ReplayFault}
use Rattle.hp_text.specs.declared.script.Script.{Script}
use Rattle.hp_script_commands.specs.Hunting.{Finds, FindsPartly, FindsNone, IsFinding, Minimizes, MinimizesPartly, MinimizesNone, IsMinimized}
use Rattle.hp_command.specs.declared.request.Search.{Search}
use Rattle.hp_program.specs.Answers.{NotDone, OfScript, OfTrace}
use Rattle.hp_program.proofs.Answers.{HasFront, Passes}

-- ---- a run that is found

module _ (s : Search) (from to before mid after : Option (List ℕ)) (left : List ℕ) (kept : Keeps mid (append_known after left)) where
  finds_front : (script : Script) (found : Found) → ReadsScript from to (sizes script.config) script.calls.items script.waits.items
      → IsFound script s.hunt s.conditions.items found → Wrote before mid (trace_text (sizes script.config) found.trace.events.items)
      → HasFront (OfScript (IsFinding s)) from to before after
  finds_front script found reads is wrote =
      inr (record {
        text = trace_text (sizes script.config) found.trace.events.items;
        is_front = record { script = script; reads = reads; is = record { found = found; is = is; spelt = refl } };
        holds = holds before mid after left (trace_text (sizes script.config) found.trace.events.items) wrote kept;
      })

pub finds_pass : (s : Search) → Passes (Finds s) (FindsPartly s) (OfScript (IsFinding s))
finds_pass s =
    record {
      kept = λ from to before mid after kept h. record {
        script = h.script;
        found = h.found;
        reads = h.reads;
        is = h.is;
        wrote = Appends-kept before mid after (trace_text (sizes h.script.config) h.found.trace.events.items) h.wrote kept;
      };
      whole = λ from to before mid after left kept h. finds_front s from to before mid after left kept h.script h.found h.reads h.is
          (all_of before mid (trace_text (sizes h.script.config) h.found.trace.events.items) h.wrote);
      part = λ from to before mid after left kept h. finds_front s from to before mid after left kept h.script h.found h.reads h.is h.wrote;
    }

-- a script was read, and this run of it found
module _ (s : Search) (from to before after : Option (List ℕ)) (script : Script) (found : Found)
    (reads : ReadsScript from to (sizes script.config) script.calls.items script.waits.items)
    (is : IsFound script s.hunt s.conditions.items found) where
  pub finds : (written : Result Bool ReplayFault)
      → OnOk written (Appends before after (trace_text (sizes found.trace.config) found.trace.events.items))
      → IfOk written (λ met. met ≡ true)
      → IfOk written (λ met. MatchBool met (Finds s from to before after) (FindsNone s from to × Keeps before after))
  finds (Err e) wrote met = tt
  finds (Ok b) wrote met =
      let it : Finds s from to before after = record {
        script = script;
        found = found;
        reads = reads;
        is = is;
        wrote = subst (λ (z : Sizes). Appends before after (trace_text z found.trace.events.items)) is.config wrote;
      } in
      subst (λ (x : Bool). MatchBool x (Finds s from to before after) (FindsNone s from to × Keeps before after)) (sym met) it

  pub finds_short : (written : Result Bool ReplayFault) (old new : ℕ)
      → IfErr written (λ fault. IsWriteFault fault
      × Wrote before after (trace_text (sizes found.trace.config) found.trace.events.items)) → TellsWrites written old new
      → IfErr written (λ fault. NotDone (FindsPartly s from to before after) fault old new before after)
  finds_short (Ok b) old new short told = tt
  finds_short (Err fault) old new (write, wrote) told =
      let it : FindsPartly s from to before after = record {
        script = script;
        found = found;
        reads = reads;
        is = is;
        wrote = subst (λ (z : Sizes). Wrote before after (trace_text z found.trace.events.items)) is.config wrote;
      } in
      inr (write, it, told)

-- ---- what is left of a trace

module _ (conditions : List Condition) (from to before mid after : Option (List ℕ)) (left : List ℕ)
    (kept : Keeps mid (append_known after left)) where
  minimizes_front : (config : Config) (events small : List Event) → ReadsTrace from to (sizes config) events
      → IsSmall config events conditions small → Wrote before mid (trace_text (sizes config) small)
      → HasFront (OfTrace (IsMinimized conditions)) from to before after
  minimizes_front config events small reads is wrote =
      inr (record {
        text = trace_text (sizes config) small;
        is_front = record {
          sizes = sizes config;
          events = events;
          reads = reads;
          is = record { config = config; left = small; sized = refl; small = is; spelt = refl };
        };
        holds = holds before mid after left (trace_text (sizes config) small) wrote kept;
      })

pub minimizes_pass : (conditions : List Condition)
    → Passes (Minimizes conditions) (MinimizesPartly conditions) (OfTrace (IsMinimized conditions))
minimizes_pass conditions =
    record {
      kept = λ from to before mid after kept h. record {
        config = h.config;
        events = h.events;
        left = h.left;
        reads = h.reads;
        small = h.small;
        wrote = Appends-kept before mid after (trace_text (sizes h.config) h.left) h.wrote kept;
      };
      whole = λ from to before mid after left kept h. minimizes_front conditions from to before mid after left kept h.config h.events h.left
          h.reads h.small (all_of before mid (trace_text (sizes h.config) h.left) h.wrote);
      part = λ from to before mid after left kept h. minimizes_front conditions from to before mid after left kept h.config h.events h.left
          h.reads h.small h.wrote;
    }

-- a trace was read, and this is left of it
module _ (conditions : List Condition) (from to before after : Option (List ℕ)) (config : Config) (events small : List Event) (z : Sizes)
    (reads : ReadsTrace from to (sizes config) events) (is : IsSmall config events conditions small) (same : z ≡ sizes config) where
  pub minimizes : (written : Result Bool ReplayFault) → OnOk written (Appends before after (trace_text z small))
      → IfOk written (λ met. met ≡ true)
      → IfOk written (λ met. MatchBool met (Minimizes conditions from to before after)
      (MinimizesNone conditions from to × Keeps before after))
  minimizes (Err e) wrote met = tt
  minimizes (Ok b) wrote met =
      let it : Minimizes conditions from to before after = record {
        config = config;
        events = events;
        left = small;
        reads = reads;
        small = is;
        wrote = subst (λ (x : Sizes). Appends before after (trace_text x small)) same wrote;
      } in
      subst (λ (x : Bool). MatchBool x (Minimizes conditions from to before after)
      (MinimizesNone conditions from to × Keeps before after)) (sym met) it

  pub minimizes_short : (written : Result Bool ReplayFault) (old new : ℕ)
      → IfErr written (λ fault. IsWriteFault fault × Wrote before after (trace_text z small)) → TellsWrites written old new
      → IfErr written (λ fault. NotDone (MinimizesPartly conditions from to before after) fault old new before after)
  minimizes_short (Ok b) old new short told = tt
  minimizes_short (Err fault) old new (write, wrote) told =
      let it : MinimizesPartly conditions from to before after = record {
        config = config;
        events = events;
        left = small;
        reads = reads;
        small = is;
        wrote = subst (λ (x : Sizes). Wrote before after (trace_text x small)) same wrote;
      } in
      inr (write, it, told)

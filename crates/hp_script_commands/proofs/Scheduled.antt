-- The trace of a run of a script, through a buffer.
use Rattle.std.proofs.Common.{◌≡◌, ℕ, zero, suc, ◌+◌, ◌%◌, ◌^◌, ◌<◌, List, Option, sym, ap, subst, ◌∙◌, arith, inl, inr, refl}
use Rattle.std.specs.Prelude.{OnOk, IfErr, Result, Ok, Err}
use Rattle.std.specs.Io.KnownBytes.{Appends, Keeps, append_known}
use Rattle.std.proofs.KnownBytes.{Appends-kept}
use Rattle.hp_base.specs.Text.{Sizes, sizes}
use Rattle.hp_base.specs.declared.event.Event.{Event}
use Rattle.hp_command.specs.declared.request.Scheduling.{Scheduling}
use Rattle.hp_explore.specs.Explored.{IsExplored, IsRun, turn_limit}
use Rattle.hp_explore.specs.Schedule.{IsStart, Plan, World, plan_of}
use Rattle.hp_explore.proofs.Runs.{seed_alone}
use Rattle.hp_explore.specs.declared.line.RunLine.{RunLine}
use Rattle.hp_text.specs.declared.script.Script.{Script}
use Rattle.hp_text.specs.ScriptLines.{ReadsScript}
use Rattle.hp_text.specs.Streams.{TellsWrites}
use Rattle.hp_text.specs.Traces.{trace_text}
use Rattle.hp_text.specs.Writing.{IsWriteFault, Wrote}
use Rattle.hp_text.specs.declared.fault.ReplayFault.{ReplayFault}
use Rattle.hp_program.specs.Answers.{NotDone, OfScript}
use Rattle.hp_program.proofs.Answers.{HasFront, Passes}
use Rattle.hp_program.proofs.Buffered.{all_of, holds}
use Rattle.hp_script_commands.specs.Runs.{IsScheduled, Schedules, SchedulesPartly}

-- a front of the trace of a run
module _ (s : Scheduling) (from to before mid after : Option (List ℕ)) (left : List ℕ) (kept : Keeps mid (append_known after left)) where
  schedules_front : (script : Script) (events : List Event) (line : RunLine)
      → ReadsScript from to (sizes script.config) script.calls.items script.waits.items
      → IsExplored script s.seed s.chances.deny s.chances.kill s.run events line
      → Wrote before mid (trace_text (sizes script.config) events) → HasFront (OfScript (IsScheduled s)) from to before after
  schedules_front script events line reads explored wrote =
      inr (record {
        text = trace_text (sizes script.config) events;
        is_front = record {
          script = script;
          reads = reads;
          is = record { events = events; line = line; explored = explored; spelt = refl };
        };
        holds = holds before mid after left (trace_text (sizes script.config) events) wrote kept;
      })

pub schedules_pass : (s : Scheduling) → Passes (Schedules s) (SchedulesPartly s) (OfScript (IsScheduled s))
schedules_pass s =
    record {
      kept = λ from to before mid after kept h.
          record {
            script = h.script;
            events = h.events;
            line = h.line;
            reads = h.reads;
            explored = h.explored;
            wrote = Appends-kept before mid after (trace_text (sizes h.script.config) h.events) h.wrote kept;
          };
      whole = λ from to before mid after left kept h.
          schedules_front s from to before mid after left kept h.script h.events h.line h.reads h.explored
          (all_of before mid (trace_text (sizes h.script.config) h.events) h.wrote);
      part = λ from to before mid after left kept h.
          schedules_front s from to before mid after left kept h.script h.events h.line h.reads h.explored h.wrote;
    }

-- a script was read, and one of its runs written as a trace of these sizes
module _ (s : Scheduling) (from to before after : Option (List ℕ)) (script : Script) (events : List Event) (line : RunLine) (z : Sizes)
    (reads : ReadsScript from to (sizes script.config) script.calls.items script.waits.items)
    (explored : IsExplored script s.seed s.chances.deny s.chances.kill s.run events line) (same : z ≡ sizes script.config) where
  pub schedules : (written : Result (Unit {0}) ReplayFault) → OnOk written (Appends before after (trace_text z events))
      → OnOk written (Schedules s from to before after)
  schedules (Err e) wrote = tt
  schedules (Ok x) wrote =
      record {
        script = script;
        events = events;
        line = line;
        reads = reads;
        explored = explored;
        wrote = subst (λ (y : Sizes). Appends before after (trace_text y events)) same wrote;
      }

  pub schedules_short : (written : Result (Unit {0}) ReplayFault) (old new : ℕ)
      → IfErr written (λ fault. IsWriteFault fault × Wrote before after (trace_text z events)) → TellsWrites written old new
      → IfErr written (λ fault. NotDone (SchedulesPartly s from to before after) fault old new before after)
  schedules_short (Ok x) old new short told = tt
  schedules_short (Err fault) old new (is, wrote) told =
      inr (
        is,
        record {
          script = script;
          events = events;
          line = line;
          reads = reads;
          explored = explored;
          wrote = subst (λ (y : Sizes). Wrote before after (trace_text y events)) same wrote;
        },
        told,
      )

-- ---- a run by its number

-- the same run under another number
renumbered : (plan : Plan) (a b left : ℕ) (w : World) (events : List Event) (line : RunLine) → IsRun plan a left w events line
    → IsRun plan b left w events (record line { run = b })
unfolding IsRun
renumbered plan a b zero w events line (tasks, can, none, is) =
    (tasks, can, none, ap (λ (l : RunLine). record l { run = b }) is)
renumbered plan a b (suc left) w events line (inl (idle, none, is)) = inl (idle, none, ap (λ (l : RunLine). record l { run = b }) is)
renumbered plan a b (suc left) w events line (inr (event, rest, v, made, turn, inl (clean, on))) =
    inr (event, rest, v, made, turn, inl (clean, renumbered plan a b left v rest line on))
renumbered plan a b (suc left) w events line (inr (event, rest, v, made, turn, inr (found, finds, none, is))) =
    inr (event, rest, v, made, turn, inr (found, finds, none, ap (λ (l : RunLine). record l { run = b }) is))

-- run 0 of the seed behind it is the run of that number
pub numbered : (script : Script) (seed deny kill run first : ℕ) (events : List Event) → first ≡ (seed + run) % 2 ^ 64
    → (line : RunLine) × IsExplored script first deny kill 0 events line
    → (line : RunLine) × IsExplored script seed deny kill run events line
unfolding IsExplored
numbered script seed deny kill run first events is (line, explored) = (
  record line { run = run },
  (
    explored.0,
    subst (λ (n : ℕ). IsStart script n explored.0) (sym (seed_alone first fits) ∙ is) explored.1,
    renumbered (plan_of script deny kill) 0 run turn_limit explored.0 events line explored.2,
  ),
)
  where
    fits : first < 2 ^ 64
    fits = omega (arith, is)

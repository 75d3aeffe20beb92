-- What the program does at each request for something to be done with a trace, the status with which it ends, and how what it writes is shown.
use Rattle.std.specs.Prelude.{ℕ, List, Option, Some, None}
use Rattle.hp_command.specs.declared.request.TraceRequest.{TraceRequest}
use Rattle.hp_command.specs.declared.request.TraceRequest.TheVariants as trace
use Rattle.hp_objects.specs.declared.places.Output.TheVariants as output
use Rattle.hp_paint.specs.declared.palette.Palette.TheVariants.{Outcomes}
use Rattle.hp_picture_commands.specs.States.{AnsweredState}
use Rattle.hp_program.specs.Answers.{status_of_text}
use Rattle.hp_program.specs.Endings.{DidReplay}
use Rattle.hp_trace_commands.specs.Formatting.{AnsweredFormat, status_of_format}
use Rattle.hp_trace_commands.specs.Traces.{AnsweredCheck, AnsweredDraw, AnsweredExplain, AnsweredJson, AnsweredHtmlPage}
use Rattle.hugepool.specs.Shown.{shown_as}
use Rattle.hugepool.specs.Status.{EndsWith}
use Rattle.hugepool.specs.declared.shown.Shown.{Shown}

-- A reader had the bytes `from` left, and now has `to`; whether it had failed, and whether it has now; an output held `before`, and now
-- holds `after`.

-- how it ends at each request
unfoldable pub EndsTrace : TraceRequest → (status : ℕ) → (from to : Option (List ℕ)) → (old new : ℕ)
    → (before : Option (List ℕ)) → (after : Option (Option (List ℕ))) → Type 0
EndsTrace trace.Replay status from to old new before after =
    EndsWith status_of_text status (λ answer. DidReplay answer from to old new before after)
EndsTrace trace.State status from to old new before after =
    EndsWith status_of_text status (λ answer. AnsweredState answer from to old new before after)
EndsTrace trace.Check status from to old new before after =
    EndsWith status_of_text status (λ answer. AnsweredCheck answer from to old new before after)
EndsTrace (trace.Explain v) status from to old new before after =
    EndsWith status_of_text status (λ answer. AnsweredExplain v answer from to old new before after)
EndsTrace (trace.ExplainJson v) status from to old new before after =
    EndsWith status_of_text status (λ answer. AnsweredJson v answer from to old new before after)
EndsTrace trace.Draw status from to old new before after =
    EndsWith status_of_text status (λ answer. AnsweredDraw answer from to old new before after)
EndsTrace trace.Page status from to old new before after =
    EndsWith status_of_text status (λ answer. AnsweredHtmlPage answer from to old new before after)
EndsTrace trace.Format status from to old new before after =
    EndsWith status_of_format status (λ answer. AnsweredFormat answer from to old new before after)

-- pictures, pages, traces, counts and lines of JSON have no words to be coloured; `explain` and `replay` have objects of their own, and
-- pictures, pages and states have no lines for programs
abbrev pub shown_of_trace : TraceRequest → Shown
shown_of_trace trace.Replay = shown_as (Some Outcomes) None
shown_of_trace trace.State = shown_as None None
shown_of_trace trace.Check = shown_as None (Some output.Check)
shown_of_trace (trace.Explain view) = shown_as (Some Outcomes) None
shown_of_trace (trace.ExplainJson view) = shown_as None None
shown_of_trace trace.Draw = shown_as None None
shown_of_trace trace.Page = shown_as None None
shown_of_trace trace.Format = shown_as None None

-- A workload that was run over a pool whose events are kept.
use Rattle.std.proofs.Common.{◌≡◌, ℕ, List, [], ◌∷◌, ◌∙◌, ap, refl, subst, sym}
use Rattle.std.specs.Prelude.{Result, Ok, Err}
use Rattle.hp_base.specs.Text.{Sizes, sizes}
use Rattle.hp_base.specs.declared.answer.Answer.{Answer}
use Rattle.hp_base.specs.declared.config.Config.{Config}
use Rattle.hp_base.specs.declared.event.Op.{Op}
use Rattle.hp_core.specs.Runs.{IsOpening}
use Rattle.hp_format.specs.Drafts.{DraftState, IsLed}
use Rattle.hp_shared.specs.States.{tally_of}
use Rattle.hp_text.specs.declared.trace.Trace.{Trace}
use Rattle.hp_client.specs.Bytes.{IsAnswered, fallocate_plan}
use Rattle.hp_client.specs.Carrying.{core_rounds}
use Rattle.hp_client.specs.Driving.{IsHeard, Rounds}
use Rattle.hp_client.specs.Heard.{DriverState}
use Rattle.hp_client.specs.Rounds.{Round}
use Rattle.hp_client.specs.Tables.{IsReport, LineRuns, LinesRun, Tried, sizes_of, table_of}
use Rattle.hp_client.specs.declared.bytes.Plan.{Plan}
use Rattle.hp_client.specs.declared.bytes.Plan.TheVariants.{Calls, Replies}
use Rattle.hp_client.specs.declared.fault.ClientFault.{ClientFault}
use Rattle.hp_client.specs.declared.table.Line.{Line}
use Rattle.hp_client.specs.declared.table.Line.TheVariants.{Call, Fallocate, Race}
use Rattle.hp_client.specs.declared.table.Workload.{Workload}
use Rattle.hp_client.specs.declared.work.Report.{Report}
use Rattle.hp_client.proofs.Retelling.{report_as}
use Rattle.hp_pool_commands.specs.Working.{IsTraced}

-- rounds that leave what is seen as it was
abbrev stays : {E : Type 0} → Rounds E
stays old calls answers new = new ≡ old

answered_stays : {E : Type 0} (plan : Result Plan ClientFault) (task : ℕ) (old new : E) (answer : Answer)
    → IsAnswered (stays {E = E}) plan task old answer new → new ≡ old
answered_stays (Err why) task old new answer h = elim h [ ]
answered_stays (Ok (Replies reply)) task old new answer h = h.1
answered_stays (Ok (Calls op)) task old new answer h = h

line_stays : {E : Type 0} (line : Line) (old new : E) (tried : Tried) → LineRuns (stays {E = E}) line old tried new → new ≡ old
line_stays (Call row) old new tried (given, is, h) = h
line_stays (Race first second) old new tried (one, two, is, h) = h
line_stays (Fallocate task file bits offset len allowed) old new tried (given, is, h) =
    answered_stays (fallocate_plan bits file offset len) task old new given h

lines_stay : {E : Type 0} (lines : List Line) (old new : E) (tried : Tried) → LinesRun (stays {E = E}) lines old tried new → new ≡ old
lines_stay [] old new tried (none, same) = same
lines_stay (line ∷ lines) old new tried (mid, first, others, one, more, is) =
    lines_stay lines mid new others more ∙ line_stays line old mid first one

-- a driver that keeps a draft of all that happens
module _ {D : Type 0} (draft_of : D → DraftState) (heard : D → List (ℕ × Op × Answer)) where
  abbrev pub kept_rounds : Rounds D
  kept_rounds =
      IsHeard heard (λ old calls answers new.
      ((draft_of new).sizes ≡ (draft_of old).sizes) × Round (draft_of old).core calls answers (draft_of new).core)

  abbrev pub seen : D → DriverState
  seen d = record { core = (draft_of d).core; heard = heard d }

  -- the trace is that of a workload which was run so
  pub traced_by : (workload : Workload) (given : Config) (old new : D) (report : Report) (trace : Trace)
      → sizes given ≡ sizes_of workload → (draft_of old).sizes ≡ sizes given → IsOpening given (draft_of old).core → heard old ≡ []
      → IsReport kept_rounds (table_of workload).lines (table_of workload).tally old new report
      → report.tally ≡ tally_of (draft_of new).core
      → ((config : Config) × (sizes config ≡ (draft_of new).sizes) × IsLed config (draft_of new).core (draft_of new).events)
      → sizes trace.config ≡ (draft_of new).sizes → trace.events.items ≡ (draft_of new).events → IsTraced workload report trace
  traced_by workload given old new report trace own begun opening unheard is tally led sizes_are events_are =
      let same =
      report_as (λ (d : D). (draft_of d).sizes) kept_rounds stays (λ old calls answers new made. made.0.0) (table_of workload).lines
      (table_of workload).tally old new report is in
      let stay : (draft_of new).sizes ≡ (draft_of old).sizes =
      lines_stay (table_of workload).lines (draft_of old).sizes (draft_of new).sizes same.tried same.runs in
      record {
        old = seen old;
        new = seen new;
        is_new = ((given, own, opening), unheard);
        is =
            report_as seen kept_rounds core_rounds (λ old calls answers new made. (made.0.1, made.1)) (table_of workload).lines
            (table_of workload).tally old new report is;
        tally = tally;
        sizes_are = sizes_are ∙ stay ∙ begun ∙ own;
        config = led.0;
        same = led.1 ∙ sym sizes_are;
        led = subst (λ es. IsLed led.0 (draft_of new).core es) (sym events_are) led.2;
      }

-- What is said of a workload over one driver, said of what is seen of that driver.
use Rattle.std.proofs.Common.{ℕ, List, [], ◌∷◌, Result, Ok, Err, ap}
use Rattle.hp_base.specs.declared.answer.Answer.{Answer}
use Rattle.hp_base.specs.declared.event.Op.{Op}
use Rattle.hp_core.specs.declared.readers.Tally.{Tally}
use Rattle.hp_client.specs.Bytes.{IsAnswered, IsUnanswered, fallocate_plan}
use Rattle.hp_client.specs.Driving.{Rounds, Stops}
use Rattle.hp_client.specs.Tables.{Tried, LineRuns, LinesRun, LineStops, FrontRuns, IsReport}
use Rattle.hp_client.specs.declared.bytes.Plan.{Plan}
use Rattle.hp_client.specs.declared.bytes.Plan.TheVariants.{Replies, Calls}
use Rattle.hp_client.specs.declared.fault.ClientFault.{ClientFault}
use Rattle.hp_client.specs.declared.table.Line.{Line}
use Rattle.hp_client.specs.declared.table.Line.TheVariants.{Call, Race, Fallocate}
use Rattle.hp_client.specs.declared.work.Report.{Report}

module _ {D E : Type 0} (seen : D → E) (makes : Rounds D) (made : Rounds E)
    (makes_as : (old : D) (calls : List (ℕ × Op)) (answers : List Answer) (new : D) → makes old calls answers new
    → made (seen old) calls answers (seen new)) where
  answered_as : (plan : Result Plan ClientFault) (task : ℕ) (old new : D) (answer : Answer)
      → IsAnswered makes plan task old answer new → IsAnswered made plan task (seen old) answer (seen new)
  answered_as (Err why) task old new answer h = elim h [ ]
  answered_as (Ok (Replies reply)) task old new answer h = (h.0, ap seen h.1)
  answered_as (Ok (Calls op)) task old new answer h = makes_as old ((task, op) ∷ []) (answer ∷ []) new h

  line_as : (line : Line) (old new : D) (tried : Tried) → LineRuns makes line old tried new
      → LineRuns made line (seen old) tried (seen new)
  line_as (Call row) old new tried (given, is, h) = (given, is, makes_as old _ _ new h)
  line_as (Race first second) old new tried (one, two, is, h) = (one, two, is, makes_as old _ _ new h)
  line_as (Fallocate task file bits offset len allowed) old new tried (given, is, h) =
      (given, is, answered_as (fallocate_plan bits file offset len) task old new given h)

  lines_as : (lines : List Line) (old new : D) (tried : Tried) → LinesRun makes lines old tried new
      → LinesRun made lines (seen old) tried (seen new)
  lines_as [] old new tried (none, same) = (none, ap seen same)
  lines_as (line ∷ lines) old new tried (mid, first, others, one, more, is) =
      (seen mid, first, others, line_as line old mid first one, lines_as lines mid new others more, is)

  -- a workload ran
  pub report_as : (lines : List Line) (allowed : Tally) (old new : D) (report : Report) → IsReport makes lines allowed old new report
      → IsReport made lines allowed (seen old) (seen new) report
  report_as lines allowed old new report is = record {
    tried = is.tried;
    runs = lines_as lines old new is.tried is.runs;
    each = is.each;
    calls = is.calls;
    bad = is.bad;
  }

  module _ (stops : Stops D) (stopped : Stops E)
      (stops_as : (fault : ClientFault) (old : D) (calls : List (ℕ × Op)) (new : D) → stops fault old calls new
      → stopped fault (seen old) calls (seen new)) where
    unanswered_as : (plan : Result Plan ClientFault) (task : ℕ) (old new : D) (fault : ClientFault)
        → IsUnanswered stops plan task old fault new → IsUnanswered stopped plan task (seen old) fault (seen new)
    unanswered_as (Err why) task old new fault h = (h.0, ap seen h.1)
    unanswered_as (Ok (Replies reply)) task old new fault h = elim h [ ]
    unanswered_as (Ok (Calls op)) task old new fault h = stops_as fault old ((task, op) ∷ []) new h

    stop_as : (fault : ClientFault) (line : Line) (old new : D) → LineStops stops fault line old new
        → LineStops stopped fault line (seen old) (seen new)
    stop_as fault (Call row) old new h = stops_as fault old _ new h
    stop_as fault (Race first second) old new h = stops_as fault old _ new h
    stop_as fault (Fallocate task file bits offset len allowed) old new h =
        unanswered_as (fallocate_plan bits file offset len) task old new fault h

    -- a front of it ran, and its next line stopped
    pub front_as : (fault : ClientFault) (lines : List Line) (old new : D) → FrontRuns makes stops fault lines old new
        → FrontRuns made stopped fault lines (seen old) (seen new)
    front_as fault lines old new ran = record {
      front = ran.front;
      line = ran.line;
      back = ran.back;
      tried = ran.tried;
      mid = seen ran.mid;
      parts = ran.parts;
      runs = lines_as ran.front old ran.mid ran.tried ran.runs;
      stopped = stop_as fault ran.line ran.mid new ran.stopped;
    }

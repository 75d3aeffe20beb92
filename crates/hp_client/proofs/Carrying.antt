-- A workload over a new driver, from what is said of one over any.
use Rattle.std.proofs.Common.{◌≡◌, ◌⊎◌, ℕ, List, [], Result, Ok, Err, inr}
use Rattle.std.specs.Prelude.{IfOk, IfErr}
use Rattle.hp_base.specs.Text.{sizes}
use Rattle.hp_base.specs.declared.answer.Answer.{Answer}
use Rattle.hp_base.specs.declared.config.Config.{Config}
use Rattle.hp_base.specs.declared.event.Op.{Op}
use Rattle.hp_core.specs.Runs.{IsOpening}
use Rattle.hp_core.specs.State.{CoreState}
use Rattle.hp_shared.specs.Journal.{IsCameTo}
use Rattle.hp_shared.specs.States.{tally_of}
use Rattle.hp_client.specs.Carrying.{CrewState, IsNewCrew, core_rounds, core_stops, crew_rounds, crew_stops}
use Rattle.hp_client.specs.Carrying.{RunOverCore, RunOverPool, StoppedOverCore, StoppedOverPool}
use Rattle.hp_client.specs.Driving.{Rounds, Stops}
use Rattle.hp_client.specs.Heard.{DriverState}
use Rattle.hp_client.specs.Tables.{table_of, sizes_of, FrontRuns, IsReport}
use Rattle.hp_client.specs.declared.fault.ClientFault.{ClientFault}
use Rattle.hp_client.specs.declared.fault.ClientFault.TheVariants.{Memory}
use Rattle.hp_client.specs.declared.table.Workload.{Workload}
use Rattle.hp_client.specs.declared.work.Report.{Report}
use Rattle.hp_client.proofs.Retelling.{report_as, front_as}

-- over a core: its report, and why there is none
module _ (workload : Workload) (config : Config) (old new : DriverState) (same : sizes config ≡ sizes_of workload)
    (opening : IsOpening config old.core) (unheard : old.heard ≡ []) where
  pub over_core : (result : Result Report ClientFault)
      → IfOk result (λ report. IsReport core_rounds (table_of workload).lines (table_of workload).tally old new report)
      → IfOk result (λ report. report.tally ≡ tally_of new.core)
      → IfOk result (λ report. RunOverCore workload report)
  over_core (Ok report) is tally = record {
    old = old;
    new = new;
    is_new = ((config, same, opening), unheard);
    is = is;
    tally = tally;
  }
  over_core (Err fault) is tally = tt

  pub stopped_over_core : (result : Result Report ClientFault)
      → IfErr result (λ fault. FrontRuns core_rounds core_stops fault (table_of workload).lines old new)
      → IfErr result (λ fault. (fault ≡ Memory) ⊎ StoppedOverCore workload fault)
  stopped_over_core (Ok report) front = tt
  stopped_over_core (Err fault) front = inr (record {
    old = old;
    new = new;
    is_new = ((config, same, opening), unheard);
    front = front;
  })

-- over a running pool, of whose driver this is seen
module _ {D : Type 0} (old new : D) (seen : D → CrewState) (makes : Rounds D)
    (makes_as : (old : D) (calls : List (ℕ × Op)) (answers : List Answer) (new : D) → makes old calls answers new
    → crew_rounds (seen old) calls answers (seen new)) (workload : Workload) (is_new : IsNewCrew workload (seen old)) where
  pub over_pool : (result : Result Report ClientFault)
      → IfOk result (λ report. IsReport makes (table_of workload).lines (table_of workload).tally old new report)
      → IfOk result (λ report. (core : CoreState) × IsCameTo core × (report.tally ≡ tally_of core))
      → IfOk result (λ report. RunOverPool workload report)
  over_pool (Ok report) is tally = record {
    old = seen old;
    new = seen new;
    is_new = is_new;
    is = report_as seen makes crew_rounds makes_as (table_of workload).lines (table_of workload).tally old new report is;
    tally = tally;
  }
  over_pool (Err fault) is tally = tt

  module _ (stops : Stops D)
      (stops_as : (fault : ClientFault) (old : D) (calls : List (ℕ × Op)) (new : D) → stops fault old calls new
      → crew_stops fault (seen old) calls (seen new)) where
    pub stopped_over_pool : (result : Result Report ClientFault)
        → IfErr result (λ fault. FrontRuns makes stops fault (table_of workload).lines old new)
        → IfErr result (λ fault. (fault ≡ Memory) ⊎ StoppedOverPool workload fault)
    stopped_over_pool (Ok report) front = tt
    stopped_over_pool (Err fault) front = inr (record {
      old = seen old;
      new = seen new;
      is_new = is_new;
      front = front_as seen makes crew_rounds makes_as stops crew_stops stops_as fault (table_of workload).lines old new front;
    })

-- A workload over a new driver: of a core of its own, or of a running pool.
use Rattle.std.specs.Prelude.{◌≡◌, ℕ, List, []}
use Rattle.hp_base.specs.Text.{sizes}
use Rattle.hp_base.specs.declared.answer.Answer.{Answer}
use Rattle.hp_base.specs.declared.config.Config.{Config}
use Rattle.hp_base.specs.declared.event.Op.{Op}
use Rattle.hp_core.specs.Runs.{IsOpening}
use Rattle.hp_core.specs.State.{CoreState}
use Rattle.hp_shared.specs.Journal.{IsCameTo}
use Rattle.hp_shared.specs.States.{tally_of}
use Rattle.hp_client.specs.Crew.{MemberState, members_of, new_seats}
use Rattle.hp_client.specs.Driving.{Rounds, Stops, IsHeard, IsUnheard}
use Rattle.hp_client.specs.Heard.{DriverState}
use Rattle.hp_client.specs.PoolRounds.{PoolRound, PoolRoundStops}
use Rattle.hp_client.specs.Rounds.{Round, RoundStops}
use Rattle.hp_client.specs.Tables.{table_of, sizes_of, FrontRuns, IsReport}
use Rattle.hp_client.specs.declared.fault.ClientFault.{ClientFault}
use Rattle.hp_client.specs.declared.table.Workload.{Workload}
use Rattle.hp_client.specs.declared.work.Report.{Report}

-- a driver of a new core of the workload's sizes, which has heard nothing
abbrev pub IsNewCore : Workload → DriverState → Type 0
IsNewCore workload driver =
    ((config : Config) × (sizes config ≡ sizes_of workload) × IsOpening config driver.core) × (driver.heard ≡ [])

-- the rounds of a driver of a core, and where one stops
abbrev pub core_rounds : Rounds DriverState
core_rounds = IsHeard (λ (d : DriverState). d.heard) (λ old calls answers new. Round old.core calls answers new.core)

abbrev pub core_stops : Stops DriverState
core_stops = IsUnheard (λ (d : DriverState). d.heard) (λ fault old calls new. RoundStops fault old.core calls new.core)

-- what is seen of a driver of a running pool: the members of its crew, and what it has heard
pub record CrewState : Type 0 where
  pub members : List MemberState
  pub heard : List (ℕ × Op × Answer)

-- a new one, with a seat for each of the workload's tasks
abbrev pub IsNewCrew : Workload → CrewState → Type 0
IsNewCrew workload driver = (driver.members ≡ members_of (new_seats (sizes_of workload).tasks)) × (driver.heard ≡ [])

-- the rounds of a driver of a running pool, and where one stops
abbrev pub crew_rounds : Rounds CrewState
crew_rounds = IsHeard (λ (d : CrewState). d.heard) (λ old calls answers new. PoolRound old.members calls answers new.members)

abbrev pub crew_stops : Stops CrewState
crew_stops = IsUnheard (λ (d : CrewState). d.heard) (λ fault old calls new. PoolRoundStops fault old.members calls new.members)

-- the workload's lines ran over a new driver of a core, this is what came of it, and the tally is that of the core at the end
pub record RunOverCore (workload : Workload) (report : Report) : Type 0 where
  pub old : DriverState
  pub new : DriverState
  pub is_new : IsNewCore workload old
  pub is : IsReport core_rounds (table_of workload).lines (table_of workload).tally old new report
  pub tally : report.tally ≡ tally_of new.core

-- the same over one of a running pool, whose tally is that of some core that a pool came to
pub record RunOverPool (workload : Workload) (report : Report) : Type 0 where
  pub old : CrewState
  pub new : CrewState
  pub is_new : IsNewCrew workload old
  pub is : IsReport crew_rounds (table_of workload).lines (table_of workload).tally old new report
  pub tally : (core : CoreState) × IsCameTo core × (report.tally ≡ tally_of core)

-- the workload's lines ran over a new driver of a core up to one that stopped with this fault
pub record StoppedOverCore (workload : Workload) (fault : ClientFault) : Type 0 where
  pub old : DriverState
  pub new : DriverState
  pub is_new : IsNewCore workload old
  pub front : FrontRuns core_rounds core_stops fault (table_of workload).lines old new

-- the same over one of a running pool
pub record StoppedOverPool (workload : Workload) (fault : ClientFault) : Type 0 where
  pub old : CrewState
  pub new : CrewState
  pub is_new : IsNewCrew workload old
  pub front : FrontRuns crew_rounds crew_stops fault (table_of workload).lines old new

-- The eleven workloads, and what a run of one is.
use Rattle.std.specs.Prelude.{◌≡◌, ◌≢◌, ℕ, ◌+◌, ◌++◌, ◌⊎◌, true, false, List, [], ◌∷◌, Option, Some, None}
use Rattle.std.specs.Prelude.{All, length, sum_by, codes}
use Rattle.hp_base.specs.declared.answer.Answer.{Answer}
use Rattle.hp_base.specs.declared.answer.Answer.TheVariants as answer
use Rattle.hp_base.specs.declared.event.Op.{Op}
use Rattle.hp_base.specs.declared.event.Op.TheVariants as op
use Rattle.hp_base.specs.Text.{Sizes}
use Rattle.hp_core.specs.declared.readers.Tally.{Tally}
use Rattle.hp_client.specs.Bytes.{fallocate_plan, IsAnswered, IsUnanswered}
use Rattle.hp_client.specs.Driving.{Rounds, Stops}
use Rattle.hp_client.specs.declared.fault.ClientFault.{ClientFault}
use Rattle.hp_client.specs.declared.table.Ask.{Ask}
use Rattle.hp_client.specs.declared.table.Ask.TheVariants.{Map, MapNoReserve, Unmap, Load, Store, Alloc, Punch, Truncate}
use Rattle.hp_client.specs.declared.table.Allowed.{Allowed}
use Rattle.hp_client.specs.declared.table.Allowed.TheVariants.{Mapped, Word, Done, Beyond, NoFrame}
use Rattle.hp_client.specs.declared.table.Row.{Row}
use Rattle.hp_client.specs.declared.table.Line.{Line}
use Rattle.hp_client.specs.declared.table.Line.TheVariants.{Call, Race, Fallocate}
use Rattle.hp_client.specs.declared.table.Pool.{Pool}
use Rattle.hp_client.specs.declared.table.Workload.{Workload}
use Rattle.hp_client.specs.declared.table.Workload.TheVariants as work
use Rattle.hp_client.specs.declared.work.Report.{Report}

-- a task's call, with the one answer that is allowed
abbrev pub row : (task : ℕ) → Ask → Allowed → Row
row task ask allowed = record { 0 = task; 1 = ask; 2 = allowed }

-- a round of it alone
abbrev pub call : (task : ℕ) → Ask → Allowed → Line
call task ask allowed = Call (row task ask allowed)

-- frames, files and tasks
abbrev pub pool : (frames files tasks : ℕ) → Pool
pool frames files tasks = record { 0 = frames; 1 = files; 2 = tasks }

abbrev pub tally : (free resv reserved pages : ℕ) → Tally
tally free resv reserved pages = record { free = free; resv = resv; reserved = reserved; pages = pages }

-- a workload: its name, the pool that it is for, the numbers of the pool at its end, and its lines
pub record Table : Type 0 where
  pub name : List ℕ
  pub pool : Pool
  pub tally : Tally
  pub lines : List Line

unfoldable pub table_of : Workload → Table
table_of work.Readback = record {
  name = codes "readback";
  pool = pool 4 1 1;
  tally = tally 3 0 1 1;
  lines =
      call 1 (Map 0 0 1) (Mapped 0)
      ∷ call 1 (Store 0 77) Done
      ∷ call 1 (Load 0) (Word 77)
      ∷ [];
}
table_of work.Shared = record {
  name = codes "shared";
  pool = pool 4 1 2;
  tally = tally 3 0 1 1;
  lines =
      call 1 (Map 0 0 1) (Mapped 0)
      ∷ call 2 (Map 0 0 1) (Mapped 0)
      ∷ call 1 (Store 0 11) Done
      ∷ call 2 (Load 0) (Word 11)
      ∷ call 2 (Store 0 12) Done
      ∷ call 1 (Load 0) (Word 12)
      ∷ [];
}
table_of work.Truncate = record {
  name = codes "truncate";
  pool = pool 4 1 1;
  tally = tally 4 0 0 0;
  lines =
      call 1 (Map 0 0 1) (Mapped 0)
      ∷ call 1 (Store 0 5) Done
      ∷ call 1 (Truncate 0 0) Done
      ∷ call 1 (Load 0) Beyond
      ∷ [];
}
table_of work.AllocInstantiateRace = record {
  name = codes "alloc-instantiate-race";
  pool = pool 1 1 2;
  tally = tally 0 0 1 1;
  lines =
      call 1 (Map 0 0 1) (Mapped 0)
      ∷ call 2 (Map 0 0 1) (Mapped 0)
      ∷ Race (row 1 (Store 0 5) Done) (row 2 (Store 0 6) Done)
      ∷ [];
}
table_of work.ChunkOvercommit = record {
  name = codes "chunk-overcommit";
  pool = pool 4 2 1;
  tally = tally 3 3 4 1;
  lines =
      call 1 (Map 0 0 3) (Mapped 0)
      ∷ call 1 (Map 1 0 2) NoFrame
      ∷ call 1 (Map 1 0 1) (Mapped 3)
      ∷ call 1 (Load 0) (Word 0)
      ∷ [];
}
table_of work.NoresvPreserveResvPage = record {
  name = codes "noresv-preserve-resv-page";
  pool = pool 2 2 2;
  tally = tally 0 0 2 2;
  lines =
      call 1 (Map 0 0 1) (Mapped 0)
      ∷ call 2 (MapNoReserve 1 0 2) (Mapped 0)
      ∷ call 2 (Store 0 1) Done
      ∷ call 2 (Store 1 1) NoFrame
      ∷ call 1 (Store 0 2) Done
      ∷ [];
}
table_of work.NoresvRegardedAsResv = record {
  name = codes "noresv-regarded-as-resv";
  pool = pool 2 1 1;
  tally = tally 2 2 2 0;
  lines =
      call 1 (MapNoReserve 0 0 1) (Mapped 0)
      ∷ call 1 (Store 0 3) Done
      ∷ call 1 (Unmap 0) Done
      ∷ call 1 (Truncate 0 0) Done
      ∷ call 1 (Map 0 0 2) (Mapped 0)
      ∷ [];
}
table_of work.TruncateReserveWraparound = record {
  name = codes "truncate_reserve_wraparound";
  pool = pool 4 1 1;
  tally = tally 4 0 0 0;
  lines =
      call 1 (Map 0 0 2) (Mapped 0)
      ∷ call 1 (Store 0 1) Done
      ∷ call 1 (Store 1 1) Done
      ∷ call 1 (Truncate 0 0) Done
      ∷ call 1 (Load 0) Beyond
      ∷ [];
}
table_of work.FallocateBasic = record {
  name = codes "fallocate_basic";
  pool = pool 4 1 1;
  tally = tally 1 0 3 3;
  lines =
      call 1 (Alloc 0 0 3 false) Done
      ∷ call 1 (Punch 0 1 1) Done
      ∷ call 1 (Alloc 0 3 1 true) Done
      ∷ call 1 (MapNoReserve 0 0 4) (Mapped 0)
      ∷ call 1 (Load 0) (Word 0)
      ∷ [];
}
table_of work.FallocateAlign = record {
  name = codes "fallocate_align";
  pool = pool 4 1 1;
  tally = tally 3 0 1 1;
  lines =
      Fallocate 1 0 0 1 2097152 Done
      ∷ Fallocate 1 0 3 1 4194303 Done
      ∷ Fallocate 1 0 3 1 2097151 Done
      ∷ [];
}
table_of work.Counters = record {
  name = codes "counters";
  pool = pool 8 1 1;
  tally = tally 8 4 4 0;
  lines =
      call 1 (Map 0 0 4) (Mapped 0)
      ∷ call 1 (Store 0 1) Done
      ∷ call 1 (Punch 0 0 1) Done
      ∷ call 1 (Truncate 0 2) Done
      ∷ call 1 (Unmap 0) Done
      ∷ call 1 (Map 0 0 4) (Mapped 0)
      ∷ [];
}

abbrev pub name_of : Workload → List ℕ
name_of workload = (table_of workload).name

-- the sizes of its pool; all have four slots, and no quota
abbrev pub sizes_of : Workload → Sizes
sizes_of workload = record {
  frames = (table_of workload).pool.0;
  files = (table_of workload).pool.1;
  slots = 4;
  tasks = (table_of workload).pool.2;
  quota = None;
}

abbrev pub op_of : Ask → Op
op_of (Map file from len) = op.Map file from len
op_of (MapNoReserve file from len) = op.MapNoReserve file from len
op_of (Unmap base) = op.Unmap base
op_of (Load vpn) = op.Load vpn
op_of (Store vpn word) = op.Store vpn word
op_of (Alloc file from len keep) = op.Alloc file from len keep
op_of (Punch file from len) = op.Punch file from len
op_of (Truncate file new) = op.Truncate file new

abbrev pub answer_of : Allowed → Answer
answer_of (Mapped base) = answer.Mapped base
answer_of (Word word) = answer.Word word
answer_of Done = answer.Done
answer_of Beyond = answer.Beyond
answer_of NoFrame = answer.NoFrame

-- the calls of a round are of distinct tasks
abbrev pub IsApart : Line → Type 0
IsApart (Call row) = Unit {0}
IsApart (Race first second) = first.0 ≢ second.0
IsApart (Fallocate task file bits offset len allowed) = Unit {0}

-- how many calls a line has, and how many the lines have
abbrev pub calls_of : Line → ℕ
calls_of (Call row) = 1
calls_of (Race first second) = 2
calls_of (Fallocate task file bits offset len allowed) = 1

abbrev pub calls_in : List Line → ℕ
calls_in lines = sum_by calls_of lines

-- answers, each beside the one that is allowed
abbrev pub Tried : Type 0
Tried = List (Answer × Answer)

-- a line was run by rounds, with its answers, each beside the one that is allowed: a call is a round of one, a race one of
-- two, and a `fallocate` what its plan says
abbrev pub LineRuns : {D : Type 0} → Rounds D → Line → (old : D) → Tried → (new : D) → Type 0
LineRuns makes (Call row) old tried new =
    (given : Answer) × (tried ≡ (given, answer_of row.2) ∷ []) × makes old ((row.0, op_of row.1) ∷ []) (given ∷ []) new
LineRuns makes (Race first second) old tried new =
    (one : Answer) × (two : Answer) × (tried ≡ (one, answer_of first.2) ∷ (two, answer_of second.2) ∷ [])
    × makes old ((first.0, op_of first.1) ∷ (second.0, op_of second.1) ∷ []) (one ∷ two ∷ []) new
LineRuns makes (Fallocate task file bits offset len allowed) old tried new =
    (given : Answer) × (tried ≡ (given, answer_of allowed) ∷ [])
    × IsAnswered makes (fallocate_plan bits file offset len) task old given new

-- line after line
abbrev pub LinesRun : {D : Type 0} → Rounds D → List Line → (old : D) → Tried → (new : D) → Type 0
LinesRun makes [] old tried new = (tried ≡ []) × (new ≡ old)
LinesRun {D} makes (line ∷ lines) old tried new =
    (mid : D) × (first : Tried) × (others : Tried)
    × LineRuns makes line old first mid × LinesRun makes lines mid others new × (tried ≡ first ++ others)

-- a line's round stopped with this fault
abbrev pub LineStops : {D : Type 0} → Stops D → ClientFault → Line → (old new : D) → Type 0
LineStops stops fault (Call row) old new = stops fault old ((row.0, op_of row.1) ∷ []) new
LineStops stops fault (Race first second) old new =
    stops fault old ((first.0, op_of first.1) ∷ (second.0, op_of second.1) ∷ []) new
LineStops stops fault (Fallocate task file bits offset len allowed) old new =
    IsUnanswered stops (fallocate_plan bits file offset len) task old fault new

-- a front of the lines ran, and the next one stopped with this fault
pub record FrontRuns {D : Type 0} (makes : Rounds D) (stops : Stops D) (fault : ClientFault) (lines : List Line) (old new : D)
    : Type 0 where
  pub front : List Line
  pub line : Line
  pub back : List Line
  pub tried : Tried
  pub mid : D
  pub parts : lines ≡ front ++ line ∷ back
  pub runs : LinesRun makes front old tried mid
  pub stopped : LineStops stops fault line mid new

abbrev pub IsRight : Answer × Answer → Type 0
IsRight tried = tried.0 ≡ tried.1

-- the number, from 1, of the first answer that isn't the one allowed, if there is one
abbrev pub IsFirstWrong : Tried → Option ℕ → Type 0
IsFirstWrong tried None = All IsRight tried
IsFirstWrong tried (Some k) =
    (front : Tried) × (wrong : Answer × Answer) × (back : Tried)
    × (tried ≡ front ++ wrong ∷ back) × All IsRight front × (¬ IsRight wrong) × (k ≡ length front + 1)

-- None where all answers and the tally are the table's. Else the number, from 1, of the first call with another
-- answer, or one more than there are where only the tally differs
abbrev pub IsBad : Tried → (tally allowed : Tally) → Option ℕ → Type 0
IsBad tried tally allowed None = All IsRight tried × (tally ≡ allowed)
IsBad tried tally allowed (Some k) =
    IsFirstWrong tried (Some k) ⊎ (All IsRight tried × (tally ≢ allowed) × (k ≡ length tried + 1))

-- what came of a workload: its lines ran, all its calls are counted, and `bad` is what these answers make it
pub record IsReport {D : Type 0} (makes : Rounds D) (lines : List Line) (allowed : Tally) (old new : D) (report : Report) : Type 0 where
  pub tried : Tried
  pub runs : LinesRun makes lines old tried new
  pub each : length tried ≡ calls_in lines
  pub calls : report.calls ≡ calls_in lines
  pub bad : IsBad tried report.tally allowed report.bad

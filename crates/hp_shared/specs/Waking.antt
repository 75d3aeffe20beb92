-- Who sleeps at the lock, and who was called.
use Rattle.std.specs.Prelude.{◌≡◌, ◌≢◌, ◌+◌, ◌<◌, ◌≤◌, ◌⊎◌, ℕ, List, Option, None, Some, slice_index_or}
use Rattle.hp_core.specs.State.{CoreState}
use Rattle.hp_core.specs.Waiting.{WaitsFor}
use Rattle.hp_shared.specs.Journal.{IsCameTo}
use Rattle.hp_shared.specs.States.{PoolState}
use Rattle.hp_shared.specs.declared.waiting_room.Stance.{Stance}
use Rattle.hp_shared.specs.declared.waiting_room.Stance.TheVariants.{Up, Asleep, Called}

-- A pool, and how its tasks stand to the lock: task 1 in place 0, and so on
pub record RoomState : Type 0 where
  pub pool : PoolState
  pub stances : List Stance

-- how the task of a place stands; who has none is up
abbrev pub stance_in : List Stance → (place : ℕ) → Stance
stance_in stances place = slice_index_or stances place Up

-- where the task of a place sleeps, somebody's call holds it up
abbrev pub IsHeldUp : CoreState → List Stance → (place : ℕ) → Type 0
IsHeldUp core stances place = stance_in stances place ≡ Asleep → (holder : ℕ) × WaitsFor core (place + 1) (Some holder)

-- so it is for each place
abbrev pub AreHeldUp : CoreState → List Stance → Type 0
AreHeldUp core stances = (place : ℕ) → IsHeldUp core stances place

-- for those from one to another
abbrev pub AreHeldUpIn : (from to : ℕ) → CoreState → List Stance → Type 0
AreHeldUpIn from to core stances = (place : ℕ) → from ≤ place → place < to → IsHeldUp core stances place

-- for all but this task's
abbrev pub AreHeldUpBut : (task : ℕ) → CoreState → List Stance → Type 0
AreHeldUpBut task core stances = (place : ℕ) → place + 1 ≢ task → IsHeldUp core stances place

-- nobody was called who has made no hold since
abbrev pub NoneCalled : List Stance → Type 0
NoneCalled stances = (place : ℕ) → stance_in stances place ≢ Called

-- whoever is called now, and wasn't before, is the task that is handed out, if one is
abbrev pub HandsOut : (called : Option ℕ) → (old new : List Stance) → Type 0
HandsOut called old new = (place : ℕ) → stance_in new place ≡ Called → (stance_in old place ≡ Called) ⊎ (called ≡ Some (place + 1))

-- each task that sleeps is held up, or somebody was called who has yet to make a hold
abbrev pub AreWatched : CoreState → List Stance → Type 0
AreWatched core stances = NoneCalled stances → AreHeldUp core stances

-- the task doesn't sleep in this room
abbrev pub IsAwakeIn : (task : ℕ) → RoomState → Type 0
IsAwakeIn task room = (place : ℕ) → place + 1 ≡ task → stance_in room.stances place ≢ Asleep

-- in some room, as it was while its lock was held, the task doesn't sleep
abbrev pub WasAwake : (task : ℕ) → Type 0
WasAwake task =
    (room : RoomState) × IsCameTo room.pool.core × AreWatched room.pool.core room.stances × IsAwakeIn task room

-- each task but this one that waited for a holder waits for it
abbrev pub OthersWaitOn : (own : ℕ) → CoreState → CoreState → Type 0
OthersWaitOn own old new = (task holder : ℕ) → task ≢ own → WaitsFor old task (Some holder) → WaitsFor new task (Some holder)

-- the task of a place sleeps though nobody's call holds it up
abbrev pub IsFree : CoreState → List Stance → (place : ℕ) → Type 0
IsFree core stances place = (stance_in stances place ≡ Asleep) × WaitsFor core (place + 1) None

-- for the places from one to another, but this task's
abbrev pub AreHeldUpBetween : (own from to : ℕ) → CoreState → List Stance → Type 0
AreHeldUpBetween own from to core stances = (place : ℕ) → place + 1 ≢ own → from ≤ place → place < to → IsHeldUp core stances place

-- it comes first: of the tasks behind this one, which the last is followed by the first of all
abbrev pub IsFirstBehind : (task : ℕ) → CoreState → List Stance → (place : ℕ) → Type 0
IsFirstBehind task core stances place =
    (task ≤ place) × AreHeldUpBetween task task place core stances
    ⊎ (place < task) × AreHeldUpBetween task task 64 core stances × AreHeldUpBetween task 0 place core stances

-- the task that is called behind a hold of another: it slept though nobody held it up, and comes first among those
pub record IsCalled (task : ℕ) (core : CoreState) (old new : List Stance) (called : ℕ) : Type 0 where
  pub place : ℕ
  pub number : called ≡ place + 1
  pub free : IsFree core old place
  pub first : IsFirstBehind task core old place
  pub now : stance_in new place ≡ Called

-- whoever else slept sleeps, or is the task that is handed out
abbrev pub SleepsOn : (own : ℕ) → (called : Option ℕ) → (old new : List Stance) → Type 0
SleepsOn own called old new =
    (place : ℕ) → place + 1 ≢ own → stance_in old place ≡ Asleep → (stance_in new place ≡ Asleep) ⊎ (called ≡ Some (place + 1))

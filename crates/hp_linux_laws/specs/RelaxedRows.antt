-- The machine's rows, without rules on which no law of its counts rests.
use Rattle.std.specs.Prelude.{◌≡◌, ℕ, ◌+◌, ◌≤◌, ◌⊎◌, Bool, List}
use Rattle.hp_base.specs.declared.event.Event.{Event}
use Rattle.hp_frames.specs.Bank.{IsWithinQuota}
use Rattle.hp_machine.specs.State.{Pool, State, free_frames}
use Rattle.hp_machine.specs.Events.{CallRow, CallRows, TurnRow, RunBy, opening}
use Rattle.hp_machine.specs.Headline.{Agrees, OnePlace, all_ahead, all_behind, all_used_ahead, reserved_in, vacant_in}
use Rattle.hp_machine.specs.TouchRows.{TouchCommittedRow, TouchFoundRow, TouchLockedRow}
use Rattle.hp_machine.specs.PunchRows.{PunchWantRow}
use Rattle.hp_machine.specs.Views.{ahead, behind, hand}
use Rattle.hp_machine.specs.declared.outcome.Outcome.{Outcome}
use Rattle.hp_machine.specs.declared.touch.Committed.{Committed}
use Rattle.hp_machine.specs.declared.touch.Found.{Found}
use Rattle.hp_machine.specs.declared.touch.Locked.{Locked}
use Rattle.hp_machine.specs.declared.touch.TouchPhase.{TouchPhase}
use Rattle.hp_machine.specs.declared.touch.TouchPhase.TheVariants as touch
use Rattle.hp_machine.specs.declared.punch.Want.{Want}
use Rattle.hp_machine.specs.declared.punch.PunchPhase.{PunchPhase}
use Rattle.hp_machine.specs.declared.punch.PunchPhase.TheVariants as punch
use Rattle.hp_machine.specs.declared.call.Call.TheVariants as call
use Rattle.hp_machine.specs.declared.call.Turn.{Turn}
use Rattle.hp_counterexamples.specs.Runs.{with_calls}
use Rattle.hp_linux.specs.Rows.{PageFirstRow, UnsizedCommittedRow, UnsizedFoundRow}
use Rattle.hp_linux_laws.specs.MayRows.{PunchPassesRow}

-- a touch may leave out the look at the size where it places its page
abbrev pub PlacesUnlookedRow : Pool → (grant : Bool) → Committed → Turn TouchPhase → Pool → Type 0
PlacesUnlookedRow s grant p turn new = TouchCommittedRow s grant p turn new ⊎ UnsizedCommittedRow s grant p turn new

-- and where it translates it
abbrev pub TranslatesUnlookedRow : Pool → (task : ℕ) → (grant : Bool) → Found → Turn TouchPhase → Pool → Type 0
TranslatesUnlookedRow s t grant p turn new = TouchFoundRow s t grant p turn new ⊎ UnsizedFoundRow s t grant p turn new

-- a touch may look for its page first, and at the size only where there is none
abbrev pub LooksEitherWayRow : Pool → Locked → Turn TouchPhase → Pool → Type 0
LooksEitherWayRow s p turn new = TouchLockedRow s p turn new ⊎ PageFirstRow s p turn new

-- a punch may pass any of its indices
abbrev pub PunchMayPassRow : Pool → (task : ℕ) → Want → Turn PunchPhase → Pool → Type 0
PunchMayPassRow s t p turn new = PunchWantRow s t p turn new ⊎ PunchPassesRow s p turn new

-- B, and S where a touch places its page and where it translates it
unfoldable pub RelaxedRow : CallRows
RelaxedRow s t killed grant (call.Touch (touch.Committed p)) = TurnRow call.Touch (PlacesUnlookedRow s grant p)
RelaxedRow s t killed grant (call.Touch (touch.Found p)) = TurnRow call.Touch (TranslatesUnlookedRow s t grant p)
RelaxedRow s t killed grant (call.Punch (punch.Want p)) = TurnRow call.Punch (PunchMayPassRow s t p)
RelaxedRow s t killed grant other = CallRow s t killed grant other

-- these, and P
unfoldable pub LookingEitherWay : CallRows
LookingEitherWay s t killed grant (call.Touch (touch.Locked p)) = TurnRow call.Touch (LooksEitherWayRow s p)
LookingEitherWay s t killed grant other = RelaxedRow s t killed grant other

-- what holds behind every run by these rows
abbrev pub IsKeptBy : CallRows → (State → Type 0) → Type 0
IsKeptBy rows law =
    (frames : ℕ) (log : List (Event × Outcome)) (s : State) → RunBy (with_calls rows) (opening s.geometry frames) log s → law s

-- the clauses of the headline, but for the one on translations beyond the size
pub record AllButBelow (s : State) : Type 0 where
  pub agree : Agrees s
  pub place : OnePlace s.frames s.frame (λ t. hand (s.calls t)) s.pages
  pub count : s.resv + all_behind s ≡ vacant_in s + all_ahead s
  pub enough : s.resv ≤ free_frames s.frame s.frames
  pub settled : ((t : ℕ) → (behind (s.calls t) ≡ 0) × (ahead (s.calls t) ≡ 0)) → s.resv ≡ vacant_in s
  pub used : s.used ≡ reserved_in s + all_used_ahead s
  pub within : IsWithinQuota s.geometry.quota s.used

-- What the theorems on runs say of cores.
use Rattle.std.specs.Prelude.{◌≡◌, List}
use Rattle.hp_base.specs.declared.config.Config.{Config}
use Rattle.hp_base.specs.declared.event.Event.{Event}
use Rattle.hp_machine.specs.declared.outcome.Outcome.{Outcome}
use Rattle.hp_sequential.specs.Renaming.{Alike}
use Rattle.hp_core.specs.State.{CoreState, as_state}
use Rattle.hp_core.specs.Runs.{Run, IsOpening}

-- two cores of one config to which the same happened have the same outcomes, and are equal up to a renaming of frames
abbrev pub FramesDontShow : Config → Type 0
FramesDontShow config = (a b s n : CoreState) (events : List Event) (outcomes other : List Outcome)
    → IsOpening config a → IsOpening config b → Run a events outcomes s → Run b events other n
    → (other ≡ outcomes) × Alike (as_state s) (as_state n)

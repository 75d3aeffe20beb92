use Rattle.std.proofs.Common.{Option, Some, None}
use Rattle.std.specs.Prelude.{IfSome}
use Rattle.hp_base.specs.declared.event.Event.{Event}
use Rattle.hp_machine.specs.declared.outcome.Outcome.{Outcome}
use Rattle.hp_core.specs.State.{CoreState}
use Rattle.hp_core.specs.HeldBack.{HeldBack}
use Rattle.hp_core.specs.Runs.{Row}
use Rattle.hp_replay.proofs.next.look.Goals as goal

held_row : (s : CoreState) (e : Event) (o : Option Outcome) → HeldBack s e o → IfSome o (λ outcome. Row s e outcome s)
unfolding HeldBack
held_row s e None held = tt
held_row s e (Some outcome) held = held.1

pub returns : goal.returns
returns c = held_row c.args.core.now c.args.event.now c.held_back.result c.held_back.ensures

use Rattle.std.proofs.Common.{◌≡◌, drop}
use Rattle.hp_client.specs.Crew.{work_for}
use Rattle.hp_client.proofs.crew.work_for.Given as goal

abbrev pub invariant-loop-caller : goal.invariant-loop-caller
invariant-loop-caller l = work_for l.task l.calls ≡ work_for l.task (drop l.caller-index l.calls)

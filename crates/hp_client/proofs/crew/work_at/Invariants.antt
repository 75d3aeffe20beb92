use Rattle.std.proofs.Common.{◌≡◌, drop}
use Rattle.hp_client.specs.Crew.{work_at}
use Rattle.hp_client.proofs.crew.work_at.Given as goal

abbrev pub invariant-loop-member : goal.invariant-loop-member
invariant-loop-member g l = work_at l.task l.members ≡ work_at l.task (drop l.member-index l.members)

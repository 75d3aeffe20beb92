use Rattle.std.proofs.Common.{◌≡◌, map, take, drop}
use Rattle.hp_client.specs.Crew.{resuming}
use Rattle.hp_client.proofs.crew.resume_members.Given as goal

abbrev pub invariant-loop-member : goal.invariant-loop-member
invariant-loop-member g l = record {
  done : take l.member-index l.members ≡ map (resuming) (take l.member-index l.fn.members);
  others : drop l.member-index l.members ≡ drop l.member-index l.fn.members;
}

use Rattle.std.proofs.Common.{◌≡◌, map, take, drop}
use Rattle.hp_client.specs.Crew.{given}
use Rattle.hp_client.proofs.crew.give_calls.Given as goal

abbrev pub invariant-loop-member : goal.invariant-loop-member
invariant-loop-member g l = record {
  done : take l.member-index l.members ≡ map (given l.calls) (take l.member-index l.fn.members);
  others : drop l.member-index l.members ≡ drop l.member-index l.fn.members;
}

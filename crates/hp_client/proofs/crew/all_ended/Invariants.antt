use Rattle.std.proofs.Common.{drop}
use Rattle.hp_client.specs.PoolRounds.{AreEnded, FirstUnended}
use Rattle.hp_client.specs.declared.fault.ClientFault.{ClientFault}
use Rattle.hp_client.proofs.crew.all_ended.Given as goal

abbrev pub invariant-loop-member : goal.invariant-loop-member
invariant-loop-member g l = record {
  ended : AreEnded (drop l.member-index l.members) → AreEnded l.members;
  first : (why : ClientFault) → FirstUnended (drop l.member-index l.members) why → FirstUnended l.members why;
}

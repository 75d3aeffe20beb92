use Rattle.std.proofs.Common.{◌≡◌, take}
use Rattle.hp_client.proofs.Naming.{all, NoneNamed}
use Rattle.hp_client.proofs.work.workload_named.Given as goal

abbrev pub invariant-loop-workload : goal.invariant-loop-workload
invariant-loop-workload l = record {
  items : l.workload-items ≡ all;
  none : NoneNamed l.fn.name (take l.workload-index l.workload-items);
}

use Rattle.std.proofs.Common.{arith}
use Rattle.hp_frames.proofs.Kept.{none_kept}
use Rattle.hp_frames.proofs.Quotas.{none_within}
use Rattle.hp_frames.proofs.bank.Bank.new.Goals as goal

pub invariant_of-bank : goal.invariant_of-bank
invariant_of-bank c = record {
  kept = none_kept _ _ _ c.new.ensures.items c.new-2.ensures.first c.new-2.ensures.count c.new-3.ensures.first c.new-3.ensures.count;
  reserved = omega arith;
  within = none_within c.args.quota;
}

use Rattle.std.proofs.Common.{refl}
use Rattle.hp_counterexamples.specs.Runs.{QuotaSuffices, bounded, with_calls}
use Rattle.hp_counterexamples.specs.Promising.{AsksNoQuota, quota_run}
use Rattle.hp_counterexamples.proofs.Running.{by_calls, machine}
use Rattle.hp_counterexamples.proofs.Breaking.{breaks, exceeds, exceeded}
use Rattle.hp_counterexamples.proofs.Promising.{try_AsksNoQuota}
use Rattle.hp_counterexamples.proofs.the_quota_is_asked.Goals as goal

pub returns : goal.returns
unfolding machine AsksNoQuota
returns c =
    breaks (with_calls AsksNoQuota) (by_calls AsksNoQuota try_AsksNoQuota)
    (bounded 1 2 1) 2 quota_run QuotaSuffices exceeds exceeded refl

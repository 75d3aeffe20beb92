use Rattle.std.proofs.Common.{rules, refl, ◌≢◌, ◌∙◌}
use Rattle.hp_client.proofs.Naming.{all, none_next, none_named}
use Rattle.hp_client.proofs.work.workload_named.Goals as goal

pub loop-workload-preserved : goal.loop-workload-preserved
loop-workload-preserved c =
    let not : c.name.result.now ≢ c.args.name.now = search rules in
    record {
      items = refl;
      none = none_next c.args.name.now c.loop-workload.workload-index all _ c.loop-workload-test.true (λ same. not
          (c.name.ensures ∙ same))
          c.loop-workload.invariant.none;
    }

pub returns-clause-none : goal.returns-clause-none
returns-clause-none c =
    none_named c.args.name.now c.loop-workload.workload-index all refl c.loop-workload-test.false c.loop-workload.invariant.none

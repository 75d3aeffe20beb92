use Rattle.hp_search.proofs.Kept.{at_limits}
use Rattle.hp_search.proofs.finding.find_every.Goals as goal

pub reachability_of-requires-clause-searched : goal.reachability_of-requires-clause-searched
reachability_of-requires-clause-searched c c' = (
  c'.args.limits,
  record {
    may = c'.may_be_eager.ensures;
    first = c'.in_ok-first.first;
    path = c'.in_ok-first.ensures.path;
    none = c'.in_ok-first.ensures.turns;
    right = c'.in_ok-verdict.ensures.right;
    cut = c'.in_ok-verdict.ensures.cut;
  },
)

pub returns-clause-within : goal.returns-clause-within
returns-clause-within c c' =
    at_limits _ _ c'.args.limits _ c'.reachability_of.result c'.reachability_of.ensures.within (record {
      may = c'.may_be_eager.ensures;
      first = c'.in_ok-first.first;
      path = c'.in_ok-first.ensures.path;
      none = c'.in_ok-first.ensures.turns;
      right = c'.in_ok-verdict.ensures.right;
      cut = c'.in_ok-verdict.ensures.cut;
    })

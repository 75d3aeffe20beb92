use Rattle.std.proofs.Common.{[], length, refl, ap, arith}
use Rattle.hp_shared.proofs.Runs.{opened, follows_copy, follows_none}
use Rattle.hp_shared.proofs.pool.Pool.new.Goals as goal

pub invariant_of-result : goal.invariant_of-result
invariant_of-result g c =
    let start = opened c.args.config c.in_ok-core.core c.in_ok-start.start c.in_ok-core.ensures.opening
    c.in_ok-start.ensures.state c.in_ok-start.ensures.config in record {
      origin = ([], refl, (c.args.config, c.in_ok-start.start, start, follows_none c.in_ok-start.start [] refl));
      run = follows_copy c.in_ok-core.core c.in_ok-start.start _ c.new-2.ensures.items c.in_ok-start.ensures.state
          c.in_ok-start.ensures.config;
      counted = omega (arith, c.requires, ap length c.new-2.ensures.items);
      bound = omega arith;
    }

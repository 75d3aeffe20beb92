-- The core is the opening of the config that was read.
use Rattle.std.proofs.Common.{subst, sym}
use Rattle.hp_core.specs.Runs.{IsOpening}
use Rattle.hp_c.proofs.pool.boxed_core.Goals as goal

pub returns-in-Ok-new-clause-ok : goal.returns-in-Ok-new-clause-ok
returns-in-Ok-new-clause-ok c = record {
  config = c.in-Some.config;
  sizes_are = c.in-Some.ensures.sizes;
  opens = subst (IsOpening c.in-Some.config) (sym c.in-Ok-new.ensures.ok) c.in-Ok.ensures.opening;
}

-- The copy is in the state of the core, so it has as few calls.
use Rattle.std.proofs.Common.{◌≡◌, ◌∙◌, ap, refl, subst, sym}
use Rattle.std.specs.Prelude.{Some}
use Rattle.hp_machine.specs.Headline.{all_calls}
use Rattle.hp_machine.specs.State.{State}
use Rattle.hp_core.specs.State.{CoreState, as_state}
use Rattle.hp_core.specs.Readers.{calls_of}
use Rattle.hp_c.specs.Answers.{Copied}
use Rattle.hp_c.proofs.pool.boxed_copy.Goals as goal

-- calls are counted in the state
calls_are : (some other : CoreState) → as_state some ≡ as_state other → calls_of some ≡ calls_of other
unfolding calls_of
calls_are some other e = ap (λ (s : State). all_calls s) e

pub returns-in-Ok-new-clause-ok : goal.returns-in-Ok-new-clause-ok
returns-in-Ok-new-clause-ok c = subst (λ (core : CoreState). Copied (Some c.args.core.now) (Some core)) (sym c.in-Ok-new.ensures.ok) (record {
  core = c.args.core.now;
  copied = c.in-Ok.copy;
  is_core = refl;
  is_copy = refl;
  state = c.in-Ok.ensures.state;
  config = c.in-Ok.ensures.config;
  rest = calls_are c.in-Ok.copy c.args.core.now c.in-Ok.ensures.state ∙ sym c.calls.ensures ∙ c.if-calls-ne0.false;
})

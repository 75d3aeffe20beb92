use Rattle.std.proofs.Common.{◌≡◌, ◌-◌, ◌∙◌, ℕ, ap, sym, arith}
use Rattle.std.specs.Prelude.{None, slice_index_or}
use Rattle.hp_core.specs.Passing.{task_may_pass}
use Rattle.hp_summary.proofs.noting.quiet_place.Goals as goal

pub returns-in-Some-clause-quiet : goal.returns-in-Some-clause-quiet
returns-in-Some-clause-quiet c =
    let back : c.place.result ≡ c.number.result - 1 = c.place.ensures ∙ ap (λ (n : ℕ). n - 1) (sym c.number.ensures) in
    record {
      alone = λ u of. omega (arith, c.in-Some.ensures.some u of, c.in-Some.ensures.there.0, c.number.ensures);
      keeps = ap (λ (n : ℕ). task_may_pass (slice_index_or c.args.phases.now n None)) (sym back)
          ∙ (sym c.may_pass.ensures ∙ c.if-not-may_pass.true);
    }

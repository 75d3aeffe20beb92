use Rattle.std.proofs.Common.{ℕ, refl, subst, ◌∙◌}
use Rattle.std.specs.Prelude.{nat_lt}
use Rattle.std.specs.Int.NonZero.{non_zero_u32_get}
use Rattle.std.specs.Option.{option_map}
use Rattle.std.proofs.lemmas.Result.{err_from_is_err_and}
use Rattle.hp_race.specs.Parts.{IsToldBy}
use Rattle.hp_race.proofs.Lines.{line_stopped, line_written}
use Rattle.hp_race.proofs.writing.write_races.Goals as goal

pub returns-in_err-write_race-clause-err : goal.returns-in_err-write_race-clause-err
returns-in_err-write_race-clause-err g c =
    let p = err_from_is_err_and c.from_residual-in_err-write_race.result c.from_residual-in_err-write_race.ensures.1 in
    rw (p.1, p.2) (
      c.in_err-write_race.ensures.err.0,
      line_stopped _ _ _ _ _ c.loop-run.closed _ _ _ c.in_ok-ended.ended c.loop-run.invariant.0 c.loop-run-test.true
          (subst (λ (kill : ℕ). IsToldBy (nat_lt 0 kill) c.args.script.now (option_map non_zero_u32_get c.args.cut) c.in_ok-ended.ended)
          c.of_race.ensures.kill c.in_ok-ended.ensures)
          c.in_err-write_race.ensures.err.1,
    )

pub loop-run-preserved : goal.loop-run-preserved
loop-run-preserved g c = (
  line_written _ _ _ _ c.loop-run.closed c.is_closed-closed.result _ _ _ _ c.in_ok-ended.ended c.loop-run.invariant.0
      (subst (λ (kill : ℕ). IsToldBy (nat_lt 0 kill) c.args.script.now (option_map non_zero_u32_get c.args.cut) c.in_ok-ended.ended)
      c.of_race.ensures.kill c.in_ok-ended.ensures)
      c.in_ok-write_race.ensures.ok c.is_closed-closed.ensures refl,
  c.in_ok-write_race.ensures.writes ∙ c.loop-run.invariant.1,
)

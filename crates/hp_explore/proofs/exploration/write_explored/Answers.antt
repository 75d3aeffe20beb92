use Rattle.std.proofs.Common.{◌+◌, ◌-◌, ◌≤◌, ◌∙◌, refl, arith}
use Rattle.std.proofs.Math.Nat.{min-le_left}
use Rattle.std.proofs.lemmas.Result.{err_from_is_err_and}
use Rattle.hp_explore.proofs.WrittenLines.{none_written, part_kept, part_stopped}
use Rattle.hp_explore.proofs.exploration.write_explored.Goals as goal

pub returns-in_err-plan-clause-err : goal.returns-in_err-plan-clause-err
returns-in_err-plan-clause-err g c =
    let p = err_from_is_err_and c.from_residual.result c.from_residual.ensures.1 in
    rw (p.1, p.2) (tt, none_written _ _ _)

pub returns-in_err-lines-clause-err : goal.returns-in_err-lines-clause-err
returns-in_err-lines-clause-err g c =
    let p = err_from_is_err_and c.from_residual-in_err-lines.result c.from_residual-in_err-lines.ensures.1 in
    rw (p.1, p.2) (tt, none_written _ _ _)

pub returns-in_err-lines-2-clause-err : goal.returns-in_err-lines-2-clause-err
returns-in_err-lines-2-clause-err g c =
    let p = err_from_is_err_and c.from_residual-in_err-lines-2.result c.from_residual-in_err-lines-2.ensures.1 in
    rw (p.1, p.2) (
      c.in_err-lines-2.ensures.err.0,
      part_stopped _ _ _ _ _ _ _ _ _ c.loop-explored.invariant.0 c.as_slice-before.ensures.value c.in_err-lines-2.ensures.err.1,
    )

pub loop-explored-preserved : goal.loop-explored-preserved
loop-explored-preserved g c =
    let s = c.loop-explored.invariant.0 in
    let few : c.loop-explored.explored + c.min-runs.result ≤ c.args.exploration.runs =
    omega (arith, s.few, c.min-runs.ensures, min-le_left (c.args.exploration.runs - c.loop-explored.explored) c.next_part-part.result) in (
      part_kept _ _ _ _ _ c.are_finished.result _ _ _ _ _ c.as_slice-before.result.now c.in_ok-lines-2.lines.items
          c.as_slice-in-loop-explored-2.result.now s few c.as_slice-before.ensures.value c.in_ok-lines-2.ensures.ok
          c.in_ok-lines-2.ensures.lines refl c.are_finished.ensures c.as_slice-in-loop-explored-2.ensures.value,
      c.in_ok-lines-2.ensures.writes ∙ c.loop-explored.invariant.1,
      c.next_part-part.ensures.some,
      c.next_part-part.ensures.most,
    )

pub returns-in_err-write_lines-clause-err : goal.returns-in_err-write_lines-clause-err
returns-in_err-write_lines-clause-err g c =
    let p = err_from_is_err_and c.from_residual-in_err-write_lines.result c.from_residual-in_err-write_lines.ensures.1 in
    rw (p.1, p.2) (
      c.in_err-write_lines.ensures.err.0,
      part_stopped _ _ _ _ _ _ _ _ _ c.loop-explored.invariant.0 c.as_slice-2.ensures.value c.in_err-write_lines.ensures.err.1,
    )

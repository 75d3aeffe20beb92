use Rattle.std.proofs.Common.{◌++◌, [], refl}
use Rattle.std.proofs.lemmas.Result.{err_from_is_err_and}
use Rattle.hp_client.specs.Driving.{IsHeard, IsUnheard}
use Rattle.hp_client.proofs.Judging.{run_next, front_runs, judges_none, calls_next, calls_few}
use Rattle.hp_client.proofs.work.run_lines.Goals as goal

pub loop-line-init : goal.loop-line-init
loop-line-init g c = record {
  run = ([], (refl, refl), judges_none _ refl refl);
  calls = refl;
}

pub run_line-requires-clause-few : goal.run_line-requires-clause-few
run_line-requires-clause-few g c = calls_few c.loop-line.line-index c.args.lines.now _ c.loop-line.judged.calls
    c.loop-line-test.true
    c.loop-line.invariant.calls c.requires.few

pub loop-line-preserved : goal.loop-line-preserved
loop-line-preserved g c =
    let rounds = IsHeard g.D.Driver.heard_by g.D.Driver.makes in
    let before = c.loop-line.invariant.run in
    let one = c.in_ok-run_line.ensures.run in
    record {
      run = (
        before.0 ++ one.0,
        run_next rounds c.loop-line.line-index c.args.lines.now _ c.args.driver.now c.loop-line.driver c.run_line.new.driver before.0
            one.0 c.loop-line-test.true before.1 one.1,
        one.2 before.0 before.2,
      );
      calls = calls_next c.loop-line.line-index c.args.lines.now _ c.loop-line.judged.calls _ c.loop-line-test.true
          c.loop-line.invariant.calls c.in_ok-run_line.ensures.calls;
    }

pub returns-in_err-run_line-clause-stopped : goal.returns-in_err-run_line-clause-stopped
returns-in_err-run_line-clause-stopped g c =
    let p = err_from_is_err_and c.from_residual.result c.from_residual.ensures.1 in
    rw (p.1, p.2)
    (front_runs (IsHeard g.D.Driver.heard_by g.D.Driver.makes) (IsUnheard g.D.Driver.heard_by g.D.Driver.stops) _
    c.loop-line.line-index c.args.lines.now _ c.args.driver.now c.loop-line.driver c.run_line.new.driver c.loop-line.invariant.run.0
    c.loop-line-test.true c.loop-line.invariant.run.1 c.in_err-run_line.ensures.stopped)

-- Each line is the run's, and ends well.
use Rattle.std.proofs.Common.{ℕ, subst, IfOk}
use Rattle.std.specs.List.{AllZip, range_with_len}
use Rattle.hp_explore.specs.declared.line.RunLine.{RunLine}
use Rattle.hp_explore.specs.Schedule.{Plan}
use Rattle.hp_explore.specs.Explored.{EndsWell, IsLine}
use Rattle.hp_explore.specs.Claims.{IsLineOf}
use Rattle.hp_explore.proofs.Claimed.{both_of_line}
use Rattle.hp_workers.proofs.Collected.{if_ok_left, if_ok_right, if_ok_weaken}
use Rattle.hp_explore.proofs.exploration.explore_runs.Goals as goal

pub returns : goal.returns
returns g c =
    let script = c.args.script.now in
    let plan = c.args.plan.now in
    let lines = c.lines_of.result in
    let runs = range_with_len c.args.first c.args.count in
    let L : Plan → ℕ → RunLine → Type 0 = λ p run line. IsLine script c.args.exploration.seed p.deny p.kill run line in
    let E : RunLine → Type 0 = λ line. EndsWell line.finish in
    let both = if_ok_weaken (λ v. v.items) (IsLineOf _) (λ run line. L plan run line × E line) runs lines (both_of_line _)
    c.lines_of.ensures in
    record {
      lines = subst (λ (p : Plan). IfOk lines (λ lines. AllZip (L p) runs lines.items)) c.requires.plan
          (if_ok_left (λ v. v.items) (L plan) E runs lines both);
      ends = if_ok_right (λ v. v.items) (L plan) E runs lines both;
    }

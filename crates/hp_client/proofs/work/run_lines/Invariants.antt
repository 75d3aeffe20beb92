use Rattle.std.proofs.Common.{◌≡◌, take}
use Rattle.hp_client.specs.Driving.{IsHeard}
use Rattle.hp_client.specs.Judging.{Judges}
use Rattle.hp_client.specs.Tables.{Tried, LinesRun, calls_in}
use Rattle.hp_client.proofs.work.run_lines.Given as goal

abbrev pub invariant-loop-line : goal.invariant-loop-line
invariant-loop-line g l = record {
  run : (tried : Tried)
      × LinesRun (IsHeard g.D.Driver.heard_by g.D.Driver.makes) (take l.line-index l.lines) l.fn.driver tried l.driver
      × Judges tried l.judged;
  calls : l.judged.calls ≡ calls_in (take l.line-index l.lines);
}

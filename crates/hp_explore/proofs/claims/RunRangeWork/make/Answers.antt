use Rattle.std.proofs.Common.{◌+◌}
use Rattle.hp_explore.proofs.Claimed.{line_of_both}
use Rattle.hp_explore.proofs.claims.RunRangeWork.make.Goals as goal

pub returns : goal.returns
returns c =
    let runs = c.args.self.now in
    line_of_both runs (runs.first + c.args.place) c.explore_one.result c.explore_one.ensures.line c.explore_one.ensures.ends

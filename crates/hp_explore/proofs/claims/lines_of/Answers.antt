-- The runs have their places, from 0, and their numbers.
use Rattle.std.proofs.Common.{arith}
use Rattle.std.proofs.lemmas.Result.{IfOk-weaker}
use Rattle.hp_explore.specs.Claims.{IsLineOf}
use Rattle.hp_workers.proofs.Pieces.{numbered}
use Rattle.hp_explore.proofs.claims.lines_of.Goals as goal

pub all_made-requires-clause-each : goal.all_made-requires-clause-each
all_made-requires-clause-each g c κs live = λ place there. (c.requires, there)

pub returns : goal.returns
returns g c =
    let runs = c.args.runs in
    IfOk-weaker c.all_made.result _ _ (λ lines h. numbered (IsLineOf runs) runs.first 0 runs.first runs.count lines.items (omega arith) h)
    c.all_made.ensures

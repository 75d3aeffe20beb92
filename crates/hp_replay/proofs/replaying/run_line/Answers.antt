use Rattle.hp_replay.proofs.Running.{opened_ran}
use Rattle.hp_replay.proofs.replaying.run_line.Goals as goal

pub returns-in_ok-opened-in-Header-clause-ok : goal.returns-in_ok-opened-in-Header-clause-ok
returns-in_ok-opened-in-Header-clause-ok c =
    opened_ran c.args.core.now c.args.line c.in-Header.config c.in_ok-opened-in-Header.opened _ c.in-Header.is
    c.in_ok-opened-in-Header.ensures.opening

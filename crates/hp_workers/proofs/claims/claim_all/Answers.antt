-- Whatever a worker claimed, it has its own; `collect` keeps what all workers claimed where all are there.
use Rattle.std.proofs.Common.{ℕ}
use Rattle.std.specs.Global.{Vec}
use Rattle.hp_workers.specs.declared.claims.Claimed.{Claimed}
use Rattle.hp_workers.specs.Claims.{AreClaimed}
use Rattle.hp_workers.proofs.Collected.{IfOk_collected, if_ok_all}
use Rattle.hp_workers.proofs.claims.claim_all.Goals as goal

pub returns : goal.returns
returns g c =
    let h = c.in_ok-found.ensures in
    let chain = rw (c.map.ensures.base, c.map.ensures.f) at h.1 in
    let Q : Vec (Claimed g.row.W-Made.Denot) → Type 0 = λ claimed. AreClaimed (g.W.Work.is_right c.args.work.now) c.args.places claimed.items in
    let both = IfOk_collected (λ v. v.items) (λ (worker : ℕ). Q) _ chain.0 h.0 c.in_ok-found.found chain.2 h.2 in
    if_ok_all (λ v. v.items) Q chain.0 c.in_ok-found.found both

use Rattle.std.proofs.Common.{arith}
use Rattle.std.specs.FinMap as map
use Rattle.hp_base.specs.Mappings.{find}
use Rattle.hp_base.specs.declared.limits.TheConstants.{VPNS}
use Rattle.hp_table.proofs.Agreeing.{found_there, none_there}
use Rattle.hp_table.proofs.Mapped.{there_in_space}
use Rattle.hp_table.proofs.space.Space.page_of.Goals as goal

pub returns-in_err-vpn-clause-none : goal.returns-in_err-vpn-clause-none
returns-in_err-vpn-clause-none c =
    let ms = c.self.inside.mappings.items in
    rw (c.from_residual.ensures, ← c.self.view_is) (λ vpn there.
    let under = there_in_space VPNS 0 ms vpn c.args.file c.args.index c.self.invariant.spread there in
    none_there (find ms) (map.get c.self.inside.entries.frames) c.self.inside.places c.self.invariant.agree c.args.file c.args.index vpn
    (omega (arith, under)) ((c.in_err-vpn.ensures {u = tt}).none vpn (omega (arith, under))) there)

pub returns-clause-found : goal.returns-clause-found
returns-clause-found c =
    rw (← c.self.view_is)
    (found_there (find c.self.inside.mappings.items) (map.get c.self.inside.entries.frames) c.self.inside.places
    c.self.invariant.agree c.args.file c.args.index c.in_ok-vpn.vpn (omega arith) ((c.in_ok-vpn.ensures {u = tt}).found))

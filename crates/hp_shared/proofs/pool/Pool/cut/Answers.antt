use Rattle.std.proofs.Common.{◌≡◌, [], length, ap, arith}
use Rattle.hp_core.specs.State.{as_state}
use Rattle.hp_shared.proofs.Cuts.{no_calls}
use Rattle.hp_shared.proofs.Runs.{cut_origin, follows_copy}
use Rattle.hp_shared.proofs.pool.Pool.cut.Goals as goal

pub copy-requires : goal.copy-requires
copy-requires g c =
    no_calls c.self.inside.core c.args.seats.now c.always.ensures.config
    (c.callers_live.ensures (as_state c.self.inside.core) c.is_reached.ensures)
    (rw (← c.self.view_is) at c.in_ok-is_ready_to_cut.ensures.cut).0.1

pub invariant_of-self : goal.invariant_of-self
invariant_of-self g c =
    let none : c.replace.new.dest.items ≡ [] = rw c.replace.ensures.after c.new.ensures.items in
    let journal = c.self.inside.journal.items in
    let origin =
    cut_origin c.self.inside.first c.self.inside.start c.self.inside.core c.in-Ok.start journal c.self.invariant.origin
    c.self.invariant.run c.in-Ok.ensures.state c.in-Ok.ensures.config in
    let long : c.len.result ≡ length journal = omega (arith, c.len.ensures, c.self.inside.journal.ok) in record {
      origin = (origin.0, omega (arith, origin.1, long), origin.2);
      run = follows_copy c.self.inside.core c.in-Ok.start _ none c.in-Ok.ensures.state c.in-Ok.ensures.config;
      counted = omega (arith, c.empty_seats.ensures.total, c.self.invariant.counted, long, ap length none);
      bound = omega (arith, (rw (← c.self.view_is) at c.in_ok-is_ready_to_cut.ensures.cut).1, long);
    }

use Rattle.std.proofs.Common.{subst, sym}
use Rattle.hp_core.specs.State.{CoreState}
use Rattle.hp_shared.proofs.Waking.{cut_core}
use Rattle.hp_shared.specs.Waking.{AreWatched}
use Rattle.hp_shared.proofs.waiting_room.WaitingRoom.cut.Goals as goal

pub invariant_of-self : goal.invariant_of-self
invariant_of-self g c =
    let same = cut_core c.cut.result c.self.inside.pool c.cut.new.self c.args.seats.now c.cut.new.seats c.cut.ensures.cut
    c.cut.ensures.err in
    subst (λ (core : CoreState). AreWatched core c.self.inside.stances) (sym same) c.self.invariant

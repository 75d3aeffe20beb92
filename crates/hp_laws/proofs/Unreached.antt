-- An allocation adds all that its change found missing, so it never settles.
use Rattle.hp_machine.specs.State.{State}
use Rattle.hp_machine.specs.Events.{IsReached}
use Rattle.hp_laws.specs.Unreached.{AllocAddsAll, AllocNeverSettles}
use Rattle.hp_laws.proofs.Shared.{stands_at}
use Rattle.hp_laws.proofs.Did.{as_missed}
use Rattle.hp_laws.proofs.Runs.{always}

-- it holds the file's lock and the slot of its index, and whoever adds to a reserve map holds one of the two
pub alloc_adds_all : (s : State) → IsReached s → AllocAddsAll s
alloc_adds_all s reached t p e =
    let y = (stands_at s t _ (always s reached).inv e).facts in
    as_missed (s.reserved p.allocation.file) p.pending p.index y.one y.marked y.unmarked

-- so it never stands at settle
pub alloc_never_settles : (s : State) → IsReached s → AllocNeverSettles s
alloc_never_settles s reached t p e = (stands_at s t _ (always s reached).inv e).facts

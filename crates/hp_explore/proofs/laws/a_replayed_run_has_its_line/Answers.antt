use Rattle.hp_explore.proofs.OneLine.{replayed}
use Rattle.hp_explore.proofs.laws.a_replayed_run_has_its_line.Goals as goal

pub returns : goal.returns
returns c =
    λ script seed deny kill run events line first new outcomes explored opens ran.
    replayed script seed deny kill run events line first new outcomes explored opens ran

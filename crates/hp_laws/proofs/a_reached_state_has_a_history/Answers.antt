use Rattle.hp_laws.proofs.Histories.{run_history}
use Rattle.hp_laws.proofs.a_reached_state_has_a_history.Goals as goal

pub returns : goal.returns
returns c = λ frames s reached. let h = run_history s.geometry frames reached.0 s reached.1 in (h.0, h.1)

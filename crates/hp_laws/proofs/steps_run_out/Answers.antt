use Rattle.hp_laws.proofs.Nearing.{step_leaves, step_leaves_all}
use Rattle.hp_laws.proofs.steps_run_out.Goals as goal

pub returns : goal.returns
returns c = λ s reached t grant o after row.
    let w = step_leaves s after t grant o reached row in (w.1, w.2, step_leaves_all s after t grant o reached row)

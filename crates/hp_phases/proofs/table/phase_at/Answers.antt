use Rattle.std.proofs.Math.ListN.{get_or-map}
use Rattle.hp_phases.specs.declared.table.Row.{Row}
use Rattle.hp_phases.proofs.table.phase_at.Goals as goal

pub returns : goal.returns
returns c = rw (← get_or-map (λ (r : Row). r.phase))

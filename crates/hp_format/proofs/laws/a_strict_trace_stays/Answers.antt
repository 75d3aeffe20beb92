use Rattle.hp_format.proofs.Given.{strict_stays}
use Rattle.hp_format.proofs.laws.a_strict_trace_stays.Goals as goal

pub returns : goal.returns
returns c = strict_stays

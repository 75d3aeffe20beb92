use Rattle.hp_format.proofs.LedLines.{strict_has_no_fault}
use Rattle.hp_format.proofs.laws.a_strict_trace_has_no_fault.Goals as goal

pub returns : goal.returns
returns c = strict_has_no_fault

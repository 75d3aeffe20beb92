use Rattle.hp_text.proofs.OneReading.{one_trace, one_bad_line, no_header, no_fault}
use Rattle.hp_text.proofs.laws.bytes_have_one_reading.Goals as goal

pub returns-clause-trace : goal.returns-clause-trace
returns-clause-trace c = one_trace

pub returns-clause-line : goal.returns-clause-line
returns-clause-line c = one_bad_line

pub returns-clause-header : goal.returns-clause-header
returns-clause-header c = no_header

pub returns-clause-either : goal.returns-clause-either
returns-clause-either c = no_fault

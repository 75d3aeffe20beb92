use Rattle.hp_text.proofs.PlainScripts.{plain_spells, plain_waits, trace_spells}
use Rattle.hp_text.proofs.laws.a_plain_script_is_a_trace.Goals as goal

pub returns-clause-trace : goal.returns-clause-trace
returns-clause-trace c = plain_spells

pub returns-clause-waits : goal.returns-clause-waits
returns-clause-waits c = plain_waits

pub returns-clause-script : goal.returns-clause-script
returns-clause-script c = trace_spells

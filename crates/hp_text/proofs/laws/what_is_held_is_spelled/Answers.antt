use Rattle.hp_text.proofs.Whole.{taken, fault_of, end_fault, end_trace}
use Rattle.hp_text.proofs.laws.what_is_held_is_spelled.Goals as goal

pub returns-clause-text : goal.returns-clause-text
returns-clause-text c = λ bytes ok. (taken bytes ok).text

pub returns-clause-lines : goal.returns-clause-lines
returns-clause-lines c = λ bytes ok. (taken bytes ok).are

pub returns-clause-fault : goal.returns-clause-fault
returns-clause-fault c = fault_of

pub returns-clause-end_ok : goal.returns-clause-end_ok
returns-clause-end_ok c =
    λ bytes ok. let t = end_trace bytes ok in record { sizes = t.lines.sizes; events = t.lines.events; spells = t.spells }

pub returns-clause-end_err : goal.returns-clause-end_err
returns-clause-end_err c = end_fault

use Rattle.std.proofs.Common.{rules, tests}
use Rattle.std.proofs.lemmas.Iterator.{cases_from_all, YieldsList-from_slice}
use Rattle.hp_audit.specs.Findings.{IsFileShaped}
use Rattle.hp_audit.proofs.Lists.{all_tells}
use Rattle.hp_audit.proofs.check.are_files_shaped.Goals as goal

pub returns : goal.returns
returns c =
    all_tells IsFileShaped c.all.result c.args.files.now
    (cases_from_all _ _ _ IsFileShaped (λ file. IsFileShaped file → ⊥) c.all.ensures.ran
    (YieldsList-from_slice c.args.files.now cc) (λ x q k. search (rules, tests)) (λ x q k. search (rules, tests)))

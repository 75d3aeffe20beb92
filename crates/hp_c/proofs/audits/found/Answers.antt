-- The core's picture is right, so the audit finds nothing.
use Rattle.std.proofs.Common.{◌≡◌, ◌∙◌, refl}
use Rattle.std.specs.Prelude.{Result, Ok, Err, IsOk}
use Rattle.hp_audit.specs.declared.finding.Finding.{Finding}
use Rattle.hp_c.specs.Audits.{IsAudited, finding_number}
use Rattle.hp_c.proofs.audits.found.Goals as goal

nothing_found : (found : Result (Unit {0}) Finding) → IsOk found → finding_number found ≡ 0
nothing_found (Ok done) is = refl
nothing_found (Err finding) is = absurd (cc)

pub returns-in-Ok-clause-nothing : goal.returns-in-Ok-clause-nothing
returns-in-Ok-clause-nothing c = c.finding_number.ensures ∙ nothing_found _ (c.audit.ensures.ok.1 c.in-Ok.ensures.audited)

pub returns-in-Ok-clause-audited : goal.returns-in-Ok-clause-audited
unfolding IsAudited
returns-in-Ok-clause-audited c = (c.in-Ok.picture, c.in-Ok.ensures.picture, c.in-Ok.ensures.audited)

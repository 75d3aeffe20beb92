use Rattle.std.proofs.Common.{subst}
use Rattle.hp_audit.specs.Findings.{IsRight}
use Rattle.hp_audit.specs.declared.picture.Picture.{Picture}
use Rattle.hp_core.specs.Pictures.{IsPicture}
use Rattle.hp_core.specs.State.{CoreState}
use Rattle.hp_core.proofs.Audited.{right_of}
use Rattle.hp_core.proofs.Headlines.{reached_of}
use Rattle.hp_core.proofs.core_state.Core.every_picture_is_right.Goals as goal

pub returns : goal.returns
returns c =
    subst (λ (s : CoreState). (picture : Picture) → IsPicture s picture → IsRight picture) c.self.view_is
    (λ picture is. right_of _ picture (reached_of _ c.self.invariant) is)

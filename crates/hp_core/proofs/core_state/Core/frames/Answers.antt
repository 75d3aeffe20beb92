use Rattle.std.proofs.Common.{◌∙◌, ap, sym}
use Rattle.hp_machine.specs.Resizes.{is_size}
use Rattle.hp_core.specs.State.{CoreState}
use Rattle.hp_core.specs.Readers.{frames_of}
use Rattle.hp_core.specs.Sound.{IsSound}
use Rattle.hp_core.proofs.Reading.{opened_sized}
use Rattle.hp_core.proofs.Resizes.{actives_is}
use Rattle.hp_core.proofs.core_state.Core.frames.Goals as goal

pub returns : goal.returns
unfolding frames_of IsSound
returns c =
    let same = actives_is c.self.inside.parts.bank.frames in
    let within = c.frames_stay_within_limits.ensures _ _ c.self.invariant.0 (opened_sized _ c.self.invariant) in
    record {
      frames = c.frames.ensures ∙ (sym same ∙ ap (λ (z : CoreState). frames_of z) c.self.view_is);
      within = ap is_size (c.frames.ensures ∙ sym same) ∙ within.0;
    }

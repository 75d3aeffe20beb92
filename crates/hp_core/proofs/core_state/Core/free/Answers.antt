use Rattle.std.proofs.Common.{◌∙◌, ap, sym}
use Rattle.hp_core.specs.State.{CoreState}
use Rattle.hp_core.specs.Readers.{free_of}
use Rattle.hp_parts.proofs.Laws.{free_frames_is}
use Rattle.hp_core.proofs.core_state.Core.free.Goals as goal

pub returns : goal.returns
unfolding free_of
returns c =
    c.free.ensures ∙ (sym (free_frames_is c.self.inside.parts.bank.frames) ∙ ap (λ (z : CoreState). free_of z) c.self.view_is)

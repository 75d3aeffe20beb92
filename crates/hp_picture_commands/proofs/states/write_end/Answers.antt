use Rattle.std.specs.Io.KnownBytes.{Appends}
use Rattle.std.proofs.lemmas.Result.{IfErr-weaker, on_ok_weaker}
use Rattle.hp_base.specs.Text.{sizes}
use Rattle.hp_text.specs.Writing.{Wrote}
use Rattle.hp_picture_commands.specs.States.{IsEndText, IsStateText}
use Rattle.hp_picture_commands.proofs.Written.{at_end, not_done_as, writes_as}
use Rattle.hp_picture_commands.proofs.states.write_end.Goals as goal

pub returns-clause-ok : goal.returns-clause-ok
returns-clause-ok g c =
    on_ok_weaker c.write_state.result
    (writes_as (IsStateText c.in_ok-core.core) (IsEndText (sizes c.args.config) c.args.events.now) Appends _ _
    (at_end c.args.config c.in_ok-core.core c.args.events.now c.in_ok-core.ensures)) c.write_state.ensures.ok

pub returns-clause-err : goal.returns-clause-err
returns-clause-err g c =
    IfErr-weaker c.write_state.result _ _ (λ fault. not_done_as _ _ fault _ _ _ _
    (writes_as (IsStateText c.in_ok-core.core) (IsEndText (sizes c.args.config) c.args.events.now) Wrote _ _
    (at_end c.args.config c.in_ok-core.core c.args.events.now c.in_ok-core.ensures))) c.write_state.ensures.err

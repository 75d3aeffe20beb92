use Rattle.std.proofs.lemmas.Result.{IfErr-weaker}
use Rattle.hp_picture_commands.proofs.Written.{state_written}
use Rattle.hp_picture_commands.proofs.states.write_state.Goals as goal

pub returns-clause-ok : goal.returns-clause-ok
returns-clause-ok g c =
    (state_written c.args.core.now c.in_ok-picture.picture c.counts_of.result _ c.in_ok-picture.ensures.picture
    c.in_ok-picture.ensures.right c.counts_of.ensures.is c.in_ok-places_of.ensures
    (c.counts_of.ensures.short c.in_ok-picture.ensures.right c.in_ok-picture.ensures.few) _ _ _ _ c.write_picture.result
    c.write_picture.ensures.ok c.write_picture.ensures.again c.write_picture.ensures.none c.write_picture.ensures.err
    c.write_picture.ensures.writes).0

pub returns-clause-err : goal.returns-clause-err
returns-clause-err g c =
    (state_written c.args.core.now c.in_ok-picture.picture c.counts_of.result _ c.in_ok-picture.ensures.picture
    c.in_ok-picture.ensures.right c.counts_of.ensures.is c.in_ok-places_of.ensures
    (c.counts_of.ensures.short c.in_ok-picture.ensures.right c.in_ok-picture.ensures.few) _ _ _ _ c.write_picture.result
    c.write_picture.ensures.ok c.write_picture.ensures.again c.write_picture.ensures.none c.write_picture.ensures.err
    c.write_picture.ensures.writes).1

pub returns-clause-fault : goal.returns-clause-fault
returns-clause-fault g c = IfErr-weaker c.write_picture.result _ _ (λ fault h. h.0) c.write_picture.ensures.err

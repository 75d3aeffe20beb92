use Rattle.hp_pool_commands.proofs.tracing.TracerDriver.round.Goals as goal

pub returns-clause-heard : goal.returns-clause-heard
returns-clause-heard c =
    let noted = c.note_calls.ensures in
    let before = c.in_ok-reserve.ensures.items in
    let given = c.as_slice.ensures.value in
    cc

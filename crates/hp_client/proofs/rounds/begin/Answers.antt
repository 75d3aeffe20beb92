use Rattle.hp_client.proofs.Standing.{no_begin}
use Rattle.hp_client.proofs.rounds.begin.Goals as goal

pub unreachable-requires-in_default-outcome : goal.unreachable-requires-in_default-outcome
unreachable-requires-in_default-outcome c =
    no_begin _ _ _ _ _ c.a_begin_begins_or_is_refused.ensures c.in-Ok.ensures.row c.in_default-outcome.not-Begun
    c.in_default-outcome.not-Refused

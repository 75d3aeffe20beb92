use Rattle.std.proofs.Common.{ℕ, subst}
use Rattle.hp_text.specs.Streams.{TellsWrites, failures_of}
use Rattle.hp_program.proofs.Buffered.{did_replay}
use Rattle.hp_program.proofs.replaying.run_replay.Goals as goal

pub returns : goal.returns
returns g c =
    did_replay _ _ _ _ (failures_of c.replay-replayed.new.writer) _ _ _ _ c.replay-replayed.result c.flush_gathered-flushed.result.0
    c.flushed_answer.result c.in-Ok.ensures.contents c.replay-replayed.ensures.ok c.replay-replayed.ensures.err
    c.replay-replayed.ensures.reads
    (subst (λ (n : ℕ). TellsWrites c.replay-replayed.result n (failures_of c.replay-replayed.new.writer))
    c.in-Ok.ensures.failures c.replay-replayed.ensures.writes)
    c.flush_gathered-flushed.ensures.bytes c.flushed_answer.ensures.ok c.flushed_answer.ensures.err

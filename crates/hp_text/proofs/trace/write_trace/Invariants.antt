use Rattle.std.proofs.Common.{◌≡◌}
use Rattle.hp_base.specs.Text.{sizes}
use Rattle.hp_text.proofs.WrittenTraces.{WritingTrace}
use Rattle.hp_text.proofs.trace.write_trace.Given as goal

abbrev pub invariant-loop-event : goal.invariant-loop-event
invariant-loop-event g l =
    WritingTrace (g.W.Sink.contents l.fn.writer) (g.W.Sink.contents l.writer) (sizes l.trace.config)
    l.trace.events.items l.event-index
    × (g.W.Sink.failures l.writer ≡ g.W.Sink.failures l.fn.writer)

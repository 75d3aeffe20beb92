use Rattle.std.proofs.Common.{◌≡◌, ◌+◌}
use Rattle.hp_watch.specs.Holders.{AreHolders}
use Rattle.hp_explain.specs.Rows.{shown_text}
use Rattle.hp_explain.proofs.Happenings.{ToldSoFar}
use Rattle.hp_explain.proofs.rows.write_rows.Given as goal

-- the rows of the events so far, and whom tasks wait for behind them
abbrev pub invariant-loop-event : goal.invariant-loop-event
invariant-loop-event g l =
    ToldSoFar (shown_text l.view l.widths) l.events l.event-index l.fn.run.core l.run.core l.fn.run.holders.items l.run.holders.items
    (g.W.Sink.contents l.fn.writer) (g.W.Sink.contents l.writer)
    × (l.line ≡ l.event-index + 2)
    × (g.W.Sink.failures l.writer ≡ g.W.Sink.failures l.fn.writer)
    × AreHolders l.run.core l.run.holders.items

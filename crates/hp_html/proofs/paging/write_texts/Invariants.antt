-- the texts so far were written
use Rattle.std.proofs.Common.{◌≡◌, take}
use Rattle.std.specs.Io.KnownBytes.{Appends}
use Rattle.std.specs.List.{flat_map}
use Rattle.hp_html.proofs.paging.write_texts.Given as goal

abbrev pub invariant-loop-text : goal.invariant-loop-text
invariant-loop-text g l = record {
  wrote : Appends (g.W.Sink.contents l.fn.writer) (g.W.Sink.contents l.writer) (flat_map (λ text. text.now) (take l.text-index l.texts));
  failures : g.W.Sink.failures l.writer ≡ g.W.Sink.failures l.fn.writer;
}

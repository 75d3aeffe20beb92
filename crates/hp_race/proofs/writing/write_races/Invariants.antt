use Rattle.std.proofs.Common.{◌≡◌}
use Rattle.std.specs.Int.NonZero.{non_zero_u32_get}
use Rattle.std.specs.Option.{option_map}
use Rattle.hp_race.specs.Calls.{is_mortal}
use Rattle.hp_race.proofs.Lines.{SoFar}
use Rattle.hp_race.proofs.writing.write_races.Given as goal

abbrev pub invariant-loop-run : goal.invariant-loop-run
invariant-loop-run g l =
    SoFar (is_mortal l.chances) l.script (option_map non_zero_u32_get l.cut) l.run l.closed (g.W.Sink.contents l.fn.writer)
    (g.W.Sink.contents l.writer)
    × (g.W.Sink.failures l.writer ≡ g.W.Sink.failures l.fn.writer)

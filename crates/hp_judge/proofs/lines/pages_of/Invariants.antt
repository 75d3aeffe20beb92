use Rattle.std.specs.Prelude.{take}
use Rattle.hp_judge.specs.Lines.{HasExactly}
use Rattle.hp_judge.proofs.lines.pages_of.Given as goal

abbrev pub invariant-loop-page : goal.invariant-loop-page
invariant-loop-page l = HasExactly l.pages (take l.page-index l.places.pages)

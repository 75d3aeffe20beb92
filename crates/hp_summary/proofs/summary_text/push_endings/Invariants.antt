use Rattle.std.proofs.Common.{◌≡◌, ◌++◌, take}
use Rattle.std.specs.Prelude.{string_bytes}
use Rattle.std.specs.List.{flat_map}
use Rattle.hp_summary.specs.SummaryText.{ending_line}
use Rattle.hp_summary.proofs.summary_text.push_endings.Given as goal

abbrev pub invariant-loop-ending : goal.invariant-loop-ending
invariant-loop-ending l = string_bytes l.text ≡ string_bytes l.fn.text ++ flat_map (ending_line l.seed) (take l.ending-index l.endings)

use Rattle.std.proofs.Common.{◌≡◌, ◌++◌, take}
use Rattle.std.specs.Prelude.{string_bytes}
use Rattle.std.specs.List.{flat_map}
use Rattle.hp_phases.specs.Phases.{all_phases}
use Rattle.hp_summary.specs.SummaryText.{met_line}
use Rattle.hp_summary.proofs.summary_text.push_pairs.Given as goal

abbrev pub invariant-loop-place : goal.invariant-loop-place
invariant-loop-place l = string_bytes l.text ≡ string_bytes l.fn.text ++ flat_map (met_line l.met l.one) (take l.place all_phases)

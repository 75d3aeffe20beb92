use Rattle.std.proofs.Common.{◌≡◌, ◌++◌}
use Rattle.std.specs.Prelude.{string_bytes}
use Rattle.hp_explain.specs.Layout.{titles}
use Rattle.hp_explain.proofs.layout.push_titles.Given as goal

-- what stands over the columns so far
abbrev pub invariant-loop-number : goal.invariant-loop-number
invariant-loop-number l = string_bytes l.line ≡ string_bytes l.fn.line ++ titles l.compact l.widths l.number

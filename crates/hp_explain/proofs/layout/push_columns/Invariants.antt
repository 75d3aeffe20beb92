use Rattle.std.proofs.Common.{◌≡◌, ◌++◌}
use Rattle.std.specs.Prelude.{string_bytes}
use Rattle.hp_explain.specs.Layout.{columns}
use Rattle.hp_explain.proofs.layout.push_columns.Given as goal

-- the columns so far
abbrev pub invariant-loop-number : goal.invariant-loop-number
invariant-loop-number l = string_bytes l.line ≡ string_bytes l.fn.line ++ columns l.widths l.own l.text l.number

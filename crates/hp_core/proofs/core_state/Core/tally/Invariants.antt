use Rattle.std.specs.Prelude.{◌≡◌, ◌≤◌, ◌*◌}
use Rattle.hp_base.specs.Numbers.{total}
use Rattle.hp_base.specs.declared.limits.TheConstants.{LIMIT}
use Rattle.hp_core.specs.Readers.{reserved_of, pages_of}
use Rattle.hp_core.proofs.core_state.Core.tally.Given as goal

abbrev pub invariant-loop-number : goal.invariant-loop-number
invariant-loop-number l = record {
  all_reserved : l.reserved ≡ total l.number (reserved_of l.self);
  all_pages : l.pages ≡ total l.number (pages_of l.self);
  few_reserved : l.reserved ≤ LIMIT * l.number;
  few_pages : l.pages ≤ LIMIT * l.number;
}

use Rattle.std.proofs.Common.{◌≡◌, ◌+◌, ◌-◌, ◌≤◌, length, replicate, None}
use Rattle.std.specs.Prelude.{◌++◌, vec_capacity}
use Rattle.hp_chunks.proofs.chunk_list.put_behind.Given as goal

abbrev pub invariant-loop : goal.invariant-loop
invariant-loop l = record {
  listed : l.chunks.items ≡ l.fn.chunks.items ++ replicate (l.counter - length l.fn.chunks.items) None;
  behind : length l.fn.chunks.items ≤ l.counter;
  capacity : l.at + 1 ≤ vec_capacity l.chunks;
}

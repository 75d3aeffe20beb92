use Rattle.std.proofs.Common.{◌≡◌, ◌+◌, ◌<◌, ℕ, length, slice_index}
use Rattle.hp_explore.specs.Inverses.{inverse_of}
use Rattle.hp_explore.proofs.remainders.Remainders.new.Given as goal

abbrev pub invariant-loop-place : goal.invariant-loop-place
invariant-loop-place l = record {
  long : length l.inverses ≡ 64;
  made : (k : ℕ) → k < l.place → slice_index l.inverses k ≡ inverse_of (k + 1);
}

use Rattle.std.specs.Prelude.{◌≡◌, ℕ, ◌==◌, ◌&&◌, nat_lt, length, count_by}
use Rattle.hp_base.specs.Indices.{count_below}
use Rattle.hp_base.specs.Numbers.{bit}
use Rattle.hp_frames.specs.Bank.{frame_at, is_free, is_retired}
use Rattle.hp_core.proofs.picture.unused_frames.Given as goal

abbrev pub invariant-loop-number : goal.invariant-loop-number
invariant-loop-number l = record {
  free : (x : ℕ) → count_by (λ frame. frame == x) l.free.items ≡ bit (nat_lt x l.number && is_free (frame_at l.bank.frames x));
  count : length l.free.items ≡ count_below (λ x. is_free (frame_at l.bank.frames x)) l.number;
  retired : (x : ℕ) → count_by (λ frame. frame == x) l.retired.items ≡ bit (nat_lt x l.number && is_retired (frame_at l.bank.frames x));
}

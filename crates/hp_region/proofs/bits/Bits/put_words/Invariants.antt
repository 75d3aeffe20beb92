use Rattle.std.proofs.Common.{◌≡◌, ◌*◌, length}
use Rattle.hp_region.specs.Bits.{has_bit, put_range}
use Rattle.hp_region.proofs.bits.Bits.put_words.Given as goal

abbrev pub invariant-loop-word : goal.invariant-loop-word
invariant-loop-word l = record {
  length : length l.self-inside.words ≡ 64;
  put : has_bit l.self-inside.words ≡ put_range (has_bit l.initial.self-inside.words) (l.first * 64) (l.word * 64) l.value;
}

use Rattle.std.specs.Prelude.{◌≡◌, ℕ, ◌<◌, length, HoldsAt, is_some, slice_index_or}
use Rattle.hp_slots.specs.Holders.{holder_of}
use Rattle.hp_parts.specs.View.{no_file}
use Rattle.hp_core.specs.Copies.{IsCopy}
use Rattle.hp_core.proofs.picture.file_pictures.Given as goal

abbrev pub invariant-loop-number : goal.invariant-loop-number
invariant-loop-number l = record {
  count : length l.pictures.items ≡ l.number;
  each : (f : ℕ) → f < l.number → HoldsAt (IsCopy (slice_index_or l.files f no_file) (is_some (holder_of l.locks f))) l.pictures.items f;
}

-- What a page cache is seen as.
use Rattle.std.specs.Prelude.{ℕ, refl}
use Rattle.std.specs.Ordering.{nat_cmp}
use Rattle.std.specs.FinMap.{FinMap, code}
use Rattle.std.specs.Coded.{Coded, code_by, coded×, coded_ℕ}
use Rattle.hp_chunks.specs.Framed.{ChunkCapacity, chunk_capacity_code}

-- the frame of each index that has a page, and the memory that the cache has taken
pub record Cached : Type 0 where
  pub pages : FinMap nat_cmp ℕ
  pub capacity : ChunkCapacity

-- how a proof tells two of them apart
abbrev pub cached_code : Coded Cached
cached_code =
    code_by (FinMap nat_cmp ℕ × ChunkCapacity) (coded× (code coded_ℕ coded_ℕ) chunk_capacity_code) (λ c. (c.pages, c.capacity))
    (λ p. record { pages = p.0; capacity = p.1 }) (λ _. refl)

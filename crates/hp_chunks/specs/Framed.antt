-- What a map from numbers to frames is seen as, and what is read of it in order.
use Rattle.std.specs.Prelude.{◌≡◌, ℕ, zero, suc, ◌<◌, ◌≤◌, List, [], ◌∷◌, ◌++◌, Option, Some, None, refl}
use Rattle.std.specs.Ordering.{nat_cmp}
use Rattle.std.specs.FinMap.{FinMap, code}
use Rattle.std.specs.Coded.{Coded, code_by, coded×, coded_ℕ}

-- the memory that a map has taken: how many chunks are there, and for how many there is memory to list them
pub record ChunkCapacity : Type 0 where
  pub chunks : ℕ
  pub listed : ℕ

-- how a proof tells two of them apart
abbrev pub chunk_capacity_code : Coded ChunkCapacity
chunk_capacity_code =
    code_by (ℕ × ℕ) (coded× coded_ℕ coded_ℕ) (λ r. (r.chunks, r.listed)) (λ p. record { chunks = p.0; listed = p.1 }) (λ _. refl)

-- no memory
abbrev pub no_chunks : ChunkCapacity
no_chunks = record { chunks = 0; listed = 0 }

-- chunks may have been given back, and as many can be listed as before
abbrev pub NoMoreChunks : (new old : ChunkCapacity) → Type 0
NoMoreChunks new old = (new.chunks ≤ old.chunks) × (new.listed ≡ old.listed)

-- the frame of each number that has one, and the memory that is taken
pub record Framed : Type 0 where
  pub frames : FinMap nat_cmp ℕ
  pub capacity : ChunkCapacity

-- how a proof tells two of them apart
abbrev pub framed_code : Coded Framed
framed_code =
    code_by (FinMap nat_cmp ℕ × ChunkCapacity) (coded× (code coded_ℕ coded_ℕ) chunk_capacity_code) (λ c. (c.frames, c.capacity))
    (λ p. record { frames = p.0; capacity = p.1 }) (λ _. refl)

-- a number with its frame, where it has one
abbrev pub entry_at : ℕ → Option ℕ → List (ℕ × ℕ)
entry_at number None = []
entry_at number (Some frame) = (number, frame) ∷ []

-- the frames of n numbers from one on, in order
unfoldable pub listed : (ℕ → Option ℕ) → (from n : ℕ) → List (ℕ × ℕ)
listed frame_of from zero = []
listed frame_of from (suc n) = entry_at from (frame_of from) ++ listed frame_of (suc from) n

-- the first number at or after `from`, and before `to`, that has a frame, or none where none there does
abbrev pub IsFirstWithin : (ℕ → Option ℕ) → (from to : ℕ) → Option (ℕ × ℕ) → Type 0
IsFirstWithin frame_of from to None = (k : ℕ) → from ≤ k → k < to → frame_of k ≡ None
IsFirstWithin frame_of from to (Some entry) =
    (from ≤ entry.0) × (entry.0 < to) × (frame_of entry.0 ≡ Some entry.1)
    × ((k : ℕ) → from ≤ k → k < entry.0 → frame_of k ≡ None)

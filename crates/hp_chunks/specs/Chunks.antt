-- Frames as they are kept: chunks of places.
use Rattle.std.specs.Prelude.{◌≡◌, ℕ, zero, suc, ◌*◌, ◌/◌, ◌%◌, ◌<◌, List, Option, None, Some, is_some, ⊤}
use Rattle.std.specs.Prelude.{slice_index_or, length, map, count_by, ◌==◌, [], ◌∷◌}
use Rattle.std.specs.Bool.{then_some}
use Rattle.std.specs.Global.{Box}
use Rattle.std.specs.Ordering.{nat_cmp}
use Rattle.std.specs.FinMap as finite
use Rattle.std.specs.Option.{option_map}
use Rattle.hp_chunks.specs.declared.chunk.TheConstants.{PLACES}
use Rattle.hp_chunks.specs.Framed.{ChunkCapacity, Framed}

-- the frame of each place of a chunk, where it has one
abbrev pub Places : Type 0
Places = List (Option ℕ)

-- a chunk, where it is there
abbrev pub Slot : Type 0
Slot = Option (Box Places)

-- a frame where a bit is 1, and none where it is 0
abbrev pub frame_by : (bit frame : ℕ) → Option ℕ
frame_by bit frame = then_some (bit == 1) frame

-- the frames of the places whose bits are 1, the lowest bit for the first place
unfoldable pub where_present : (present : ℕ) → (frames : List ℕ) → Places
where_present present [] = []
where_present present (frame ∷ frames) = frame_by (present % 2) frame ∷ where_present (present / 2) frames

-- some place has a frame
abbrev pub HasFrame : Places → Type 0
HasFrame places = 0 < count_by is_some places

-- a chunk that is kept has all its places, and a frame in one of them
abbrev pub IsKept : Slot → Type 0
IsKept None = ⊤
IsKept (Some chunk) = (length chunk.value ≡ PLACES) × HasFrame chunk.value

-- the frame of a place of a chunk, where it has one
abbrev pub frame_in : Slot → ℕ → Option ℕ
frame_in None place = None
frame_in (Some chunk) place = slice_index_or chunk.value place None

-- the places of a chunk, where it is there
abbrev pub places_of : Slot → Option Places
places_of slot = option_map (λ chunk. chunk.value) slot

-- chunks with the same places, in memory of their own
abbrev pub AreCopies : List Slot → List Slot → Type 0
AreCopies copies chunks = map places_of copies ≡ map places_of chunks

-- the frame of a number
unfoldable pub frame_of : List Slot → ℕ → Option ℕ
frame_of chunks number = frame_in (slice_index_or chunks (number / PLACES) None) (number % PLACES)

-- the memory of the chunks that are there, and of their list
abbrev pub capacity_of : List Slot → (listed : ℕ) → ChunkCapacity
capacity_of chunks listed = record { chunks = count_by is_some chunks; listed = listed }

-- a map with the value of a key, where it has one
abbrev pub with_value : finite.FinMap nat_cmp ℕ → ℕ → Option ℕ → finite.FinMap nat_cmp ℕ
with_value m key None = m
with_value m key (Some value) = finite.insert m key value

-- the keys below a limit that have a value, as a finite map
unfoldable pub map_below : (ℕ → Option ℕ) → ℕ → finite.FinMap nat_cmp ℕ
map_below values zero = finite.empty
map_below values (suc limit) = with_value (map_below values limit) limit (values limit)

-- what a map with these chunks is seen as, where there can be n of them, and memory to list so many
abbrev pub seen_as : ℕ → List Slot → (listed : ℕ) → Framed
seen_as n chunks listed = record { frames = map_below (frame_of chunks) (n * PLACES); capacity = capacity_of chunks listed }

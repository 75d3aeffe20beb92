-- What a thread draws: the words of its generator.
use Rattle.std.specs.Prelude.{ℕ, ◌+◌, ◌%◌, Option, Some, None, nat_lt, if◌then◌else◌}
use Rattle.rand_pcg.specs.Lcg.{Lcg}
use Rattle.rand_pcg.specs.Pcg.{pcg32}

-- the next word of the generator, and the generator behind it
abbrev pub word : Lcg → ℕ
word rng = (pcg32 rng).0

abbrev pub drawn : Lcg → Lcg
drawn rng = (pcg32 rng).1

-- which of so many tasks is killed before a call: the next word, of which `kill` of a thousand do, says whether one is, and the
-- word behind it which
abbrev pub victim : (kill tasks : ℕ) → Lcg → Option ℕ
victim kill tasks rng = if nat_lt (word rng % 1000) kill then Some (1 + word (drawn rng) % tasks) else None

-- the generator behind that
abbrev pub behind_victim : (kill : ℕ) → Lcg → Lcg
behind_victim kill rng = if nat_lt (word rng % 1000) kill then drawn (drawn rng) else drawn rng

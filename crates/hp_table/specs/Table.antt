-- What the space of a task is seen as.
use Rattle.std.specs.Prelude.{◌≡◌, ◌≤◌, ℕ, Bool, List, Option, None, refl, if◌then◌else◌}
use Rattle.std.specs.Ordering.{nat_cmp}
use Rattle.std.specs.FinMap.{FinMap, code}
use Rattle.std.specs.Coded.{Coded, code_by, coded×, coded_list, coded_bool, coded_ℕ}
use Rattle.hp_base.specs.declared.mapping.Mapping.{Mapping}
use Rattle.hp_chunks.specs.Framed.{ChunkCapacity, chunk_capacity_code, no_chunks, NoMoreChunks}

-- the memory that a space has taken: for how many mappings, for how many gaps, for the frames of its translations, and
-- for how many places of translations
pub record SpaceCapacity : Type 0 where
  pub mappings : ℕ
  pub gaps : ℕ
  pub entries : ChunkCapacity
  pub places : ℕ

-- no memory
abbrev pub no_capacity : SpaceCapacity
no_capacity = record { mappings = 0; gaps = 0; entries = no_chunks; places = 0 }

-- what translations took may have been given back, and the lists of mappings and gaps hold as many as before
abbrev pub NoMoreCapacity : (new old : SpaceCapacity) → Type 0
NoMoreCapacity new old = record {
  mappings : new.mappings ≡ old.mappings;
  gaps : new.gaps ≡ old.gaps;
  entries : NoMoreChunks new.entries old.entries;
  places : new.places ≤ old.places;
}

-- the mappings in order of their bases, the frame of each virtual page that is translated, whether capacity for
-- one mapping more is ready, and the memory that the space has taken
pub record Table : Type 0 where
  pub mappings : List Mapping
  pub entries : FinMap nat_cmp ℕ
  pub ready : Bool
  pub capacity : SpaceCapacity

-- entries without those of some pages
abbrev pub cleared : (ℕ → Bool) → (ℕ → Option ℕ) → ℕ → Option ℕ
cleared gone entries v = if gone v then None else entries v

-- how a proof tells two of them apart
abbrev pub mapping_code : Coded Mapping
mapping_code =
    code_by (ℕ × (ℕ × (ℕ × ℕ))) (coded× coded_ℕ (coded× coded_ℕ (coded× coded_ℕ coded_ℕ)))
    (λ m. (m.base, (m.file, (m.from, m.len))))
    (λ p. record { base = p.0; file = p.1.0; from = p.1.1.0; len = p.1.1.1 }) (λ _. refl)

abbrev pub space_capacity_code : Coded SpaceCapacity
space_capacity_code =
    code_by (ℕ × (ℕ × (ChunkCapacity × ℕ))) (coded× coded_ℕ (coded× coded_ℕ (coded× chunk_capacity_code coded_ℕ)))
    (λ r. (r.mappings, (r.gaps, (r.entries, r.places))))
    (λ p. record { mappings = p.0; gaps = p.1.0; entries = p.1.1.0; places = p.1.1.1 }) (λ _. refl)

abbrev pub table_code : Coded Table
table_code =
    code_by (List Mapping × (FinMap nat_cmp ℕ × (Bool × SpaceCapacity)))
    (coded× (coded_list mapping_code) (coded× (code coded_ℕ coded_ℕ) (coded× coded_bool space_capacity_code)))
    (λ t. (t.mappings, (t.entries, (t.ready, t.capacity))))
    (λ p. record { mappings = p.0; entries = p.1.0; ready = p.1.1.0; capacity = p.1.1.1 }) (λ _. refl)

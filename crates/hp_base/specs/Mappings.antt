-- The mappings of a task, as a list in order of their bases (Linux: the VMAs of an `mm_struct`).
use Rattle.std.specs.Prelude.{◌≡◌, ℕ, ◌+◌, ◌-◌, ◌≤◌, ◌<◌, Bool, true, false, ◌==◌, ◌&&◌, ◌||◌, nat_le, nat_lt, Option, Some, None}
use Rattle.std.specs.Prelude.{List, [], ◌∷◌, if◌then◌else◌}
use Rattle.hp_base.specs.Indices.{is_within}
use Rattle.hp_base.specs.declared.mapping.Mapping.{Mapping}

-- the virtual page lies in the mapping
abbrev pub covers : Mapping → ℕ → Bool
covers m v = is_within m.base (m.base + m.len) v

-- the file and the index that a virtual page stands for (Linux: `vma_hugecache_offset`)
abbrev pub find : List Mapping → ℕ → Option (ℕ × ℕ)
find [] v = None
find (m ∷ ms) v = if covers m v then Some (m.file, m.from + (v - m.base)) else find ms v

-- the base of the mapping in which a virtual page lies
abbrev pub base_of : List Mapping → ℕ → Option ℕ
base_of [] v = None
base_of (m ∷ ms) v = if covers m v then Some m.base else base_of ms v

-- the pages [base, base + len) lie in no mapping
abbrev pub is_clear : List Mapping → (base len : ℕ) → Bool
is_clear [] base len = true
is_clear (m ∷ ms) base len = (nat_le (m.base + m.len) base || nat_le (base + len) m.base) && is_clear ms base len

-- and end within the space
abbrev pub fits : (space : ℕ) → List Mapping → (base len : ℕ) → Bool
fits space ms base len = nat_le (base + len) space && is_clear ms base len

-- the least base that fits, or none where none does (Linux: `hugetlb_get_unmapped_area`)
abbrev pub IsRoom : (space : ℕ) → List Mapping → (len : ℕ) → Option ℕ → Type 0
IsRoom space ms len None = (base : ℕ) → fits space ms base len ≡ false
IsRoom space ms len (Some base) = (fits space ms base len ≡ true) × ((other : ℕ) → other < base → fits space ms other len ≡ false)

-- the mappings with one more, which stands before the first whose base is above its own
abbrev pub entered : List Mapping → Mapping → List Mapping
entered [] new = new ∷ []
entered (m ∷ ms) new = if nat_lt new.base m.base then new ∷ m ∷ ms else m ∷ entered ms new

-- some mapping has that base
abbrev pub is_base : List Mapping → ℕ → Bool
is_base [] base = false
is_base (m ∷ ms) base = (m.base == base) || is_base ms base

-- the virtual page lies in the mapping with that base
abbrev pub in_mapping : List Mapping → (base vpn : ℕ) → Bool
in_mapping [] base v = false
in_mapping (m ∷ ms) base v = if m.base == base then covers m v else in_mapping ms base v

-- the mappings without the one with that base
abbrev pub without : List Mapping → (base : ℕ) → List Mapping
without [] base = []
without (m ∷ ms) base = if m.base == base then ms else m ∷ without ms base

-- the least base of a mapping: that of the first
abbrev pub first_base : List Mapping → Option ℕ
first_base [] = None
first_base (m ∷ ms) = Some m.base

-- what was found is that file and index
abbrev pub is_there : Option (ℕ × ℕ) → (file index : ℕ) → Bool
is_there None f i = false
is_there (Some place) f i = (place.0 == f) && (place.1 == i)

-- the entries without those that stand for that file and index
unfoldable pub without_index : List Mapping → (ℕ → Option ℕ) → (file index : ℕ) → ℕ → Option ℕ
without_index mappings entries f i = λ v. if is_there (find mappings v) f i then None else entries v

-- the entries without those of the mapping that begins at base
unfoldable pub without_mapping : List Mapping → (ℕ → Option ℕ) → (base : ℕ) → ℕ → Option ℕ
without_mapping mappings entries base = λ v. if in_mapping mappings base v then None else entries v

-- each mapping has a page, and ends where or before the next begins; all end within the space
abbrev pub IsSpread : (space low : ℕ) → List Mapping → Type 0
IsSpread space low [] = low ≤ space
IsSpread space low (m ∷ ms) = (low ≤ m.base) × (1 ≤ m.len) × IsSpread space (m.base + m.len) ms

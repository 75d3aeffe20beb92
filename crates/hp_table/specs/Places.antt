-- Which virtual pages that are translated stand for an index of a file.
use Rattle.std.specs.Prelude.{◌≡◌, ℕ, ◌^◌, ◌<◌, Bool, ◌&&◌, ◌==◌, Option, is_some}
use Rattle.std.specs.BTreeSet.{BTreeSet, contains}
use Rattle.std.specs.Ordering.{nat_cmp, ordering_then}
use Rattle.std.specs.declared.cmp.Ordering.{Ordering}
use Rattle.hp_base.specs.Mappings.{is_there}
use Rattle.hp_table.specs.declared.places.Place.{Place}

-- places are in order of the files, then of the indices and then of the pages
abbrev pub place_cmp : Place → Place → Ordering
place_cmp a b = ordering_then (nat_cmp a.file b.file) (ordering_then (nat_cmp a.index b.index) (nat_cmp a.vpn b.vpn))

-- the place is in the set
abbrev pub stands : BTreeSet Place → Place → Bool
stands places place = contains place_cmp places place

-- two places are one
abbrev pub is_place : Place → Place → Bool
is_place a b = (a.file == b.file) && (a.index == b.index) && (a.vpn == b.vpn)

-- the places are those of the pages with an entry, each with the file and the index for which its page stands
unfoldable pub Agrees : (ℕ → Option (ℕ × ℕ)) → (ℕ → Option ℕ) → BTreeSet Place → Type 0
Agrees find entries places = (file index vpn : ℕ) → vpn < 2 ^ 32
    → stands places (record { file = file; index = index; vpn = vpn }) ≡ (is_some (entries vpn) && is_there (find vpn) file index)

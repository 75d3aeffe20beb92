-- Which layouts have a place for all that is drawn.
use Rattle.std.specs.Prelude.{◌≡◌, ℕ, ◌+◌, ◌*◌, ◌⊎◌, ◌<◌, ◌≤◌, List, [], ◌∷◌, Option, Some, None, IsSome, IsTrue, Bool, false}
use Rattle.std.specs.Prelude.{All, Any, get_or, length, unwrap_or}
use Rattle.hp_draw.specs.Sketches.{Drawn}
use Rattle.hp_draw.specs.declared.following.Numbers.{Numbers}
use Rattle.hp_draw.specs.declared.layout.Layout.{Layout}
use Rattle.hp_draw.specs.declared.layout.TheConstants.{TOP}

-- each stay, each mark and each wait stands in one of the columns
pub record InColumns (d : Drawn) : Type 0 where
  pub stays : All (λ s. s.column < length d.open_stays) d.stays
  pub marks : All (λ m. m.column < length d.open_stays) d.marks
  pub waits : All (λ w. w.column < length d.open_stays) d.waits

-- a stay, a mark or a wait stands in the column
abbrev pub IsIn : Drawn → (column : ℕ) → Type 0
IsIn d column = Any (λ s. s.column ≡ column) d.stays ⊎ Any (λ m. m.column ≡ column) d.marks ⊎ Any (λ w. w.column ≡ column) d.waits

-- no other column is found
abbrev pub FindsNoOther : Drawn → (found : List Bool) → Type 0
FindsNoOther d found = (column : ℕ) → IsTrue (get_or found column false) → IsIn d column

-- the column has a lane
abbrev pub HasLane : Layout → (column : ℕ) → Type 0
HasLane l column = IsSome (get_or l.tops.items column None)

-- lanes that are so tall stand one below the other, from one height on down to another
abbrev pub StandBelow : (tall from : ℕ) → List (Option ℕ) → (foot : ℕ) → Type 0
StandBelow tall from [] foot = from ≤ foot
StandBelow tall from (None ∷ more) foot = StandBelow tall from more foot
StandBelow tall from (Some top ∷ more) foot = (from ≤ top) × StandBelow tall (top + tall) more foot

-- curves that show so much at the most, the upper and the lower ones, show these counts
abbrev pub HaveRoom : (most_free most_resv : ℕ) → Numbers → Type 0
HaveRoom most_free most_resv n =
    (n.free ≤ most_free) × (n.resv ≤ most_free) × (n.used ≤ most_free) × (n.resv ≤ most_resv) × (n.bare ≤ most_resv)

-- so much is 1, or a count of some moment that the upper curves show, or that the lower ones show
abbrev pub IsUpper : List Numbers → (most : ℕ) → Type 0
IsUpper numbers most = (most ≡ 1) ⊎ Any (λ n. (most ≡ n.free) ⊎ (most ≡ n.resv) ⊎ (most ≡ n.used)) numbers

abbrev pub IsLower : List Numbers → (most : ℕ) → Type 0
IsLower numbers most = (most ≡ 1) ⊎ Any (λ n. (most ≡ n.resv) ⊎ (most ≡ n.bare)) numbers

-- curves that show so much at the most show the quota too, or it is more than four times as much
abbrev pub FitsOrIsFar : (quota most_free : ℕ) → Type 0
FitsOrIsFar quota most_free = (quota ≤ most_free) ⊎ (4 * most_free < quota)

-- so much is the quota, and at most four times that count
abbrev pub IsNear : (quota : Option ℕ) → (count most_free : ℕ) → Type 0
IsNear quota count most_free = (quota ≡ Some most_free) × (most_free ≤ 4 * count)

-- The upper curves show no more than they must: the most is 1, a count, or a quota that is at most four times one of these
abbrev pub IsUpperOrQuota : (quota : Option ℕ) → List Numbers → (most_free : ℕ) → Type 0
IsUpperOrQuota quota numbers most_free = IsUpper numbers most_free ⊎ ((count : ℕ) × IsUpper numbers count × IsNear quota count most_free)

-- The picture is as wide as these many events, each event has a width and each box a height. A column has a lane exactly where a stay,
-- a mark or a wait stands in it: below those before it, and above the curves. These have room for all counts, and the upper ones for a
-- quota that isn't far above; and they show no more than the most of these
pub record HasPlaces (quota : Option ℕ) (events : ℕ) (d : Drawn) (l : Layout) : Type 0 where
  pub wide : l.events ≡ events
  pub step : 0 < l.step
  pub tall : 0 < l.tall
  pub stays : All (λ s. HasLane l s.column) d.stays
  pub marks : All (λ m. HasLane l m.column) d.marks
  pub waits : All (λ w. HasLane l w.column) d.waits
  pub others : (column : ℕ) → HasLane l column → IsIn d column
  pub lanes : StandBelow l.tall TOP l.tops.items l.foot
  pub counts : All (HaveRoom l.most_free l.most_resv) d.numbers
  pub quota_fits : FitsOrIsFar (unwrap_or quota 0) l.most_free
  pub upper : IsUpperOrQuota quota d.numbers l.most_free
  pub lower : IsLower d.numbers l.most_resv

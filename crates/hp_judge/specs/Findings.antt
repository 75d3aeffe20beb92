-- What is wrong with a picture: a line for each kind of finding.
use Rattle.std.specs.Prelude.{◌≡◌, ◌≢◌, ◌⊎◌, ℕ, ◌<◌, ◌≤◌, ◌<ℤ◌, pos, ◌==◌, ◌++◌, ◌∷◌, [], Bool, cond, Option, Some, None, List, IsSomeAnd, Contains, All, count_by, length, map}
use Rattle.hp_picture.specs.Pictures.{PlacesState}
use Rattle.hp_picture.specs.declared.picture.Counts.{Counts}
use Rattle.hp_judge.specs.declared.finding.Clause.{Clause}
use Rattle.hp_judge.specs.declared.finding.Clause.TheVariants.{Region, Page}
use Rattle.hp_judge.specs.declared.finding.Finding.{Finding}
use Rattle.hp_judge.specs.declared.finding.Finding.TheVariants as finding
use Rattle.hp_judge.specs.Lines.{AllKeep, Keeps, lines_of}
use Rattle.hp_judge.specs.Counts.{wanted_count, wanted_used}

-- the frames of all places, each as often as it is at one
abbrev pub frames_of : PlacesState → List ℕ
frames_of p = p.free ++ p.retired ++ p.hands ++ map (λ page. page.2) p.pages

-- all regions and pages are right, so that what is reserved can be counted
abbrev pub CanCount : PlacesState → Type 0
CanCount p = AllKeep p Region × AllKeep p Page

-- the reserve count is below zero, or above the free frames
abbrev pub IsAboveFree : Counts → PlacesState → Type 0
IsAboveFree c p = (c.resv <ℤ pos 0) ⊎ (pos (length p.free) <ℤ c.resv)

-- the used count is below zero, or above the quota
abbrev pub IsAboveQuota : Counts → Type 0
IsAboveQuota c = (c.used <ℤ pos 0) ⊎ IsSomeAnd c.quota (λ most. pos most <ℤ c.used)

-- the line of some number doesn't keep the clause
unfoldable pub IsUnkept : PlacesState → Clause → Finding → Type 0
IsUnkept p clause f = (n : ℕ) × (f ≡ finding.Line clause n) × (n < lines_of p clause) × (¬ Keeps p clause n)

-- that is wrong with a picture of these counts and places
abbrev pub IsFinding : Counts → PlacesState → Finding → Type 0
IsFinding c p (finding.Line clause n) = (n < lines_of p clause) × (¬ Keeps p clause n)
IsFinding c p (finding.Place x) = 2 ≤ count_by (λ frame. frame == x) (frames_of p)
IsFinding c p (finding.Count wanted) = CanCount p × (wanted ≡ wanted_count c p) × (c.resv ≢ wanted)
IsFinding c p finding.Free = IsAboveFree c p
IsFinding c p (finding.Used wanted) = CanCount p × (wanted ≡ wanted_used c p) × (c.used ≢ wanted)
IsFinding c p finding.Quota = IsAboveQuota c

-- the same by kinds: of lines, ..
unfoldable pub IsLineFinding : PlacesState → Finding → Type 0
IsLineFinding p f = (clause : Clause) × IsUnkept p clause f

-- .. of counts that can be counted, ..
unfoldable pub IsCountFinding : Counts → PlacesState → Finding → Type 0
IsCountFinding c p f =
    ((f ≡ finding.Count (wanted_count c p)) × (c.resv ≢ wanted_count c p)) ⊎ ((f ≡ finding.Used (wanted_used c p)) × (c.used ≢ wanted_used c p))

-- .. and of counts above what they may be
unfoldable pub IsBoundFinding : Counts → PlacesState → Finding → Type 0
IsBoundFinding c p f =
    ((f ≡ finding.Free) × IsAboveFree c p) ⊎ ((f ≡ finding.Quota) × IsAboveQuota c)

-- these are all findings of which P holds, behind those before
pub record Adds (P : Finding → Type 0) (before after : List Finding) : Type 0 where
  pub more : List Finding
  pub behind : after ≡ before ++ more
  pub each : All P more
  pub every : (f : Finding) → P f → Contains more f

-- the line of this number is added, or it keeps the clause
abbrev pub AddsOne : PlacesState → Clause → (number : ℕ) → (before after : List Finding) → Type 0
AddsOne p clause n before after =
    ((after ≡ before ++ finding.Line clause n ∷ []) × (¬ Keeps p clause n)) ⊎ ((after ≡ before) × Keeps p clause n)

-- so far, those lines below a number that don't keep the clause
abbrev pub AddsBelow : PlacesState → Clause → (number : ℕ) → (before after : List Finding) → Type 0
AddsBelow p clause number before after =
    Adds (λ f. (n : ℕ) × (f ≡ finding.Line clause n) × (n < number) × (¬ Keeps p clause n)) before after

-- the finding is added, where the flag is true
abbrev pub AddsIf : Bool → Finding → (before after : List Finding) → Type 0
AddsIf flag f before after = after ≡ before ++ cond flag (f ∷ []) []

-- the finding is added, if there is one
abbrev pub AddsSome : Option Finding → (before after : List Finding) → Type 0
AddsSome None before after = after ≡ before
AddsSome (Some f) before after = after ≡ before ++ f ∷ []

-- all findings of counts are added, where these can be counted
unfoldable pub AddsCounts : Counts → PlacesState → (before after : List Finding) → Type 0
AddsCounts c p before after = Adds (λ f. CanCount p × IsCountFinding c p f) before after

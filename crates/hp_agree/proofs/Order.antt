-- Files are listed in order, or some line of a region or a page isn't right.
use Rattle.std.proofs.Common.{◌≡◌, ℕ, zero, suc, ◌+◌, ◌-◌, ◌<◌, ◌≤◌, ◌⊎◌, List, [], ◌∷◌}
use Rattle.std.proofs.Common.{length, map, get_or, inl, inr, ◌∙◌, subst, arith}
use Rattle.std.specs.Prelude.{All, AllPairs, HoldsAt}
use Rattle.std.proofs.lemmas.Bool.{cases_eq, cases_lt}
use Rattle.std.proofs.lemmas.List.{get_or_default}
use Rattle.std.proofs.lemmas.List.Elements.{All-from_get_or}
use Rattle.hp_audit.specs.declared.picture.FilePicture.{FilePicture}
use Rattle.hp_audit.specs.declared.picture.Picture.{Picture}
use Rattle.hp_judge.proofs.Ordered.{behind_all}
use Rattle.hp_judge.specs.Lines.{AllKeep, IsPage, IsPageBehind, IsRegion, IsRegionBehind, most_indices, page_at, region_at}
use Rattle.hp_judge.specs.declared.finding.Clause.TheVariants as clauses
use Rattle.hp_picture.specs.Pictures.{PlacesState}
use Rattle.hp_agree.specs.Agreement.{FindsLine}
use Rattle.hp_agree.specs.Flat.{numbered, places_of}
use Rattle.hp_agree.specs.Listed.{IsInLimit, IsListed}
use Rattle.hp_agree.proofs.Either.{IsEither, all_below, both, less_or_not, turned}
use Rattle.hp_agree.proofs.Kept.{pages_keep, pages_of, regions_keep}
use Rattle.hp_agree.proofs.Lists.{all_left, all_right, all_unmap, pairs_chain, pairs_left, pairs_right, pairs_unmap}
use Rattle.hp_agree.proofs.Numbered.{regions_of, with_number}

-- what holds of each entry holds of each file's
of_each : {A : Type 0} (of : FilePicture → List (ℕ × A)) (P : ℕ × ℕ × A → Type 0) (n : ℕ) (files : List FilePicture)
    → All P (numbered of n files) → (m k : ℕ) → m ≡ n + k → k < length files
    → HoldsAt (λ file. All (λ entry. P (m, entry.0, entry.1)) (of file)) files k
unfolding numbered
of_each of P n [] all m k is within d = absurd (omega (arith, within))
of_each of P n (file ∷ files) all m zero is within d =
    let same : n ≡ m = omega (arith, is) in
    subst (λ (x : ℕ). All (λ entry. P (x, entry.0, entry.1)) (of file)) same
    (all_unmap P (with_number n) (of file) (all_left P (map (with_number n) (of file)) (numbered of (n + 1) files) all))
of_each of P n (file ∷ files) all m (suc k) is within d =
    of_each of P (n + 1) files (all_right P (map (with_number n) (of file)) (numbered of (n + 1) files) all) m k (omega (arith, is))
    (omega (arith, within)) d

-- and what holds of each two
of_pairs : {A : Type 0} (of : FilePicture → List (ℕ × A)) (R : ℕ × ℕ × A → ℕ × ℕ × A → Type 0) (n : ℕ) (files : List FilePicture)
    → AllPairs R (numbered of n files) → (m k : ℕ) → m ≡ n + k → k < length files
    → HoldsAt (λ file. AllPairs (λ entry other. R (m, entry.0, entry.1) (m, other.0, other.1)) (of file)) files k
unfolding numbered
of_pairs of R n [] all m k is within d = absurd (omega (arith, within))
of_pairs of R n (file ∷ files) all m zero is within d =
    let same : n ≡ m = omega (arith, is) in
    subst (λ (x : ℕ). AllPairs (λ entry other. R (x, entry.0, entry.1) (x, other.0, other.1)) (of file)) same
    (pairs_unmap R (with_number n) (of file) (pairs_left R (map (with_number n) (of file)) (numbered of (n + 1) files) all))
of_pairs of R n (file ∷ files) all m (suc k) is within d =
    of_pairs of R (n + 1) files (pairs_right R (map (with_number n) (of file)) (numbered of (n + 1) files) all) m k (omega (arith, is))
    (omega (arith, within)) d

-- a page behind one of the same file is of a later index
later_page : (file : ℕ) (one other : ℕ × ℕ) → IsPageBehind (file, one.0, one.1) (file, other.0, other.1) → one.0 < other.0
later_page file one other (inl later) = absurd (omega (arith, later))
later_page file one other (inr behind) = behind.1

-- and a region begins behind the other's end
later_region : (file : ℕ) (one other : ℕ × ℕ) → IsRegionBehind (file, one.0, one.1) (file, other.0, other.1) → one.1 < other.0
later_region file one other (inl later) = absurd (omega (arith, later))
later_region file one other (inr behind) = behind.1

-- a page behind one that is behind a third is behind that
page_joins : (x y z : ℕ × ℕ × ℕ) → IsPageBehind x y → IsPageBehind y z → IsPageBehind x z
page_joins x y z (inl a) (inl b) = inl (omega (arith, a, b))
page_joins x y z (inl a) (inr b) = inl (omega (arith, a, b.0))
page_joins x y z (inr a) (inl b) = inl (omega (arith, a.0, b))
page_joins x y z (inr a) (inr b) = inr (a.0 ∙ b.0, omega (arith, a.1, b.1))

-- each page that is right lies behind all before it
pages_behind : (p : PlacesState) → AllKeep p clauses.Page → AllPairs IsPageBehind p.pages
pages_behind p keep = pairs_chain IsPageBehind page_joins p.pages (0, 0, 0) next
  where
    next : (n : ℕ) → n + 1 < length p.pages → IsPageBehind (page_at p n) (page_at p (n + 1))
    next n within =
        let same : n + 1 - 1 ≡ n = omega arith in
        subst (λ (k : ℕ). IsPageBehind (page_at p k) (page_at p (n + 1))) same ((keep (n + 1) within).behind (omega arith))

-- and so does each region
regions_behind : (p : PlacesState) → AllKeep p clauses.Region → AllPairs IsRegionBehind p.regions
regions_behind p keep i j d lt within =
    subst (λ (y : ℕ × ℕ × ℕ). IsRegionBehind (get_or p.regions i d) y) (get_or_default p.regions j (0, 0, 0) d within)
    (subst (λ (x : ℕ × ℕ × ℕ). IsRegionBehind x (region_at p j)) (get_or_default p.regions i (0, 0, 0) d (omega (arith, lt, within)))
    (behind_all p keep i j lt within))

-- so files whose lines are right are listed in order
listed : (p : Picture) → AllKeep (places_of p) clauses.Region × AllKeep (places_of p) clauses.Page → IsListed p
listed p (regions, pages) k d within =
    record {
      some = of_each regions_of (λ region. region.1 < region.2) 0 files some k k (omega arith) within d;
      apart = λ i j e lt short. later_region k (get_or (regions_of file) i e) (get_or (regions_of file) j e)
          (of_pairs regions_of IsRegionBehind 0 files (regions_behind (places_of p) regions) k k (omega arith) within d i j e lt short);
      in_order = λ i j e lt short. later_page k (get_or (pages_of file) i e) (get_or (pages_of file) j e)
          (of_pairs pages_of IsPageBehind 0 files (pages_behind (places_of p) pages) k k (omega arith) within d i j e lt short);
    }
  where
    files : List FilePicture
    files = p.files.items

    file : FilePicture
    file = get_or files k d

    some : All (λ region. region.1 < region.2) (numbered regions_of 0 files)
    some = All-from_get_or (λ (region : ℕ × ℕ × ℕ). region.1 < region.2) (places_of p).regions (0, 0, 0) (λ n short. (regions n short).some)

-- of a later file or behind it in the same, or not
behind_or_not : (file other end next : ℕ) → ((file < other) ⊎ ((file ≡ other) × (end < next)))
    ⊎ ((file < other) ⊎ ((file ≡ other) × (end < next)) → ⊥)
behind_or_not file other end next = by (cases_lt file other) (cases_eq file other) (less_or_not end next)
  where
    never : (file < other → ⊥) → ((file ≡ other) × (end < next) → ⊥) → (file < other) ⊎ ((file ≡ other) × (end < next)) → ⊥
    never early apart (inl later) = early later
    never early apart (inr behind) = apart behind

    by : (file < other) ⊎ (other ≤ file) → (file ≡ other) ⊎ (file ≡ other → ⊥) → (end < next) ⊎ (end < next → ⊥)
        → ((file < other) ⊎ ((file ≡ other) × (end < next))) ⊎ ((file < other) ⊎ ((file ≡ other) × (end < next)) → ⊥)
    by (inl later) same less = inl (inl later)
    by (inr more) (inl same) (inl less) = inl (inr (same, less))
    by (inr more) (inl same) (inr not) = inr (never (λ later. omega (arith, more, later)) (λ behind. not behind.1))
    by (inr more) (inr other_file) less = inr (never (λ later. omega (arith, more, later)) (λ behind. other_file behind.0))

-- it holds behind another, if there is one before
if_later : (P : Type 0) (n : ℕ) → P ⊎ (P → ⊥) → (0 < n → P) ⊎ ((0 < n → P) → ⊥)
if_later P zero test = inl (λ later. absurd (omega (arith, later)))
if_later P (suc n) (inl is) = inl (λ later. is)
if_later P (suc n) (inr not) = inr (λ all. not (all (omega arith)))

-- a line of a region is right, or it isn't
region_or_not : (p : PlacesState) (n : ℕ) → IsRegion p n ⊎ (IsRegion p n → ⊥)
region_or_not p n =
    by (less_or_not (region_at p n).0 (length p.files)) (less_or_not (region_at p n).1 (region_at p n).2)
    (less_or_not (region_at p n).2 (most_indices + 1)) (if_later (IsRegionBehind (region_at p (n - 1)) (region_at p n)) n
    (behind_or_not (region_at p (n - 1)).0 (region_at p n).0 (region_at p (n - 1)).2 (region_at p n).1))
  where
    by : ((region_at p n).0 < length p.files) ⊎ ((region_at p n).0 < length p.files → ⊥)
        → ((region_at p n).1 < (region_at p n).2) ⊎ ((region_at p n).1 < (region_at p n).2 → ⊥)
        → ((region_at p n).2 < most_indices + 1) ⊎ ((region_at p n).2 < most_indices + 1 → ⊥)
        → (0 < n → IsRegionBehind (region_at p (n - 1)) (region_at p n))
        ⊎ ((0 < n → IsRegionBehind (region_at p (n - 1)) (region_at p n)) → ⊥)
        → IsRegion p n ⊎ (IsRegion p n → ⊥)
    by (inl file) (inl some) (inl few) (inl behind) = inl (record { file = file; some = some; few = omega (arith, few); behind = behind })
    by (inr not) some few behind = inr (λ is. not is.file)
    by (inl file) (inr not) few behind = inr (λ is. not is.some)
    by (inl file) (inl some) (inr not) behind = inr (λ is. not (omega (arith, is.few)))
    by (inl file) (inl some) (inl few) (inr not) = inr (λ is. not is.behind)

-- and so a line of a page
page_or_not : (p : PlacesState) (n : ℕ) → IsPage p n ⊎ (IsPage p n → ⊥)
page_or_not p n =
    by (less_or_not (page_at p n).0 (length p.files)) (less_or_not (page_at p n).1 most_indices)
    (if_later (IsPageBehind (page_at p (n - 1)) (page_at p n)) n
    (behind_or_not (page_at p (n - 1)).0 (page_at p n).0 (page_at p (n - 1)).1 (page_at p n).1))
  where
    by : ((page_at p n).0 < length p.files) ⊎ ((page_at p n).0 < length p.files → ⊥)
        → ((page_at p n).1 < most_indices) ⊎ ((page_at p n).1 < most_indices → ⊥)
        → (0 < n → IsPageBehind (page_at p (n - 1)) (page_at p n)) ⊎ ((0 < n → IsPageBehind (page_at p (n - 1)) (page_at p n)) → ⊥)
        → IsPage p n ⊎ (IsPage p n → ⊥)
    by (inl file) (inl few) (inl behind) = inl (record { file = file; few = few; behind = behind })
    by (inr not) few behind = inr (λ is. not is.file)
    by (inl file) (inr not) behind = inr (λ is. not is.few)
    by (inl file) (inl few) (inr not) = inr (λ is. not is.behind)

-- so files are listed in order, or a wrong line of a region or a page is found
pub order : (p : Picture) → IsInLimit p → IsEither (IsListed p) (FindsLine p clauses.Region ⊎ FindsLine p clauses.Page)
order p limit =
    turned (listed p) (λ is. (regions_keep p is limit, pages_keep p is limit)) (λ found. found) (λ found. found)
    (both (all_below (IsRegion (places_of p)) (region_or_not (places_of p)) (length (places_of p).regions))
    (all_below (IsPage (places_of p)) (page_or_not (places_of p)) (length (places_of p).pages)))

-- What lines of files that are listed in order keep, and what is counted in them.
use Rattle.std.proofs.Common.{◌≡◌, ℕ, ◌+◌, ◌-◌, ◌<◌, ◌≤◌, Bool, cond, List, length, get_or, sym, ap, arith}
use Rattle.std.specs.Prelude.{All, AllPairs, sum_by, pos, ◌+ℤ◌, ◌-ℤ◌}
use Rattle.std.proofs.lemmas.Int.{ints}
use Rattle.std.proofs.lemmas.List.{length-map}
use Rattle.hp_audit.specs.Findings as audit
use Rattle.hp_audit.specs.declared.picture.FilePicture.{FilePicture}
use Rattle.hp_audit.specs.declared.picture.Picture.{Picture}
use Rattle.hp_base.specs.declared.limits.TheConstants.{LIMIT}
use Rattle.hp_judge.specs.Counts as judge
use Rattle.hp_judge.specs.Findings.{CanCount}
use Rattle.hp_judge.specs.Lines.{AllKeep, IsPageBehind, IsRegionBehind, page_at, region_at}
use Rattle.hp_judge.specs.declared.finding.Clause.TheVariants.{Page, Region}
use Rattle.hp_agree.specs.Flat.{counts_of, numbered, places_of}
use Rattle.hp_agree.specs.Listed.{IsInLimit, IsListed}
use Rattle.hp_agree.proofs.Lists.{sums_add}
use Rattle.hp_agree.proofs.Numbered.{numbered_all, numbered_pairs, numbered_reserved, numbered_sum, regions_of}
use Rattle.hp_agree.proofs.Reserved.{reserved_by_regions, reserved_pages_of, vacant_or_paged}

-- a file's pages
abbrev pub pages_of : FilePicture → List (ℕ × ℕ)
pages_of file = file.pages.items

-- the size of each file, and whether it is locked
abbrev pub shape_of : FilePicture → ℕ × Bool
shape_of file = (file.size, file.locked)

-- what a region keeps by itself
abbrev IsRegionAlone : (files : ℕ) → ℕ × ℕ × ℕ → Type 0
IsRegionAlone files region = (region.0 < files) × (region.1 < region.2) × (region.2 ≤ LIMIT)

-- regions that are listed in order are right, line by line
pub regions_keep : (p : Picture) → IsListed p → IsInLimit p → AllKeep (places_of p) Region
regions_keep p listed limit n within =
    record {
      file = omega (arith, here.0, length-map files shape_of);
      some = here.1;
      few = omega (arith, here.2);
      behind = λ later. pairs (n - 1) n (0, 0, 0) (omega (arith, later)) within;
    }
  where
    files : List FilePicture
    files = p.files.items

    each : All (IsRegionAlone (length files)) (numbered regions_of 0 files)
    each =
        numbered_all regions_of (IsRegionAlone (length files)) 0 files (λ m k is below d j e lt.
        (omega (arith, is, below), (listed k d below).some j e lt, (limit.files k d below).regions j e lt))

    here : IsRegionAlone (length files) (region_at (places_of p) n)
    here = each n (0, 0, 0) within

    pairs : AllPairs IsRegionBehind (numbered regions_of 0 files)
    pairs = numbered_pairs regions_of (λ one other. one.1 < other.0) 0 files (λ k d below. (listed k d below).apart)

-- what a page keeps by itself
abbrev IsPageAlone : (files : ℕ) → ℕ × ℕ × ℕ → Type 0
IsPageAlone files page = (page.0 < files) × (page.1 < LIMIT)

-- and so are pages
pub pages_keep : (p : Picture) → IsListed p → IsInLimit p → AllKeep (places_of p) Page
pages_keep p listed limit n within =
    record {
      file = omega (arith, here.0, length-map files shape_of);
      few = omega (arith, here.1);
      behind = λ later. pairs (n - 1) n (0, 0, 0) (omega (arith, later)) within;
    }
  where
    files : List FilePicture
    files = p.files.items

    each : All (IsPageAlone (length files)) (numbered pages_of 0 files)
    each =
        numbered_all pages_of (IsPageAlone (length files)) 0 files (λ m k is below d j e lt.
        (omega (arith, is, below), (limit.files k d below).pages j e lt))

    here : IsPageAlone (length files) (page_at (places_of p) n)
    here = each n (0, 0, 0) within

    pairs : AllPairs IsPageBehind (numbered pages_of 0 files)
    pairs = numbered_pairs pages_of (λ one other. one.0 < other.0) 0 files (λ k d below. (listed k d below).in_order)

-- so what is reserved can be counted
pub can_count : (p : Picture) → IsListed p → IsInLimit p → CanCount (places_of p)
can_count p listed limit = (regions_keep p listed limit, pages_keep p listed limit)

-- as many indices are reserved by the lines as by the files
pub reserved_same : (p : Picture) → IsListed p → IsInLimit p → judge.reserved_in (places_of p) ≡ audit.reserved_in p
unfolding judge.reserved_in audit.reserved_of
reserved_same p listed limit =
    numbered_sum regions_of judge.size_of audit.reserved_of 0 p.files.items (λ m k is below d.
    sym (reserved_by_regions (get_or p.files.items k d).regions.items LIMIT (limit.files k d below).regions (listed k d below).apart))

-- and as many pages have such an index
pages_same : (p : Picture) → judge.reserved_pages_in (places_of p) ≡ sum_by reserved_pages_of p.files.items
unfolding judge.reserved_pages_in
pages_same p =
    let files = p.files.items in
    let flat = numbered regions_of 0 files in
    numbered_sum pages_of (λ page. cond (judge.is_reserved flat page.0 page.1) 1 0) reserved_pages_of 0 files (λ m k is below d i.
    sum_by (λ (page : ℕ × ℕ). cond (numbered_reserved page.0 m k 0 files is below d i) 1 0) (get_or files k d).pages.items)

-- reserved indices have no page, or are those of pages
parted : (p : Picture) → IsListed p → IsInLimit p → audit.vacant_in p + sum_by reserved_pages_of p.files.items ≡ audit.reserved_in p
parted p listed limit =
    sums_add audit.vacant_of reserved_pages_of audit.reserved_of p.files.items (λ k d below.
    vacant_or_paged (get_or p.files.items k d) (limit.files k d below).pages (listed k d below).in_order)

-- so both want the same reserve count
pub count_same : (p : Picture) → IsListed p → IsInLimit p
    → judge.wanted_count (counts_of p) (places_of p) ≡ pos (audit.vacant_in p) +ℤ p.owed
count_same p listed limit =
    let reserved = reserved_same p listed limit in
    let pages = pages_same p in
    let parts = parted p listed limit in
    let less : pos (judge.reserved_in (places_of p)) -ℤ pos (judge.reserved_pages_in (places_of p)) ≡ pos (audit.vacant_in p) =
    omega (arith, ints, reserved, pages, parts) in
    ap (λ z. z +ℤ p.owed) less

-- and the same used count
pub used_same : (p : Picture) → IsListed p → IsInLimit p
    → judge.wanted_used (counts_of p) (places_of p) ≡ pos (audit.reserved_in p) +ℤ p.used_owed
used_same p listed limit = ap (λ n. pos n +ℤ p.used_owed) (reserved_same p listed limit)

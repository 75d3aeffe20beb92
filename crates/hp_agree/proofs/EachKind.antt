-- For each kind of finding: it is right with a picture, or is found in its lines.
use Rattle.std.proofs.Common.{◌≡◌, ℕ, ◌<◌, ◌≤◌, ◌⊎◌, Bool, true, false, cond, ◌==◌, List, ◌++◌, length, map, get_or, inl, inr, refl}
use Rattle.std.proofs.Common.{sym, ◌∙◌, ap, subst, arith}
use Rattle.std.specs.Prelude.{All, Contains, IfSome, IsSomeAnd, Option, Some, None, pos, ◌+ℤ◌, ◌<ℤ◌, count_by, nat_lt, slice_get}
use Rattle.std.specs.Option.{option_map}
use Rattle.std.proofs.lemmas.Bool.{cases_eq, cases_lt, ltb-false, ltb-true, true≢false}
use Rattle.std.proofs.lemmas.Int.{ints}
use Rattle.std.proofs.lemmas.List.{length-map}
use Rattle.std.proofs.lemmas.List.Sums.{sum_by-append}
use Rattle.std.proofs.lemmas.Option.{slice_get-map}
use Rattle.hp_audit.specs.Findings as audit
use Rattle.hp_audit.specs.declared.picture.FilePicture.{FilePicture}
use Rattle.hp_audit.specs.declared.picture.Picture.{Picture}
use Rattle.hp_audit.proofs.Counts.{counted}
use Rattle.hp_judge.specs.Counts as judge
use Rattle.hp_judge.specs.Findings.{IsAboveFree, IsAboveQuota, frames_of}
use Rattle.hp_judge.specs.declared.finding.Clause.TheVariants as clauses
use Rattle.hp_judge.specs.declared.finding.Finding.TheVariants as finding
use Rattle.hp_agree.specs.Agreement.{Finds, FindsCount, FindsLine, FindsPlace, FindsUsed}
use Rattle.hp_agree.specs.Flat.{counts_of, numbered, places_of}
use Rattle.hp_agree.specs.Listed.{IsInLimit, IsListed}
use Rattle.hp_agree.proofs.Either.{IsEither, all_at, both, less_or_not, same_or_other, turned, within_or_above}
use Rattle.hp_agree.proofs.Kept.{can_count, count_same, pages_of, shape_of, used_same}
use Rattle.hp_agree.proofs.Lists.{has_or_not, sum_by_map}
use Rattle.hp_agree.proofs.Numbered.{numbered_had, numbered_has, numbered_sum}

-- the files of translations are there
shaped : (p : Picture) → IsListed p → IsInLimit p → All (λ entry. entry.1 < length (map shape_of p.files.items)) p.tables.items
    → audit.IsShaped p
shaped p listed limit there =
    record {
      files = λ k d within. record {
        regions = λ j e lt. (omega (arith, (listed k d within).some j e lt), (limit.files k d within).regions j e lt);
        pages = (limit.files k d within).pages;
        once = λ i j e lt short same. omega (arith, (listed k d within).in_order i j e lt short, same);
      };
      tables = λ k d within. (omega (arith, there k d within, length-map p.files.items shape_of), limit.tables k d within);
    }

-- the shape is right, or a translation of no file is found
pub shape : (p : Picture) → IsListed p → IsInLimit p → IsEither (audit.IsShaped p) (FindsLine p clauses.File)
shape p listed limit =
    let files = length (map shape_of p.files.items) in
    let there = all_at (λ (entry : ℕ × ℕ × ℕ × ℕ). entry.1 < files) (0, 0, 0, 0) (λ entry. less_or_not entry.1 files) p.tables.items in
    turned (shaped p listed limit) (λ is k d within. omega (arith, (is.tables k d within).0, length-map p.files.items shape_of))
    (λ found. found) (λ found. found) there

-- two pages are one, or not
same_page : (x y : ℕ × ℕ × ℕ) → (x ≡ y) ⊎ (x ≡ y → ⊥)
same_page x y = by (cases_eq x.0 y.0) (cases_eq x.1 y.1) (cases_eq x.2 y.2)
  where
    by : (x.0 ≡ y.0) ⊎ (x.0 ≡ y.0 → ⊥) → (x.1 ≡ y.1) ⊎ (x.1 ≡ y.1 → ⊥) → (x.2 ≡ y.2) ⊎ (x.2 ≡ y.2 → ⊥)
        → (x ≡ y) ⊎ (x ≡ y → ⊥)
    by (inl a) (inl b) (inl c) = inl (λ i. (a i, b i, c i))
    by (inr not) other another = inr (λ same. not (ap (λ (t : ℕ × ℕ × ℕ). t.0) same))
    by (inl a) (inr not) another = inr (λ same. not (ap (λ (t : ℕ × ℕ × ℕ). t.1) same))
    by (inl a) (inl b) (inr not) = inr (λ same. not (ap (λ (t : ℕ × ℕ × ℕ). t.2) same))

-- all translations agree, or one that doesn't is found
pub agree : (p : Picture) → IsEither (audit.Agrees p) (FindsLine p clauses.Agree)
agree p =
    let files = p.files.items in
    let pages = numbered pages_of 0 files in
    let there = all_at (λ (entry : ℕ × ℕ × ℕ × ℕ). Contains pages (entry.1, entry.2, entry.3)) (0, 0, 0, 0)
    (λ entry. has_or_not same_page pages (entry.1, entry.2, entry.3)) p.tables.items in
    turned (λ all k d within. numbered_had pages_of _ _ 0 _ _ files (omega arith) (all k d within))
    (λ all k d within. numbered_has pages_of _ _ 0 _ _ files (omega arith) (all k d within)) (λ found. found) (λ found. found) there

-- as many places have a frame
pub places_same : (p : Picture) (x : ℕ) → audit.place_count p x ≡ count_by (λ frame. frame == x) (frames_of (places_of p))
unfolding audit.place_count
places_same p x =
    let is : ℕ → ℕ = λ frame. cond (frame == x) 1 0 in
    let free = p.free.items in
    let retired = p.retired.items in
    let hands = p.hands.items in
    let pages = numbered pages_of 0 p.files.items in
    let frames = map (λ (page : ℕ × ℕ × ℕ). page.2) pages in
    let one = sum_by-append is (free ++ retired ++ hands) frames in
    let two = sum_by-append is (free ++ retired) hands in
    let three = sum_by-append is free retired in
    let four = sum_by_map is (λ (page : ℕ × ℕ × ℕ). page.2) pages in
    let of_files : FilePicture → ℕ = λ file. audit.pages_in file.pages.items x in
    let five = numbered_sum pages_of (λ page. is page.2) of_files 0 p.files.items (λ m k same below d. refl) in
    omega (arith, one, two, three, four, five)

-- where the listed frames are at one place each, all are
one_place : (p : Picture) → All (λ x. audit.place_count p x ≤ 1) (frames_of (places_of p)) → audit.IsOnePlace p
one_place p all x = by (nat_lt 0 (audit.place_count p x)) refl
  where
    by : (b : Bool) → nat_lt 0 (audit.place_count p x) ≡ b → audit.place_count p x ≤ 1
    by true some =
        counted (λ y. y) (λ y. audit.place_count p y ≤ 1) x (frames_of (places_of p)) all
        (omega (arith, ltb-true 0 (audit.place_count p x) some, places_same p x))
    by false none = omega (arith, ltb-false 0 (audit.place_count p x) none)

-- no frame is at two places, or a frame that is at two is found
pub place : (p : Picture) → IsEither (audit.IsOnePlace p) (FindsPlace p)
place p =
    record {
      one = by (all_at Alone 0 alone_or_not frames).one;
      alone = λ one found. omega (arith, one found.0, found.1, places_same p found.0);
    }
  where
    frames : List ℕ
    frames = frames_of (places_of p)

    Alone : ℕ → Type 0
    Alone x = audit.place_count p x ≤ 1

    alone_or_not : (x : ℕ) → Alone x ⊎ (Alone x → ⊥)
    alone_or_not x = elim (cases_lt 1 (audit.place_count p x)) [
      | inl more ↦ inr (λ few. omega (arith, more, few))
      | inr few ↦ inl few
    ]

    twice : (x : ℕ) → (Alone x → ⊥) → FindsPlace p
    twice x not = (
      x,
      elim (cases_lt 1 (audit.place_count p x)) as (λ _. Finds p (finding.Place x)) [
        | inl more ↦ omega (arith, more, places_same p x)
        | inr few ↦ absurd (not few)
      ],
    )

    by : All Alone frames ⊎ ((n : ℕ) × ((n < length frames) × (Alone (get_or frames n 0) → ⊥))) → audit.IsOnePlace p ⊎ FindsPlace p
    by (inl all) = inl (one_place p all)
    by (inr found) = inr (twice (get_or frames found.0 0) found.1.1)

-- a translation lies below the size of a file, unless that is locked
abbrev IsBelowOf : ℕ → ℕ × Bool → Type 0
IsBelowOf i shape = shape.1 ≡ false → i < shape.0

-- whether the shapes of files are looked at, or the files, makes no difference
below_same : (i : ℕ) (file : Option FilePicture)
    → (IfSome (option_map shape_of file) (IsBelowOf i) → IfSome file (λ f. f.locked ≡ false → i < f.size))
    × (IfSome file (λ f. f.locked ≡ false → i < f.size) → IfSome (option_map shape_of file) (IsBelowOf i))
below_same i None = (λ is. is, λ is. is)
below_same i (Some file) = (λ is. is, λ is. is)

-- it lies below the size, or it doesn't
below_or_not : (i : ℕ) (shape : Option (ℕ × Bool)) → IfSome shape (IsBelowOf i) ⊎ (IfSome shape (IsBelowOf i) → ⊥)
below_or_not i None = inl tt
below_or_not i (Some (size, true)) = inl (λ free. absurd (true≢false free))
below_or_not i (Some (size, false)) = elim (less_or_not i size) [
  | inl less ↦ inl (λ free. less)
  | inr not ↦ inr (λ below. not (below refl))
]

-- all translations lie below the sizes, or one that doesn't is found
pub size : (p : Picture) → IsEither (audit.IsBelow p) (FindsLine p clauses.Size)
size p =
    turned (λ all k d within. there (get_or p.tables.items k d) (all k d within))
    (λ all k d within. back (get_or p.tables.items k d) (all k d within)) (λ found. found) (λ found. found)
    (all_at Below (0, 0, 0, 0) (λ entry. below_or_not entry.2 (slice_get shapes entry.1)) p.tables.items)
  where
    shapes : List (ℕ × Bool)
    shapes = map shape_of p.files.items

    Below : ℕ × ℕ × ℕ × ℕ → Type 0
    Below entry = IfSome (slice_get shapes entry.1) (IsBelowOf entry.2)

    BelowFile : ℕ × ℕ × ℕ × ℕ → Type 0
    BelowFile entry = IfSome (slice_get p.files.items entry.1) (λ file. file.locked ≡ false → entry.2 < file.size)

    there : (entry : ℕ × ℕ × ℕ × ℕ) → Below entry → BelowFile entry
    there entry is =
        (below_same entry.2 (slice_get p.files.items entry.1)).0
        (subst (λ (o : Option (ℕ × Bool)). IfSome o (IsBelowOf entry.2)) (slice_get-map shape_of p.files.items entry.1) is)

    back : (entry : ℕ × ℕ × ℕ × ℕ) → BelowFile entry → Below entry
    back entry is =
        subst (λ (o : Option (ℕ × Bool)). IfSome o (IsBelowOf entry.2)) (sym (slice_get-map shape_of p.files.items entry.1))
        ((below_same entry.2 (slice_get p.files.items entry.1)).1 is)

-- a number is at most another, or above it as an integer
bound : (m n : ℕ) → IsEither (m ≤ n) (((pos m) <ℤ pos 0) ⊎ (pos n <ℤ pos m))
bound m n = turned (λ is. is) (λ is. is) (λ above. inr (omega (arith, ints, above))) from (within_or_above m n)
  where
    from : ((pos m) <ℤ pos 0) ⊎ (pos n <ℤ pos m) → n < m
    from (inl negative) = omega (arith, ints, negative)
    from (inr above) = omega (arith, ints, above)

-- the reserve count is right, or found wrong
pub count : (p : Picture) → IsListed p → IsInLimit p → IsEither (audit.IsCounted p) (FindsCount p)
count p listed limit =
    turned (λ is. record { exact = is.0; enough = is.1 }) (λ is. (is.exact, is.enough)) to from
    (both (same_or_other (pos p.resv) (pos (audit.vacant_in p) +ℤ p.owed)) (bound p.resv (length p.free.items)))
  where
    to : (pos p.resv ≡ pos (audit.vacant_in p) +ℤ p.owed → ⊥) ⊎ IsAboveFree (counts_of p) (places_of p) → FindsCount p
    to (inl other) = inl (
      judge.wanted_count (counts_of p) (places_of p),
      (can_count p listed limit, refl, λ same. other (same ∙ count_same p listed limit)),
    )
    to (inr above) = inr above

    from : FindsCount p → (pos p.resv ≡ pos (audit.vacant_in p) +ℤ p.owed → ⊥) ⊎ IsAboveFree (counts_of p) (places_of p)
    from (inl found) = inl (λ same. found.1.2 (same ∙ sym (found.1.1 ∙ count_same p listed limit)))
    from (inr above) = inr above

-- a number is within the quota, if there is one, or above it
quota_bound : (m : ℕ) (quota : Option ℕ)
    → IsEither (IfSome quota (λ most. m ≤ most)) (((pos m) <ℤ pos 0) ⊎ IsSomeAnd quota (λ most. pos most <ℤ pos m))
quota_bound m None = record { one = inl tt; alone = λ is above. none above }
  where
    none : ((pos m) <ℤ pos 0) ⊎ ⊥ → ⊥
    none (inl negative) = omega (arith, ints, negative)
    none (inr not) = not
quota_bound m (Some most) = bound m most

-- the used count is right, or found wrong
pub used : (p : Picture) → IsListed p → IsInLimit p → IsEither (audit.IsUsedCounted p) (FindsUsed p)
used p listed limit =
    turned (λ is. record { exact = is.0; within = is.1 }) (λ is. (is.exact, is.within)) to from
    (both (same_or_other (pos p.used) (pos (audit.reserved_in p) +ℤ p.used_owed)) (quota_bound p.used p.quota))
  where
    to : (pos p.used ≡ pos (audit.reserved_in p) +ℤ p.used_owed → ⊥) ⊎ IsAboveQuota (counts_of p) → FindsUsed p
    to (inl other) = inl (
      judge.wanted_used (counts_of p) (places_of p),
      (can_count p listed limit, refl, λ same. other (same ∙ used_same p listed limit)),
    )
    to (inr above) = inr above

    from : FindsUsed p → (pos p.used ≡ pos (audit.reserved_in p) +ℤ p.used_owed → ⊥) ⊎ IsAboveQuota (counts_of p)
    from (inl found) = inl (λ same. found.1.2 (same ∙ sym (found.1.1 ∙ used_same p listed limit)))
    from (inr above) = inr above

-- The lists of files one behind the other, each entry with its file's number.
use Rattle.std.proofs.Common.{◌≡◌, ℕ, zero, suc, ◌+◌, ◌<◌, ◌≤◌, ◌⊎◌, Bool, true, false, ◌||◌, List, [], ◌∷◌, ◌++◌, length, map}
use Rattle.std.proofs.Common.{inl, inr, refl, ◌∙◌, ap, subst, arith}
use Rattle.std.specs.Prelude.{All, AllPairs, Contains, HoldsAt, IsSomeAnd, slice_get, sum_by}
use Rattle.std.specs.List.{list_any}
use Rattle.std.proofs.lemmas.Bool.{eq-eqb, ne_eqb, and_left}
use Rattle.std.proofs.lemmas.List.Elements.{All-append, All-contains, All-map, All-nil, All-tail, All-weaker}
use Rattle.std.proofs.lemmas.List.Elements.{Contains-append_cases, Contains-append_left, Contains-append_right}
use Rattle.std.proofs.lemmas.List.Folds.{list_any-append, list_any_none}
use Rattle.std.proofs.lemmas.List.Sums.{sum_by-append, sum_by-cons}
use Rattle.hp_audit.specs.Findings as audit
use Rattle.hp_audit.specs.declared.picture.FilePicture.{FilePicture}
use Rattle.hp_base.specs.Indices.{is_within}
use Rattle.hp_judge.specs.Counts as judge
use Rattle.hp_agree.specs.Flat.{numbered}
use Rattle.hp_agree.proofs.Lists.{list_any_map, list_any_same, mapped, mapped_has, pairs_append, pairs_map, sum_by_map}

-- an entry with its file's number
abbrev pub with_number : {A : Type 0} → ℕ → ℕ × A → ℕ × ℕ × A
with_number m entry = (m, entry.0, entry.1)

-- what holds of each entry of each file
pub numbered_all : {A : Type 0} (of : FilePicture → List (ℕ × A)) (P : ℕ × ℕ × A → Type 0) (n : ℕ) (files : List FilePicture)
    → ((m k : ℕ) → m ≡ n + k → k < length files → HoldsAt (λ file. All (λ entry. P (m, entry.0, entry.1)) (of file)) files k)
    → All P (numbered of n files)
unfolding numbered
numbered_all of P n [] each = All-nil P
numbered_all of P n (file ∷ files) each =
    All-append P (map (with_number n) (of file)) (numbered of (n + 1) files)
    (All-map P (with_number n) (of file) (each n 0 (omega arith) (omega arith) file))
    (numbered_all of P (n + 1) files (λ m k is within d. each m (suc k) (omega (arith, is)) (omega (arith, within)) d))

-- no file's number is below the first
above : {A : Type 0} (of : FilePicture → List (ℕ × A)) (n : ℕ) (files : List FilePicture) → All (λ entry. n ≤ entry.0) (numbered of n files)
above {A} of n files = numbered_all of (λ (entry : ℕ × ℕ × A). n ≤ entry.0) n files (λ m k is within d j e lt. omega (arith, is))

-- what holds of each two entries of a file, in their order, holds of entries of one number
pub numbered_pairs : {A : Type 0} (of : FilePicture → List (ℕ × A)) (R : ℕ × A → ℕ × A → Type 0) (n : ℕ) (files : List FilePicture)
    → All (λ file. AllPairs R (of file)) files
    → AllPairs (λ entry other. (entry.0 < other.0) ⊎ ((entry.0 ≡ other.0) × R (entry.1, entry.2) (other.1, other.2))) (numbered of n files)
unfolding numbered
numbered_pairs of R n [] each = λ i j d lt within. absurd (omega (arith, within))
numbered_pairs {A} of R n (file ∷ files) each =
    pairs_append Behind own rest
    (pairs_map Behind (with_number n) (of file) (λ i j d lt within. inr (refl, each 0 file (omega arith) i j d lt within)))
    (numbered_pairs of R (n + 1) files (All-tail (λ (f : FilePicture). AllPairs R (of f)) file files each))
    (All-map (λ (entry : ℕ × ℕ × A). All (Behind entry) rest) (with_number n) (of file) (λ k d within. later (with_number n _) refl))
  where
    Behind : ℕ × ℕ × A → ℕ × ℕ × A → Type 0
    Behind entry other = (entry.0 < other.0) ⊎ ((entry.0 ≡ other.0) × R (entry.1, entry.2) (other.1, other.2))

    own : List (ℕ × ℕ × A)
    own = map (with_number n) (of file)

    rest : List (ℕ × ℕ × A)
    rest = numbered of (n + 1) files

    later : (entry : ℕ × ℕ × A) → entry.0 ≡ n → All (Behind entry) rest
    later entry is =
        All-weaker (λ (other : ℕ × ℕ × A). n + 1 ≤ other.0) (Behind entry) (λ other high. inl (omega (arith, is, high))) rest
        (above of (n + 1) files)

-- a sum over all entries is one over the files
pub numbered_sum : {A : Type 0} (of : FilePicture → List (ℕ × A)) (h : ℕ × ℕ × A → ℕ) (g : FilePicture → ℕ) (n : ℕ)
    → (files : List FilePicture)
    → ((m k : ℕ) → m ≡ n + k → k < length files → HoldsAt (λ file. sum_by (λ entry. h (m, entry.0, entry.1)) (of file) ≡ g file) files k)
    → sum_by h (numbered of n files) ≡ sum_by g files
unfolding numbered
numbered_sum of h g n [] each = refl
numbered_sum of h g n (file ∷ files) each =
    let all = sum_by-append h (map (with_number n) (of file)) (numbered of (n + 1) files) in
    let own = sum_by_map h (with_number n) (of file) in
    let here = each n 0 (omega arith) (omega arith) file in
    let rest = numbered_sum of h g (n + 1) files (λ m k is within d. each m (suc k) (omega (arith, is)) (omega (arith, within)) d) in
    let both = sum_by-cons g file files in
    omega (arith, all, own, here, rest, both)

-- a file's entry is there under its number, ..
pub numbered_has : {A : Type 0} (of : FilePicture → List (ℕ × A)) (m k n a : ℕ) (b : A) (files : List FilePicture) → m ≡ n + k
    → IsSomeAnd (slice_get files k) (λ file. Contains (of file) (a, b)) → Contains (numbered of n files) (m, a, b)
unfolding numbered
numbered_has of m k n a b [] is has = absurd has
numbered_has {A} of m zero n a b (file ∷ files) is has =
    let same : n ≡ m = omega (arith, is) in
    subst (λ (x : ℕ). Contains (map (with_number n) (of file) ++ numbered of (n + 1) files) (x, a, b)) same
    (Contains-append_left (map (with_number n) (of file)) (numbered of (n + 1) files) (n, a, b)
    (mapped_has (with_number n) (of file) (a, b) has))
numbered_has of m (suc k) n a b (file ∷ files) is has =
    Contains-append_right (map (with_number n) (of file)) (numbered of (n + 1) files) (m, a, b)
    (numbered_has of m k (n + 1) a b files (omega (arith, is)) has)

-- .. and no other is
pub numbered_had : {A : Type 0} (of : FilePicture → List (ℕ × A)) (m k n a : ℕ) (b : A) (files : List FilePicture) → m ≡ n + k
    → Contains (numbered of n files) (m, a, b) → IsSomeAnd (slice_get files k) (λ file. Contains (of file) (a, b))
unfolding numbered
numbered_had of m k n a b [] is has = absurd (omega (arith, has.1))
numbered_had {A} of m k n a b (file ∷ files) is has =
    by (λ j at there. numbered_had of m j (n + 1) a b files at there) k is
    (Contains-append_cases (map (with_number n) (of file)) (numbered of (n + 1) files) (m, a, b) has)
  where
    own : Contains (map (with_number n) (of file)) (m, a, b) → (n ≡ m) × Contains (of file) (a, b)
    own there =
        let at = mapped (with_number n) (of file) (m, a, b) there in
        (ap (λ (t : ℕ × ℕ × A). t.0) at.2, subst (Contains (of file)) (ap (λ (t : ℕ × ℕ × A). (t.1, t.2)) at.2) at.1)

    later : Contains (numbered of (n + 1) files) (m, a, b) → n + 1 ≤ m
    later there = All-contains (λ (t : ℕ × ℕ × A). n + 1 ≤ t.0) (numbered of (n + 1) files) (m, a, b) (above of (n + 1) files) there

    by : ((j : ℕ) → m ≡ n + 1 + j → Contains (numbered of (n + 1) files) (m, a, b)
        → IsSomeAnd (slice_get files j) (λ f. Contains (of f) (a, b)))
        → (j : ℕ) → m ≡ n + j → Contains (map (with_number n) (of file)) (m, a, b) ⊎ Contains (numbered of (n + 1) files) (m, a, b)
        → IsSomeAnd (slice_get (file ∷ files) j) (λ f. Contains (of f) (a, b))
    by behind zero at (inl there) = (own there).1
    by behind zero at (inr there) = absurd (omega (arith, at, later there))
    by behind (suc j) at (inl there) = absurd (omega (arith, at, (own there).0))
    by behind (suc j) at (inr there) = behind j (omega (arith, at)) there

-- a file's regions
abbrev pub regions_of : FilePicture → List (ℕ × ℕ)
regions_of file = file.regions.items

-- `false` adds nothing to a test
or_none : (b : Bool) → (b || false) ≡ b
or_none true = refl
or_none false = refl

-- an index is reserved in a file exactly if it is under the file's number
pub numbered_reserved : (i m k n : ℕ) (files : List FilePicture) → m ≡ n + k → k < length files
    → HoldsAt (λ file. judge.is_reserved (numbered regions_of n files) m i ≡ audit.is_reserved file.regions.items i) files k
unfolding numbered judge.is_reserved
numbered_reserved i m k n [] is within d = absurd (omega (arith, within))
numbered_reserved i m zero n (file ∷ files) is within d =
    list_any-append has (map (with_number n) (regions_of file)) (numbered regions_of (n + 1) files)
    ∙ (λ j. own j || none j)
    ∙ or_none (audit.is_reserved file.regions.items i)
  where
    has : ℕ × ℕ × ℕ → Bool
    has region = judge.has_index m i region

    own : list_any has (map (with_number n) (regions_of file)) ≡ audit.is_reserved file.regions.items i
    own =
        list_any_map has (with_number n) (regions_of file)
        ∙ list_any_same (λ (region : ℕ × ℕ). has (with_number n region)) (λ (region : ℕ × ℕ). is_within region.0 region.1 i)
        (regions_of file) (λ region. rw (eq-eqb n m (omega (arith, is))) refl)

    none : list_any has (numbered regions_of (n + 1) files) ≡ false
    none =
        list_any_none has (numbered regions_of (n + 1) files)
        (All-weaker (λ (entry : ℕ × ℕ × ℕ). n + 1 ≤ entry.0) (λ (entry : ℕ × ℕ × ℕ). has entry ≡ false)
        (λ entry high. and_left _ _ (ne_eqb entry.0 m (λ same. omega (arith, same, is, high)))) (numbered regions_of (n + 1) files)
        (above regions_of (n + 1) files))
numbered_reserved i m (suc k) n (file ∷ files) is within d =
    list_any-append has (map (with_number n) (regions_of file)) (numbered regions_of (n + 1) files)
    ∙ (λ j. none j || list_any has (numbered regions_of (n + 1) files))
    ∙ numbered_reserved i m k (n + 1) files (omega (arith, is)) (omega (arith, within)) d
  where
    has : ℕ × ℕ × ℕ → Bool
    has region = judge.has_index m i region

    none : list_any has (map (with_number n) (regions_of file)) ≡ false
    none =
        list_any_none has (map (with_number n) (regions_of file))
        (All-map (λ (entry : ℕ × ℕ × ℕ). has entry ≡ false) (with_number n) (regions_of file)
        (λ j e lt. and_left _ _ (ne_eqb n m (λ same. omega (arith, same, is)))))

-- How many indices a file has reserved, with a page and without.
use Rattle.std.proofs.Common.{◌≡◌, ℕ, ◌+◌, ◌-◌, ◌<◌, ◌≤◌, Bool, true, false, cond, not, ◌&&◌, ◌||◌, ◌==◌, List, [], ◌∷◌, refl, sym}
use Rattle.std.proofs.Common.{subst, arith}
use Rattle.std.specs.Prelude.{All, AllPairs, count_by, nat_le, nat_lt, sum_by}
use Rattle.std.proofs.lemmas.Bool.{and_left, and_parts, and_right, eq-eqb, eqb-true, false≢true, lt-leb, ltb-true, ne_eqb}
use Rattle.std.proofs.lemmas.List.Elements.{All-tail, All-weaker}
use Rattle.std.proofs.lemmas.List.Folds.{list_any_none}
use Rattle.std.proofs.lemmas.List.Sums.{sum_by-cons}
use Rattle.hp_audit.specs.Findings.{has_page, is_reserved, is_vacant, reserved_of, vacant_of}
use Rattle.hp_audit.specs.declared.picture.FilePicture.{FilePicture}
use Rattle.hp_base.specs.Indices.{count_below, is_within}
use Rattle.hp_base.specs.declared.limits.TheConstants.{LIMIT}
use Rattle.hp_base.proofs.Counting.{count_below-is_within, count_below-sum, count_below_none, count_below_one}
use Rattle.hp_agree.proofs.Lists.{pairs_head, pairs_tail}

-- of two that aren't both, as many are as either
either : (a b : Bool) → (a ≡ true → b ≡ false) → cond (a || b) 1 0 ≡ cond a 1 0 + cond b 1 0
either true true apart = absurd (false≢true (sym (apart refl)))
either true false apart = refl
either false true apart = refl
either false false apart = refl

-- an index of a region is in none of those behind it
not_behind : (from to i : ℕ) (regions : List (ℕ × ℕ)) → All (λ other. to < other.0) regions → is_within from to i ≡ true
    → is_reserved regions i ≡ false
not_behind from to i regions behind within =
    let low : i < to = ltb-true i to (and_parts (nat_le from i) (nat_lt i to) within).1 in
    list_any_none (λ (region : ℕ × ℕ). is_within region.0 region.1 i) regions
    (All-weaker (λ (other : ℕ × ℕ). to < other.0) (λ (other : ℕ × ℕ). is_within other.0 other.1 i ≡ false)
    (λ other high. and_left _ _ (lt-leb other.0 i (omega (arith, low, high)))) regions behind)

-- as many indices are reserved as the regions have, which are apart
pub reserved_by_regions : (regions : List (ℕ × ℕ)) (n : ℕ) → All (λ region. region.1 ≤ n) regions
    → AllPairs (λ region other. region.1 < other.0) regions
    → count_below (is_reserved regions) n ≡ sum_by (λ region. region.1 - region.0) regions
reserved_by_regions [] n few apart = count_below_none (is_reserved []) n (λ k below. refl)
reserved_by_regions (region ∷ regions) n few apart =
    let R : ℕ × ℕ → ℕ × ℕ → Type 0 = λ one other. one.1 < other.0 in
    let parts = count_below-sum (is_within region.0 region.1) (is_reserved regions) (is_reserved (region ∷ regions)) n (λ k below.
    either (is_within region.0 region.1 k) (is_reserved regions k)
    (not_behind region.0 region.1 k regions (pairs_head R region regions apart))) in
    let own = count_below-is_within region.0 region.1 n in
    let short : region.1 ≤ n = few 0 region (omega arith) in
    let rest = reserved_by_regions regions n (All-tail (λ (r : ℕ × ℕ). r.1 ≤ n) region regions few) (pairs_tail R region regions apart) in
    let all = sum_by-cons (λ (r : ℕ × ℕ). r.1 - r.0) region regions in
    omega (arith, parts, own, short, rest, all)

-- one number of a set is that number, if it is in the set
one_index : (set : ℕ → Bool) (at n : ℕ) → at < n → count_below (λ i. set i && (at == i)) n ≡ cond (set at) 1 0
one_index set at n within = by (set at) refl
  where
    here : ℕ → Bool
    here i = set i && (at == i)

    elsewhere : (k : ℕ) → (k ≡ at → ⊥) → here k ≡ false
    elsewhere k other = and_right _ _ (ne_eqb at k (λ same. other (sym same)))

    nowhere : set at ≡ false → (k : ℕ) (b : Bool) → (at == k) ≡ b → here k ≡ false
    nowhere none k true same = and_left _ _ (subst (λ (i : ℕ). set i ≡ false) (eqb-true at k same) none)
    nowhere none k false other = and_right _ _ other

    by : (b : Bool) → set at ≡ b → count_below here n ≡ cond b 1 0
    by true there =
        let one = count_below_one here (λ _. false) at n within (rw (there, eq-eqb at at refl) refl) refl elsewhere in
        let none = count_below_none (λ _. false) n (λ k below. refl) in
        omega (arith, one, none)
    by false none = count_below_none here n (λ k below. nowhere none k (at == k) refl)

-- which of two tests an index passes in a set
in_set : (s a b : Bool) → (a ≡ true → b ≡ false) → cond (s && (a || b)) 1 0 ≡ cond (s && a) 1 0 + cond (s && b) 1 0
in_set true a b apart = either a b apart
in_set false a b apart = refl

-- as many indices of a set have a page as pages have an index in it, which are in order
pub paged : (set : ℕ → Bool) (pages : List (ℕ × ℕ)) (n : ℕ) → All (λ page. page.0 < n) pages
    → AllPairs (λ page other. page.0 < other.0) pages → count_below (λ i. set i && has_page pages i) n ≡ count_by (λ page. set page.0) pages
paged set [] n few order = count_below_none (λ i. set i && has_page [] i) n (λ k below. and_right (set k) false refl)
paged set (page ∷ pages) n few order =
    let R : ℕ × ℕ → ℕ × ℕ → Type 0 = λ one other. one.0 < other.0 in
    let behind = pairs_head R page pages order in
    let parts = count_below-sum (λ i. set i && (page.0 == i)) (λ i. set i && has_page pages i) (λ i. set i && has_page (page ∷ pages) i) n
    (λ k below. in_set (set k) (page.0 == k) (has_page pages k) (λ same. list_any_none (λ (other : ℕ × ℕ). other.0 == k) pages
    (All-weaker (R page) (λ (other : ℕ × ℕ). (other.0 == k) ≡ false)
    (λ other later. ne_eqb other.0 k (λ e. omega (arith, later, e, eqb-true page.0 k same))) pages behind))) in
    let own = one_index set page.0 n (few 0 page (omega arith)) in
    let rest = paged set pages n (All-tail (λ (r : ℕ × ℕ). r.0 < n) page pages few) (pairs_tail R page pages order) in
    let all = sum_by-cons (λ (r : ℕ × ℕ). cond (set r.0) 1 0) page pages in
    omega (arith, parts, own, rest, all)

-- how many pages of the file have an index that is reserved
abbrev pub reserved_pages_of : FilePicture → ℕ
reserved_pages_of file = count_by (λ page. is_reserved file.regions.items page.0) file.pages.items

-- what passes one test fails another or passes both
with_or_without : (r h : Bool) → cond r 1 0 ≡ cond (r && not h) 1 0 + cond (r && h) 1 0
with_or_without true true = refl
with_or_without true false = refl
with_or_without false h = refl

-- reserved indices have no page, or are those of pages
pub vacant_or_paged : (file : FilePicture) → All (λ page. page.0 < LIMIT) file.pages.items
    → AllPairs (λ page other. page.0 < other.0) file.pages.items → vacant_of file + reserved_pages_of file ≡ reserved_of file
unfolding vacant_of reserved_of
vacant_or_paged file few order =
    let set : ℕ → Bool = is_reserved file.regions.items in
    let parts = count_below-sum (is_vacant file) (λ i. set i && has_page file.pages.items i) set LIMIT
    (λ k below. with_or_without (set k) (has_page file.pages.items k)) in
    let own = paged set file.pages.items LIMIT few order in
    omega (arith, parts, own)

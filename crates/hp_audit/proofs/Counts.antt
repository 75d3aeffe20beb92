-- How often a frame is counted, and how many indices are.
use Rattle.std.proofs.Common.{◌≡◌, ℕ, ◌+◌, ◌<◌, ◌≤◌, zero, suc, true, false, cond, ◌==◌, List, [], ◌∷◌, length, take, get_or}
use Rattle.std.proofs.Common.{refl, ap, subst, add-one, arith}
use Rattle.std.specs.Prelude.{Bool, All, count_by, sum_by, nat_lt}
use Rattle.std.proofs.lemmas.Bool.{eqb-true, ltb-true, ltb-false}
use Rattle.std.proofs.lemmas.List.Sums.{sum_by_more}
use Rattle.hp_base.specs.Indices.{count_below}
use Rattle.hp_base.proofs.Sums.{sum_somewhere}
use Rattle.hp_audit.specs.declared.picture.FilePicture.{FilePicture}
use Rattle.hp_audit.specs.declared.picture.Picture.{Picture}
use Rattle.hp_audit.specs.Findings.{times_in, pages_in, place_count, IsOnePlace}

-- one more number is counted if it passes
pub count_below_more : (p : ℕ → Bool) (n : ℕ) (b : Bool) → p n ≡ b → count_below p (n + 1) ≡ count_below p n + cond b 1 0
unfolding count_below
count_below_more p n b is = rw (add-one, is) refl

-- how many pages of a file are in the frame
abbrev pub pages_of : ℕ → FilePicture → ℕ
pages_of x file = pages_in file.pages.items x

-- how many places have the frame, of the pages those of these files
unfoldable pub count_in : Picture → ℕ → List FilePicture → ℕ
count_in p x files =
    times_in p.free.items x + times_in p.retired.items x + times_in p.hands.items x + sum_by (pages_of x) files

pub count_in-none : (p : Picture) (x : ℕ) (files : List FilePicture)
    → times_in p.free.items x + times_in p.retired.items x + times_in p.hands.items x ≡ count_in p x (take 0 files)
unfolding count_in
count_in-none p x files = omega arith

pub count_in-more : (p : Picture) (x i : ℕ) (files : List FilePicture) (file : FilePicture) → i < length files
    → file ≡ get_or files i file → count_in p x (take (i + 1) files) ≡ count_in p x (take i files) + pages_of x file
unfolding count_in
count_in-more p x i files file within is =
    let more = sum_by_more (pages_of x) files i file within in
    let here = ap (pages_of x) is in
    omega (arith, more, here)

pub count_in-all : (p : Picture) (x : ℕ) → count_in p x p.files.items ≡ place_count p x
unfolding count_in place_count
count_in-all p x = refl

-- a test that counts passed
pub counts : (b : Bool) → 0 < cond {A = ℕ} b 1 0 → b ≡ true
counts true some = refl
counts false some = absurd (omega (arith, some))

-- what holds of each element holds of one that is counted
pub counted : {X : Type 0} (key : X → ℕ) (P : ℕ → Type 0) (x : ℕ) (xs : List X) → All (λ y. P (key y)) xs
    → 0 < count_by (λ y. key y == x) xs → P x
counted key P x [] all some = absurd (omega arith)
counted {X} key P x (y ∷ ys) all some =
    let at = sum_somewhere (λ (z : X). cond (key z == x) 1 0) (y ∷ ys) some in
    let found : X = get_or (y ∷ ys) at.0 y in
    subst P (eqb-true (key found) x (counts (key found == x) (at.2 y))) (all at.0 y at.1)

pub counted_in : (P : ℕ → Type 0) (x : ℕ) (files : List FilePicture) → All (λ file. All (λ page. P page.1) file.pages.items) files
    → 0 < sum_by (pages_of x) files → P x
counted_in P x [] all some = absurd (omega arith)
counted_in P x (file ∷ files) all some =
    let at = sum_somewhere (pages_of x) (file ∷ files) some in
    counted (λ (page : ℕ × ℕ). page.1) P x (get_or (file ∷ files) at.0 file).pages.items (all at.0 file at.1) (at.2 file)

-- where a fact holds of each frame that is counted, it holds of each that is anywhere
anywhere : (P : ℕ → Type 0) (x free retired hands pages : ℕ) → (0 < free → P x) → (0 < retired → P x)
    → (0 < hands → P x) → (0 < pages → P x) → 0 < free + retired + hands + pages → P x
anywhere P x zero zero zero pages in_free in_retired in_hands in_pages some = in_pages (omega (arith, some))
anywhere P x zero zero (suc hands) pages in_free in_retired in_hands in_pages some = in_hands (omega arith)
anywhere P x zero (suc retired) hands pages in_free in_retired in_hands in_pages some = in_retired (omega arith)
anywhere P x (suc free) retired hands pages in_free in_retired in_hands in_pages some = in_free (omega arith)

one_of_counted : (p : Picture) (P : ℕ → Type 0) (x : ℕ) → (0 < times_in p.free.items x → P x)
    → (0 < times_in p.retired.items x → P x) → (0 < times_in p.hands.items x → P x)
    → (0 < sum_by (pages_of x) p.files.items → P x) → 0 < place_count p x → P x
unfolding place_count
one_of_counted p P x in_free in_retired in_hands in_pages some =
    anywhere P x (times_in p.free.items x) (times_in p.retired.items x) (times_in p.hands.items x)
    (sum_by (pages_of x) p.files.items) in_free in_retired in_hands in_pages some

-- no frame is at two places where none is of those that are anywhere
pub IsOnePlace-of_all : (p : Picture) → All (λ x. place_count p x ≤ 1) p.free.items
    → All (λ x. place_count p x ≤ 1) p.retired.items → All (λ x. place_count p x ≤ 1) p.hands.items
    → All (λ file. All (λ page. place_count p page.1 ≤ 1) file.pages.items) p.files.items → IsOnePlace p
IsOnePlace-of_all p free retired hands files x =
    let P : ℕ → Type 0 = λ y. place_count p y ≤ 1 in
    elim (nat_lt 0 (place_count p x)) as (λ b. nat_lt 0 (place_count p x) ≡ b → place_count p x ≤ 1) [
      | true ↦ λ e. one_of_counted p P x (λ some. counted (λ (y : ℕ). y) P x p.free.items free some)
          (λ some. counted (λ (y : ℕ). y) P x p.retired.items retired some)
          (λ some. counted (λ (y : ℕ). y) P x p.hands.items hands some) (λ some. counted_in P x p.files.items files some)
          (ltb-true 0 (place_count p x) e)
      | false ↦ λ e. omega (arith, ltb-false 0 (place_count p x) e)
    ] refl

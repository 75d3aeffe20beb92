-- Files' lists one behind the other, and the counts of a right picture.
use Rattle.std.proofs.Common.{◌≡◌, ℕ, suc, ◌+◌, ◌-◌, ◌^◌, ◌<◌, ◌≤◌, Bool, true, false, cond, List, [], ◌∷◌, ◌++◌, length, take, map, get_or, refl, sym}
use Rattle.std.proofs.Common.{ap, ◌∙◌, append_assoc, arith}
use Rattle.std.specs.Prelude.{ℤ, pos, negsuc, ◌+ℤ◌, IfSome, nat_lt, sum_by}
use Rattle.std.proofs.lemmas.Bool.{ltb-false}
use Rattle.std.proofs.lemmas.List.{append-nil, length-take-le, take_more, take_all}
use Rattle.std.proofs.lemmas.List.Sums.{sum_by-le}
use Rattle.hp_audit.specs.Findings.{IsRight, is_reserved, is_vacant, reserved_of, vacant_of}
use Rattle.hp_audit.specs.declared.picture.FilePicture.{FilePicture}
use Rattle.hp_audit.specs.declared.picture.Picture.{Picture}
use Rattle.hp_base.proofs.Counting.{count_below_le}
use Rattle.hp_base.specs.declared.limits.TheConstants.{LIMIT}
use Rattle.hp_picture.specs.Text.{AreShortCounts, IsShortCount}
use Rattle.hp_text.specs.Fits.{IsShort}
use Rattle.hp_agree.specs.Flat.{counts_of, numbered}

-- the entries of one more file
behind : {A : Type 0} (of : FilePicture → List (ℕ × A)) (n : ℕ) (files : List FilePicture) (file : FilePicture)
    → numbered of n (files ++ file ∷ []) ≡ numbered of n files ++ map (λ entry. (n + length files, entry.0, entry.1)) (of file)
unfolding numbered
behind of n [] file =
    let here : n + 0 ≡ n = omega arith in
    rw here (append-nil _)
behind of n (first ∷ files) file =
    let own = map (λ entry. (n, entry.0, entry.1)) (of first) in
    let count : n + 1 + length files ≡ n + suc (length files) = omega arith in
    ap (λ t. own ++ t) (behind of (n + 1) files file) ∙ rw count (sym (append_assoc own (numbered of (n + 1) files) _))

pub numbered_more : {A : Type 0} (of : FilePicture → List (ℕ × A)) (files : List FilePicture) (k : ℕ) (file : FilePicture)
    → (old new : List (ℕ × ℕ × A)) → k < length files → file ≡ get_or files k file → old ≡ numbered of 0 (take k files)
    → new ≡ old ++ map (λ entry. (k, entry.0, entry.1)) (of file) → new ≡ numbered of 0 (take (k + 1) files)
numbered_more of files k file old new within is before more =
    let next : take (k + 1) files ≡ take k files ++ file ∷ [] =
    take_more files k file within ∙ ap (λ (x : FilePicture). take k files ++ x ∷ []) (sym is) in
    let count : 0 + length (take k files) ≡ k = omega (arith, length-take-le k files (omega (arith, within))) in
    let last = behind of 0 (take k files) file in
    let here = rw count at last in
    more ∙ rw (before, next, here) refl

pub numbered_none : {A : Type 0} (of : FilePicture → List (ℕ × A)) (found : List (ℕ × ℕ × A)) → found ≡ [] → found ≡ numbered of 0 []
unfolding numbered
numbered_none of found none = none

pub numbered_all : {A : Type 0} (of : FilePicture → List (ℕ × A)) (files : List FilePicture) (k : ℕ) (found : List (ℕ × ℕ × A))
    → length files ≤ k → found ≡ numbered of 0 (take k files) → found ≡ numbered of 0 files
numbered_all of files k found done is = is ∙ ap (numbered of 0) (take_all k files done)

-- what is owed is short where a short count is another short one and it
owed_short : (r v : ℕ) (z : ℤ) → r < 2 ^ 32 → v < 2 ^ 32 → pos r ≡ pos v +ℤ z → IsShortCount z
owed_short r v (pos m) r_fits v_fits e =
    let same : r ≡ v + m = cc in
    omega (arith, same, r_fits)
owed_short r v (negsuc m) r_fits v_fits e = by (nat_lt v (suc m)) refl e
  where
    by : (b : Bool) → nat_lt v (suc m) ≡ b → pos r ≡ cond b (negsuc (suc m - suc v)) (pos (v - suc m)) → IsShort (suc m)
    by true is other = absurd cc
    by false is other = omega (arith, v_fits, ltb-false v (suc m) is)

few_of : (f : FilePicture → ℕ) (files : List FilePicture) → ((file : FilePicture) → f file ≤ 4096) → length files ≤ 16
    → sum_by f files < 2 ^ 32
few_of f files each few =
    let most = sum_by-le f 4096 files (λ k d within. each _) in
    omega (arith, most, few)

vacant_few : (file : FilePicture) → vacant_of file ≤ 4096
unfolding vacant_of
vacant_few file = count_below_le (is_vacant file) LIMIT

reserved_few : (file : FilePicture) → reserved_of file ≤ 4096
unfolding reserved_of
reserved_few file = count_below_le (is_reserved file.regions.items) LIMIT

-- the counts of a right picture have 32 bits
pub short_counts : (p : Picture) → p.resv < 2 ^ 32 → p.used < 2 ^ 32 → IfSome p.quota IsShort → IsRight p → length p.files.items ≤ 16
    → AreShortCounts (counts_of p)
short_counts p resv used quota (shaped, agrees, alone, below, counted, used_counted) few = (
  resv,
  owed_short p.resv (sum_by vacant_of p.files.items) p.owed resv (few_of vacant_of p.files.items vacant_few few) counted.exact,
  used,
  owed_short p.used (sum_by reserved_of p.files.items) p.used_owed used (few_of reserved_of p.files.items reserved_few few) used_counted.exact,
  quota,
)

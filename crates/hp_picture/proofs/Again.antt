-- A line that is spelled is read as what it was.
use Rattle.std.proofs.Common.{◌≡◌, ℕ, suc, ◌+◌, ◌-◌, ◌/◌, ◌%◌, ◌^◌, ◌<◌, ◌≤◌, Bool, true, false, eqb, List, [], ◌∷◌, ◌++◌, Option, None, Some, refl, sym}
use Rattle.std.proofs.Common.{ap, ◌∙◌, append_assoc, arith}
use Rattle.std.specs.Prelude.{ℤ, pos, negsuc, ◌-ℤ◌, IfSome, codes}
use Rattle.std.specs.Fmt.{decimal, signed_decimal}
use Rattle.std.proofs.lemmas.Bool.{le-leb, ne_eqb}
use Rattle.std.proofs.lemmas.Fmt.{decimal_by_steps}
use Rattle.std.proofs.lemmas.List.{append-nil}
use Rattle.hp_base.specs.Text.{field, quota_field}
use Rattle.hp_text.specs.Fits.{IsShort}
use Rattle.hp_text.specs.Reading.{after_word, number_at, field_at, limit}
use Rattle.hp_text.specs.Traces.{HasNoEnd}
use Rattle.hp_text.proofs.Ends.{HasNoEnd-append}
use Rattle.hp_text.proofs.Lines.{last_again, quota_stops}
use Rattle.hp_text.proofs.Numbers.{number_again, Stops}
use Rattle.hp_text.proofs.Widths.{decimal_no_end}
use Rattle.hp_picture.specs.Reading.{count_at, count_field_at, quota_at, counts_at, locked_at, lock_at, size_at, three_at, four_at, frame_line_at, line_at}
use Rattle.hp_picture.specs.Text.{AreShortCounts, IsShortCount, LineFits, counts_text, line_text, lock_text}
use Rattle.hp_picture.specs.declared.line.PictureLine.{PictureLine}
use Rattle.hp_picture.specs.declared.line.PictureLine.TheVariants as says
use Rattle.hp_picture.specs.declared.picture.Counts.{Counts}

-- ---- numbers

short_again : (n : ℕ) (rest : List ℕ) → IsShort n → Stops rest → number_at limit (decimal n ++ rest) ≡ Some (n, rest)
short_again n rest fits stops = number_again limit n rest (omega arith) (omega arith) stops

field_again : (n : ℕ) (rest : List ℕ) → IsShort n → Stops rest → field_at limit (field n ++ rest) ≡ Some (n, rest)
unfolding field_at
field_again n rest fits stops = short_again n rest fits stops

last_field_again : (n : ℕ) → IsShort n → field_at limit (field n) ≡ Some (n, [])
last_field_again n fits = ap (field_at limit) (sym (append-nil (field n))) ∙ field_again n [] fits tt

-- no number begins with a minus
no_minus : (n : ℕ) → n < 2 ^ 64 → (rest : List ℕ) → after_word (codes "-") (decimal n ++ rest) ≡ None
no_minus n small = decimal_by_steps P one more n small
  where
    P : ℕ → List ℕ → Type 0
    P k ds = (rest : List ℕ) → after_word (codes "-") (ds ++ rest) ≡ None

    one : (k : ℕ) → k < 10 → P k ((48 + k) ∷ [])
    one k lt rest =
        let other : eqb 45 (48 + k) ≡ false = ne_eqb _ _ (λ (e : 45 ≡ 48 + k). absurd (omega arith)) in
        rw other refl

    more : (k : ℕ) (ds : List ℕ) → 10 ≤ k → P (k / 10) ds → P k (ds ++ ((48 + k % 10) ∷ []))
    more k ds ge before rest =
        ap (after_word (codes "-")) (append_assoc ds ((48 + k % 10) ∷ []) rest) ∙ before (((48 + k % 10) ∷ []) ++ rest)

below_zero : (n : ℕ) → pos 0 -ℤ pos (suc n) ≡ negsuc n
below_zero n =
    let less = le-leb 1 (suc n) (omega arith) in
    let back : suc n - 1 ≡ n = omega arith in
    rw (less, back) refl

count_again : (z : ℤ) (rest : List ℕ) → IsShortCount z → Stops rest → count_at (signed_decimal z ++ rest) ≡ Some (z, rest)
unfolding count_at
count_again (pos n) rest fits stops = rw (no_minus n (omega (arith, fits)) rest, short_again n rest fits stops) refl
count_again (negsuc n) rest fits stops =
    rw (short_again (suc n) rest fits stops, below_zero n) refl

count_field_again : (z : ℤ) (rest : List ℕ) → IsShortCount z → Stops rest
    → count_field_at (codes " " ++ (signed_decimal z ++ rest)) ≡ Some (z, rest)
unfolding count_field_at
count_field_again z rest fits stops = count_again z rest fits stops

quota_again : (quota : Option ℕ) → IfSome quota IsShort → quota_at (quota_field quota) ≡ Some quota
unfolding quota_at
quota_again None fits = refl
quota_again (Some n) fits = rw (last_again n fits) refl

three_again : (a b d : ℕ) → IsShort a → IsShort b → IsShort d → three_at (decimal a ++ (field b ++ field d)) ≡ Some (a, b, d)
unfolding three_at
three_again a b d a_fits b_fits d_fits =
    rw (short_again a (field b ++ field d) a_fits refl, field_again b (field d) b_fits refl, last_field_again d d_fits) refl

four_again : (a b d e : ℕ) → IsShort a → IsShort b → IsShort d → IsShort e
    → four_at (decimal a ++ (field b ++ (field d ++ field e))) ≡ Some (a, b, d, e)
unfolding four_at
four_again a b d e a_fits b_fits d_fits e_fits =
    rw (
      short_again a (field b ++ (field d ++ field e)) a_fits refl,
      field_again b (field d ++ field e) b_fits refl,
      field_again d (field e) d_fits refl,
      last_field_again e e_fits,
    ) refl

size_again : (size : ℕ) (locked : Bool) → IsShort size → size_at (decimal size ++ lock_text locked) ≡ Some (size, locked)
unfolding size_at lock_at locked_at
size_again size true fits = rw (short_again size (codes " locked") fits refl) refl
size_again size false fits = rw (short_again size [] fits tt) refl

counts_again : (c : Counts) → AreShortCounts c → counts_at (counts_text c) ≡ Some c
unfolding counts_at
counts_again c fits =
    rw (
      count_again c.resv (codes " " ++ (signed_decimal c.owed ++ (codes " " ++ (signed_decimal c.used
          ++ (codes " " ++ (signed_decimal c.used_owed ++ quota_field c.quota)))))) fits.0 refl,
      count_field_again c.owed (codes " " ++ (signed_decimal c.used ++ (codes " " ++ (signed_decimal c.used_owed ++ quota_field c.quota))))
          fits.1 refl,
      count_field_again c.used (codes " " ++ (signed_decimal c.used_owed ++ quota_field c.quota)) fits.2 refl,
      count_field_again c.used_owed (quota_field c.quota) fits.3 (quota_stops c.quota),
      quota_again c.quota fits.4,
    ) refl

-- ---- lines

pub line_again : (line : PictureLine) → LineFits line → line_at (line_text line) ≡ Some line
unfolding line_at frame_line_at
line_again (says.Head counts) fits = rw (counts_again counts fits) refl
line_again (says.Free frame) fits = rw (last_again frame fits) refl
line_again (says.Retired frame) fits = rw (last_again frame fits) refl
line_again (says.Hand frame) fits = rw (last_again frame fits) refl
line_again (says.File size locked) fits = rw (size_again size locked fits) refl
line_again (says.Region file from to) fits = rw (three_again file from to fits.0 fits.1 fits.2) refl
line_again (says.Page file index frame) fits = rw (three_again file index frame fits.0 fits.1 fits.2) refl
line_again (says.Translation task file index frame) fits =
    rw (four_again task file index frame fits.0 fits.1 fits.2 fits.3) refl
line_again says.End fits = refl

-- ---- no line ends before its end

short_no_end : (n : ℕ) → IsShort n → HasNoEnd (decimal n)
short_no_end n fits = decimal_no_end n (omega (arith, fits))

field_no_end : (n : ℕ) → IsShort n → HasNoEnd (field n)
field_no_end n fits = short_no_end n fits

count_no_end : (z : ℤ) → IsShortCount z → HasNoEnd (signed_decimal z)
count_no_end (pos n) fits = short_no_end n fits
count_no_end (negsuc n) fits = short_no_end (suc n) fits

quota_no_end : (quota : Option ℕ) → IfSome quota IsShort → HasNoEnd (quota_field quota)
quota_no_end None fits = refl
quota_no_end (Some n) fits = field_no_end n fits

lock_no_end : (locked : Bool) → HasNoEnd (lock_text locked)
lock_no_end true = refl
lock_no_end false = refl

counts_no_end : (c : Counts) → AreShortCounts c → HasNoEnd (counts_text c)
counts_no_end c fits =
    HasNoEnd-append (signed_decimal c.resv) _ (count_no_end c.resv fits.0)
    (HasNoEnd-append (signed_decimal c.owed) _ (count_no_end c.owed fits.1)
    (HasNoEnd-append (signed_decimal c.used) _ (count_no_end c.used fits.2)
    (HasNoEnd-append (signed_decimal c.used_owed) _ (count_no_end c.used_owed fits.3) (quota_no_end c.quota fits.4))))

three_no_end : (a b d : ℕ) → IsShort a → IsShort b → IsShort d → HasNoEnd (decimal a ++ (field b ++ field d))
three_no_end a b d a_fits b_fits d_fits =
    HasNoEnd-append (decimal a) _ (short_no_end a a_fits) (HasNoEnd-append (field b) _ (field_no_end b b_fits) (field_no_end d d_fits))

pub line_no_end : (line : PictureLine) → LineFits line → HasNoEnd (line_text line)
line_no_end (says.Head counts) fits = counts_no_end counts fits
line_no_end (says.Free frame) fits = short_no_end frame fits
line_no_end (says.Retired frame) fits = short_no_end frame fits
line_no_end (says.Hand frame) fits = short_no_end frame fits
line_no_end (says.File size locked) fits = HasNoEnd-append (decimal size) _ (short_no_end size fits) (lock_no_end locked)
line_no_end (says.Region file from to) fits = three_no_end file from to fits.0 fits.1 fits.2
line_no_end (says.Page file index frame) fits = three_no_end file index frame fits.0 fits.1 fits.2
line_no_end (says.Translation task file index frame) fits =
    HasNoEnd-append (decimal task) _ (short_no_end task fits.0) (HasNoEnd-append (field file) _ (field_no_end file fits.1)
    (HasNoEnd-append (field index) _ (field_no_end index fits.2) (field_no_end frame fits.3)))
line_no_end says.End fits = refl

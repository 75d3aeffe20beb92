-- The lines of a text, from its front.
use Rattle.std.proofs.Common.{arith, ◌==◌, ◌≡◌, ◌<◌, ◌+◌, ◌∷◌, [], ℕ, zero, suc, List, Bool, true, false, length, take, drop, eqb-true, subst, refl}
use Rattle.std.proofs.Math.ListN.{get_or}
use Rattle.hp_text.specs.TextLines.{lines_of}

no_end : (b : ℕ) → ¬ (b ≡ 10) → (b == 10) ≡ false
no_end b other = by (b == 10) refl
  where
    by : (c : Bool) → (b == 10) ≡ c → (b == 10) ≡ false
    by true e = absurd (other (eqb-true b 10 e))
    by false e = e

-- the first end of a line stands there
first_end : (text : List ℕ) (end : ℕ) → end < length text → get_or text end 0 ≡ 10
    → ((j : ℕ) → j < end → ¬ (get_or text j 0 ≡ 10)) → lines_of text ≡ take end text ∷ lines_of (drop (suc end) text)
unfolding lines_of
first_end [] end within there before = absurd (omega (arith, within))
first_end (b ∷ text) zero within there before = rw there refl
first_end (b ∷ text) (suc end) within there before =
    let first = no_end b (before 0 (omega arith)) in
    let more = first_end text end (omega (arith, within)) there (λ j l. before (suc j) (omega (arith, l))) in
    rw (first, more) refl

pub line_first : (text : List ℕ) (end : ℕ) → end < length text → get_or text end 0 ≡ 10
    → ((j : ℕ) → j < end → ¬ (get_or text j 0 ≡ 10)) → lines_of text ≡ take end text ∷ lines_of (drop (end + 1) text)
line_first text end within there before =
    let next : suc end ≡ end + 1 = omega arith in
    subst (λ (n : ℕ). lines_of text ≡ take end text ∷ lines_of (drop n text)) next (first_end text end within there before)

-- no line ends
pub line_whole : (text : List ℕ) → 0 < length text → ((j : ℕ) → j < length text → ¬ (get_or text j 0 ≡ 10))
    → lines_of text ≡ text ∷ []
unfolding lines_of
line_whole [] some before = absurd (omega (arith, some))
line_whole (b ∷ []) some before = rw (no_end b (before 0 (omega arith))) refl
line_whole (b ∷ c ∷ text) some before =
    let more = line_whole (c ∷ text) (omega arith) (λ j l. before (suc j) (omega (arith, l))) in
    rw (no_end b (before 0 (omega arith)), more) refl

pub no_line : (text : List ℕ) → length text ≡ 0 → lines_of text ≡ []
unfolding lines_of
no_line [] none = refl
no_line (b ∷ text) none = absurd (omega (arith, none))

-- what a search for an end finds
pub is_end : (b : ℕ) → (b == 10) ≡ true → b ≡ 10
is_end b e = eqb-true b 10 e

pub is_no_end : (b : ℕ) → ¬ ((b == 10) ≡ true) → ¬ (b ≡ 10)
is_no_end b other e = other (rw e refl)

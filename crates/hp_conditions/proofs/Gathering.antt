-- Lines of conditions are read one after the other.
use Rattle.std.proofs.Common.{arith, ◌≡◌, ◌+◌, ◌<◌, ◌∷◌, [], ℕ, List, refl, sym, length}
use Rattle.std.specs.Prelude.{Some, None, Ok, Err}
use Rattle.std.proofs.lemmas.Bool.{ne_eqb}
use Rattle.hp_text.specs.TextLines.{lines_of}
use Rattle.hp_hunt.specs.declared.condition.Condition.{Condition}
use Rattle.hp_conditions.specs.Lines.{Said, all_said, conditions_of, most_lines, nothing, with_line, with_lines}

-- a line more
pub lines_next : (n : ℕ) (s t : Said) (line : List ℕ) (lines : List (List ℕ)) → (n ≡ most_lines → ⊥) → with_line s line ≡ Some t
    → with_lines n s (line ∷ lines) ≡ with_lines (n + 1) t lines
unfolding with_lines
lines_next n s t line lines few is = rw (ne_eqb n most_lines few, is) refl

-- a line that says nothing
pub lines_stop : (n : ℕ) (s : Said) (line : List ℕ) (lines : List (List ℕ)) → (n ≡ most_lines → ⊥) → with_line s line ≡ None
    → with_lines n s (line ∷ lines) ≡ Err (n + 1)
unfolding with_lines
lines_stop n s line lines few is = rw (ne_eqb n most_lines few, is) refl

-- a line too many
pub lines_full : (n : ℕ) (s : Said) (line : List ℕ) (lines : List (List ℕ)) → n ≡ most_lines
    → with_lines n s (line ∷ lines) ≡ Err (n + 1)
unfolding with_lines
lines_full n s line lines full = rw full refl

pub lines_end : (n : ℕ) (s : Said) → with_lines n s [] ≡ Ok s
unfolding with_lines
lines_end n s = refl

-- the conditions, where all lines are read
pub all_read : (text : List ℕ) (s : Said) (cs : List Condition) → with_lines 0 nothing (lines_of text) ≡ Ok s → cs ≡ all_said s
    → 0 < length cs → conditions_of text ≡ Ok cs
unfolding conditions_of
all_read text s [] is all some = absurd (omega (arith, some))
all_read text s (c ∷ cs) is all some = rw (is, sym all) refl

-- there are none
pub none_read : (text : List ℕ) (s : Said) (cs : List Condition) → with_lines 0 nothing (lines_of text) ≡ Ok s → cs ≡ all_said s
    → length cs ≡ 0 → conditions_of text ≡ Err 0
unfolding conditions_of
none_read text s [] is all none = rw (is, sym all) refl
none_read text s (c ∷ cs) is all none = absurd (omega (arith, none))

-- a line is bad
pub bad_read : (text : List ℕ) (n : ℕ) → with_lines 0 nothing (lines_of text) ≡ Err n → conditions_of text ≡ Err n
unfolding conditions_of
bad_read text n is = rw is refl

-- a text of no byte has no line
pub no_lines : (text : List ℕ) → length text ≡ 0 → lines_of text ≡ []
unfolding lines_of
no_lines [] none = refl
no_lines (b ∷ text) none = absurd (omega (arith, none))

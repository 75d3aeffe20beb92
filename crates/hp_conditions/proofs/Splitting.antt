-- A text is cut at a sign.
use Rattle.std.proofs.Common.{arith, ◌==◌, ◌≡◌, ◌<◌, ◌≤◌, ◌+◌, ◌∷◌, ◌++◌, [], ℕ, zero, suc, List, Bool, true, false, ap, length, take, drop, eqb-true, refl, subst, sym, ◌∙◌}
use Rattle.std.specs.Prelude.{Option, Some, None, IfSome, codes}
use Rattle.std.specs.Option.{option_map}
use Rattle.std.proofs.Math.ListN.{drop_of_length-le}
use Rattle.std.proofs.lemmas.Bool.{eqb-false, ne_eqb}
use Rattle.std.proofs.lemmas.List.{append-nil, length-drop}
use Rattle.hp_text.specs.Reading.{after_word}
use Rattle.hp_text.specs.TextLines.{glued}
use Rattle.hp_conditions.specs.Pieces.{alternatives_of, split, with_front}

-- with these bytes before the first piece
abbrev pub behind_front : List ℕ → Option (List ℕ × List ℕ) → Option (List ℕ × List ℕ)
behind_front front o = option_map (λ s. (front ++ s.0, s.1)) o

-- with none it is the same
pub no_front : (o : Option (List ℕ × List ℕ)) → o ≡ behind_front [] o
no_front None = refl
no_front (Some s) = refl

one_front : (b : ℕ) (o : Option (List ℕ × List ℕ)) → behind_front [] (option_map (with_front b) o) ≡ behind_front (b ∷ []) o
one_front b None = refl
one_front b (Some s) = refl

more_front : (b : ℕ) (front : List ℕ) (o : Option (List ℕ × List ℕ))
    → behind_front (b ∷ front) o ≡ option_map (with_front b) (behind_front front o)
more_front b front None = refl
more_front b front (Some s) = refl

-- where the word doesn't stand, it is looked for behind the next byte
not_there : (word : List ℕ) (b : ℕ) (bytes : List ℕ) → after_word word (b ∷ bytes) ≡ None
    → split word (b ∷ bytes) ≡ option_map (with_front b) (split word bytes)
unfolding split
not_there word b bytes none = rw none refl

split_behind : (word text : List ℕ) (place : ℕ) → place < length text → after_word word (drop place text) ≡ None
    → behind_front (take place text) (split word (drop place text)) ≡ behind_front (take (suc place) text) (split word (drop (suc place) text))
split_behind word [] place within none = absurd (omega (arith, within))
split_behind word (b ∷ bytes) zero within none =
    ap (λ (o : Option (List ℕ × List ℕ)). behind_front [] o) (not_there word b bytes none) ∙ one_front b (split word bytes)
split_behind word (b ∷ bytes) (suc place) within none =
    more_front b (take place bytes) (split word (drop place bytes))
    ∙ ap (λ (o : Option (List ℕ × List ℕ)). option_map (with_front b) o) (split_behind word bytes place (omega (arith, within)) none)
    ∙ sym (more_front b (take (suc place) bytes) (split word (drop (suc place) bytes)))

-- a turn of the loop
pub split_next : (word text : List ℕ) (place : ℕ) → place < length text → after_word word (drop place text) ≡ None
    → split word text ≡ behind_front (take place text) (split word (drop place text))
    → split word text ≡ behind_front (take (place + 1) text) (split word (drop (place + 1) text))
split_next word text place within none before =
    let next : suc place ≡ place + 1 = omega arith in
    subst (λ (n : ℕ). split word text ≡ behind_front (take n text) (split word (drop n text))) next
    (before ∙ split_behind word text place within none)

-- the word stands at the front
found : (word bytes rest : List ℕ) → 0 < length bytes → after_word word bytes ≡ Some rest → split word bytes ≡ Some ([], rest)
unfolding split
found word [] rest some is = absurd (omega (arith, some))
found word (b ∷ bytes) rest some is = rw is refl

-- the word stands there
pub split_there : (word text rest : List ℕ) (place : ℕ) → place < length text → after_word word (drop place text) ≡ Some rest
    → split word text ≡ behind_front (take place text) (split word (drop place text)) → split word text ≡ Some (take place text, rest)
split_there word text rest place within is before =
    before
    ∙ ap (λ (o : Option (List ℕ × List ℕ)). behind_front (take place text) o)
    (found word (drop place text) rest (omega (arith, length-drop place text, within)) is)
    ∙ ap (λ (front : List ℕ). Some (front, rest)) (append-nil (take place text))

-- it stands nowhere
pub split_nowhere : (word text : List ℕ) (place : ℕ) → length text ≤ place
    → split word text ≡ behind_front (take place text) (split word (drop place text)) → split word text ≡ None
unfolding split
split_nowhere word text place behind before =
    before ∙ ap (λ (rest : List ℕ). behind_front (take place text) (split word rest)) (drop_of_length-le text behind)

-- ---- alternatives

-- a bar stands there, or none
bar_there : (b : ℕ) (bytes : List ℕ) → (b == 124) ≡ true → after_word (codes "|") (b ∷ bytes) ≡ Some bytes
bar_there b bytes e = rw (eqb-true b 124 e) refl

no_bar : (b : ℕ) (bytes : List ℕ) → (b == 124) ≡ false → after_word (codes "|") (b ∷ bytes) ≡ None
no_bar b bytes e = rw (ne_eqb 124 b (λ same. eqb-false b 124 e (sym same))) refl

-- the alternatives of a text that is cut at its first bar
abbrev pub cut_at : List ℕ → Option (List ℕ × List ℕ) → List (List ℕ)
cut_at text None = text ∷ []
cut_at text (Some s) = s.0 ∷ alternatives_of s.1

glue_cut : (b : ℕ) (bytes : List ℕ) (o : Option (List ℕ × List ℕ))
    → glued b (cut_at bytes o) ≡ cut_at (b ∷ bytes) (option_map (with_front b) o)
glue_cut b bytes None = refl
glue_cut b bytes (Some s) = refl

pub alternatives_cut : (text : List ℕ) → alternatives_of text ≡ cut_at text (split (codes "|") text)
unfolding alternatives_of split
alternatives_cut [] = refl
alternatives_cut (b ∷ bytes) = by (b == 124) refl (alternatives_cut bytes)
  where
    by : (c : Bool) → (b == 124) ≡ c → alternatives_of bytes ≡ cut_at bytes (split (codes "|") bytes)
        → alternatives_of (b ∷ bytes) ≡ cut_at (b ∷ bytes) (split (codes "|") (b ∷ bytes))
    by true e more = rw (e, bar_there b bytes e) refl
    by false e more =
        rw (e, no_bar b bytes e) (ap (λ (all : List (List ℕ)). glued b all) more ∙ glue_cut b bytes (split (codes "|") bytes))

-- what stands behind the bar is shorter
abbrev IsShorter : List ℕ → Option (List ℕ × List ℕ) → Type 0
IsShorter text o = IfSome o (λ s. length s.1 < length text)

skip : (b : ℕ) (bytes : List ℕ) (o : Option (List ℕ × List ℕ)) → IsShorter bytes o → IsShorter (b ∷ bytes) (option_map (with_front b) o)
skip b bytes None less = tt
skip b bytes (Some s) less = omega (arith, less)

pub shorter : (text : List ℕ) → IfSome (split (codes "|") text) (λ s. length s.1 < length text)
unfolding split
shorter [] = tt
shorter (b ∷ bytes) = by (b == 124) refl (shorter bytes)
  where
    by : (c : Bool) → (b == 124) ≡ c → IsShorter bytes (split (codes "|") bytes) → IsShorter (b ∷ bytes) (split (codes "|") (b ∷ bytes))
    by true e more = rw (bar_there b bytes e) (omega arith)
    by false e more = rw (no_bar b bytes e) (skip b bytes (split (codes "|") bytes) more)

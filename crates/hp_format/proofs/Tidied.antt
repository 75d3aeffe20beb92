-- A line's words, laid out byte by byte.
use Rattle.std.proofs.Common.{arith, ◌==◌, ◌||◌, ◌≡◌, ◌++◌, ◌∷◌, [], ℕ, List, Bool, true, false, not, length, eqb-true, refl, sym, ap, subst, ◌∙◌, append_assoc, append-nil}
use Rattle.hp_format.specs.Tidy.{appended, is_blank, uncommented, spaced, gathered, unpadded, tidy}

-- the words so far, whether a blank stands behind them, and what of the rest comes behind
abbrev pub laid : List ℕ → Bool → List ℕ → List ℕ
laid [] behind rest = unpadded rest
laid (w ∷ words) true rest = (w ∷ words) ++ spaced rest
laid (w ∷ words) false rest = (w ∷ words) ++ rest

-- the words come to the line's, once the rest is laid out, too; before a word no blank stands behind any
pub record IsLaid (line words : List ℕ) (behind : Bool) (rest : List ℕ) : Type 0 where
  pub whole : laid words behind (gathered (uncommented rest)) ≡ tidy line
  pub none : words ≡ [] → behind ≡ false

spaced_twice : (rest : List ℕ) → spaced (spaced rest) ≡ spaced rest
spaced_twice [] = refl
spaced_twice (b ∷ rest) = by (b == 32) refl
  where
    by : (c : Bool) → (b == 32) ≡ c → spaced (spaced (b ∷ rest)) ≡ spaced (b ∷ rest)
    by true e = rw (e, e) refl
    by false e = rw e refl

unpadded_spaced : (rest : List ℕ) → unpadded (spaced rest) ≡ unpadded rest
unpadded_spaced [] = refl
unpadded_spaced (b ∷ rest) = by (b == 32) refl
  where
    by : (c : Bool) → (b == 32) ≡ c → unpadded (spaced (b ∷ rest)) ≡ unpadded (b ∷ rest)
    by true e = rw e (rw e refl)
    by false e = rw e refl

-- all is laid out
pub laid_all : (words : List ℕ) (behind : Bool) → laid words behind [] ≡ words
laid_all [] behind = refl
laid_all (w ∷ words) true = append-nil (w ∷ words)
laid_all (w ∷ words) false = append-nil (w ∷ words)

-- a blank
pub laid_blank : (words : List ℕ) (behind : Bool) (rest : List ℕ) → laid words behind (spaced rest) ≡ laid words true rest
laid_blank [] behind rest = unpadded_spaced rest
laid_blank (w ∷ words) true rest = ap (λ (xs : List ℕ). (w ∷ words) ++ xs) (spaced_twice rest)
laid_blank (w ∷ words) false rest = refl

not_space : (b : ℕ) → is_blank b ≡ false → (b == 32) ≡ false
not_space b e = by (b == 32) refl
  where
    by : (c : Bool) → (b == 32) ≡ c → (b == 32) ≡ false
    by true is = let wrong : true ≡ false = subst (λ (c : Bool). (c || (b == 9 || b == 13)) ≡ false) is e in absurd cc
    by false is = is

-- a byte of a word
laid_byte : (words : List ℕ) (behind : Bool) (b : ℕ) (rest : List ℕ) → (b == 32) ≡ false → (words ≡ [] → behind ≡ false)
    → laid words behind (b ∷ rest) ≡ laid (words ++ appended behind b) false rest
laid_byte [] true b rest other none = let wrong : true ≡ false = none refl in absurd cc
laid_byte [] false b rest other none = rw other refl
laid_byte (w ∷ words) true b rest other none =
    rw other (sym (append_assoc (w ∷ words) (32 ∷ b ∷ []) rest))
laid_byte (w ∷ words) false b rest other none = sym (append_assoc (w ∷ words) (b ∷ []) rest)

no_hash : (b : ℕ) → ¬ (b ≡ 35) → (b == 35) ≡ false
no_hash b other = by (b == 35) refl
  where
    by : (c : Bool) → (b == 35) ≡ c → (b == 35) ≡ false
    by true e = absurd (other (eqb-true b 35 e))
    by false e = e

-- a comment begins
pub ends_there : (line words front : List ℕ) (behind : Bool) (b : ℕ) (rest : List ℕ) → IsLaid line words behind front
    → front ≡ b ∷ rest → b ≡ 35 → words ≡ tidy line
unfolding uncommented gathered
ends_there line words front behind b rest is parts e =
    let none : gathered (uncommented front) ≡ [] = rw (parts, e) refl in
    sym (laid_all words behind) ∙ ap (laid words behind) (sym none) ∙ is.whole

pub at_end : (line words rest : List ℕ) (behind : Bool) → IsLaid line words behind rest → rest ≡ [] → words ≡ tidy line
unfolding uncommented gathered
at_end line words rest behind is none =
    let left : gathered (uncommented rest) ≡ [] = rw none refl in
    sym (laid_all words behind) ∙ ap (laid words behind) (sym left) ∙ is.whole

-- behind a blank
pub past_blank : (line words front : List ℕ) (behind empty : Bool) (b : ℕ) (rest : List ℕ) → IsLaid line words behind front
    → front ≡ b ∷ rest → ¬ (b ≡ 35) → true ≡ is_blank b → empty ≡ (length words == 0)
    → IsLaid line words (not empty) rest
unfolding uncommented gathered
past_blank line words front behind empty b rest is parts no_comment blank none =
    let come : gathered (uncommented front) ≡ spaced (gathered (uncommented rest)) = rw (parts, no_hash b no_comment, ← blank) refl in
    let whole : laid words true (gathered (uncommented rest)) ≡ tidy line =
    sym (laid_blank words behind (gathered (uncommented rest))) ∙ ap (laid words behind) (sym come) ∙ is.whole in
    by words empty none whole
  where
    by : (words : List ℕ) (empty : Bool) → empty ≡ (length words == 0) → laid words true (gathered (uncommented rest)) ≡ tidy line
        → IsLaid line words (not empty) rest
    by [] true e whole = record { whole = whole; none = λ _. refl }
    by [] false e whole = absurd cc
    by (w ∷ words) true e whole = let none : length (w ∷ words) ≡ 0 = eqb-true _ _ (sym e) in absurd (omega (arith, none))
    by (w ∷ words) false e whole = record { whole = whole; none = λ i. absurd cc }

-- behind a byte of a word
pub past_byte : (line words front new : List ℕ) (behind : Bool) (b : ℕ) (rest : List ℕ) → IsLaid line words behind front
    → front ≡ b ∷ rest → ¬ (b ≡ 35) → false ≡ is_blank b → new ≡ words ++ appended behind b → IsLaid line new false rest
unfolding uncommented gathered
past_byte line words front new behind b rest is parts no_comment no_blank added =
    let come : gathered (uncommented front) ≡ b ∷ gathered (uncommented rest) = rw (parts, no_hash b no_comment, ← no_blank) refl in record {
      whole = rw added (sym (laid_byte words behind b (gathered (uncommented rest)) (not_space b (sym no_blank)) is.none)
          ∙ ap (laid words behind) (sym come) ∙ is.whole);
      none = λ _. refl;
    }

-- Lines that are laid out one behind the other.
use Rattle.std.proofs.Common.{◌≡◌, ℕ, ◌+◌, ◌<◌, ◌≤◌, List, [], ◌∷◌, ◌++◌, length, take, map, get_or, refl, sym, ap, subst, ◌∙◌, append_assoc}
use Rattle.std.specs.Prelude.{All}
use Rattle.std.proofs.lemmas.List.{append-nil, map-append, take_all, take_more}
use Rattle.std.proofs.lemmas.List.Elements.{All-append, All-cons, All-nil}
use Rattle.hp_picture.specs.declared.line.PictureLine.{PictureLine}
use Rattle.hp_picture.specs.Text.{LineFits, lines_text, spelled}

-- behind the text so far these lines were laid out
pub record Laid (before after : List ℕ) (lines : List PictureLine) : Type 0 where
  pub text : after ≡ before ++ lines_text lines
  pub fits : All LineFits lines

-- none yet
pub laid_none : {A : Type 0} (f : A → PictureLine) (xs : List A) (before : List ℕ) → Laid before before (map f (take 0 xs))
unfolding lines_text
laid_none f xs before = record { text = sym (append-nil before); fits = All-nil LineFits }

behind : {A : Type 0} (f : A → PictureLine) (xs : List A) (x : A) → lines_text (map f (xs ++ x ∷ [])) ≡ lines_text (map f xs) ++ spelled (f x)
unfolding lines_text
behind f [] x = append-nil (spelled (f x))
behind f (y ∷ xs) x =
    ap (λ (t : List ℕ). spelled (f y) ++ t) (behind f xs x) ∙ sym (append_assoc (spelled (f y)) (lines_text (map f xs)) (spelled (f x)))

all_behind : {A : Type 0} (f : A → PictureLine) (xs : List A) (x : A) → All LineFits (map f xs) → LineFits (f x)
    → All LineFits (map f (xs ++ x ∷ []))
all_behind f xs x each last =
    subst (All LineFits) (sym (map-append f xs (x ∷ [])))
    (All-append LineFits (map f xs) (f x ∷ []) each (All-cons LineFits (f x) [] last (All-nil LineFits)))

-- one more
more_laid : {A : Type 0} (f : A → PictureLine) (xs : List A) (n : ℕ) (d : A) (before mid after : List ℕ) → n < length xs
    → Laid before mid (map f (take n xs)) → after ≡ mid ++ spelled (f (get_or xs n d)) → LineFits (f (get_or xs n d))
    → Laid before after (map f (take (n + 1) xs))
more_laid f xs n d before mid after within laid one fits =
    let x = get_or xs n d in
    subst (λ (ys : List _). Laid before after (map f ys)) (sym (take_more xs n d within)) (record {
      text = one ∙ ap (λ (t : List ℕ). t ++ spelled (f x)) laid.text
          ∙ append_assoc before (lines_text (map f (take n xs))) (spelled (f x))
          ∙ ap (λ (t : List ℕ). before ++ t) (sym (behind f (take n xs) x));
      fits = all_behind f (take n xs) x laid.fits fits;
    })

-- the same where a copy is looked at
pub laid_more : {A : Type 0} (f : A → PictureLine) (items xs : List A) (n : ℕ) (d : A) (before mid after : List ℕ) → items ≡ xs
    → n < length items → Laid before mid (map f (take n xs)) → after ≡ mid ++ spelled (f (get_or items n d)) → LineFits (f (get_or items n d))
    → Laid before after (map f (take (n + 1) xs))
laid_more {A} f items xs n d before mid after same =
    subst (λ (ys : List A). n < length items → Laid before mid (map f (take n ys)) → after ≡ mid ++ spelled (f (get_or items n d))
    → LineFits (f (get_or items n d)) → Laid before after (map f (take (n + 1) ys))) same (more_laid f items n d before mid after)

-- all
pub laid_all : {A : Type 0} (f : A → PictureLine) (items xs : List A) (n : ℕ) (before after : List ℕ) → items ≡ xs → length items ≤ n
    → Laid before after (map f (take n xs)) → Laid before after (map f xs)
laid_all {A} f items xs n before after same done laid =
    let all : length xs ≤ n = subst (λ (ys : List A). length ys ≤ n) same done in
    subst (λ (ys : List A). Laid before after (map f ys)) (take_all n xs all) laid

-- texts of seven kinds, one behind the other
pub laid_seven : (t0 t1 t2 t3 t4 t5 t6 t7 a b d e f g h : List ℕ) → t1 ≡ t0 ++ a → t2 ≡ t1 ++ b
    → t3 ≡ t2 ++ d → t4 ≡ t3 ++ e → t5 ≡ t4 ++ f → t6 ≡ t5 ++ g → t7 ≡ t6 ++ h → t7 ≡ t0 ++ (a ++ (b ++ (d ++ (e ++ (f ++ (g ++ h))))))
laid_seven t0 t1 t2 t3 t4 t5 t6 t7 a b d e f g h p1 p2 p3 p4 p5 p6 p7 = rw (p7, p6, p5, p4, p3, p2, p1) (simp (append_assoc) refl)

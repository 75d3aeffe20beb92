-- Words that tell what they are of, whatever words follow them.
use Rattle.std.proofs.Common.{◌≡◌, ◌∙◌, ℕ, ◌/◌, ◌%◌, ◌++◌, ◌∷◌, [], List, length, refl, sym, ap, arith}
use Rattle.std.specs.Prelude.{Bool, true, false, Option, Some, None, map}
use Rattle.std.specs.List.{flat_map}
use Rattle.std.specs.Option.{option_map}
use Rattle.std.proofs.lemmas.List.{append_assoc, append-nil}
use Rattle.hp_base.specs.Numbers.{bit}
use Rattle.hp_key.specs.Numbers.{counted, maybe, number_words, wide}

-- From the one words or the other, and any that follow, f of the one and g of the other are read, and what follows. Where the two
-- words are written alike, so that f is g, words tell f.
pub record Tells {A B : Type 0} (u v : A → List ℕ) (f g : A → B) : Type 0 where
  pub tells : (a b : A) (ss ts : List ℕ) → u a ++ ss ≡ v b ++ ts → (f a ≡ g b) × (ss ≡ ts)

-- words that tell all
abbrev pub Own : {A : Type 0} → (A → List ℕ) → Type 0
Own {A} words = Tells words words (λ (a : A). a) (λ (a : A). a)

pub cons_same : {A : Type 0} (a b : A) (ss ts : List A) → a ∷ ss ≡ b ∷ ts → (a ≡ b) × (ss ≡ ts)
cons_same a b ss ts e = (cc, cc)

-- a number tells itself
pub tells_number : Own number_words
tells_number = record { tells = λ a b ss ts e. cons_same a b ss ts e }

-- what is told of a part, or of two parts
pub tells_of : {A B C : Type 0} (some other : C → A) {u v : A → List ℕ} {f g : A → B} → Tells u v f g
    → Tells (λ (c : C). u (some c)) (λ (c : C). v (other c)) (λ (c : C). f (some c)) (λ (c : C). g (other c))
tells_of some other t = record { tells = λ a b ss ts e. t.tells (some a) (other b) ss ts e }

pub tells_at : {A B C : Type 0} (part : C → A) {u v : A → List ℕ} {f g : A → B} → Tells u v f g
    → Tells (λ (c : C). u (part c)) (λ (c : C). v (part c)) (λ (c : C). f (part c)) (λ (c : C). g (part c))
tells_at part t = tells_of part part t

-- one after the other
pub tells_both : {A B C : Type 0} {u v : A → List ℕ} {f g : A → B} {w x : A → List ℕ} {h k : A → C} → Tells u v f g → Tells w x h k
    → Tells {B = B × C} (λ (a : A). u a ++ w a) (λ (a : A). v a ++ x a) (λ (a : A). (f a, h a)) (λ (a : A). (g a, k a))
tells_both {u = u} {v = v} {w = w} {x = x} s t = record {
  tells = λ a b ss ts e. (
      let front : u a ++ (w a ++ ss) ≡ v b ++ (x b ++ ts) = sym (append_assoc (u a) (w a) ss) ∙ (e ∙ append_assoc (v b) (x b) ts) in
      let one = s.tells a b (w a ++ ss) (x b ++ ts) front in
      let two = t.tells a b ss ts one.1 in
      (λ i. (one.0 i, two.0 i), two.1));
}

-- a number, and what comes behind it
pub tells_then : {A C : Type 0} (part : A → ℕ) {w x : A → List ℕ} {h k : A → C} → Tells w x h k
    → Tells {B = ℕ × C} (λ (a : A). part a ∷ w a) (λ (a : A). part a ∷ x a) (λ (a : A). (part a, h a)) (λ (a : A). (part a, k a))
tells_then part {w = w} {x = x} t = record {
  tells = λ a b ss ts e. (
      let one = cons_same (part a) (part b) (w a ++ ss) (x b ++ ts) e in
      let two = t.tells a b ss ts one.1 in
      (λ i. (one.0 i, two.0 i), two.1));
}

-- what may be there
pub tells_maybe : {A B : Type 0} {u v : A → List ℕ} {f g : A → B} → Tells u v f g
    → Tells (maybe u) (maybe v) (option_map f) (option_map g)
tells_maybe {A} {B} {u} {v} {f} {g} t = record { tells = by }
  where
    by : (a b : Option A) (ss ts : List ℕ) → maybe u a ++ ss ≡ maybe v b ++ ts → (option_map f a ≡ option_map g b) × (ss ≡ ts)
    by None None ss ts e = (refl, (cons_same 0 0 ss ts e).1)
    by None (Some b) ss ts e = absurd (omega (arith, (cons_same 0 1 ss (v b ++ ts) e).0))
    by (Some a) None ss ts e = absurd (omega (arith, (cons_same 1 0 (u a ++ ss) ts e).0))
    by (Some a) (Some b) ss ts e =
        let x = t.tells a b ss ts (cons_same 1 1 (u a ++ ss) (v b ++ ts) e).1 in
        (ap (λ (y : B). Some y) x.0, x.1)

-- a list, thing by thing
many : {A B : Type 0} {u v : A → List ℕ} {f g : A → B} → Tells u v f g → (xs ys : List A) (ss ts : List ℕ) → length xs ≡ length ys
    → flat_map u xs ++ ss ≡ flat_map v ys ++ ts → (map f xs ≡ map g ys) × (ss ≡ ts)
many t [] [] ss ts n e = (refl, e)
many t [] (y ∷ ys) ss ts n e = absurd (omega (arith, n))
many t (x ∷ xs) [] ss ts n e = absurd (omega (arith, n))
many {u = u} {v = v} t (x ∷ xs) (y ∷ ys) ss ts n e =
    let front : u x ++ (flat_map u xs ++ ss) ≡ v y ++ (flat_map v ys ++ ts) =
    sym (append_assoc (u x) (flat_map u xs) ss) ∙ (e ∙ append_assoc (v y) (flat_map v ys) ts) in
    let one = t.tells x y (flat_map u xs ++ ss) (flat_map v ys ++ ts) front in
    let rest = many t xs ys ss ts (omega (arith, n)) one.1 in
    (λ i. one.0 i ∷ rest.0 i, rest.1)

-- and a list that begins with its length
pub tells_counted : {A B : Type 0} {u v : A → List ℕ} {f g : A → B} → Tells u v f g → Tells (counted u) (counted v) (map f) (map g)
tells_counted {u = u} {v = v} t = record {
  tells = λ xs ys ss ts e. (
      let one = cons_same (length xs) (length ys) (flat_map u xs ++ ss) (flat_map v ys ++ ts) e in
      many t xs ys ss ts one.0 one.1);
}

-- words that nothing follows
pub tells_whole : {A B : Type 0} {u v : A → List ℕ} {f g : A → B} → Tells u v f g → (a b : A) → u a ≡ v b → f a ≡ g b
tells_whole {u = u} {v = v} t a b e = (t.tells a b [] [] (append-nil (u a) ∙ (e ∙ sym (append-nil (v b))))).0

-- the two halves of a number tell it
pub tells_wide : Own wide
tells_wide = record {
  tells = λ a b ss ts e. (
      let low = cons_same (a % 4294967296) (b % 4294967296) ((a / 4294967296) ∷ ss) ((b / 4294967296) ∷ ts) e in
      let high = cons_same (a / 4294967296) (b / 4294967296) ss ts low.1 in
      (halves a b low.0 high.0, high.1));
}
  where
    halves : (a b : ℕ) → a % 4294967296 ≡ b % 4294967296 → a / 4294967296 ≡ b / 4294967296 → a ≡ b
    halves a b low high = omega (arith, low, high)

-- a flag tells itself
pub tells_flag : Own (λ (b : Bool). bit b ∷ [])
tells_flag = record { tells = by }
  where
    by : (a b : Bool) (ss ts : List ℕ) → bit a ∷ ss ≡ bit b ∷ ts → (a ≡ b) × (ss ≡ ts)
    by true true ss ts e = (refl, (cons_same 1 1 ss ts e).1)
    by true false ss ts e = absurd (omega (arith, (cons_same 1 0 ss ts e).0))
    by false true ss ts e = absurd (omega (arith, (cons_same 0 1 ss ts e).0))
    by false false ss ts e = (refl, (cons_same 0 0 ss ts e).1)

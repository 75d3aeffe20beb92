-- Text that is written a part at a time.
use Rattle.std.proofs.Common.{◌≡◌, ℕ, List, [], ◌++◌, take, drop, Option, refl, sym, ap, ◌∙◌, append_assoc}
use Rattle.std.specs.Io.KnownBytes.{Appends}
use Rattle.std.proofs.KnownBytes.{Appends-nil, Appends-trans}
use Rattle.std.proofs.lemmas.List.{take-append-drop}
use Rattle.hp_text.specs.Writing.{Wrote}

-- a part more of a text that is appended
pub more_text : (old front part now new : List ℕ) → now ≡ old ++ front → new ≡ now ++ part → new ≡ old ++ (front ++ part)
more_text old front part now new is e = e ∙ ap (λ (x : List ℕ). x ++ part) is ∙ append_assoc old front part

-- a text, and then a front of another
pub Wrote-behind : (a b c : Option (List ℕ)) (xs ys : List ℕ) → Appends a b xs → Wrote b c ys → Wrote a c (xs ++ ys)
Wrote-behind a b c xs ys all w =
    record {
      front = xs ++ w.front;
      back = w.back;
      parts = ap (λ (t : List ℕ). xs ++ t) w.parts ∙ sym (append_assoc xs w.front w.back);
      appends = Appends-trans a b c xs w.front all w.appends;
    }

-- a front of a text is one of a longer text
pub Wrote-more : (old new : Option (List ℕ)) (xs ys : List ℕ) → Wrote old new xs → Wrote old new (xs ++ ys)
Wrote-more old new xs ys w =
    record {
      front = w.front;
      back = w.back ++ ys;
      parts = ap (λ (t : List ℕ). t ++ ys) w.parts ∙ append_assoc w.front w.back ys;
      appends = w.appends;
    }

-- the front of the text is written, and this is left
pub record Writing (old new : Option (List ℕ)) (text rest : List ℕ) : Type 0 where
  pub front : List ℕ
  pub parts : text ≡ front ++ rest
  pub appends : Appends old new front

pub starts : (old : Option (List ℕ)) (text : List ℕ) → Writing old old text text
starts old text = record { front = []; parts = refl; appends = Appends-nil old }

pub goes_on : (old mid new : Option (List ℕ)) (text rest : List ℕ) (n : ℕ) → Writing old mid text rest
    → Appends mid new (take n rest) → Writing old new text (drop n rest)
goes_on old mid new text rest n w more =
    record {
      front = w.front ++ take n rest;
      parts =
          w.parts ∙ ap (λ (t : List ℕ). w.front ++ t) (sym (take-append-drop n rest))
          ∙ sym (append_assoc w.front (take n rest) (drop n rest));
      appends = Appends-trans old mid new w.front (take n rest) w.appends more;
    }

-- A loop that changes each element of a list changes one more.
use Rattle.std.proofs.Common.{◌≡◌, ℕ, zero, suc, ◌+◌, ◌<◌, List, [], ◌∷◌, ◌++◌, length, take, drop, get_or, set, map, sym, ap}
use Rattle.std.proofs.Common.{◌∙◌, arith}
use Rattle.std.proofs.Common.{drop-cons}
use Rattle.std.proofs.lemmas.List.{drop-drop, drop-set-lt, take_more, take_more_set, map-append}

-- what is left of a list begins with its element there
there : {A : Type 0} (i : ℕ) (old : List A) (x : A) (rest : List A) → drop i old ≡ x ∷ rest
    → (i < length old) × (get_or old i x ≡ x)
there zero [] x rest e = absurd (cc)
there zero (w ∷ ws) x rest e = (omega arith, ap (λ l. get_or l 0 x) e)
there (suc i) [] x rest e = absurd (cc)
there (suc i) (w ∷ ws) x rest e = (let r = there i ws x rest e in (omega (arith, r.0), r.1))

pub done_more : {A : Type 0} (f : A → A) (i : ℕ) (now old : List A) (x y : A) → i < length now → x ≡ get_or now i x
    → take i now ≡ map f (take i old) → drop i now ≡ drop i old → y ≡ f x
    → take (i + 1) (set now i y) ≡ map f (take (i + 1) old)
done_more {A} f i now old x y within here done others is =
    let begins : drop i old ≡ x ∷ drop (suc i) now =
    sym others ∙ drop-cons now i x within ∙ ap (λ z. z ∷ drop (suc i) now) (sym here) in
    let at = there i old x (drop (suc i) now) begins in
    let more : take (i + 1) old ≡ take i old ++ x ∷ [] =
    take_more old i x at.0 ∙ ap (λ z. take i old ++ z ∷ []) at.1 in
    take_more_set now i y within
    ∙ ap (λ l. l ++ y ∷ []) done
    ∙ ap (λ z. map f (take i old) ++ z ∷ []) is
    ∙ sym (map-append f (take i old) (x ∷ []))
    ∙ ap (map f) (sym more)

pub others_more : {A : Type 0} (i : ℕ) (now old : List A) (y : A) → drop i now ≡ drop i old
    → drop (i + 1) (set now i y) ≡ drop (i + 1) old
others_more i now old y others =
    drop-set-lt (i + 1) now i y (omega arith) ∙ sym (drop-drop 1 i now) ∙ ap (drop 1) others ∙ drop-drop 1 i old

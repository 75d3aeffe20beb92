-- Texts that are appended piece by piece.
use Rattle.std.proofs.Common.{◌≡◌, ℕ, ◌+◌, ◌<◌, ◌≤◌, List, ◌∷◌, [], ◌++◌, length, take, get_or, sym, ap, ◌∙◌}
use Rattle.std.proofs.Common.{append_assoc, add-one}
use Rattle.std.proofs.lemmas.List.{append-nil, get_or_default, take_more, take_all}
use Rattle.std.specs.Prelude.{None, pos}
use Rattle.hp_text.proofs.Writes.{more_text}
use Rattle.hp_draw.specs.declared.following.Numbers.{Numbers}
use Rattle.hp_draw.specs.Frames.{number_at, numbers_text}
use Rattle.hp_draw.specs.Lanes.{lane_text, lanes_text}
use Rattle.hp_draw.specs.Shapes.{texts}
use Rattle.hp_draw.specs.declared.layout.Layout.{Layout}

-- what is written of a list and of one thing more
texts_more : {A : Type 0} (f : A → List ℕ) (xs : List A) (x : A) → texts f (xs ++ (x ∷ [])) ≡ texts f xs ++ f x
unfolding texts
texts_more f [] x = append-nil (f x)
texts_more f (y ∷ xs) x = ap (λ (t : List ℕ). f y ++ t) (texts_more f xs x) ∙ sym (append_assoc (f y) (texts f xs) (f x))

-- nothing is written yet
pub none_of : {A : Type 0} (f : A → List ℕ) (xs : List A) (old : List ℕ) → old ≡ old ++ texts f (take 0 xs)
unfolding texts
none_of f xs old = sym (append-nil old)

-- the next is
pub one_of : {A : Type 0} (f : A → List ℕ) (xs : List A) (n : ℕ) (x : A) (old now new : List ℕ) → n < length xs → x ≡ get_or xs n x
    → now ≡ old ++ texts f (take n xs) → new ≡ now ++ f x → new ≡ old ++ texts f (take (n + 1) xs)
one_of f xs n x old now new lt at is e =
    more_text old (texts f (take n xs)) (f x) now new is e
    ∙ ap (λ (t : List ℕ). old ++ t)
    (sym (texts_more f (take n xs) x) ∙ ap (texts f) (sym (take_more xs n x lt ∙ ap (λ (y : _). take n xs ++ (y ∷ [])) (sym at))))

-- the same where it is read at some default
pub one_more : {A : Type 0} (f : A → List ℕ) (xs : List A) (n : ℕ) (d : A) (old now new : List ℕ) → n < length xs
    → now ≡ old ++ texts f (take n xs) → new ≡ now ++ f (get_or xs n d) → new ≡ old ++ texts f (take (n + 1) xs)
one_more f xs n d old now new lt is e =
    one_of f xs n (get_or xs n d) old now new lt (get_or_default xs n d (get_or xs n d) lt) is e

-- the counts that are read where there are none
abbrev pub no_numbers : Numbers
no_numbers = record { at = 0; free = 0; resv = 0; bare = 0; owed = pos 0; used = 0 }

-- all are
pub all_of : {A : Type 0} (f : A → List ℕ) (xs : List A) (n : ℕ) (old now : List ℕ) → length xs ≤ n
    → now ≡ old ++ texts f (take n xs) → now ≡ old ++ texts f xs
all_of f xs n old now le is = is ∙ ap (λ (x : List _). old ++ texts f x) (take_all n xs le)

pub no_lane : (l : Layout) (old : List ℕ) → old ≡ old ++ lanes_text l 0
unfolding lanes_text
no_lane l old = sym (append-nil old)

pub one_lane : (l : Layout) (n : ℕ) (old now new : List ℕ) → now ≡ old ++ lanes_text l n
    → new ≡ now ++ lane_text l n (get_or l.tops.items n None) → new ≡ old ++ lanes_text l (n + 1)
unfolding lanes_text
one_lane l n old now new is e = rw (add-one) (more_text old (lanes_text l n) (lane_text l n (get_or l.tops.items n None)) now new is e)

pub no_number : (l : Layout) (old : List ℕ) → old ≡ old ++ numbers_text l 0
unfolding numbers_text
no_number l old = sym (append-nil old)

pub one_number : (l : Layout) (n : ℕ) (old now new : List ℕ) → now ≡ old ++ numbers_text l n
    → new ≡ now ++ number_at l n → new ≡ old ++ numbers_text l (n + 1)
unfolding numbers_text
one_number l n old now new is e = rw (add-one) (more_text old (numbers_text l n) (number_at l n) now new is e)

-- Places of the journal, and what is left of the lists.
use Rattle.std.proofs.Common.{◌≡◌, ℕ, zero, suc, ◌+◌, ◌<◌, ◌≤◌, List, [], ◌∷◌, ◌++◌, length, take, drop, get_or, set, replicate}
use Rattle.std.proofs.Common.{refl, sym, ap, ◌∙◌, subst, arith, add-one, ◌≢◌}
use Rattle.std.proofs.Common.{map, drop-cons, Option, Some, None, MatchOption, MatchBool, Bool, true, false, length-drop}
use lib.Dec.{leb}
use Rattle.std.specs.Bool.{Decides}
use Rattle.std.proofs.Math.Seq.{take-suc}
use Rattle.std.proofs.lemmas.Bool.Decides.{nat_tests}
use Rattle.std.proofs.lemmas.List.{drop-drop, length-map, get_or-map, drop_all, take_all, length-take-le}
use Rattle.hp_shared.specs.declared.entry.Entry.{Entry}
use Rattle.hp_shared.specs.Journal.{IsNextOf, BeginsWith, Uses, AllUsed, without_next, Interleaves, FirstFailsAt, FailsNow}
use Rattle.hp_shared.specs.Unused.{unused}

pub length-unused : (ls : List (List Entry)) (ns : List ℕ) → length (unused ls ns) ≡ length ls
length-unused [] ns = refl
length-unused (l ∷ ls) [] = refl
length-unused (l ∷ ls) (n ∷ ns) = ap suc (length-unused ls ns)

pub get_or-unused : (ls : List (List Entry)) (ns : List ℕ) (i : ℕ) → length ns ≡ length ls
    → get_or (unused ls ns) i [] ≡ drop (get_or ns i 0) (get_or ls i [])
get_or-unused [] [] zero same = refl
get_or-unused [] [] (suc i) same = refl
get_or-unused [] (n ∷ ns) i same = absurd (omega arith)
get_or-unused (l ∷ ls) [] i same = absurd (omega arith)
get_or-unused (l ∷ ls) (n ∷ ns) zero same = refl
get_or-unused (l ∷ ls) (n ∷ ns) (suc i) same = get_or-unused ls ns i (omega arith)

pub unused-none : (ls : List (List Entry)) → unused ls (replicate (length ls) 0) ≡ ls
unused-none [] = refl
unused-none (l ∷ ls) = ap (λ x. l ∷ x) (unused-none ls)

-- one entry more of the list in place i is used
pub unused-more : (ls : List (List Entry)) (ns : List ℕ) (i : ℕ) → length ns ≡ length ls → i < length ls
    → unused ls (set ns i (get_or ns i 0 + 1)) ≡ without_next (unused ls ns) i
unused-more [] ns i same below = absurd (omega arith)
unused-more (l ∷ ls) [] i same below = absurd (omega arith)
unused-more (l ∷ ls) (n ∷ ns) zero same below = ap (λ x. x ∷ unused ls ns) (sym (drop-drop 1 n l))
unused-more (l ∷ ls) (n ∷ ns) (suc i) same below = ap (λ x. drop n l ∷ x) (unused-more ls ns i (omega arith) (omega arith))

-- one place more of the journal
pub Uses-snoc : (p : ℕ) (es : List Entry) (lists rest : List (List Entry)) (e : Entry) (i : ℕ) → Uses p es lists rest
    → e.position ≡ p + length es → IsNextOf e rest i → Uses p (es ++ e ∷ []) lists (without_next rest i)
Uses-snoc p [] lists rest e i uses here next =
    let P : List (List Entry) → Type 0 = λ x. IsNextOf e x i in
    (omega arith, (i, subst P (sym uses) next, ap (λ x. without_next x i) uses))
Uses-snoc p (x ∷ es) lists rest e i uses here next =
    (uses.0, (uses.1.0, uses.1.1, Uses-snoc (p + 1) es (without_next lists uses.1.0) rest e i uses.1.2 (omega arith) next))

-- the list in place i, without what was used of it
pub get_or-unused-map : {S : Type 0} (f : S → List Entry) (xs : List S) (ns : List ℕ) (i : ℕ) (x : S) → length ns ≡ length xs
    → i < length xs → x ≡ get_or xs i x → get_or (unused (map f xs) ns) i [] ≡ drop (get_or ns i 0) (f x)
get_or-unused-map f xs ns i x same below is =
    get_or-unused (map f xs) ns i (same ∙ sym (length-map xs f))
    ∙ ap (drop (get_or ns i 0)) (get_or-map f xs i x [] below ∙ ap f (sym is))

-- the first of what is left
pub begins_with_at : (l : List Entry) (n : ℕ) (x e : Entry) (b : Bool) → n < length l → x ≡ get_or l n x → Decides b (x ≡ e)
    → MatchBool b (BeginsWith e (drop n l)) (¬ (BeginsWith e (drop n l)))
begins_with_at l n x e true below here same =
    let P : List Entry → Type 0 = λ y. BeginsWith e y in
    subst P (sym (drop-cons l n x below)) (sym here ∙ same.0 refl)
begins_with_at l n x e false below here same =
    let P : List Entry → Type 0 = λ y. ¬ (BeginsWith e y) in
    let other : ¬ (get_or l n x ≡ e) = λ is. let no_way : false ≡ true = same.1 (here ∙ is) in cc in
    subst P (sym (drop-cons l n x below)) other

-- all of a list is used exactly where nothing of it is left
pub used_up_at : (l rest : List Entry) (n : ℕ) (b : Bool) → rest ≡ drop n l → leb (length l) n ≡ b
    → MatchBool b (rest ≡ []) (rest ≢ [])
used_up_at l rest n true is test = let h : length l ≤ n = grind (arith, nat_tests) in is ∙ drop_all n l h
used_up_at l rest n false is test =
    λ none. let h : n < length l = grind (arith, nat_tests) in
    absurd (omega (arith, length-drop n l, ap length (sym is ∙ none)))

-- what a walk over all lists found is the one list with this next entry
pub next_found : (ls : List (List Entry)) (e : Entry) (n : ℕ) (found : Option ℕ) → n ≡ length ls
    → MatchOption found ((j : ℕ) → j < n → ¬ (BeginsWith e (get_or ls j [])))
    (λ f. (f < n) × BeginsWith e (get_or ls f []) × ((j : ℕ) → j < n → BeginsWith e (get_or ls j []) → j ≡ f))
    → MatchOption found ((i : ℕ) → ¬ (IsNextOf e ls i)) (IsNextOf e ls)
next_found ls e n None is h = λ i next. h i (omega (arith, next.0)) next.1
next_found ls e n (Some f) is h = (omega (arith, h.0), h.1, λ j below begins. h.2 j (omega arith) begins)

-- at the opening nothing is used
pub uses_none : (ls : List (List Entry)) (ns : List ℕ) (n : ℕ) → ns ≡ replicate n 0 → n ≡ length ls → ls ≡ unused ls ns
uses_none ls ns n is same = sym (ap (unused ls) (is ∙ ap (λ m. replicate m 0) same) ∙ unused-none ls)

-- the walk goes one place further
pub uses_on : (p k : ℕ) (journal : List Entry) (ls : List (List Entry)) (ns : List ℕ) (x : Entry) (i u : ℕ) → k < length journal
    → x ≡ get_or journal k x → length ns ≡ length ls → Uses p (take k journal) ls (unused ls ns) → x.position ≡ p + k
    → IsNextOf x (unused ls ns) i → u ≡ get_or ns i 0 → Uses p (take (k + 1) journal) ls (unused ls (set ns i (u + 1)))
uses_on p k journal ls ns x i u below here_is same uses here next is =
    let len : length (take k journal) ≡ k = length-take-le k journal (omega arith) in
    let more : take (k + 1) journal ≡ take k journal ++ x ∷ [] = rw add-one (take-suc journal k x below)
    ∙ ap (λ (y : Entry). take k journal ++ y ∷ []) (sym here_is) in
    let less : i < length ls = omega (arith, next.0, length-unused ls ns) in
    let left : unused ls (set ns i (u + 1)) ≡ without_next (unused ls ns) i = ap (λ v. unused ls (set ns i (v + 1))) is
    ∙ unused-more ls ns i same less in
    let here2 : x.position ≡ p + length (take k journal) = omega arith in
    rw (more, left) (Uses-snoc p (take k journal) ls (unused ls ns) x i uses here2 next)

-- the walk stops at this place
pub fails_at : (p k : ℕ) (journal : List Entry) (ls rest : List (List Entry)) (x : Entry) → k < length journal
    → x ≡ get_or journal k x
    → Uses p (take k journal) ls rest → (x.position ≡ p + k → (i : ℕ) → ¬ (IsNextOf x rest i)) → FirstFailsAt p journal ls (p + k)
fails_at p k journal ls rest x below here_is uses fails =
    let P : List Entry → Type 0 = λ y. FailsNow (p + k) y rest in
    let is : x ∷ drop (suc k) journal ≡ drop k journal =
    ap (λ (y : Entry). y ∷ drop (suc k) journal) here_is ∙ sym (drop-cons journal k x below) in
    (k, refl, omega arith, (rest, uses, subst P is fails))

-- the walk came to the end of the journal
pub ends_well : (p k : ℕ) (journal : List Entry) (ls rest : List (List Entry)) → length journal ≤ k
    → Uses p (take k journal) ls rest → AllUsed rest → Interleaves p journal ls
ends_well p k journal ls rest past uses all =
    let P : List Entry → Type 0 = λ y. Uses p y ls rest in
    (rest, subst P (take_all k journal past) uses, all)

pub ends_badly : (p k : ℕ) (journal : List Entry) (ls rest : List (List Entry)) → length journal ≤ k → k ≤ length journal
    → Uses p (take k journal) ls rest → ¬ (AllUsed rest) → FirstFailsAt p journal ls (p + length journal)
ends_badly p k journal ls rest past upto uses left =
    let here : k ≡ length journal = omega arith in
    let P : List Entry → Type 0 = λ y. FailsNow (p + length journal) y rest in
    let Q : ℕ → Type 0 = λ m. Uses p (take m journal) ls rest in (
      length journal,
      refl,
      omega arith,
      (
        rest,
        subst Q here uses,
        subst P
            (sym (drop_all (length journal) journal (omega arith))) left,
      ),
    )

-- of no list more was used than the places that were walked
pub below_none : (n j : ℕ) → get_or (replicate n 0) j 0 ≤ 0
below_none zero zero = omega arith
below_none zero (suc j) = omega arith
below_none (suc n) zero = omega arith
below_none (suc n) (suc j) = below_none n j

pub below_on : (ns : List ℕ) (i k u : ℕ) → ((j : ℕ) → get_or ns j 0 ≤ k) → u ≤ k → (j : ℕ) → get_or (set ns i (u + 1)) j 0 ≤ k + 1
below_on [] zero k u h le j = let b = h j in omega arith
below_on [] (suc i) k u h le j = let b = h j in omega arith
below_on (n ∷ ns) zero k u h le zero = omega arith
below_on (n ∷ ns) zero k u h le (suc j) = let b = h (suc j) in omega arith
below_on (n ∷ ns) (suc i) k u h le zero = let b = h zero in omega arith
below_on (n ∷ ns) (suc i) k u h le (suc j) = below_on ns i k u (λ m. h (suc m)) le j

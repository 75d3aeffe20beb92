-- What a search for an index among pages tells.
use Rattle.std.proofs.Common.{◌≡◌, ◌≢◌, ℕ, ◌<◌, Bool, true, false, ◌==◌, List, length, take, get_or, refl, sym, ◌∙◌, ap, arith}
use Rattle.std.specs.Prelude.{All, AllPairs, IsTrue, MatchBool}
use Rattle.std.proofs.lemmas.Bool.{false≢true, eqb-true, eq-eqb}
use Rattle.std.proofs.lemmas.List.{get_or-take, get_or_default, length-take}
use Rattle.std.specs.List.{AllWithin, HoldsAt}
use Rattle.std.proofs.lemmas.List.Elements.{All-from_all_within}
use Rattle.std.proofs.lemmas.List.Folds.{list_any_none, list_any_at}
use Rattle.std.proofs.lemmas.Iterator.Search.{true_from_All}
use Rattle.hp_audit.specs.Findings.{has_page}

-- two numbers that differ fail the test
differ : (a b : ℕ) → a ≢ b → (a == b) ≡ false
differ a b ne = elim (a == b) as (λ r. (a == b) ≡ r → r ≡ false) [ true ↦ λ e. absurd (ne (eqb-true a b e)) | false ↦ λ e. refl ] refl

-- the page at `at` has another index than each before it, where no two have the same
pub new_index : (pages : List (ℕ × ℕ)) (at : ℕ) (page : ℕ × ℕ) → AllPairs (λ page other. page.0 ≢ other.0) pages
    → at < length pages → page ≡ get_or pages at page → has_page (take at pages) page.0 ≡ false
new_index pages at page once within is =
    list_any_none (λ (other : ℕ × ℕ). other.0 == page.0) (take at pages) (λ k d short.
    let before : k < at = omega (arith, length-take at pages, short) in
    let same = get_or-take at pages k d before in
    let there = is ∙ get_or_default pages at page d within in
    rw same (differ (get_or pages k d).0 page.0 (λ e. once k at d before within (e ∙ ap (λ (p : ℕ × ℕ). p.0) there))))

-- a page before `at` has another index than one that isn't found there
pub other_index : (pages : List (ℕ × ℕ)) (at i k : ℕ) (d : ℕ × ℕ) → at < length pages → k < at
    → has_page (take at pages) i ≡ false → (get_or pages k d).0 ≢ i
other_index pages at i k d within before none = λ e.
    let short : k < length (take at pages) = omega (arith, length-take at pages) in
    let there : ((get_or (take at pages) k d).0 == i) ≡ true = rw (get_or-take at pages k d before, e) (eq-eqb i i refl) in
    false≢true (sym none ∙ list_any_at (λ (page : ℕ × ℕ). page.0 == i) (take at pages) k d short there)

passes : {X : Type 0} (P : X → Type 0) (r : Bool) (xs : List X)
    → MatchBool r (AllWithin P xs 0 (length xs)) ((k : ℕ) × (k < length xs) × HoldsAt (λ x. P x → ⊥) xs k) → IsTrue r → All P xs
passes P true xs all _ = All-from_all_within P xs all
passes P false xs some passed = absurd (false≢true passed)

-- what `all` tells of a list, where each element has a fact or is known not to
pub all_tells : {X : Type 0} (P : X → Type 0) (r : Bool) (xs : List X)
    → MatchBool r (AllWithin P xs 0 (length xs)) ((k : ℕ) × (k < length xs) × HoldsAt (λ x. P x → ⊥) xs k)
    → (IsTrue r → All P xs) × (All P xs → IsTrue r)
all_tells P r xs m = (passes P r xs m, λ all. true_from_All P (λ x. P x → ⊥) r xs (λ x yes no. no yes) m all)

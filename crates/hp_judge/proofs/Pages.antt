-- Sets of pages.
use Rattle.std.proofs.Common.{arith, ◌≡◌, ◌++◌, ◌∷◌, [], ℕ, Bool, true, false, cond, refl, ap, ◌∙◌, subst, inl, inr, List, Contains, IsTrue}
use Rattle.std.specs.HashSet.{HashSet, contains}
use Rattle.std.specs.List.{list_any}
use Rattle.std.proofs.lemmas.Bool.{and_parts, and_from, eqb-true}
use Rattle.std.proofs.lemmas.List.Elements.{Contains-append_left, Contains-push, Contains-push_cases}
use Rattle.std.specs.Cmp.{nat_eq_equiv}
use Rattle.hp_judge.specs.Lines.{HasExactly, same_page}

pub one_page : (p q : ℕ × ℕ × ℕ) → same_page p q ≡ true → p ≡ q
one_page p q e =
    let front = and_parts _ _ e in
    let first = and_parts _ _ front.0 in
    let a : p.0 ≡ q.0 = eqb-true _ _ first.0 in
    let b : p.1 ≡ q.1 = eqb-true _ _ first.1 in
    let c : p.2 ≡ q.2 = eqb-true _ _ front.1 in
    (λ i. (a i, b i, c i))

same_itself : (p : ℕ × ℕ × ℕ) → same_page p p ≡ true
same_itself p = and_from _ _ (and_from _ _ (nat_eq_equiv.refl p.0) (nat_eq_equiv.refl p.1)) (nat_eq_equiv.refl p.2)

-- a set without keys has no page
pub none_yet : {S : Type 0} (s : HashSet (ℕ × ℕ × ℕ) S) → s.keys ≡ [] → HasExactly s []
unfolding HasExactly
none_yet s empty q = (
  λ t. (let z : list_any (same_page q) [] ≡ true = subst (λ (ks : List (ℕ × ℕ × ℕ)). list_any (same_page q) ks ≡ true) empty t in
      absurd (cc)),
  λ c. absurd (omega (arith, c.1)),
)

-- a set with one page more
pub one_more : {S : Type 0} (s n : HashSet (ℕ × ℕ × ℕ) S) (pages : List (ℕ × ℕ × ℕ)) (x : ℕ × ℕ × ℕ) → HasExactly s pages
    → ((q : ℕ × ℕ × ℕ) → contains same_page n q ≡ cond (same_page x q) true (contains same_page s q)) → HasExactly n (pages ++ x ∷ [])
unfolding HasExactly
one_more s n pages x has updates q = (
  λ t. there (same_page x q) refl (updates q) t,
  λ c. elim (Contains-push_cases pages x q c) [
    | inl d ↦ back (same_page x q) (updates q) ((has q).1 d)
    | inr d ↦ updates q ∙ ap (λ (b : Bool). cond b true (contains same_page s q)) (subst (λ (y : ℕ × ℕ × ℕ). same_page x y ≡ true) d (same_itself x))
  ],
)
  where
    back : (b : Bool) → contains same_page n q ≡ cond b true (contains same_page s q) → contains same_page s q ≡ true
        → contains same_page n q ≡ true
    back true u h = u
    back false u h = u ∙ h

    there : (b : Bool) → same_page x q ≡ b → contains same_page n q ≡ cond b true (contains same_page s q) → IsTrue (contains same_page n q)
        → Contains (pages ++ x ∷ []) q
    there true e u t = subst (λ (y : ℕ × ℕ × ℕ). Contains (pages ++ x ∷ []) y) (one_page x q e) (Contains-push pages x)
    there false e u t = Contains-append_left pages (x ∷ []) q ((has q).0 (subst IsTrue u t))

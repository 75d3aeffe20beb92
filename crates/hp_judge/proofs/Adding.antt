-- Findings that are added one after the other.
use Rattle.std.proofs.Common.{arith, ◌≡◌, ◌<◌, ◌+◌, ◌++◌, ◌∷◌, ◌⊎◌, [], ℕ, refl, sym, ap, ◌∙◌, subst, inl, inr, List, Contains, Bool, true, false, IsTrue, ◌↔◌}
use Rattle.std.specs.Prelude.{Option, Some, None, IfSome}
use Rattle.std.proofs.lemmas.List.{append_assoc, append-nil}
use Rattle.std.proofs.lemmas.List.Elements.{All-nil, All-push, All-append, Contains-append_left, Contains-append_right, Contains-push}
use Rattle.std.proofs.lemmas.Bool.{cases_lt}
use Rattle.hp_picture.specs.Pictures.{PlacesState}
use Rattle.hp_judge.specs.declared.finding.Clause.{Clause}
use Rattle.hp_judge.specs.declared.finding.Finding.{Finding}
use Rattle.hp_judge.specs.declared.finding.Finding.TheVariants as finding
use Rattle.hp_judge.specs.Findings.{Adds, AddsBelow, AddsIf, AddsOne, AddsSome}
use Rattle.hp_judge.specs.Lines.{Keeps}

-- none is added yet
pub adds_none : (P : Finding → Type 0) (found : List Finding) → ((f : Finding) → P f → ⊥) → Adds P found found
adds_none P found none = record { more = []; behind = sym (append-nil found); each = All-nil P; every = λ f p. absurd (none f p) }

-- one more is added
pub adds_one : (P Q : Finding → Type 0) (before found : List Finding) (x : Finding) → Adds P before found → Q x
    → ((f : Finding) → P f → Q f) → ((f : Finding) → Q f → P f ⊎ (f ≡ x)) → Adds Q before (found ++ x ∷ [])
adds_one P Q before found x a is wider cases = record {
  more = a.more ++ x ∷ [];
  behind = ap (λ (l : List Finding). l ++ x ∷ []) a.behind ∙ append_assoc before a.more (x ∷ []);
  each = All-push Q a.more x (λ k d lt. wider _ (a.each k d lt)) is;
  every = λ f q. elim (cases f q) [
    | inl p ↦ Contains-append_left a.more (x ∷ []) f (a.every f p)
    | inr e ↦ subst (λ (y : Finding). Contains (a.more ++ x ∷ []) y) (sym e) (Contains-push a.more x)
  ];
}

-- the same are added, by another name
pub adds_same : (P Q : Finding → Type 0) (before found : List Finding) → Adds P before found → ((f : Finding) → P f → Q f)
    → ((f : Finding) → Q f → P f) → Adds Q before found
adds_same P Q before found a there back = record { more = a.more; behind = a.behind; each = λ k d lt. there _ (a.each k d lt); every = λ f q. a.every f (back f q) }

-- one kind behind another
pub adds_both : (P Q : Finding → Type 0) (before between after : List Finding) → Adds P before between → Adds Q between after
    → Adds (λ f. P f ⊎ Q f) before after
adds_both P Q before between after a b = record {
  more = a.more ++ b.more;
  behind = b.behind ∙ ap (λ (l : List Finding). l ++ b.more) a.behind ∙ append_assoc before a.more b.more;
  each = All-append (λ f. P f ⊎ Q f) a.more b.more (λ k d lt. inl (a.each k d lt)) (λ k d lt. inr (b.each k d lt));
  every = λ f pq. elim pq [
    | inl p ↦ Contains-append_left a.more b.more f (a.every f p)
    | inr q ↦ Contains-append_right a.more b.more f (b.every f q)
  ];
}

below_cases : (n m : ℕ) → n < m + 1 → (n < m) ⊎ (n ≡ m)
below_cases n m lt = elim (cases_lt n m) [
  | inl a ↦ inl a
  | inr b ↦ inr (omega (arith, lt, b))
]

-- one line more was looked at
pub one_line_more : (p : PlacesState) (clause : Clause) (number : ℕ) (before found after : List Finding)
    → AddsBelow p clause number before found → AddsOne p clause number found after → AddsBelow p clause (number + 1) before after
one_line_more p clause number before found after a one = elim one [
  | inl w ↦ subst (λ (l : List Finding). AddsBelow p clause (number + 1) before l) (sym w.0)
      (adds_one _ _ before found (finding.Line clause number) a (number, refl, omega (arith), w.1)
      (λ f q. (q.0, q.1, omega (arith, q.2), q.3)) cases)
  | inr e ↦ subst (λ (l : List Finding). AddsBelow p clause (number + 1) before l) (sym e.0)
      (adds_same _ _ before found a (λ f q. (q.0, q.1, omega (arith, q.2), q.3)) (fewer e.1))
]
  where
    cases : (f : Finding) → ((n : ℕ) × (f ≡ finding.Line clause n) × (n < number + 1) × (¬ Keeps p clause n))
        → ((n : ℕ) × (f ≡ finding.Line clause n) × (n < number) × (¬ Keeps p clause n)) ⊎ (f ≡ finding.Line clause number)
    cases f q = elim (below_cases q.0 number q.2) [
      | inl lt ↦ inl (q.0, q.1, lt, q.3)
      | inr e ↦ inr (q.1 ∙ ap (finding.Line clause) e)
    ]

    fewer : Keeps p clause number → (f : Finding) → ((n : ℕ) × (f ≡ finding.Line clause n) × (n < number + 1) × (¬ Keeps p clause n))
        → (n : ℕ) × (f ≡ finding.Line clause n) × (n < number) × (¬ Keeps p clause n)
    fewer kept f q = elim (below_cases q.0 number q.2) [
      | inl lt ↦ (q.0, q.1, lt, q.3)
      | inr e ↦ absurd (q.3 (subst (λ (n : ℕ). Keeps p clause n) (sym e) kept))
    ]

-- none was yet
pub no_line_yet : (p : PlacesState) (clause : Clause) (found : List Finding) → AddsBelow p clause 0 found found
no_line_yet p clause found = adds_none _ found (λ f q. omega (arith, q.2))

-- what is added where a flag says so
pub adds_if : (Q : Type 0) (flag : Bool) (f : Finding) (before after : List Finding) → (IsTrue flag ↔ Q) → AddsIf flag f before after
    → Adds (λ g. (g ≡ f) × Q) before after
adds_if Q true f before after is e = subst (λ (l : List Finding). Adds (λ g. (g ≡ f) × Q) before l) (sym e)
    (record {
      more = f ∷ [];
      behind = refl;
      each = All-push (λ g. (g ≡ f) × Q) [] f (All-nil (λ g. (g ≡ f) × Q)) (refl, is.0 refl);
      every = λ g q. subst (λ (h : Finding). Contains (f ∷ []) h) (sym q.0) (Contains-push [] f);
    })
adds_if Q false f before after is e = subst (λ (l : List Finding). Adds (λ g. (g ≡ f) × Q) before l) (sym (e ∙ append-nil before))
    (adds_none _ before (λ g q. (let z : false ≡ true = is.1 q.1 in absurd (cc))))

-- what is added where there is one
pub adds_some : (Q : Type 0) (found : Option Finding) (f : Finding) (before after : List Finding) → IfSome found (λ g. (g ≡ f) × Q)
    → (found ≡ None → Q → ⊥) → AddsSome found before after → Adds (λ g. (g ≡ f) × Q) before after
adds_some Q (Some g) f before after is none e = adds_if Q true f before after (λ t. is.1, λ q. refl)
    (e ∙ ap (λ (h : Finding). before ++ h ∷ []) is.0)
adds_some Q None f before after is none e = adds_if Q false f before after (λ t. (let z : false ≡ true = t in absurd (cc)), λ q. absurd (none refl q))
    (e ∙ sym (append-nil before))

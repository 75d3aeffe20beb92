-- What can be found: a member of a set, the end of the pages of a file, room for a mapping.
use Rattle.std.proofs.Common.{◌≡◌, ℕ, zero, suc, ◌+◌, ◌<◌, ◌≤◌, cond, refl, ap, sym, ◌∙◌, arith, inl, inr, ◌⊎◌}
use Rattle.std.specs.Prelude.{Bool, true, false, ◌&&◌, nat_le, Option, Some, None, List}
use Rattle.std.proofs.lemmas.Bool.Decides.{nat_tests, eqb_tells}
use Rattle.hp_base.specs.Indices.{count_below}
use Rattle.hp_base.specs.Mappings.{is_clear, fits, IsRoom}
use Rattle.hp_base.specs.declared.mapping.Mapping.{Mapping}

pub true_or : (b : Bool) → (b ≡ true) ⊎ (b ≡ false)
true_or true = inl refl
true_or false = inr refl

-- a count that isn't 0 has a member
pub some_member : (n : ℕ) (p : ℕ → Bool) → 1 ≤ count_below p n → (x : ℕ) × (p x ≡ true)
unfolding count_below
some_member zero p l = absurd (omega arith)
some_member (suc n) p l = elim (true_or (p n)) [
  | inl e ↦ (n, e)
  | inr e ↦ some_member n p (let z : ◌≡◌ {A = ℕ} (cond (p n) 1 0) 0 = ap (λ (b : Bool). cond b 1 0) e in omega arith)
]

-- the first number that passes a test, or none below n does
pub first_of_kind : (n : ℕ) (p : ℕ → Bool)
    → ((k : ℕ) × (p k ≡ true) × ((j : ℕ) → j < k → p j ≡ false)) ⊎ ((k : ℕ) → k < n → p k ≡ false)
first_of_kind zero p = inr (λ k l. absurd (omega arith))
first_of_kind (suc n) p = elim (first_of_kind n p) [
  | inl h ↦ inl h
  | inr none ↦ elim (true_or (p n)) [
    | inl e ↦ inl (n, e, none)
    | inr e ↦ inr (λ k l. elim (eqb_tells k n) [ inl d ↦ ap p d.1 ∙ e | inr d ↦ none k (let z = d.1 in omega arith) ])
  ]
]

-- the least base that fits, or none does
pub some_room : (space : ℕ) (ms : List Mapping) (len : ℕ) → (found : Option ℕ) × IsRoom space ms len found
some_room space ms len = elim (first_of_kind (space + 1) (λ base. fits space ms base len)) [
  | inl h ↦ (Some h.0, (h.1, h.2))
  | inr none ↦ (None, λ base. here none base (nat_le base space) refl)
]
  where
    high : (base : ℕ) → nat_le base space ≡ false → nat_le (base + len) space ≡ false
    high base e = grind (arith, nat_tests)

    low : (base : ℕ) → nat_le base space ≡ true → base < space + 1
    low base e = grind (arith, nat_tests)

    here : ((k : ℕ) → k < space + 1 → fits space ms k len ≡ false) → (base : ℕ) (b : Bool) → nat_le base space ≡ b
        → fits space ms base len ≡ false
    here none base true e = none base (low base e)
    here none base false e = ap (λ (b : Bool). b && is_clear ms base len) (high base e)

-- the end of what a finite list of places uses
pub last_used : (n : ℕ) (c : ℕ → Option ℕ)
    → (top : ℕ) × (top ≤ n) × ((i : ℕ) → top ≤ i → i < n → c i ≡ None)
    × ((other : ℕ) → ((i : ℕ) → other ≤ i → i < n → c i ≡ None) → top ≤ other)
last_used zero c = (0, omega arith, λ i a b. absurd (omega arith), λ other h. omega arith)
last_used (suc n) c = here (last_used n c) (c n) refl
  where
    here : ((top : ℕ) × (top ≤ n) × ((i : ℕ) → top ≤ i → i < n → c i ≡ None)
        × ((other : ℕ) → ((i : ℕ) → other ≤ i → i < n → c i ≡ None) → top ≤ other))
        → (o : Option ℕ) → c n ≡ o
        → (top : ℕ) × (top ≤ suc n) × ((i : ℕ) → top ≤ i → i < suc n → c i ≡ None)
        × ((other : ℕ) → ((i : ℕ) → other ≤ i → i < suc n → c i ≡ None) → top ≤ other)
    here rest (Some x) e = (suc n, omega arith, λ i a b. absurd (omega arith), λ other h. enough other (nat_le other n) refl h)
      where
        enough : (other : ℕ) (b : Bool) → nat_le other n ≡ b → ((i : ℕ) → other ≤ i → i < suc n → c i ≡ None) → suc n ≤ other
        enough other true d h = (let z : other ≤ n = grind (arith, nat_tests) in let y : ◌≡◌ {A = Option ℕ} None (Some x) =
            sym (h n z (omega arith)) ∙ e in absurd (cc))
        enough other false d h = grind (arith, nat_tests)
    here o None e = (
      o.0,
      (let z = o.1 in omega arith),
      λ i a b. elim (eqb_tells i n) [ inl d ↦ ap c d.1 ∙ e | inr d ↦ o.2 i a (let z = d.1 in omega arith) ],
      λ other h. o.3 other (λ i a b. h i a (omega arith)),
    )

-- What a function that was changed at one place tells.
use Rattle.std.proofs.Common.{◌≡◌, ◌≢◌, ℕ, ap, sym, ◌∙◌, arith, inl, inr, ◌⊎◌}
use Rattle.std.proofs.Math.Path.{fun_ext}
use Rattle.std.proofs.lemmas.Bool.Decides.{nat_tests, eqb_tells}
use Rattle.hp_base.specs.Numbers.{put, put2}

pub put_same : {A : Type 0} (f : ℕ → A) (k : ℕ) (v : A) → put f k v k ≡ v
unfolding put
put_same f k v = grind (arith, nat_tests)

pub put_other : {A : Type 0} (f : ℕ → A) (k : ℕ) (v : A) (j : ℕ) → j ≢ k → put f k v j ≡ f j
unfolding put
put_other f k v j h = grind (arith, nat_tests)

pub same_or_other : (j k : ℕ) → (j ≡ k) ⊎ (j ≢ k)
same_or_other j k = elim (eqb_tells j k) [ inl h ↦ inl h.1 | inr h ↦ inr h.1 ]

-- what stands at j, for `grind`
pub put_tells : {A : Type 0} (f : ℕ → A) (k : ℕ) (v : A) (j : ℕ) → ((j ≡ k) × (put f k v j ≡ v)) ⊎ ((j ≢ k) × (put f k v j ≡ f j))
put_tells f k v j = elim (same_or_other j k) [ inl e ↦ inl (e, ap (put f k v) e ∙ put_same f k v) | inr h ↦ inr (h, put_other f k v j h) ]

pub put2_tells : {A : Type 0} (p : ℕ → ℕ → A) (f i : ℕ) (v : A) (k j : ℕ)
    → ((k ≡ f) × (j ≡ i) × (put2 p f i v k j ≡ v)) ⊎ (((k ≡ f) → (j ≡ i) → ⊥) × (put2 p f i v k j ≡ p k j))
put2_tells p f i v k j = elim (same_or_other k f) [
  | inl e ↦ elim (same_or_other j i) [
    | inl d ↦ inl (
      e,
      d,
      ap (λ (m : ℕ). put2 p f i v m j) e
          ∙ (ap (λ (r : ℕ → _). r j) (put_same p f (put (p f) i v)) ∙ (ap (put (p f) i v) d ∙ put_same (p f) i v)),
    )
    | inr d ↦ inr (
      λ x y. d y,
      ap (λ (m : ℕ). put2 p f i v m j) e
          ∙ (ap (λ (r : ℕ → _). r j) (put_same p f (put (p f) i v)) ∙ (put_other (p f) i v j d ∙ ap (λ (m : ℕ). p m j) (sym e))),
    )
  ]
  | inr e ↦ inr (λ x y. e x, ap (λ (r : ℕ → _). r j) (put_other p f (put (p f) i v) k e))
]

pub put2_same : {A : Type 0} (p : ℕ → ℕ → A) (f i : ℕ) (v : A) → put2 p f i v f i ≡ v
put2_same {A} p f i v = ap (λ (r : ℕ → A). r i) (put_same p f (put (p f) i v)) ∙ put_same (p f) i v

-- what stood there already changes nothing
pub put_self : {A : Type 0} (f : ℕ → A) (k : ℕ) → put f k (f k) ≡ f
put_self f k = fun_ext (λ j. elim (same_or_other j k) [
  | inl e ↦ ap (put f k (f k)) e ∙ (put_same f k (f k) ∙ ap f (sym e))
  | inr h ↦ put_other f k (f k) j h
])

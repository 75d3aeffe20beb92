-- Regions in order, of which one may have an index.
use Rattle.std.proofs.Common.{arith, ◌≡◌, ◌<◌, ◌≤◌, ◌+◌, ◌-◌, ◌⊎◌, ℕ, zero, suc, Bool, true, false, refl, sym, ◌∙◌, subst, inl, inr, length}
use Rattle.std.specs.Prelude.{slice_index_or, nat_eq}
use Rattle.std.specs.List.{list_any}
use Rattle.std.specs.List.Sorted.{IsPartitionedBy, IsPartitionPoint}
use Rattle.std.specs.Cmp.{nat_eq_equiv}
use Rattle.std.proofs.lemmas.Bool.{and_from, and_parts, cases_eq, cases_lt, eqb-true, le-leb, leb-true, lt-ltb, ltb-true, or_cases, or_left, or_right}
use Rattle.std.proofs.lemmas.List.{get_or_default}
use Rattle.std.proofs.lemmas.List.Folds.{list_any_at, list_any_none}
use Rattle.hp_picture.specs.Pictures.{PlacesState}
use Rattle.hp_judge.specs.declared.finding.Clause.TheVariants.{Region}
use Rattle.hp_judge.specs.Lines.{AllKeep, IsRegionBehind, region_at}
use Rattle.hp_judge.specs.Counts.{begins_by, has_index, is_reserved}

-- of three regions, where the second isn't empty
over : (a b c : ℕ × ℕ × ℕ) → b.1 < b.2 → IsRegionBehind a b → IsRegionBehind b c → IsRegionBehind a c
over a b c some (inl x) (inl y) = inl (omega (arith, x, y))
over a b c some (inl x) (inr y) = inl (omega (arith, x, y.0))
over a b c some (inr x) (inl y) = inl (omega (arith, x.0, y))
over a b c some (inr x) (inr y) = inr (x.0 ∙ y.0, omega (arith, x.1, y.1, some))

below_or_last : (i j : ℕ) → i < suc j → (i < j) ⊎ (i ≡ j)
below_or_last i j lt = elim (cases_lt i j) [
  | inl a ↦ inl a
  | inr b ↦ inr (omega (arith, lt, b))
]

behind_next : (p : PlacesState) → AllKeep p Region → (j : ℕ) → suc j < length p.regions → IsRegionBehind (region_at p j) (region_at p (suc j))
behind_next p keep j within =
    let same : suc j - 1 ≡ j = omega (arith) in
    subst (λ (k : ℕ). IsRegionBehind (region_at p k) (region_at p (suc j))) same ((keep (suc j) within).behind (omega (arith)))

-- each region lies behind all before it
pub behind_all : (p : PlacesState) → AllKeep p Region → (i j : ℕ) → i < j → j < length p.regions → IsRegionBehind (region_at p i) (region_at p j)
behind_all p keep i zero lt within = absurd (omega (arith, lt))
behind_all p keep i (suc j) lt within = elim (below_or_last i j lt) [
  | inl a ↦ over (region_at p i) (region_at p j) (region_at p (suc j)) (keep j (omega (arith, within))).some
      (behind_all p keep i j a (omega (arith, within))) (behind_next p keep j within)
  | inr e ↦ subst (λ (k : ℕ). IsRegionBehind (region_at p k) (region_at p (suc j))) (sym e) (behind_next p keep j within)
]

-- what the tests say
begins : (f i : ℕ) (r : ℕ × ℕ × ℕ) → begins_by f i r ≡ true → (r.0 < f) ⊎ ((r.0 ≡ f) × (r.1 ≤ i))
begins f i r e = elim (or_cases _ _ e) [
  | inl a ↦ inl (ltb-true _ _ a)
  | inr b ↦ inr (eqb-true _ _ (and_parts _ _ b).0, leb-true _ _ (and_parts _ _ b).1)
]

has : (f i : ℕ) (r : ℕ × ℕ × ℕ) → has_index f i r ≡ true → (r.0 ≡ f) × (r.1 ≤ i) × (i < r.2)
has f i r e =
    let parts = and_parts _ _ e in
    let within = and_parts _ _ parts.1 in
    (eqb-true _ _ parts.0, leb-true _ _ within.0, ltb-true _ _ within.1)

begins_too : (f i : ℕ) (r : ℕ × ℕ × ℕ) → r.0 ≡ f → r.1 ≤ i → begins_by f i r ≡ true
begins_too f i r e le = or_right _ _ (and_from _ _ (subst (λ (x : ℕ). nat_eq r.0 x ≡ true) e (nat_eq_equiv.refl r.0)) (le-leb _ _ le))

begins_before : (f i : ℕ) (r : ℕ × ℕ × ℕ) → r.0 < f → begins_by f i r ≡ true
begins_before f i r lt = or_left _ _ (lt-ltb _ _ lt)

-- regions that begin at or before an index stand before those that don't
pub parted : (p : PlacesState) → AllKeep p Region → (f i : ℕ) → IsPartitionedBy (begins_by f i) p.regions
parted p keep f i a b d le lt e = elim (below_or_last a b (omega (arith, le))) [
  | inl less ↦ subst (λ (r : ℕ × ℕ × ℕ). begins_by f i r ≡ true) (get_or_default p.regions a (0, 0, 0) d (omega (arith, less, lt)))
      (earlier (begins f i (region_at p b) (subst (λ (r : ℕ × ℕ × ℕ). begins_by f i r ≡ true) (get_or_default p.regions b d (0, 0, 0) lt) e))
      (behind_all p keep a b less lt) (keep a (omega (arith, less, lt))).some)
  | inr same ↦ subst (λ (k : ℕ). begins_by f i (slice_index_or p.regions k d) ≡ true) (sym same) e
]
  where
    earlier : (((region_at p b).0 < f) ⊎ (((region_at p b).0 ≡ f) × ((region_at p b).1 ≤ i))) → IsRegionBehind (region_at p a) (region_at p b)
        → (region_at p a).1 < (region_at p a).2 → begins_by f i (region_at p a) ≡ true
    earlier (inl x) (inl y) some = begins_before f i (region_at p a) (omega (arith, x, y))
    earlier (inl x) (inr y) some = begins_before f i (region_at p a) (omega (arith, x, y.0))
    earlier (inr x) (inl y) some = begins_before f i (region_at p a) (omega (arith, x.0, y))
    earlier (inr x) (inr y) some = begins_too f i (region_at p a) (y.0 ∙ x.0) (omega (arith, x.1, y.1, some))

-- of the regions that begin at or before an index only the last can have it
pub no_other : (p : PlacesState) → AllKeep p Region → (f i m : ℕ)
    → IsPartitionPoint (λ r. begins_by f i r ≡ true) (λ r. begins_by f i r ≡ false) p.regions m → m ≤ length p.regions
    → (k : ℕ) → k < length p.regions → (k + 1 ≡ m → ⊥) → has_index f i (region_at p k) ≡ false
no_other p keep f i m point few k lt other = by (has_index f i (region_at p k)) refl
  where
    nothing_between : (k + 1 ≡ m → ⊥) → k < m → k + 1 < m
    nothing_between not less = elim (below_or_last (k + 1) m (omega (arith, less))) [
      | inl a ↦ a
      | inr e ↦ absurd (not e)
    ]

    not_before : ((region_at p k).0 ≡ f) × ((region_at p k).1 ≤ i) × (i < (region_at p k).2)
        → (((region_at p (m - 1)).0 < f) ⊎ (((region_at p (m - 1)).0 ≡ f) × ((region_at p (m - 1)).1 ≤ i)))
        → IsRegionBehind (region_at p k) (region_at p (m - 1)) → ⊥
    not_before own (inl x) (inl y) = omega (arith, own.0, x, y)
    not_before own (inl x) (inr y) = omega (arith, own.0, x, y.0)
    not_before own (inr x) (inl y) = omega (arith, own.0, x.0, y)
    not_before own (inr x) (inr y) = omega (arith, own.2, x.1, y.1)

    by : (b : Bool) → has_index f i (region_at p k) ≡ b → has_index f i (region_at p k) ≡ false
    by false e = e
    by true e =
        let own = has f i (region_at p k) e in
        let begun = begins_too f i (region_at p k) own.0 own.1 in
        absurd (elim (cases_lt k m) [
          | inl less ↦ not_before own (begins f i (region_at p (m - 1)) (point.0 (m - 1) (0, 0, 0) (omega (arith)) (omega (arith, less))))
              (behind_all p keep k (m - 1) (omega (arith, less, nothing_between other less)) (omega (arith, less, few)))
          | inr more ↦ (let z : true ≡ false = sym begun ∙ point.1 k (0, 0, 0) more lt in cc)
        ])

not_other : (p : PlacesState) → AllKeep p Region → (f i n : ℕ)
    → IsPartitionPoint (λ r. begins_by f i r ≡ true) (λ r. begins_by f i r ≡ false) p.regions (n + 1) → n < length p.regions
    → has_index f i (region_at p n) ≡ false → (k : ℕ) → k < length p.regions → has_index f i (region_at p k) ≡ false
not_other p keep f i n point lt e k within = elim (cases_eq k n) [
  | inl same ↦ subst (λ (j : ℕ). has_index f i (region_at p j) ≡ false) (sym same) e
  | inr other ↦ no_other p keep f i (n + 1) point (omega (arith, lt)) k within (λ q. other (omega (arith, q)))
]

-- so it tells whether some region has it
pub by_last : (p : PlacesState) → AllKeep p Region → (f i n : ℕ)
    → IsPartitionPoint (λ r. begins_by f i r ≡ true) (λ r. begins_by f i r ≡ false) p.regions (n + 1) → n < length p.regions
    → has_index f i (region_at p n) ≡ is_reserved p.regions f i
unfolding is_reserved
by_last p keep f i n point lt = by (has_index f i (region_at p n)) refl
  where
    by : (b : Bool) → has_index f i (region_at p n) ≡ b → has_index f i (region_at p n) ≡ list_any (has_index f i) p.regions
    by true e = e ∙ sym (list_any_at (has_index f i) p.regions n (0, 0, 0) lt e)
    by false e =
        e ∙ sym (list_any_none (has_index f i) p.regions (λ k d within. subst (λ (r : ℕ × ℕ × ℕ). has_index f i r ≡ false)
        (get_or_default p.regions k (0, 0, 0) d within) (not_other p keep f i n point lt e k within)))

pub by_none : (p : PlacesState) → AllKeep p Region → (f i : ℕ)
    → IsPartitionPoint (λ r. begins_by f i r ≡ true) (λ r. begins_by f i r ≡ false) p.regions 0 → false ≡ is_reserved p.regions f i
unfolding is_reserved
by_none p keep f i point =
    sym (list_any_none (has_index f i) p.regions (λ k d lt. subst (λ (r : ℕ × ℕ × ℕ). has_index f i r ≡ false)
    (get_or_default p.regions k (0, 0, 0) d lt) (no_other p keep f i 0 point (omega (arith)) k lt (λ q. omega (arith, q)))))

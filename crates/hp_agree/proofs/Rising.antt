-- Entries whose keys rise.
use Rattle.std.proofs.Common.{◌≡◌, ℕ, ◌<◌, true, List, [], ◌∷◌, arith}
use Rattle.std.specs.Prelude.{All, AllPairs}
use Rattle.std.specs.FinMap.{is_sorted}
use Rattle.std.specs.FinMap.Entries.{below_all}
use Rattle.std.specs.Ordering.{nat_cmp}
use Rattle.std.proofs.lemmas.Bool.Decides.{nat_tests}
use Rattle.std.proofs.lemmas.List.Elements.{All-cons, All-nil}
use Rattle.std.proofs.lemmas.List.Kept.{AllPairs-cons}

module _ {X : Type 0} where
  -- a key below all of a list is below the first, and below the others
  below_first : (k : ℕ) (entry : ℕ × X) (entries : List (ℕ × X)) → below_all nat_cmp k (entry ∷ entries) ≡ true
      → (k < entry.0) × (below_all nat_cmp k entries ≡ true)
  below_first k entry entries below = (grind (arith, nat_tests), grind (arith, nat_tests))

  -- a list in order has its first key below the others, and those in order
  sorted_first : (entry : ℕ × X) (entries : List (ℕ × X)) → is_sorted nat_cmp (entry ∷ entries) ≡ true
      → (below_all nat_cmp entry.0 entries ≡ true) × (is_sorted nat_cmp entries ≡ true)
  sorted_first entry entries sorted = (grind arith, grind arith)

  -- a key that lies below all keys of a list
  below_each : (k : ℕ) (entries : List (ℕ × X)) → below_all nat_cmp k entries ≡ true → All (λ entry. k < entry.0) entries
  below_each k [] below = All-nil (λ (entry : ℕ × X). k < entry.0)
  below_each k (entry ∷ entries) below =
      let parts = below_first k entry entries below in
      All-cons (λ (e : ℕ × X). k < e.0) entry entries parts.0 (below_each k entries parts.1)

  -- each key of a list in order lies below all later ones
  pub keys_rise : (entries : List (ℕ × X)) → is_sorted nat_cmp entries ≡ true → AllPairs (λ entry other. entry.0 < other.0) entries
  keys_rise [] sorted = λ i j d lt within. absurd (omega (arith, within))
  keys_rise (entry ∷ entries) sorted =
      let parts = sorted_first entry entries sorted in
      AllPairs-cons (λ (one other : ℕ × X). one.0 < other.0) entry entries (below_each entry.0 entries parts.0) (keys_rise entries parts.1)

-- Holders that are listed one by one.
use Rattle.std.proofs.Common.{◌≡◌, ℕ, ◌+◌, ◌-◌, ◌≤◌, List, [], ◌∷◌, ◌++◌, length, sym, subst, arith, length-append, inl, inr}
use Rattle.std.specs.Prelude.{Option, slice_index_or}
use Rattle.std.proofs.Math.Seq.{get_or-append_seam}
use Rattle.std.proofs.lemmas.List.{get_or_append_left}
use Rattle.hp_base.proofs.Puts.{same_or_other}
use Rattle.hp_core.specs.State.{CoreState}
use Rattle.hp_core.specs.Waiting.{WaitsFor}
use Rattle.hp_watch.specs.Holders.{AreHoldersOf}

pub no_holder : (core : CoreState) → AreHoldersOf core []
unfolding AreHoldersOf
no_holder core t d one within = absurd (omega (arith, one, within))

-- those so far, and the next task's
pub one_holder : (core : CoreState) (n t : ℕ) (items now : List (Option ℕ)) (x : Option ℕ) → length items ≡ n → t ≡ n + 1
    → WaitsFor core t x → now ≡ items ++ x ∷ [] → AreHoldersOf core items → AreHoldersOf core now
unfolding AreHoldersOf
one_holder core n t items now x count number waits is were = subst (AreHoldersOf core) (sym is) all
  where
    long : length (items ++ x ∷ []) ≡ length items + 1
    long = length-append items (x ∷ [])

    last : (u : ℕ) (d : Option ℕ) → u ≡ t → WaitsFor core u (slice_index_or (items ++ x ∷ []) (u - 1) d)
    last u d e =
        let at : length items ≡ u - 1 = omega (arith, e, number, count) in
        let its = subst (λ (k : ℕ). slice_index_or (items ++ x ∷ []) k d ≡ x) at (get_or-append_seam items x [] d) in
        subst (WaitsFor core u) (sym its) (subst (λ (k : ℕ). WaitsFor core k x) (sym e) waits)

    earlier : (u : ℕ) (d : Option ℕ) → 1 ≤ u → u ≤ length items → WaitsFor core u (slice_index_or (items ++ x ∷ []) (u - 1) d)
    earlier u d one below =
        subst (WaitsFor core u) (sym (get_or_append_left items (x ∷ []) d (u - 1) (omega (arith, one, below)))) (were u d one below)

    all : AreHoldersOf core (items ++ x ∷ [])
    all u d one within = elim (same_or_other u t) [
      | inl e ↦ last u d e
      | inr other ↦ earlier u d one (below other)
    ]
      where
        below : (u ≡ t → ⊥) → u ≤ length items
        below other = omega (arith, within, long, number, count, other)

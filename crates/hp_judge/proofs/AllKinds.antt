-- Findings of all kinds.
use Rattle.std.proofs.Common.{ap, ℕ, ◌≤◌, ◌≢◌, ◌≡◌, ◌⊎◌, [], refl, sym, subst, inl, inr, List, All, Contains}
use Rattle.hp_picture.specs.Pictures.{PlacesState}
use Rattle.hp_picture.specs.declared.picture.Counts.{Counts}
use Rattle.hp_judge.specs.declared.finding.Clause.{Clause}
use Rattle.hp_judge.specs.declared.finding.Clause.TheVariants.{Region, Page, File, Agree, Size}
use Rattle.hp_judge.specs.declared.finding.Finding.{Finding}
use Rattle.hp_judge.specs.declared.finding.Finding.TheVariants as finding
use Rattle.hp_judge.specs.Findings.{Adds, AddsCounts, CanCount, IsBoundFinding, IsCountFinding, IsFinding, IsLineFinding, IsUnkept, frames_of}
use Rattle.hp_judge.specs.Frames.{AddsTwice, times_in}
use Rattle.hp_judge.proofs.Adding.{adds_both, adds_none, adds_same}

-- the lines of all clauses
pub all_lines : (p : PlacesState) (a b c d e f : List Finding) → Adds (IsUnkept p Region) a b → Adds (IsUnkept p Page) b c
    → Adds (IsUnkept p File) c d → Adds (IsUnkept p Agree) d e → Adds (IsUnkept p Size) e f → Adds (IsLineFinding p) a f
unfolding IsLineFinding
all_lines p a b c d e f one two three four five =
    adds_same _ _ a f (adds_both _ _ a b f one (adds_both _ _ b c f two (adds_both _ _ c d f three (adds_both _ _ d e f four five))))
    there back
  where
    there : (x : Finding) → IsUnkept p Region x ⊎ (IsUnkept p Page x ⊎ (IsUnkept p File x ⊎ (IsUnkept p Agree x ⊎ IsUnkept p Size x)))
        → (clause : Clause) × IsUnkept p clause x
    there x (inl q) = (Region, q)
    there x (inr (inl q)) = (Page, q)
    there x (inr (inr (inl q))) = (File, q)
    there x (inr (inr (inr (inl q)))) = (Agree, q)
    there x (inr (inr (inr (inr q)))) = (Size, q)

    back : (x : Finding) → (clause : Clause) × IsUnkept p clause x → IsUnkept p Region x ⊎ (IsUnkept p Page x ⊎ (IsUnkept p File x
        ⊎ (IsUnkept p Agree x ⊎ IsUnkept p Size x)))
    back x (Region, q) = inl q
    back x (Page, q) = inr (inl q)
    back x (File, q) = inr (inr (inl q))
    back x (Agree, q) = inr (inr (inr (inl q)))
    back x (Size, q) = inr (inr (inr (inr q)))

-- nothing is added where nothing can be counted
pub no_counts : (c : Counts) (p : PlacesState) (found : List Finding) → (CanCount p → ⊥) → AddsCounts c p found found
unfolding AddsCounts
no_counts c p found not = adds_none _ found (λ f q. not q.0)

pub some_counts : (c : Counts) (p : PlacesState) (before after : List Finding) → CanCount p → Adds (IsCountFinding c p) before after
    → AddsCounts c p before after
unfolding AddsCounts
some_counts c p before after can a = adds_same _ _ before after a (λ f q. (can, q)) (λ f q. q.1)

-- a finding is of one of four kinds
abbrev OfKinds : Counts → PlacesState → Finding → Type 0
OfKinds c p f =
    IsLineFinding p f ⊎ (((x : ℕ) × (f ≡ finding.Place x) × (2 ≤ times_in (frames_of p) x))
    ⊎ ((CanCount p × IsCountFinding c p f) ⊎ IsBoundFinding c p f))

as_kind : (c : Counts) (p : PlacesState) (f : Finding) → IsFinding c p f → OfKinds c p f
unfolding IsLineFinding IsUnkept IsCountFinding IsBoundFinding
as_kind c p (finding.Line clause n) q = inl (clause, (n, refl, q.0, q.1))
as_kind c p (finding.Place x) q = inr (inl (x, refl, q))
as_kind c p (finding.Count wanted) q = inr (inr (inl (q.0, inl (ap finding.Count q.1, subst (λ w. c.resv ≢ w) q.1 q.2))))
as_kind c p finding.Free q = inr (inr (inr (inl (refl, q))))
as_kind c p (finding.Used wanted) q = inr (inr (inl (q.0, inr (ap finding.Used q.1, subst (λ w. c.used ≢ w) q.1 q.2))))
as_kind c p finding.Quota q = inr (inr (inr (inr (refl, q))))

of_kind : (c : Counts) (p : PlacesState) (f : Finding) → OfKinds c p f → IsFinding c p f
unfolding IsLineFinding IsUnkept IsCountFinding IsBoundFinding
of_kind c p f (inl (clause, q)) = subst (IsFinding c p) (sym q.1) (q.2, q.3)
of_kind c p f (inr (inl q)) = subst (IsFinding c p) (sym q.1) q.2
of_kind c p f (inr (inr (inl (can, inl q)))) = subst (IsFinding c p) (sym q.0) (can, refl, q.1)
of_kind c p f (inr (inr (inl (can, inr q)))) = subst (IsFinding c p) (sym q.0) (can, refl, q.1)
of_kind c p f (inr (inr (inr (inl q)))) = subst (IsFinding c p) (sym q.0) q.1
of_kind c p f (inr (inr (inr (inr q)))) = subst (IsFinding c p) (sym q.0) q.1

-- all of them are added
pub all_kinds : (c : Counts) (p : PlacesState) (a b d e : List Finding) → Adds (IsLineFinding p) [] a → AddsTwice (frames_of p) a b
    → AddsCounts c p b d → Adds (IsBoundFinding c p) d e → Adds (IsFinding c p) [] e
unfolding AddsTwice AddsCounts
all_kinds c p a b d e one two three four =
    adds_same _ _ [] e (adds_both _ _ [] a e one (adds_both _ _ a b e two (adds_both _ _ b d e three four))) (of_kind c p) (as_kind c p)

-- so all that was found is a finding, and no other is left
pub judged : (c : Counts) (p : PlacesState) (none a b d e : List Finding) → none ≡ [] → Adds (IsLineFinding p) none a
    → AddsTwice (frames_of p) a b → AddsCounts c p b d → Adds (IsBoundFinding c p) d e
    → All (IsFinding c p) e × ((f : Finding) → IsFinding c p f → Contains e f)
judged c p none a b d e empty one two three four =
    let all = all_kinds c p a b d e (subst (λ (l : List Finding). Adds (IsLineFinding p) l a) empty one) two three four in (
      subst (All (IsFinding c p)) (sym all.behind) all.each,
      λ f q. subst (λ (l : List Finding). Contains l f) (sym all.behind) (all.every f q),
    )

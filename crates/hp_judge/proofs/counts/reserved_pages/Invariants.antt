use Rattle.std.proofs.Common.{◌≡◌, ◌≤◌, ℕ, take}
use Rattle.std.specs.Prelude.{count_by}
use Rattle.hp_judge.specs.Counts.{is_reserved}
use Rattle.hp_judge.proofs.counts.reserved_pages.Given as goal

abbrev pub invariant-loop-page : goal.invariant-loop-page
invariant-loop-page l =
    (l.pages ≡ count_by (λ (page : ℕ × ℕ × ℕ). is_reserved l.places.regions page.0 page.1) (take l.page-index l.places.pages)) × (l.pages ≤ l.page-index)

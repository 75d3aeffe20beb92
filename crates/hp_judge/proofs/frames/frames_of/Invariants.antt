use Rattle.std.proofs.Common.{◌≡◌, ◌++◌, ℕ}
use Rattle.std.specs.Prelude.{map, take}
use Rattle.hp_judge.proofs.frames.frames_of.Given as goal

abbrev pub invariant-loop-page : goal.invariant-loop-page
invariant-loop-page l =
    l.frames.items ≡ l.places.free ++ (l.places.retired ++ (l.places.hands ++ map (λ (page : ℕ × ℕ × ℕ). page.2) (take l.page-index l.places.pages)))

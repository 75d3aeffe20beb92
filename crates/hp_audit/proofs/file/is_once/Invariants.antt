use Rattle.std.proofs.Common.{◌≢◌, ℕ, ◌<◌, get_or}
use Rattle.hp_audit.proofs.file.is_once.Given as goal

abbrev pub invariant-loop-at : goal.invariant-loop-at
invariant-loop-at l = (i j : ℕ) (d : ℕ × ℕ) → i < j → j < l.at → (get_or l.pages i d).0 ≢ (get_or l.pages j d).0

-- Frames that are looked at one after the other.
use Rattle.std.specs.Prelude.{◌≡◌, ◌==◌, ◌++◌, ◌∷◌, [], ◌≤◌, ℕ, true, cond, List, MatchBool, count_by, nat_eq, nat_lt}
use Rattle.std.specs.HashSet.{HashSet, contains}
use Rattle.hp_judge.specs.declared.finding.Finding.{Finding}
use Rattle.hp_judge.specs.declared.finding.Finding.TheVariants as finding
use Rattle.hp_judge.specs.Findings.{Adds}

-- how often the frame is among them
abbrev pub times_in : List ℕ → (frame : ℕ) → ℕ
times_in frames x = count_by (λ frame. frame == x) frames

-- a finding for each frame that is among these at least twice
unfoldable pub AddsTwice : (frames : List ℕ) → (before after : List Finding) → Type 0
AddsTwice frames before after = Adds (λ f. (x : ℕ) × (f ≡ finding.Place x) × (2 ≤ times_in frames x)) before after

-- the set has the frames that are among these
unfoldable pub HasSeen : {S : Type 0} → HashSet ℕ S → (frames : List ℕ) → Type 0
HasSeen seen frames = (x : ℕ) → contains nat_eq seen x ≡ nat_lt 0 (times_in frames x)

-- the set has the frame now; where it had it before, that is a finding
pub record NotesFrame {S : Type 0} (seen more : HashSet ℕ S) (frame : ℕ) (before after : List Finding) : Type 0 where
  pub has : (x : ℕ) → contains nat_eq more x ≡ cond (nat_eq frame x) true (contains nat_eq seen x)
  pub found : MatchBool (contains nat_eq seen frame) (after ≡ before ++ finding.Place frame ∷ []) (after ≡ before)

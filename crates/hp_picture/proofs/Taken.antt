-- How lines are taken, one after the other.
use Rattle.std.proofs.Common.{◌≡◌, ◌+◌, ◌∷◌, [], ◌⊎◌, inl, inr, ℕ, List, Some, None, sym, ◌∙◌, refl}
use Rattle.std.specs.Prelude.{Result, Err}
use Rattle.hp_text.specs.declared.fault.ReplayFault.TheVariants.{Memory}
use Rattle.hp_picture.specs.Pictures.{DraftState, PlacesState, next, taken, finished, IsFaultOf}
use Rattle.hp_picture.specs.declared.picture.Counts.{Counts}
use Rattle.hp_picture.specs.declared.fault.PictureFault.{PictureFault}
use Rattle.hp_picture.specs.declared.fault.PictureFault.TheVariants as faults

-- a line that may come, and what those behind it make
pub taken_more : (n : ℕ) (d more : DraftState) (line : List ℕ) (lines all : List (List ℕ)) (start : Result (Counts × PlacesState) ℕ)
    → all ≡ line ∷ lines → next d line ≡ Some more → taken n d all ≡ start → taken (n + 1) more lines ≡ start
unfolding taken
taken_more n d more line lines all start is may same = let same' = rw (is, may) at same in same'

-- a line that may not come
pub taken_bad : (n : ℕ) (d : DraftState) (line : List ℕ) (lines all : List (List ℕ)) (start : Result (Counts × PlacesState) ℕ)
    (fault : PictureFault) → all ≡ line ∷ lines → taken n d all ≡ start
    → (fault ≡ faults.Stream Memory) ⊎ ((fault ≡ faults.Line (n + 1)) × (next d line ≡ None)) → IsFaultOf fault start
unfolding taken
taken_bad n d line lines all start fault is same (inl memory) = rw memory refl
taken_bad n d line lines all start fault is same (inr bad) =
    let same' = rw (is, bad.1) at same in rw bad.0 (sym same')

-- no line is left
pub taken_all : (n : ℕ) (d : DraftState) (all : List (List ℕ)) (start : Result (Counts × PlacesState) ℕ)
    → all ≡ [] → taken n d all ≡ start → finished n d.head d.ended d.places ≡ start
unfolding taken
taken_all n d all start none same = let same' = rw none at same in same'

-- the fault of an end that comes too early
pub ended_bad : (n : ℕ) (read start : Result (Counts × PlacesState) ℕ) (fault : PictureFault) → read ≡ start
    → (fault ≡ faults.Line (n + 1)) × (read ≡ Err (n + 1)) → IsFaultOf fault start
ended_bad n read start fault same bad = rw bad.0 (sym same ∙ bad.1)

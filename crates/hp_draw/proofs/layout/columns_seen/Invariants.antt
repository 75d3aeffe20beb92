use Rattle.std.proofs.Common.{◌≡◌, ◌⊎◌, ℕ, length, take, get_or, All}
use Rattle.std.specs.Prelude.{Any, IsTrue, false, replicate}
use Rattle.hp_draw.proofs.layout.columns_seen.Given as goal

-- no column is found yet
abbrev pub invariant-loop-column : goal.invariant-loop-column
invariant-loop-column l = l.seen.items ≡ replicate l._column false

-- the columns of the stays so far are found, and no others
abbrev pub invariant-loop-stay : goal.invariant-loop-stay
invariant-loop-stay l =
    (length l.seen.items ≡ length l.sketch.open_stays.items)
    × All (λ s. IsTrue (get_or l.seen.items s.column false)) (take l.stay-index l.sketch.stays.items)
    × ((k : ℕ) → IsTrue (get_or l.seen.items k false) → Any (λ s. s.column ≡ k) (take l.stay-index l.sketch.stays.items))

-- those of all stays are, and of the marks so far, and no others
abbrev pub invariant-loop-mark : goal.invariant-loop-mark
invariant-loop-mark l =
    (length l.seen.items ≡ length l.sketch.open_stays.items)
    × All (λ s. IsTrue (get_or l.seen.items s.column false)) l.sketch.stays.items
    × All (λ m. IsTrue (get_or l.seen.items m.column false)) (take l.mark-index l.sketch.marks.items)
    × ((k : ℕ) → IsTrue (get_or l.seen.items k false)
    → Any (λ s. s.column ≡ k) l.sketch.stays.items ⊎ Any (λ m. m.column ≡ k) (take l.mark-index l.sketch.marks.items))

-- those of all stays and marks are, and of the waits so far, and no others
abbrev pub invariant-loop-wait : goal.invariant-loop-wait
invariant-loop-wait l =
    (length l.seen.items ≡ length l.sketch.open_stays.items)
    × All (λ s. IsTrue (get_or l.seen.items s.column false)) l.sketch.stays.items
    × All (λ m. IsTrue (get_or l.seen.items m.column false)) l.sketch.marks.items
    × All (λ w. IsTrue (get_or l.seen.items w.column false)) (take l.wait-index l.sketch.waits.ended.items)
    × ((k : ℕ) → IsTrue (get_or l.seen.items k false)
    → Any (λ s. s.column ≡ k) l.sketch.stays.items ⊎ Any (λ m. m.column ≡ k) l.sketch.marks.items
    ⊎ Any (λ w. w.column ≡ k) (take l.wait-index l.sketch.waits.ended.items))

-- The first line of some bytes, what is behind it, and what a feed took of it.
use Rattle.std.proofs.Common.{◌≡◌, ℕ, ◌+◌, ◌<◌, ◌≤◌, Bool, true, false, eqb, List, [], ◌∷◌, ◌++◌, length, drop, Option, None, refl, ap, arith}
use Rattle.std.proofs.Common.{length-append}
use Rattle.std.specs.Io.BufRead.{take_through}
use Rattle.hp_text.specs.Lines.{FeedState, Line, feed_after, lines_after, listed}

-- the first line of some bytes, and what is behind it
pub through_parts : (xs : List ℕ) → xs ≡ take_through 10 xs ++ drop (length (take_through 10 xs)) xs
through_parts [] = refl
through_parts (x ∷ xs) = by (eqb x 10) refl (through_parts xs)
  where
    by : (end : Bool) → eqb x 10 ≡ end → xs ≡ take_through 10 xs ++ drop (length (take_through 10 xs)) xs
        → x ∷ xs ≡ take_through 10 (x ∷ xs) ++ drop (length (take_through 10 (x ∷ xs))) (x ∷ xs)
    by true e later = rw e refl
    by false e later = rw e (ap (λ (t : List ℕ). x ∷ t) later)

pub through_within : (xs : List ℕ) → length (take_through 10 xs) ≤ length xs
through_within xs =
    omega (
      arith,
      ap (λ (t : List ℕ). length t) (through_parts xs),
      length-append (take_through 10 xs) (drop (length (take_through 10 xs)) xs),
    )

pub through_some : (xs : List ℕ) → 0 < length xs → 0 < length (take_through 10 xs)
through_some [] lt = absurd (omega arith)
through_some (x ∷ xs) lt = by (eqb x 10) refl
  where
    by : (end : Bool) → eqb x 10 ≡ end → 0 < length (take_through 10 (x ∷ xs))
    by true e = rw e (omega arith)
    by false e = rw e (omega arith)

-- less is left behind a first line
pub through_left : (xs : List ℕ) (used left : ℕ) → 0 < length xs → used ≡ length (take_through 10 xs) → left + used ≡ length xs
    → left < length xs
through_left xs used left some is rest = omega (arith, through_some xs some, through_within xs, is, rest)

-- what feed.take told of the line that the rest begins with
pub record TookLine (h next : FeedState) (line : Option Line) (rest left : List ℕ) : Type 0 where
  pub held : next ≡ feed_after h (take_through 10 rest)
  pub lines : listed line [] ≡ lines_after h (take_through 10 rest)
  pub left_is : left ≡ drop (length (take_through 10 rest)) rest
  pub ok : next.fault ≡ None

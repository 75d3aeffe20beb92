-- How a line of a picture is read: from the front, a word or a number at a time.
use Rattle.std.specs.Prelude.{ℕ, ℤ, pos, ◌-ℤ◌, Bool, true, false, List, [], ◌∷◌, Option, Some, None, codes}
use Rattle.hp_text.specs.Reading.{◌>>=◌, after_word, number_at, field_at, last_at, limit, ended, behind}
use Rattle.hp_picture.specs.declared.picture.Counts.{Counts}
use Rattle.hp_picture.specs.declared.line.PictureLine.{PictureLine}
use Rattle.hp_picture.specs.declared.line.PictureLine.TheVariants as says

-- a number of 32 bits, behind a `-` where it stands below zero
unfoldable pub count_at : List ℕ → Option (ℤ × List ℕ)
count_at bytes =
    behind (codes "-") bytes (λ rest. number_at limit rest >>= λ n. Some (pos 0 -ℤ pos n.0, n.1))
    (number_at limit bytes >>= λ n. Some (pos n.0, n.1))

-- a space, and such a number
unfoldable pub count_field_at : List ℕ → Option (ℤ × List ℕ)
count_field_at bytes = after_word (codes " ") bytes >>= count_at

-- a quota, if there is one, as the last of a line
unfoldable pub quota_at : List ℕ → Option (Option ℕ)
quota_at [] = Some None
quota_at (b ∷ bytes) = do
  text ← after_word (codes " ") (b ∷ bytes)
  quota ← last_at text
  Some (Some quota)

-- the counts
unfoldable pub counts_at : List ℕ → Option Counts
counts_at bytes = do
  resv ← count_at bytes
  owed ← count_field_at resv.1
  used ← count_field_at owed.1
  used_owed ← count_field_at used.1
  quota ← quota_at used_owed.1
  Some (record { resv = resv.0; owed = owed.0; used = used.0; used_owed = used_owed.0; quota = quota })

-- the word `locked`, as the last of a line
unfoldable pub locked_at : List ℕ → Option Bool
locked_at bytes = after_word (codes " locked") bytes >>= ended true

-- whether that word stands there, as the last of a line
unfoldable pub lock_at : List ℕ → Option Bool
lock_at [] = Some false
lock_at (b ∷ bytes) = locked_at (b ∷ bytes)

-- a size, and whether the file is locked
unfoldable pub size_at : List ℕ → Option (ℕ × Bool)
size_at bytes = do
  size ← number_at limit bytes
  locked ← lock_at size.1
  Some (size.0, locked)

-- three numbers
unfoldable pub three_at : List ℕ → Option (ℕ × ℕ × ℕ)
three_at bytes = do
  first ← number_at limit bytes
  second ← field_at limit first.1
  third ← field_at limit second.1
  ended (first.0, second.0, third.0) third.1

-- four numbers
unfoldable pub four_at : List ℕ → Option (ℕ × ℕ × ℕ × ℕ)
four_at bytes = do
  first ← number_at limit bytes
  second ← field_at limit first.1
  third ← field_at limit second.1
  fourth ← field_at limit third.1
  ended (first.0, second.0, third.0, fourth.0) fourth.1

-- a frame that is in no file, or the end
unfoldable pub frame_line_at : List ℕ → Option PictureLine
frame_line_at bytes =
    behind (codes "free ") bytes (λ rest. last_at rest >>= λ frame. Some (says.Free frame))
    (behind (codes "retired ") bytes (λ rest. last_at rest >>= λ frame. Some (says.Retired frame))
    (behind (codes "hand ") bytes (λ rest. last_at rest >>= λ frame. Some (says.Hand frame))
    (behind (codes "end") bytes (λ rest. ended says.End rest) None)))

-- a line, without its end
unfoldable pub line_at : List ℕ → Option PictureLine
line_at bytes =
    behind (codes "page ") bytes (λ rest. three_at rest >>= λ r. Some (says.Page r.0 r.1 r.2))
    (behind (codes "region ") bytes (λ rest. three_at rest >>= λ r. Some (says.Region r.0 r.1 r.2))
    (behind (codes "translation ") bytes (λ rest. four_at rest >>= λ r. Some (says.Translation r.0 r.1 r.2 r.3))
    (behind (codes "file ") bytes (λ rest. size_at rest >>= λ r. Some (says.File r.0 r.1))
    (behind (codes "picture ") bytes (λ rest. counts_at rest >>= λ c. Some (says.Head c)) (frame_line_at bytes)))))

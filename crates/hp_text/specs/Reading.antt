-- How a line is read: from the front, a word or a number at a time.
use Rattle.std.specs.Prelude.{ℕ, ◌+◌, ◌-◌, ◌*◌, ◌^◌, List, [], ◌∷◌, length, drop, Option, Some, None, true, false, nat_le, nat_eq}
use Rattle.std.specs.Prelude.{◌==◌, if◌then◌else◌, codes}
use Rattle.std.specs.List.{starts_with}
use Rattle.std.specs.Option.{option_map_or}
use Rattle.std.specs.Char.{is_ascii_digit}
use Rattle.hp_base.specs.Text.{Sizes, are_sizes}
use Rattle.hp_base.specs.declared.event.Op.{Op}
use Rattle.hp_base.specs.declared.event.Op.TheVariants.{Map, MapNoReserve, Unmap, Load, Store, Alloc, Punch, Truncate, Exit}
use Rattle.hp_base.specs.declared.event.Event.{Event}
use Rattle.hp_base.specs.declared.event.Event.TheVariants.{Begin, Step, Kill, Resize}

infixl 10 ◌>>=◌
abbrev pub ◌>>=◌ : {A B : Type 0} → Option A → (A → Option B) → Option B
(Some x) >>= f = f x
None >>= f = None

-- the bytes behind the word that they begin with
abbrev pub after_word : List ℕ → List ℕ → Option (List ℕ)
after_word word bytes = if starts_with nat_eq bytes word then Some (drop (length word) bytes) else None

-- n, and the digits that follow it
unfoldable pub number_from : ℕ → ℕ → List ℕ → Option (ℕ × List ℕ)
number_from most n [] = Some (n, [])
number_from most n (b ∷ bytes) =
    if is_ascii_digit b then (if nat_le (10 * n + (b - 48)) most then number_from most (10 * n + (b - 48)) bytes
    else None) else Some (n, b ∷ bytes)

-- a number of at most `most`, and the bytes behind it: behind a 0 no digit belongs to it
unfoldable pub number_at : ℕ → List ℕ → Option (ℕ × List ℕ)
number_at most [] = None
number_at most (b ∷ bytes) = if b == 48 then Some (0, bytes) else (if is_ascii_digit b then number_from most (b - 48) bytes else None)

-- the most that a number of 32 bits can be
abbrev pub limit : ℕ
limit = 2 ^ 32 - 1

-- a space, and a number
unfoldable pub field_at : ℕ → List ℕ → Option (ℕ × List ℕ)
field_at most bytes = after_word (codes " ") bytes >>= number_at most

-- nothing is left
abbrev pub ended : {A : Type 0} → A → List ℕ → Option A
ended x [] = Some x
ended x (b ∷ bytes) = None

-- the last number of a line
unfoldable pub last_at : List ℕ → Option ℕ
last_at bytes = do
  n ← number_at limit bytes
  ended n.0 n.1

-- a file, an index of it, and a number of pages
unfoldable pub range_at : List ℕ → Option (ℕ × ℕ × ℕ)
range_at bytes = do
  file ← number_at limit bytes
  from ← field_at limit file.1
  len ← field_at limit from.1
  ended (file.0, from.0, len.0) len.1

-- the most that the word of a page can be
abbrev pub word_limit : ℕ
word_limit = 2 ^ 64 - 1

-- a number of 32 bits, and another of at most `most` as the last of a line
unfoldable pub pair_at : ℕ → List ℕ → Option (ℕ × ℕ)
pair_at most bytes = do
  first ← number_at limit bytes
  second ← field_at most first.1
  ended (first.0, second.0) second.1

-- the first, or where there is none the second
abbrev pub option_or : {A : Type 0} → Option A → Option A → Option A
option_or (Some x) other = Some x
option_or None other = other

-- what is read behind the word; where the bytes don't begin with it, other
abbrev pub behind : {A : Type 0} → List ℕ → List ℕ → (List ℕ → Option A) → Option A → Option A
behind word bytes read other = option_map_or read (after_word word bytes) other

-- an operation on a range of a file
unfoldable pub range_op_at : List ℕ → Option Op
range_op_at bytes =
    behind (codes "map ") bytes (λ rest. range_at rest >>= λ r. Some (Map r.0 r.1 r.2))
    (behind (codes "mapn ") bytes (λ rest. range_at rest >>= λ r. Some (MapNoReserve r.0 r.1 r.2))
    (behind (codes "alloc ") bytes (λ rest. range_at rest >>= λ r. Some (Alloc r.0 r.1 r.2 false))
    (behind (codes "allock ") bytes (λ rest. range_at rest >>= λ r. Some (Alloc r.0 r.1 r.2 true))
    (behind (codes "punch ") bytes (λ rest. range_at rest >>= λ r. Some (Punch r.0 r.1 r.2)) None))))

-- another operation
unfoldable pub plain_op_at : List ℕ → Option Op
plain_op_at bytes =
    behind (codes "load ") bytes (λ rest. last_at rest >>= λ vpn. Some (Load vpn))
    (behind (codes "store ") bytes (λ rest. pair_at word_limit rest >>= λ s. Some (Store s.0 s.1))
    (behind (codes "unmap ") bytes (λ rest. last_at rest >>= λ base. Some (Unmap base))
    (behind (codes "trunc ") bytes (λ rest. pair_at limit rest >>= λ s. Some (Truncate s.0 s.1))
    (behind (codes "exit") bytes (λ rest. ended Exit rest) None))))

-- the operation behind a task
unfoldable pub op_at : List ℕ → Option Op
op_at bytes = option_or (plain_op_at bytes) (range_op_at bytes)

-- a line behind the first, without its end
unfoldable pub event_at : List ℕ → Option Event
event_at bytes =
    behind (codes "begin ") bytes (λ rest. do
      task ← number_at limit rest
      text ← after_word (codes " ") task.1
      op ← op_at text
      Some (Begin task.0 op))
    (behind (codes "step ") bytes (λ rest. last_at rest >>= λ n. Some (Step n true))
    (behind (codes "deny ") bytes (λ rest. last_at rest >>= λ n. Some (Step n false))
    (behind (codes "kill ") bytes (λ rest. last_at rest >>= λ n. Some (Kill n))
    (behind (codes "resize ") bytes (λ rest. last_at rest >>= λ n. Some (Resize n)) None))))

-- a space, and the last number of a line
unfoldable pub last_field_at : List ℕ → Option ℕ
last_field_at bytes = do
  n ← field_at limit bytes
  ended n.0 n.1

-- a quota, if there is one, as the last of a line
unfoldable pub quota_at : List ℕ → Option (Option ℕ)
quota_at [] = Some None
quota_at (b ∷ bytes) = do
  quota ← last_field_at (b ∷ bytes)
  Some (Some quota)

-- the numbers of a first line
unfoldable pub sizes_at : List ℕ → Option Sizes
sizes_at bytes = do
  frames ← number_at limit bytes
  files ← field_at limit frames.1
  slots ← field_at limit files.1
  tasks ← field_at limit slots.1
  quota ← quota_at tasks.1
  Some (record { frames = frames.0; files = files.0; slots = slots.0; tasks = tasks.0; quota = quota })

-- the first line behind this word, without its end
unfoldable pub header_behind : (word : List ℕ) → List ℕ → Option Sizes
header_behind word bytes = do
  text ← after_word word bytes
  s ← sizes_at text
  if are_sizes s then Some s else None

-- the first line of a trace, without its end
unfoldable pub header_at : List ℕ → Option Sizes
header_at bytes = do
  text ← after_word (codes "pool ") bytes
  s ← sizes_at text
  if are_sizes s then Some s else None

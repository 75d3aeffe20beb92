-- The lines of a trace, and what is held of a trace while it comes in pieces.
use Rattle.std.specs.Prelude.{ℕ, zero, suc, ◌+◌, List, [], ◌∷◌, ◌++◌, length, Option, Some, None, Result, Ok, Err, ◌==◌}
use Rattle.std.specs.Prelude.{◌≡◌, ◌≢◌, ◌<◌, if◌then◌else◌, IsTrue, slice_index_or}
use Rattle.hp_base.specs.Text.{Sizes, sizes, sizes_text, event_text, are_sizes}
use Rattle.hp_text.specs.Fits.{EventFits}
use Rattle.hp_base.specs.declared.event.Event.{Event}
use Rattle.hp_text.specs.declared.fault.ReplayFault.{ReplayFault}
use Rattle.hp_text.specs.declared.fault.ReplayFault.TheVariants.{BadLine, BadHeader}
use Rattle.hp_text.specs.declared.feed.TraceLine.{TraceLine}
use Rattle.hp_text.specs.declared.feed.TraceLine.TheVariants as lines
use Rattle.hp_text.specs.Reading.{◌>>=◌, header_at, event_at}

-- what a line says
pub data Line : Type 0 where
  header : Sizes → Line
  event : Event → Line

abbrev pub line_of : TraceLine → Line
line_of (lines.Header config) = header (sizes config)
line_of (lines.Event e) = event e

-- what a line says, behind so many others
abbrev pub line_at : ℕ → List ℕ → Option Line
line_at zero text = header_at text >>= λ s. Some (header s)
line_at (suc n) text = event_at text >>= λ e. Some (event e)

-- what is held between two bytes: the number of lines taken, what has come of the next, and a fault
pub record FeedState : Type 0 where
  pub lines : ℕ
  pub rest : List ℕ
  pub fault : Option ReplayFault

abbrev pub opening_feed : FeedState
opening_feed = record { lines = 0; rest = []; fault = None }

-- the fault of the line that stands behind so many others
abbrev pub fault_at : ℕ → ReplayFault
fault_at zero = BadHeader
fault_at (suc n) = BadLine (n + 2)

abbrev pub with_fault : FeedState → FeedState
with_fault h = record h { fault = Some (fault_at h.lines) }

-- a line's end: the rest is a line, or else the first bad one
abbrev pub end_line : FeedState → Option Line → FeedState × Option Line
end_line h (Some line) = (record { lines = h.lines + 1; rest = []; fault = None }, Some line)
end_line h None = (with_fault h, None)

-- one byte that comes where there is no fault: no line is behind the 1,000,001st, or longer than 56 bytes
abbrev pub next_byte : FeedState → ℕ → FeedState × Option Line
next_byte h b =
    if h.lines == 1000001 then (with_fault h, None)
    else (if b == 10 then end_line h (line_at h.lines h.rest)
    else (if length h.rest == 56 then (with_fault h, None)
    else (record h { rest = h.rest ++ b ∷ [] }, None)))

abbrev pub unless_fault : Option ReplayFault → FeedState → FeedState × Option Line → FeedState × Option Line
unless_fault None h next = next
unless_fault (Some fault) h next = (h, None)

-- one byte, and the line that it ends; a fault stays
unfoldable pub take_byte : FeedState → ℕ → FeedState × Option Line
take_byte h b = unless_fault h.fault h (next_byte h b)

abbrev pub listed : {A : Type 0} → Option A → List A → List A
listed None xs = xs
listed (Some x) xs = x ∷ xs

-- what is held after these bytes, and the lines that they end
unfoldable pub feed_after : FeedState → List ℕ → FeedState
feed_after h [] = h
feed_after h (b ∷ bytes) = feed_after (take_byte h b).0 bytes

unfoldable pub lines_after : FeedState → List ℕ → List Line
lines_after h [] = []
lines_after h (b ∷ bytes) = listed (take_byte h b).1 (lines_after (take_byte h b).0 bytes)

-- what the end of the bytes says
abbrev pub end_at : Option ReplayFault → ℕ → List ℕ → Result (Unit {0}) ReplayFault
end_at (Some fault) n rest = Err fault
end_at None zero rest = Err BadHeader
end_at None (suc n) [] = Ok tt
end_at None (suc n) (b ∷ rest) = Err (BadLine (n + 2))

abbrev pub end_of : FeedState → Result (Unit {0}) ReplayFault
end_of h = end_at h.fault h.lines h.rest

-- the first line end of the piece stands there
abbrev pub IsFirstEnd : (piece : List ℕ) → (end : ℕ) → Type 0
IsFirstEnd piece end =
    (end < length piece) × (slice_index_or piece end 0 ≡ 10) × ((j : ℕ) → j < end → slice_index_or piece j 0 ≢ 10)

-- a line's one spelling, with its end
abbrev pub line_text : Line → List ℕ
line_text (header s) = sizes_text s ++ 10 ∷ []
line_text (event e) = event_text e ++ 10 ∷ []

-- lines that may stand behind n others
abbrev pub AreLines : ℕ → List Line → Type 0
AreLines n [] = Unit {0}
AreLines zero (header s ∷ lines) = IsTrue (are_sizes s) × AreLines 1 lines
AreLines (suc n) (event e ∷ lines) = EventFits e × AreLines (suc n + 1) lines
AreLines zero (event e ∷ lines) = ⊥
AreLines (suc n) (header s ∷ lines) = ⊥

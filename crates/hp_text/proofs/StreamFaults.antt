-- A fault of a line is none of a stream, and a fault of writing is none of reading.
use Rattle.std.proofs.Common.{◌≡◌, ℕ, List, refl, sym, subst, inl, inr}
use Rattle.hp_text.specs.declared.fault.ReplayFault.{ReplayFault}
use Rattle.hp_text.specs.declared.fault.ReplayFault.TheVariants.{BadLine, BadHeader, Read, Write, Memory}
use Rattle.hp_text.specs.Lines.{FeedState}
use Rattle.hp_text.specs.Traces.{IsLineFault}
use Rattle.hp_text.specs.Writing.{IsWriteFault}
use Rattle.hp_text.specs.Collecting.{PieceNotKept}
use Rattle.hp_text.specs.Streams.{source_at, sink_at}

-- a line's fault is none of a stream
pub line_no_read : (fault : ReplayFault) (failures : ℕ) → IsLineFault fault → failures ≡ source_at fault failures
line_no_read BadHeader failures is = refl
line_no_read (BadLine n) failures is = refl
line_no_read Read failures is = absurd is
line_no_read Write failures is = absurd is
line_no_read Memory failures is = absurd is

pub line_no_write : (fault : ReplayFault) (failures : ℕ) → IsLineFault fault → failures ≡ sink_at fault failures
line_no_write BadHeader failures is = refl
line_no_write (BadLine n) failures is = refl
line_no_write Read failures is = absurd is
line_no_write Write failures is = absurd is
line_no_write Memory failures is = absurd is

-- nor is a fault of writing one of reading
pub write_no_read : (fault : ReplayFault) (failures : ℕ) → IsWriteFault fault → failures ≡ source_at fault failures
write_no_read BadHeader failures is = absurd is
write_no_read (BadLine n) failures is = absurd is
write_no_read Read failures is = absurd is
write_no_read Write failures is = refl
write_no_read Memory failures is = refl

-- a line of a piece that is bad, or was not kept
pub not_kept_no_read : (fault : ReplayFault) (held : FeedState) (piece : List ℕ) (next : FeedState) (failures : ℕ)
    → PieceNotKept fault held piece next → failures ≡ source_at fault failures
not_kept_no_read fault held piece next failures (inl (bad, is, taken)) = line_no_read fault failures is
not_kept_no_read fault held piece next failures (inr (is, none)) =
    subst (λ (f : ReplayFault). failures ≡ source_at f failures) (sym is) refl

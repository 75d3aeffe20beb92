-- A fault of a stream is answered where that stream failed, and nowhere else.
use Rattle.std.proofs.Common.{◌≡◌, ℕ, List, Option, refl, sym, subst, ◌∙◌, inl, inr}
use Rattle.std.specs.Prelude.{IfErr, Result, Ok, Err}
use Rattle.hp_core.specs.State.{CoreState}
use Rattle.hp_text.specs.declared.fault.ReplayFault.{ReplayFault}
use Rattle.hp_text.specs.Lines.{FeedState}
use Rattle.hp_replay.specs.Running.{PieceStopped}
use Rattle.hp_text.specs.Streams.{source_at, sink_at, TellsReads}
use Rattle.hp_text.proofs.StreamFaults.{line_no_read, line_no_write, write_no_read}
use Rattle.hp_replay.proofs.Replays.{NotFinished}

-- a line of a piece that is bad, or did not run, is no fault of reading
pub stopped_no_read : (fault : ReplayFault) (held : FeedState) (piece : List ℕ) (next : FeedState) (old new : Option CoreState)
    (before after : Option (List ℕ)) (failures : ℕ) → PieceStopped fault held piece next old new before after
    → failures ≡ source_at fault failures
stopped_no_read fault held piece next old new before after failures (inl (bad, is, ran)) = line_no_read fault failures is
stopped_no_read fault held piece next old new before after failures (inr (is, ran)) =
    subst (λ (f : ReplayFault). failures ≡ source_at f failures) (sym is) refl

-- nor is it one of writing
pub stopped_no_write : (fault : ReplayFault) (held : FeedState) (piece : List ℕ) (next : FeedState) (old new : Option CoreState)
    (before after : Option (List ℕ)) (failures : ℕ) → PieceStopped fault held piece next old new before after
    → failures ≡ sink_at fault failures
stopped_no_write fault held piece next old new before after failures (inl (bad, is, ran)) = line_no_write fault failures is
stopped_no_write fault held piece next old new before after failures (inr (is, ran)) =
    subst (λ (f : ReplayFault). failures ≡ sink_at f failures) (sym is) refl

-- nor did the end
pub finish_no_read : (h : FeedState) (core : Option CoreState) (o o' : Option (List ℕ)) (r : Result (Unit {0}) ReplayFault)
    (old new : ℕ) → IfErr r (λ fault. NotFinished fault h core o o') → new ≡ old → TellsReads r old new
finish_no_read h core o o' (Ok x) old new not same = same
finish_no_read h core o o' (Err fault) old new (inl (ended, is, kept)) same = same ∙ line_no_read fault old is
finish_no_read h core o o' (Err fault) old new (inr (is, ended, wrote)) same = same ∙ write_no_read fault old is

-- What a replay has read and written where it ends, with an output that is buffered.
use Rattle.std.specs.Prelude.{◌≡◌, ℕ, List, ◌++◌, Option, Some, None, ⊤, Result, Ok, Err}
use Rattle.std.specs.Io.KnownBytes.{Consumes, Keeps}
use Rattle.hp_text.specs.declared.fault.ReplayFault.{ReplayFault}
use Rattle.hp_text.specs.declared.fault.ReplayFault.TheVariants.{BadLine, BadHeader, Read, Write, Memory}
use Rattle.hp_text.specs.Streams.{one_more}
use Rattle.hp_replay.specs.Replaying.{Replayed, StoppedAtHeader, StoppedAtLine, StoppedAtRead, StoppedEarly, RunWrites}

-- A reader had the bytes `from` left, and now has `to`; an output held `before`, and now holds `after`.

-- what the output holds is a front of what it held before and then this text
abbrev pub HoldsFront : Option (List ℕ) → Option (List ℕ) → List ℕ → Type 0
HoldsFront None after text = ⊤
HoldsFront (Some before) None text = ⊥
HoldsFront (Some before) (Some after) text = (left : List ℕ) × (before ++ text ≡ after ++ left)

-- what the output holds is a front of what it held and of what a run of the lines read writes
pub record CutShort (from to before after : Option (List ℕ)) : Type 0 where
  pub bytes : List ℕ
  pub text : List ℕ
  pub reads : Consumes from to bytes
  pub run : RunWrites to bytes text
  pub holds : HoldsFront before after text

-- what a replay that ends with this fault has done; but at a fault of writing, all that was right before it is written
abbrev pub Ended : ReplayFault → Option (List ℕ) → Option (List ℕ) → Option (List ℕ) → Option (List ℕ) → Type 0
Ended BadHeader from to before after = StoppedAtHeader from to before after
Ended (BadLine n) from to before after = StoppedAtLine n from to before after
Ended Read from to before after = StoppedAtRead from to before after
Ended Write from to before after = CutShort from to before after
Ended Memory from to before after = StoppedEarly from to before after

-- whether the reader has failed where a replay ends with this fault; one of writing may hide that it has
abbrev pub ReaderAt : ReplayFault → (old new : ℕ) → Type 0
ReaderAt BadHeader old new = new ≡ old
ReaderAt (BadLine n) old new = new ≡ old
ReaderAt Read old new = new ≡ one_more old
ReaderAt Write old new = Unit {0}
ReaderAt Memory old new = new ≡ old

-- what a replay does to a reader, which may have failed, and to an output, which goes with a buffer that is refused
abbrev pub DidReplay : Result (Unit {0}) ReplayFault → Option (List ℕ) → Option (List ℕ) → (old new : ℕ)
    → Option (List ℕ) → Option (Option (List ℕ)) → Type 0
DidReplay (Ok x) from to old new before (Some after) = (new ≡ old) × Replayed from to before after
DidReplay (Ok x) from to old new before None = ⊥
DidReplay (Err fault) from to old new before (Some after) = ReaderAt fault old new × Ended fault from to before after
DidReplay (Err fault) from to old new before None = (new ≡ old) × Keeps from to × (fault ≡ Memory)

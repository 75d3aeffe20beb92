-- How often a stream has failed, and what is answered of it.
use Rattle.std.specs.Prelude.{◌≡◌, ℕ, ◌+◌, ◌^◌, ◌-◌, Bool, nat_lt, min, Result, MatchResult}
use Rattle.hp_text.specs.declared.fault.ReplayFault.{ReplayFault}
use Rattle.hp_text.specs.declared.fault.ReplayFault.TheVariants.{BadLine, BadHeader, Read, Write, Memory}
use Rattle.hp_text.specs.declared.streams.Watched.{Watched}

-- the stream that is watched
abbrev pub stream_of : {S : Type 0} → Watched S → S
stream_of watched = watched.stream

-- how many calls of it have failed
abbrev pub failures_of : {S : Type 0} → Watched S → ℕ
failures_of watched = watched.failures

-- whether one has
abbrev pub has_failed : {S : Type 0} → Watched S → Bool
has_failed watched = nat_lt 0 watched.failures

-- a failure more; the count stays at its largest number
abbrev pub one_more : (failures : ℕ) → ℕ
one_more failures = min (failures + 1) (2 ^ 64 - 1)

-- how often a source has failed once this fault is answered: once more at a fault of reading, else as often as it had
abbrev pub source_at : ReplayFault → (failures : ℕ) → ℕ
source_at BadHeader failures = failures
source_at (BadLine n) failures = failures
source_at Read failures = one_more failures
source_at Write failures = failures
source_at Memory failures = failures

-- how often a sink has failed once this fault is answered: once more at a fault of writing, else as often as it had
abbrev pub sink_at : ReplayFault → (failures : ℕ) → ℕ
sink_at BadHeader failures = failures
sink_at (BadLine n) failures = failures
sink_at Read failures = failures
sink_at Write failures = one_more failures
sink_at Memory failures = failures

-- the faults of reading a trace of which nothing is kept
abbrev pub IsReadFault : ReplayFault → Type 0
IsReadFault BadHeader = Unit {0}
IsReadFault (BadLine n) = Unit {0}
IsReadFault Read = Unit {0}
IsReadFault Write = ⊥
IsReadFault Memory = ⊥

-- a fault of reading is answered where a read failed in this call, and nowhere else
abbrev pub TellsReads : {A : Type 0} → Result A ReplayFault → (old new : ℕ) → Type 0
TellsReads result old new = MatchResult result (λ _. new ≡ old) (λ fault. new ≡ source_at fault old)

-- a fault of writing is answered where a write failed in this call, and nowhere else
abbrev pub TellsWrites : {A : Type 0} → Result A ReplayFault → (old new : ℕ) → Type 0
TellsWrites result old new = MatchResult result (λ _. new ≡ old) (λ fault. new ≡ sink_at fault old)

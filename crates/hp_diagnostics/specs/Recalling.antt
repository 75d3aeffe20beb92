-- A source that keeps what it gave last.
use Rattle.hp_diagnostics.specs.declared.recalling.Recalling.{Recalling}

-- the source that it takes its bytes from
abbrev pub source_of : {S : Type 0} → Recalling S → S
source_of recalling = recalling.source

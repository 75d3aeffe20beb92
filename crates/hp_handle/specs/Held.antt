-- What a handle holds.
use Rattle.std.specs.Prelude.{◌≡◌, Option, Some, None}
use Rattle.hp_core.specs.State.{CoreState}
use Rattle.hp_handle.specs.declared.handle.Handle.{Handle}

-- the core of an open pool, or none
abbrev pub held : Handle → Option CoreState
held handle = handle.core.held

-- what a reader returns of the core that is held, or none of a closed pool
abbrev pub Reads : {W : Type 0} → (CoreState → W → Type 0) → (held : Option CoreState) → Option W → Type 0
Reads returns None read = read ≡ None
Reads {W} returns (Some core) read = (words : W) × (read ≡ Some words) × returns core words

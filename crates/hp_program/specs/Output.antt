-- What becomes of an output that is flushed behind what was written to it.
use Rattle.std.specs.Prelude.{◌≡◌, ℕ, List, [], Option, Bool, false, Result, OnOk}
use Rattle.std.specs.Io.KnownBytes.{Keeps, append_known}

-- A buffer in front of it held `mid`, of which `left` never reached it: nothing where no write had failed and the flush didn't either
pub record Flushed {E : Type 0} (has_failed : Bool) (answer : Result (Unit {0}) E) (mid after : Option (List ℕ)) : Type 0 where
  pub left : List ℕ
  pub kept : Keeps mid (append_known after left)
  pub all : OnOk answer (has_failed ≡ false → left ≡ [])

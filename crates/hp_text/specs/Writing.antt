-- What was written of a text where the writing may have stopped.
use Rattle.std.specs.Prelude.{◌≡◌, ℕ, List, ◌++◌, Option}
use Rattle.std.specs.Io.KnownBytes.{Appends}
use Rattle.hp_text.specs.declared.fault.ReplayFault.{ReplayFault}
use Rattle.hp_text.specs.declared.fault.ReplayFault.TheVariants.{BadLine, BadHeader, Read, Write, Memory}

-- a front of the text was written
pub record Wrote (old new : Option (List ℕ)) (text : List ℕ) : Type 0 where
  pub front : List ℕ
  pub back : List ℕ
  pub parts : text ≡ front ++ back
  pub appends : Appends old new front

-- the faults of writing a text
abbrev pub IsWriteFault : ReplayFault → Type 0
IsWriteFault BadHeader = ⊥
IsWriteFault (BadLine n) = ⊥
IsWriteFault Read = ⊥
IsWriteFault Write = Unit {0}
IsWriteFault Memory = Unit {0}

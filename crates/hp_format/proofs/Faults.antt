-- Faults of lines, by what is known of them; and the numbers of lines.
use Rattle.std.proofs.Common.{arith, ◌≡◌, ◌+◌, ◌++◌, ◌∷◌, ℕ, List, length, length-append, ap}
use Rattle.hp_format.specs.Loose.{IsFaultBy}
use Rattle.hp_format.specs.declared.fault.LooseFault.{LooseFault}
use Rattle.hp_format.specs.declared.fault.LooseFault.TheVariants.{Stream, Line}
use Rattle.hp_format.specs.declared.fault.Reason.{Reason}

-- what is known of a line is known of its fault
pub fault_by : (P Q : ℕ → Reason → Type 0) → ((n : ℕ) (why : Reason) → P n why → Q n why) → (fault : LooseFault) → IsFaultBy P fault
    → IsFaultBy Q fault
fault_by P Q more (Stream fault) is = is
fault_by P Q more (Line n why) is = more n why is

-- the number of a line that came last, where so many others came before
pub numbered : (before number : ℕ) (all done : List (List ℕ)) (line : List ℕ) (rest : List (List ℕ)) → all ≡ done ++ line ∷ rest
    → number + length rest ≡ before + length all → number ≡ before + length done + 1
numbered before number all done line rest parts counted =
    let sum = length-append done (line ∷ rest) in
    omega (arith, ap length parts, sum, counted)

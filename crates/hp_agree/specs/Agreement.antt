-- What hp_judge finds in a picture of hp_audit's, by the kinds of hp_audit's findings.
use Rattle.std.specs.Prelude.{ℕ, ℤ, ◌⊎◌}
use Rattle.hp_audit.specs.declared.picture.Picture.{Picture}
use Rattle.hp_judge.specs.Findings.{IsFinding}
use Rattle.hp_judge.specs.declared.finding.Clause.{Clause}
use Rattle.hp_judge.specs.declared.finding.Finding.{Finding}
use Rattle.hp_judge.specs.declared.finding.Finding.TheVariants as finding
use Rattle.hp_agree.specs.Flat.{counts_of, places_of}

-- it finds this ..
abbrev pub Finds : Picture → Finding → Type 0
Finds p f = IsFinding (counts_of p) (places_of p) f

-- .. nothing at all ..
abbrev pub FindsNothing : Picture → Type 0
FindsNothing p = (f : Finding) → ¬ Finds p f

-- .. a line that doesn't keep the clause ..
abbrev pub FindsLine : Picture → Clause → Type 0
FindsLine p clause = (n : ℕ) × Finds p (finding.Line clause n)

-- .. a frame at two places ..
abbrev pub FindsPlace : Picture → Type 0
FindsPlace p = (x : ℕ) × Finds p (finding.Place x)

-- .. that the reserve count should be another, or is above the free frames ..
abbrev pub FindsCount : Picture → Type 0
FindsCount p = ((wanted : ℤ) × Finds p (finding.Count wanted)) ⊎ Finds p finding.Free

-- .. or that the used count should be another, or is above the quota
abbrev pub FindsUsed : Picture → Type 0
FindsUsed p = ((wanted : ℤ) × Finds p (finding.Used wanted)) ⊎ Finds p finding.Quota

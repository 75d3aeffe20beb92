-- Where a run has no further moment.
use Rattle.std.proofs.Common.{◌≡◌}
use Rattle.std.specs.Prelude.{Option, None, Some}

-- what is nothing else is nothing
pub none_told : {A : Type 0} (o : Option A) → ((x : A) → o ≡ Some x → ⊥) → o ≡ None
none_told None not = λ i. None
none_told (Some t) not = absurd (not t (λ i. Some t))

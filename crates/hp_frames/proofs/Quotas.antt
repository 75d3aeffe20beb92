-- Counts of used pages that stay within the quota.
use Rattle.std.proofs.Common.{◌≡◌, ℕ, ◌+◌, ◌≤◌, false, Option, Some, None, refl, arith}
use Rattle.std.proofs.lemmas.Bool.Decides.{nat_tests}
use Rattle.hp_frames.specs.Bank.{exceeds, is_used_up, IsWithinQuota}

-- nothing is within each quota
pub none_within : (quota : Option ℕ) → IsWithinQuota quota 0
none_within None = tt
none_within (Some most) = omega arith

-- what is less than a count within the quota is within it
pub less_within : (quota : Option ℕ) (used n : ℕ) → n ≤ used → IsWithinQuota quota used → IsWithinQuota quota n
less_within None used n less within = tt
less_within (Some most) used n less within = omega arith

-- what doesn't exceed the quota stays within it
pub more_within : (quota : Option ℕ) (used n : ℕ) → exceeds quota used n ≡ false → IsWithinQuota quota used → IsWithinQuota quota (used + n)
more_within None used n few within = tt
more_within (Some most) used n few within = grind (arith, nat_tests, few, within)

-- one more page stays within a quota that isn't used up
pub one_within : (quota : Option ℕ) (used : ℕ) → is_used_up quota used ≡ false → IsWithinQuota quota used → IsWithinQuota quota (used + 1)
one_within None used some within = tt
one_within (Some most) used some within = grind (arith, nat_tests, some, within)

-- a quota that is used up has no room for one more page
pub used_up : (quota : Option ℕ) (used : ℕ) → IsWithinQuota quota used → exceeds quota used 1 ≡ is_used_up quota used
used_up None used within = refl
used_up (Some most) used within = grind (arith, nat_tests, within)

-- What a comparison in the code tells of the numbers.
use Rattle.std.proofs.Common.{◌≡◌, ℕ, ◌<◌, ◌≤◌, Bool, true, false, arith}
use Rattle.std.specs.Prelude.{nat_lt, nat_eq}
use Rattle.std.specs.Ordering.{nat_cmp, is_lt, is_le}
use Rattle.std.proofs.lemmas.Bool.Decides.{nat_tests}

pub lt_true : (a b : ℕ) → true ≡ is_lt (nat_cmp a b) → a < b
lt_true a b h = grind (arith, nat_tests)

pub lt_false : (a b : ℕ) → false ≡ is_lt (nat_cmp a b) → b ≤ a
lt_false a b h = grind (arith, nat_tests)

pub le_true : (a b : ℕ) → true ≡ is_le (nat_cmp a b) → a ≤ b
le_true a b h = grind (arith, nat_tests)

pub le_false : (a b : ℕ) → false ≡ is_le (nat_cmp a b) → b < a
le_false a b h = grind (arith, nat_tests)

pub lt_test : (a b : ℕ) (x : Bool) → x ≡ is_lt (nat_cmp a b) → nat_lt a b ≡ x
lt_test a b x h = grind (arith, nat_tests)

pub same_number : (a b : ℕ) → nat_eq a b ≡ true → a ≡ b
same_number a b e = grind (arith, nat_tests)

pub other_number : (a b : ℕ) → nat_eq a b ≡ false → b ≤ a → b < a
other_number a b e le = grind (arith, nat_tests)

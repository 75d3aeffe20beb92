-- What a test says that passes or fails, and that none does both.
use Rattle.std.proofs.Common.{◌≡◌, ℕ, ◌<◌, ◌≤◌, ap, sym, ◌∙◌, arith}
use Rattle.std.specs.Prelude.{Bool, true, false, ◌&&◌, ◌==◌, nat_le, nat_lt, Some}
use Rattle.std.proofs.lemmas.Bool.Decides.{nat_tests}

-- the test for less, where it passes
pub lt : (a b : ℕ) → nat_lt a b ≡ true → a < b
lt a b e = grind (arith, nat_tests)

-- and where it fails
pub le : (a b : ℕ) → nat_lt a b ≡ false → b ≤ a
le a b e = grind (arith, nat_tests)

-- the test for 0, where it passes
pub is_nil : (m : ℕ) → (m == 0) ≡ true → m ≡ 0
is_nil m e = grind (arith, nat_tests)

-- and where it fails
pub not_nil : (m : ℕ) → (m == 0) ≡ false → 1 ≤ m
not_nil m e = grind (arith, nat_tests)

-- 0 doesn't fail it
pub nil_passes : {P : Type 0} (m : ℕ) → m ≡ 0 → (m == 0) ≡ false → P
nil_passes m e d = (let l = not_nil m d in absurd (omega arith))

-- the test for equal numbers, where it passes
pub same_of : (a b : ℕ) → (a == b) ≡ true → a ≡ b
same_of a b e = grind (arith, nat_tests)

-- a test for a file, and more, says which file it is
pub file_told : (f k : ℕ) (b : Bool) → ((f == k) && b) ≡ true → Some f ≡ Some k
file_told f k b e = let d : f ≡ k = grind (arith, nat_tests) in ap (λ (m : ℕ). Some m) d

-- an index of a file from another on passes the test for that
pub from_on : (f new j : ℕ) → new ≤ j → ((f == f) && nat_le new j) ≡ true
from_on f new j l = grind (arith, nat_tests)

-- false isn't true
pub never : {P : Type 0} → false ≡ true → P
never e = absurd (cc)

-- no test both passes and fails
pub clash : {P : Type 0} (b : Bool) → b ≡ true → b ≡ false → P
clash b e d = (let z : true ≡ false = sym e ∙ d in absurd (cc))

-- equal options have equal values
pub some_same : {A : Type 0} {a b : A} → Some a ≡ Some b → a ≡ b
some_same e = cc

-- The bytes of words tell the words.
use Rattle.std.proofs.Common.{◌≡◌, ℕ, ◌/◌, ◌%◌, ◌<◌, ◌≤◌, ◌++◌, ◌∷◌, [], List, refl, sym, arith}
use Rattle.std.specs.Prelude.{Bool, true, false, nat_lt, if◌then◌else◌}
use Rattle.std.specs.List.{flat_map}
use Rattle.std.proofs.lemmas.Bool.{ltb-true, ltb-false}
use Rattle.std.proofs.lemmas.List.{append_assoc}
use Rattle.hp_key.specs.Packed.{packed, word_bytes}
use Rattle.hp_key.proofs.Tells.{cons_same}

-- a word that isn't small
abbrev large : ℕ → List ℕ
large n = 255 ∷ n % 256 ∷ n / 256 % 256 ∷ n / 65536 % 256 ∷ n / 16777216 ∷ []

digits : (a b : ℕ) → a % 256 ≡ b % 256 → a / 256 % 256 ≡ b / 256 % 256 → a / 65536 % 256 ≡ b / 65536 % 256
    → a / 16777216 ≡ b / 16777216 → a ≡ b
digits a b first second third fourth = omega (arith, first, second, third, fourth)

-- the bytes of a word tell it, whatever follows
word_told : (a b : ℕ) (ss ts : List ℕ) → word_bytes a ++ ss ≡ word_bytes b ++ ts → (a ≡ b) × (ss ≡ ts)
word_told a b ss ts e = by (nat_lt a 255) refl (nat_lt b 255) refl e
  where
    by : (c : Bool) → nat_lt a 255 ≡ c → (d : Bool) → nat_lt b 255 ≡ d
        → (if c then a ∷ [] else large a) ++ ss ≡ (if d then b ∷ [] else large b) ++ ts → (a ≡ b) × (ss ≡ ts)
    by true is true same h = cons_same a b ss ts h
    by true is false other h =
        let z = (cons_same a 255 ss (b % 256 ∷ b / 256 % 256 ∷ b / 65536 % 256 ∷ b / 16777216 ∷ ts) h).0 in
        let less = ltb-true a 255 is in
        absurd (omega (arith, z, less))
    by false is true other h =
        let z = (cons_same 255 b (a % 256 ∷ a / 256 % 256 ∷ a / 65536 % 256 ∷ a / 16777216 ∷ ss) ts h).0 in
        let less = ltb-true b 255 other in
        absurd (omega (arith, z, less))
    by false is false other h =
        let one = cons_same 255 255 (a % 256 ∷ a / 256 % 256 ∷ a / 65536 % 256 ∷ a / 16777216 ∷ ss)
        (b % 256 ∷ b / 256 % 256 ∷ b / 65536 % 256 ∷ b / 16777216 ∷ ts) h in
        let two = cons_same (a % 256) (b % 256) (a / 256 % 256 ∷ a / 65536 % 256 ∷ a / 16777216 ∷ ss)
        (b / 256 % 256 ∷ b / 65536 % 256 ∷ b / 16777216 ∷ ts) one.1 in
        let three = cons_same (a / 256 % 256) (b / 256 % 256) (a / 65536 % 256 ∷ a / 16777216 ∷ ss)
        (b / 65536 % 256 ∷ b / 16777216 ∷ ts) two.1 in
        let four = cons_same (a / 65536 % 256) (b / 65536 % 256) (a / 16777216 ∷ ss) (b / 16777216 ∷ ts) three.1 in
        let five = cons_same (a / 16777216) (b / 16777216) ss ts four.1 in
        (digits a b two.0 three.0 four.0 five.0, five.1)

-- no word is nothing
never_nothing : {P : Type 0} (b : ℕ) (ts : List ℕ) → ◌≡◌ {A = List ℕ} [] (word_bytes b ++ ts) → P
never_nothing {P} b ts e = by (nat_lt b 255) e
  where
    by : (c : Bool) → ◌≡◌ {A = List ℕ} [] ((if c then b ∷ [] else large b) ++ ts) → P
    by true h = absurd (cc)
    by false h = absurd (cc)

-- so the bytes of words tell them
pub unpacked : (xs ys : List ℕ) → packed xs ≡ packed ys → xs ≡ ys
unpacked [] [] e = refl
unpacked [] (y ∷ ys) e = never_nothing y (flat_map word_bytes ys) e
unpacked (x ∷ xs) [] e = never_nothing x (flat_map word_bytes xs) (sym e)
unpacked (x ∷ xs) (y ∷ ys) e =
    let one = word_told x y (flat_map word_bytes xs) (flat_map word_bytes ys) e in
    let rest = unpacked xs ys one.1 in
    λ i. one.0 i ∷ rest i

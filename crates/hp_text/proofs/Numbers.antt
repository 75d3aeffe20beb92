-- A number that is read is spelled so, and what is spelled so is read.
use Rattle.std.proofs.Common.{◌≡◌, ℕ, zero, suc, ◌+◌, ◌-◌, ◌*◌, ◌/◌, ◌%◌, ◌^◌, ◌<◌, ◌≤◌, Bool, true, false, cond, eqb, List, []}
use Rattle.std.proofs.Common.{◌∷◌, ◌++◌, length, drop, Option, Some, None, refl, sym, ap, ◌∙◌, append_assoc, arith, inl, inr, ◌⊎◌}
use Rattle.std.specs.Prelude.{nat_le, nat_eq}
use Rattle.std.specs.Char.{is_ascii_digit}
use Rattle.std.specs.List.{starts_with}
use Rattle.std.specs.Fmt.{decimal}
use Rattle.std.proofs.lemmas.Bool.{and_parts, and_from, eqb-true, eqb-false, ne_eqb, leb-true, le-leb}
use Rattle.std.proofs.lemmas.Option.{some_pair_parts}
use Rattle.std.proofs.lemmas.Fmt.{decimal_digit, decimal_step, decimal_by_steps}
use Rattle.hp_text.specs.Reading.{◌>>=◌, after_word, number_from, number_at}
use Rattle.hp_text.proofs.Options.{none_some, some_is}

-- which way a test went
pub chosen : {A : Type 0} (b : Bool) (x y z : A) → cond b x y ≡ z → ((b ≡ true) × (x ≡ z)) ⊎ ((b ≡ false) × (y ≡ z))
chosen true x y z e = inl (refl, e)
chosen false x y z e = inr (refl, e)

-- the value of a step that found one
pub bind_some : {A B : Type 0} (o : Option A) (f : A → Option B) (y : B) → (o >>= f) ≡ Some y → (x : A) × (o ≡ Some x) × (f x ≡ Some y)
bind_some (Some x) f y e = (x, refl, e)
bind_some None f y e = absurd cc

digit_bounds : (b : ℕ) → is_ascii_digit b ≡ true → (48 ≤ b) × (b ≤ 57)
digit_bounds b e = let p = and_parts _ _ e in (leb-true 48 b p.0, leb-true b 57 p.1)

is_digit : (d : ℕ) → d < 10 → is_ascii_digit (48 + d) ≡ true
is_digit d lt = and_from _ _ (le-leb 48 (48 + d) (omega arith)) (le-leb (48 + d) 57 (omega arith))

-- a digit more
pub decimal_more : (n d : ℕ) → 0 < n → d < 10 → 10 * n + d < 2 ^ 64 → decimal (10 * n + d) ≡ decimal n ++ ((48 + d) ∷ [])
decimal_more n d some lt fits =
    let quotient : (10 * n + d) / 10 ≡ n = omega arith in
    let rest : (10 * n + d) % 10 ≡ d = omega arith in
    decimal_step (10 * n + d) (omega arith) fits ∙ rw (quotient, rest) refl

-- what was read so far and what is left are the number's digits and what is behind them
pub from_takes : (most n : ℕ) (bytes : List ℕ) (m : ℕ) (rest : List ℕ) → most < 2 ^ 64 → 0 < n → n ≤ most
    → number_from most n bytes ≡ Some (m, rest) → (decimal n ++ bytes ≡ decimal m ++ rest) × (m ≤ most)
unfolding number_from
from_takes most n [] m rest fits some le e =
    let p = some_pair_parts n m [] rest e in
    (rw (← p.0, ← p.1) refl, rw (← p.0) le)
from_takes most n (b ∷ bytes) m rest fits some le e =
    elim (chosen (is_ascii_digit b) _ _ _ e) [
      | inl w ↦
          elim (chosen (nat_le (10 * n + (b - 48)) most) _ _ _ w.1) [
            | inl v ↦
                let bounds = digit_bounds b w.0 in
                let more_le : 10 * n + (b - 48) ≤ most = leb-true _ _ v.0 in
                let later = from_takes most (10 * n + (b - 48)) bytes m rest fits (omega arith) more_le v.1 in
                let back : 48 + (b - 48) ≡ b = omega arith in
                let spelled : decimal (10 * n + (b - 48)) ≡ decimal n ++ (b ∷ []) =
                decimal_more n (b - 48) some (omega arith) (omega arith) ∙ rw back refl in
                (sym (append_assoc (decimal n) (b ∷ []) bytes) ∙ ap (λ (t : List ℕ). t ++ bytes) (sym spelled) ∙ later.0, later.1)
            | inr v ↦ absurd (none_some v.1)
          ]
      | inr w ↦
          let p = some_pair_parts n m (b ∷ bytes) rest w.1 in
          (rw (← p.0, ← p.1) refl, rw (← p.0) le)
    ]

pub number_takes : (most : ℕ) (bytes : List ℕ) (n : ℕ) (rest : List ℕ) → 9 ≤ most → most < 2 ^ 64
    → number_at most bytes ≡ Some (n, rest) → (bytes ≡ decimal n ++ rest) × (n ≤ most)
unfolding number_at
number_takes most [] n rest low fits e = absurd cc
number_takes most (b ∷ bytes) n rest low fits e =
    elim (chosen (eqb b 48) _ _ _ e) [
      | inl w ↦
          let zero_is : b ≡ 48 = eqb-true _ _ w.0 in
          let p = some_pair_parts 0 n bytes rest w.1 in
          (rw (← p.0, ← p.1, decimal_digit 0 (omega arith), zero_is) refl, rw (← p.0) (omega arith))
      | inr w ↦
          elim (chosen (is_ascii_digit b) _ _ _ w.1) [
            | inl v ↦
                let bounds = digit_bounds b v.0 in
                let not_zero : b ≡ 48 → ⊥ = eqb-false b 48 w.0 in
                let some : 0 < b - 48 = omega arith in
                let later = from_takes most (b - 48) bytes n rest fits some (omega arith) v.1 in
                let back : 48 + (b - 48) ≡ b = omega arith in
                let spelled : decimal (b - 48) ≡ b ∷ [] = decimal_digit (b - 48) (omega arith) ∙ rw back refl in
                (ap (λ (t : List ℕ). t ++ bytes) (sym spelled) ∙ later.0, later.1)
            | inr v ↦ absurd (none_some v.1)
          ]
    ]

-- no digit comes first
abbrev pub Stops : List ℕ → Type 0
Stops [] = Unit {0}
Stops (b ∷ bytes) = is_ascii_digit b ≡ false

from_stops : (most n : ℕ) (rest : List ℕ) → Stops rest → number_from most n rest ≡ Some (n, rest)
unfolding number_from
from_stops most n [] stops = refl
from_stops most n (b ∷ rest) stops = rw stops refl

number_reads : (most n : ℕ) → most < 2 ^ 64 → n < 2 ^ 64 → 0 < n → n ≤ most → (rest : List ℕ)
    → number_at most (decimal n ++ rest) ≡ number_from most n rest
unfolding number_at number_from
number_reads most n fits small = decimal_by_steps P one more n small
  where
    P : ℕ → List ℕ → Type 0
    P k ds = 0 < k → k ≤ most → (rest : List ℕ) → number_at most (ds ++ rest) ≡ number_from most k rest

    one : (k : ℕ) → k < 10 → P k ((48 + k) ∷ [])
    one k lt some le rest =
        let not_zero : eqb (48 + k) 48 ≡ false = ne_eqb _ _ (λ (e : 48 + k ≡ 48). absurd (omega arith)) in
        let back : 48 + k - 48 ≡ k = omega arith in
        rw (not_zero, is_digit k lt, back) refl

    more : (k : ℕ) (ds : List ℕ) → 10 ≤ k → P (k / 10) ds → P k (ds ++ ((48 + k % 10) ∷ []))
    more k ds ge before some le rest =
        let regrouped = append_assoc ds ((48 + k % 10) ∷ []) rest in
        let back : 10 * (k / 10) + (48 + k % 10 - 48) ≡ k = omega arith in
        let within : nat_le k most ≡ true = le-leb _ _ le in
        let last : number_from most (k / 10) ((48 + k % 10) ∷ rest) ≡ number_from most k rest =
        rw (is_digit (k % 10) (omega arith), back, within) refl in
        ap (number_at most) regrouped ∙ before (omega arith) (omega arith) ((48 + k % 10) ∷ rest) ∙ last

pub number_again : (most n : ℕ) (rest : List ℕ) → most < 2 ^ 64 → n ≤ most → Stops rest
    → number_at most (decimal n ++ rest) ≡ Some (n, rest)
unfolding number_at
number_again most zero rest fits le stops = rw (decimal_digit 0 (omega arith)) refl
number_again most (suc n) rest fits le stops =
    number_reads most (suc n) fits (omega arith) (omega arith) le rest ∙ from_stops most (suc n) rest stops

-- what follows a word, both ways
starts_parts : (word bytes : List ℕ) → starts_with nat_eq bytes word ≡ true → bytes ≡ word ++ drop (length word) bytes
starts_parts [] bytes e = refl
starts_parts (w ∷ word) [] e = absurd cc
starts_parts (w ∷ word) (b ∷ bytes) e =
    let p = and_parts _ _ e in
    let same : w ≡ b = eqb-true _ _ p.0 in
    rw same (ap (λ (t : List ℕ). b ∷ t) (starts_parts word bytes p.1))

pub word_takes : (word bytes rest : List ℕ) → after_word word bytes ≡ Some rest → bytes ≡ word ++ rest
word_takes word bytes rest e =
    elim (chosen (starts_with nat_eq bytes word) _ _ _ e) [
      | inl w ↦
          let same : drop (length word) bytes ≡ rest = some_is _ _ w.1 in
          starts_parts word bytes w.0 ∙ ap (λ (t : List ℕ). word ++ t) same
      | inr w ↦ absurd (none_some w.1)
    ]

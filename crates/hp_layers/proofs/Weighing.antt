-- Sums over states, each as often as a number says, up to a number that counts as that many or more.
use Rattle.std.proofs.Common.{◌≡◌, ◌∙◌, ℕ, zero, suc, ◌+◌, ◌*◌, ◌<◌, ◌≤◌, ◌++◌, ◌∷◌, [], List, length, get_or, take, sym, ap}
use Rattle.std.proofs.Common.{arith, inl, inr}
use Rattle.std.specs.Prelude.{Option, Some, min}
use Rattle.std.proofs.Math.Nat.{add-mul, mul-add}
use Rattle.std.proofs.lemmas.Bool.{cases_lt}
use Rattle.std.proofs.lemmas.List.{length-take-le, take_more}
use Rattle.hp_layers.specs.Weighed.{AreWithin, IsAsMany, most, weigh}

-- as much more of both
pub more_of_both : (a b c : ℕ) → IsAsMany a b → IsAsMany (a + c) (b + c)
more_of_both a b c e = omega (arith, e)

le_times : (n x : ℕ) → 1 ≤ x → n ≤ n * x
le_times zero x some = omega arith
le_times (suc n) x some =
    let rest = le_times n x some in
    let one : suc n ≡ n + 1 = omega arith in
    let all : suc n * x ≡ n * x + 1 * x = ap (λ (k : ℕ). k * x) one ∙ add-mul n 1 x in
    omega (arith, rest, all, some)

-- numbers that count as many, so many times
pub times_as_many : (a b x : ℕ) → IsAsMany a b → IsAsMany (a * x) (b * x)
times_as_many a b zero e = omega arith
times_as_many a b (suc y) e = elim (cases_lt a most) [
  | inl within ↦ (let same : a ≡ b = omega (arith, e, within) in ap (λ (k : ℕ). min (k * suc y) most) same)
  | inr over ↦ (
      let one = le_times a (suc y) (omega arith) in
      let two = le_times b (suc y) (omega arith) in
      let many : most ≤ b = omega (arith, e, over) in
      omega (arith, one, two, over, many))
]

-- one more state
pub weigh_push : {S : Type 0} (ns : List ℕ) (states : List S) (f : S → ℕ) (n : ℕ) (s : S) → length ns ≡ length states
    → weigh (ns ++ n ∷ []) (states ++ s ∷ []) f ≡ weigh ns states f + n * f s
weigh_push [] [] f n s long = omega arith
weigh_push [] (t ∷ states) f n s long = absurd (omega (arith, long))
weigh_push (m ∷ ns) [] f n s long = absurd (omega (arith, long))
weigh_push (m ∷ ns) (t ∷ states) f n s long =
    let rest = weigh_push ns states f n s (omega (arith, long)) in omega (arith, rest)

-- one state of a layer more
pub weigh_more : {S : Type 0} (ns : List ℕ) (states : List S) (f : S → ℕ) (k : ℕ) (d : S) → length ns ≡ length states
    → k < length states
    → weigh (take (k + 1) ns) (take (k + 1) states) f ≡ weigh (take k ns) (take k states) f + get_or ns k 0 * f (get_or states k d)
weigh_more {S} ns states f k d long within =
    let here : k < length ns = omega (arith, long, within) in
    let one = length-take-le k ns (omega (arith, here)) in
    let two = length-take-le k states (omega (arith, within)) in
    (λ i. weigh (take_more ns k 0 here i) (take_more states k d within i) f)
    ∙ weigh_push (take k ns) (take k states) f (get_or ns k 0) (get_or states k d) (one ∙ sym two)

-- a place that is there lies in the list
pub place_within : {K : Type 0} (place : K → Option ℕ) (n : ℕ) (k : K) (j : ℕ) → AreWithin place n → place k ≡ Some j → j < n
unfolding AreWithin
place_within place n k j within e = within k j e

-- one of them is added, and the others are left
pub more_ways : (a b more x less left : ℕ) → IsAsMany a (b + more * x) → left ≡ less + x → IsAsMany (a + more * less) (b + more * left)
more_ways a b more x less left e is =
    let all : more * left ≡ more * less + more * x = ap (λ (k : ℕ). more * k) is ∙ mul-add more less x in
    let same : (b + more * x) + more * less ≡ b + more * left = omega (arith, all) in
    more_of_both a (b + more * x) (more * less) e ∙ ap (λ (k : ℕ). min k most) same

-- none is left
pub no_more_ways : (a b more left : ℕ) → IsAsMany (a + more * left) b → left ≡ 0 → IsAsMany a b
no_more_ways a b more left e none =
    let zero : more * left ≡ 0 = ap (λ (k : ℕ). more * k) none ∙ omega arith in
    let same : a ≡ a + more * left = omega (arith, zero) in
    ap (λ (k : ℕ). min k most) same ∙ e

-- nothing is weighed
pub weigh_none : {S : Type 0} (ns : List ℕ) (states : List S) (f : S → ℕ) → ns ≡ [] → weigh ns states f ≡ 0
weigh_none ns states f none = ap (λ (l : List ℕ). weigh l states f) none

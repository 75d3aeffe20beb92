-- Laws of `count_below`.
use Rattle.std.proofs.Common.{◌≡◌, ℕ, zero, suc, ◌+◌, ◌-◌, ◌<◌, ◌≤◌, min, Bool, true, false, cond, not, ◌&&◌, ◌||◌, refl, arith}
use Rattle.std.specs.Prelude.{nat_le, nat_lt, nat_eq}
use Rattle.std.proofs.lemmas.Bool.{leb-true, leb-false}
use Rattle.std.proofs.lemmas.Bool.Decides.{nat_tests}
use Rattle.hp_base.specs.Indices.{is_within, count_below, count_within, missing, add_range, cut_tail}
use Rattle.hp_base.specs.Numbers.{put}

-- the general law: where each number counts in r as it does in p and q together, so do all of them
pub count_below-sum : (p q r : ℕ → Bool) (n : ℕ) → ((k : ℕ) → k < n → cond (r k) 1 0 ≡ cond (p k) 1 0 + cond (q k) 1 0)
    → count_below r n ≡ count_below p n + count_below q n
unfolding count_below
count_below-sum p q r zero each = refl
count_below-sum p q r (suc n) each = omega (arith, count_below-sum p q r n (λ k below. each k (omega arith)), each n (omega arith))

-- two pairs of sets of which each number counts alike, count alike
pub count_below-pairs : (p q r v : ℕ → Bool) (n : ℕ)
    → ((k : ℕ) → k < n → cond (p k) 1 0 + cond (q k) 1 0 ≡ cond (r k) 1 0 + cond (v k) 1 0)
    → count_below p n + count_below q n ≡ count_below r n + count_below v n
unfolding count_below
count_below-pairs p q r v zero each = refl
count_below-pairs p q r v (suc n) each =
    omega (arith, count_below-pairs p q r v n (λ k below. each k (omega arith)), each n (omega arith))

pub count_below-ext : (p q : ℕ → Bool) (n : ℕ) → ((k : ℕ) → k < n → p k ≡ q k) → count_below p n ≡ count_below q n
unfolding count_below
count_below-ext p q zero each = refl
count_below-ext p q (suc n) each = rw (each n (omega arith), count_below-ext p q n (λ k below. each k (omega arith))) refl

pub count_below_none : (p : ℕ → Bool) (n : ℕ) → ((k : ℕ) → k < n → p k ≡ false) → count_below p n ≡ 0
unfolding count_below
count_below_none p zero each = refl
count_below_none p (suc n) each = rw (each n (omega arith), count_below_none p n (λ k below. each k (omega arith))) refl

-- more members, no smaller count
pub count_below_mono : (p q : ℕ → Bool) (n : ℕ) → ((k : ℕ) → k < n → p k ≡ true → q k ≡ true) → count_below p n ≤ count_below q n
unfolding count_below
count_below_mono p q zero each = omega arith
count_below_mono p q (suc n) each =
    let below = count_below_mono p q n (λ k below. each k (omega arith)) in
    let here = each n (omega arith) in
    grind (arith, below, here)

-- how many of [from, to) lie below n
pub count_below-is_within : (from to n : ℕ) → count_below (is_within from to) n ≡ min n to - from
unfolding count_below
count_below-is_within from to zero = omega arith
count_below-is_within from to (suc n) =
    let below = count_below-is_within from to n in
    grind (arith, nat_tests, below)

pub count_below_le : (p : ℕ → Bool) (n : ℕ) → count_below p n ≤ n
unfolding count_below
count_below_le p zero = omega arith
count_below_le p (suc n) = let below = count_below_le p n in grind (arith, below)

-- the members of [from, to) and the others are all of it
pub count_within-missing : (p : ℕ → Bool) (from to : ℕ) → count_within p from to + missing p from to ≡ to - from
unfolding count_within missing
count_within-missing p from to =
    let parts = count_below-sum (λ k. nat_le from k && p k) (λ k. nat_le from k && not (p k)) (is_within from to) to
    (λ k below. grind (arith, nat_tests)) in
    let all = count_below-is_within from to to in
    omega (arith, parts, all)

-- nothing more is missing from a set that has, within the range, all that another has
pub missing_anti : (p q : ℕ → Bool) (from to : ℕ) → ((k : ℕ) → from ≤ k → k < to → p k ≡ true → q k ≡ true)
    → missing q from to ≤ missing p from to
unfolding missing
missing_anti p q from to keeps =
    count_below_mono (λ k. nat_le from k && not (q k)) (λ k. nat_le from k && not (p k)) to
    (λ k below out. grind (arith, nat_tests, keeps k))

-- past m there are none
pub count_below_past : (p : ℕ → Bool) (m n : ℕ) → m ≤ n → ((k : ℕ) → m ≤ k → p k ≡ false) → count_below p n ≡ count_below p m
unfolding count_below
count_below_past p m zero le none = let e : m ≡ 0 = omega arith in rw e refl
count_below_past p m (suc n) le none =
    elim (nat_le (suc n) m) as (λ b. nat_le (suc n) m ≡ b → count_below p n + cond (p n) 1 0 ≡ count_below p m) [
      | true ↦ λ e. let same : m ≡ suc n = omega (arith, leb-true (suc n) m e) in rw same refl
      | false ↦ λ e.
          let rest = count_below_past p m n (omega (arith, leb-false (suc n) m e)) none in
          rw (none n (omega (arith, leb-false (suc n) m e))) (omega (arith, rest))
    ] refl

-- each number is in a set or not in it
one_or_other : (b : Bool) → cond true 1 0 ≡ cond b 1 0 + cond (not b) 1 0
one_or_other true = refl
one_or_other false = refl

-- so a set and the other numbers are all
pub count_below-not : (p : ℕ → Bool) (n : ℕ) → count_below p n + count_below (λ x. not (p x)) n ≡ count_below (λ _. true) n
count_below-not p n =
    let parts = count_below-sum p (λ x. not (p x)) (λ _. true) n (λ k l. one_or_other (p k)) in
    omega (arith, parts)

-- what is in the larger set is in the smaller one, or in it alone
here_or_gone : (a b : Bool) → (b ≡ true → a ≡ true) → cond a 1 0 ≡ cond b 1 0 + cond (a && not b) 1 0
here_or_gone true true h = refl
here_or_gone true false h = refl
here_or_gone false true h = let d : false ≡ true = h refl in absurd (cc)
here_or_gone false false h = refl

-- a set that is within another, and what is in the other alone
pub count_below-within : (p q : ℕ → Bool) (n : ℕ) → ((x : ℕ) → x < n → q x ≡ true → p x ≡ true)
    → count_below p n ≡ count_below q n + count_below (λ x. p x && not (q x)) n
count_below-within p q n h = count_below-sum q (λ x. p x && not (q x)) p n (λ k l. here_or_gone (p k) (q k) (h k l))

-- further on there are no fewer
pub count_below_wider : (p : ℕ → Bool) (m n : ℕ) → m ≤ n → count_below p m ≤ count_below p n
unfolding count_below
count_below_wider p m zero le = let e : m ≡ 0 = omega arith in rw e (omega arith)
count_below_wider p m (suc n) le =
    elim (nat_le (suc n) m) as (λ b. nat_le (suc n) m ≡ b → count_below p m ≤ count_below p n + cond (p n) 1 0) [
      | true ↦ λ e. let same : m ≡ suc n = omega (arith, leb-true (suc n) m e) in rw same (omega arith)
      | false ↦ λ e. let rest = count_below_wider p m n (omega (arith, leb-false (suc n) m e)) in omega (arith, rest)
    ] refl

-- where all are members from m on, so many more are there
pub count_below_full : (p : ℕ → Bool) (m n : ℕ) → m ≤ n → ((k : ℕ) → m ≤ k → k < n → p k ≡ true)
    → count_below p n ≡ count_below p m + (n - m)
unfolding count_below
count_below_full p m zero le all = let e : m ≡ 0 = omega arith in rw e refl
count_below_full p m (suc n) le all =
    elim (nat_le (suc n) m) as (λ b. nat_le (suc n) m ≡ b → count_below p n + cond (p n) 1 0 ≡ count_below p m + (suc n - m)) [
      | true ↦ λ e. let same : m ≡ suc n = omega (arith, leb-true (suc n) m e) in rw same (omega arith)
      | false ↦ λ e.
          let low : m ≤ n = omega (arith, leb-false (suc n) m e) in
          let rest = count_below_full p m n low (λ k l below. all k l (omega arith)) in
          rw (all n low (omega arith)) (omega (arith, rest))
    ] refl

-- what a range adds to the members that are not in c, where c lies within the set
pub count_below-add_range : (p c : ℕ → Bool) (from to n : ℕ) → to ≤ n → ((k : ℕ) → c k ≡ true → p k ≡ true)
    → count_below (λ k. add_range p from to k && not (c k)) n ≡ count_below (λ k. p k && not (c k)) n + missing p from to
unfolding missing add_range
count_below-add_range p c from to n within inside =
    let fresh : ℕ → Bool = λ k. is_within from to k && not (p k) in
    let parts = count_below-sum (λ k. p k && not (c k)) fresh (λ k. (is_within from to k || p k) && not (c k)) n
    (λ k below. grind (arith, nat_tests, inside k)) in
    let short = count_below_past fresh to n within (λ k past. grind (arith, nat_tests)) in
    let same = count_below-ext fresh (λ k. nat_le from k && not (p k)) to (λ k below. grind (arith, nat_tests)) in
    omega (arith, parts, short, same)

-- what a range adds
pub count_below-added : (p : ℕ → Bool) (from to n : ℕ) → to ≤ n → count_below (add_range p from to) n ≡ count_below p n + missing p from to
unfolding missing add_range
count_below-added p from to n within =
    let fresh : ℕ → Bool = λ k. is_within from to k && not (p k) in
    let parts = count_below-sum p fresh (λ k. is_within from to k || p k) n (λ k below. grind (arith, nat_tests)) in
    let short = count_below_past fresh to n within (λ k past. grind (arith, nat_tests)) in
    let same = count_below-ext fresh (λ k. nat_le from k && not (p k)) to (λ k below. grind (arith, nat_tests)) in
    omega (arith, parts, short, same)

-- the members below a bound and those from it on are all
pub count_below-cut_tail : (p : ℕ → Bool) (from n : ℕ) → count_below (cut_tail p from) n + count_within p from n ≡ count_below p n
unfolding count_within cut_tail
count_below-cut_tail p from n =
    let parts = count_below-sum (λ k. nat_lt k from && p k) (λ k. nat_le from k && p k) p n (λ k below. grind (arith, nat_tests)) in
    omega (arith, parts)

-- no more is missing than the range has
pub missing_le : (p : ℕ → Bool) (from to : ℕ) → missing p from to ≤ to - from
missing_le p from to = omega (arith, count_within-missing p from to)

same_number : (k i : ℕ) → nat_eq k i ≡ true → k ≡ i
same_number k i e = grind (arith, nat_tests)

other_number : (k i : ℕ) → nat_eq k i ≡ false → k ≡ i → ⊥
other_number k i e same = grind (arith, nat_tests)

-- one member less
pub count_below_one : (p q : ℕ → Bool) (i n : ℕ) → i < n → p i ≡ true → q i ≡ false → ((k : ℕ) → (k ≡ i → ⊥) → p k ≡ q k)
    → count_below p n ≡ count_below q n + 1
count_below_one p q i n within there gone others =
    let parts = count_below-sum q (is_within i (i + 1)) p n (λ k below.
    elim (nat_eq k i) as (λ b. nat_eq k i ≡ b → cond (p k) 1 0 ≡ cond (q k) 1 0 + cond (is_within i (i + 1) k) 1 0) [
      | true ↦ λ e. let same = same_number k i e in rw (same, there, gone) (grind (arith, nat_tests))
      | false ↦ λ e. rw (others k (other_number k i e)) (grind (arith, nat_tests))
    ] refl) in
    let one = count_below-is_within i (i + 1) n in
    omega (arith, parts, one)

pub count_below-put_false : (p : ℕ → Bool) (i n : ℕ) → i < n → p i ≡ true → count_below p n ≡ count_below (put p i false) n + 1
unfolding put
count_below-put_false p i n within there =
    count_below_one p (put p i false) i n within there (grind (arith, nat_tests)) (λ k other. grind (arith, nat_tests, other))

-- What calls wait for, counted line by line.
use Rattle.std.proofs.Common.{◌≡◌, ℕ, zero, suc, ◌+◌, ◌-◌, ◌<◌, ◌≤◌, true, false, List, [], ◌∷◌, ◌++◌, length, take, map}
use Rattle.std.proofs.Common.{filter, refl, sym, ap, subst, ◌∙◌, arith, cond, inl, inr, ◌⊎◌}
use Rattle.std.specs.Prelude.{Bool, ◌==◌, ◌&&◌, nat_le, if◌then◌else◌, slice_index, slice_index_or, slice_set}
use Rattle.std.specs.List.Sorted.{IsNonDecreasingBy}
use Rattle.std.proofs.lemmas.List.{append-nil, get_or-set_other, length-set, take_more}
use Rattle.std.proofs.lemmas.List.Elements.{filter_more}
use Rattle.std.proofs.lemmas.Bool.{and_parts, and_from, eq-eqb, ne_eqb, leb-true, le-leb}
use Rattle.hp_base.proofs.Puts.{same_or_other}
use Rattle.hp_base.specs.declared.event.Op.{Op}
use Rattle.hp_text.specs.Scripts.{calls_of}
use Rattle.hp_text.specs.declared.script.Wait.{Wait}
use Rattle.hp_text.specs.declared.needs.Need.{Need}
use Rattle.hp_text.specs.Needs.{places_from, is_wait_of, need_of, needs_at}
use Rattle.hp_text.specs.CountedCalls.{AreCounts, SplitsAt, counted_need, counts_with}

abbrev Call : Type 0
Call = ℕ × Op

-- ---- a line more

one_or_none : {A : Type 0} (b : Bool) (x : A) → (if b then x ∷ [] else []) ≡ cond b (x ∷ []) []
one_or_none true x = refl
one_or_none false x = refl

pub calls_more : (lines : List Call) (line : Call) (t : ℕ)
    → calls_of (lines ++ line ∷ []) t ≡ calls_of lines t ++ (if line.0 == t then line.1 ∷ [] else [])
calls_more [] line t = by (line.0 == t)
  where
    by : (b : Bool) → map (λ (c : Call). c.1) (cond b (line ∷ []) []) ≡ (if b then line.1 ∷ [] else [])
    by true = refl
    by false = refl
calls_more (l ∷ lines) line t = by (l.0 == t) (calls_more lines line t)
  where
    by : (b : Bool) → calls_of (lines ++ line ∷ []) t ≡ calls_of lines t ++ (if line.0 == t then line.1 ∷ [] else [])
        → map (λ (c : Call). c.1) (cond b (l ∷ filter (λ (c : Call). c.0 == t) (lines
        ++ line ∷ [])) (filter (λ (c : Call). c.0 == t) (lines ++ line ∷ [])))
        ≡ map (λ (c : Call). c.1) (cond b (l ∷ filter (λ (c : Call). c.0 == t) lines) (filter (λ (c : Call). c.0 == t) lines))
        ++ (if line.0 == t then line.1 ∷ [] else [])
    by true more = ap (λ (ops : List Op). l.1 ∷ ops) more
    by false more = more

pub places_more : (n : ℕ) (lines : List Call) (line : Call) (t : ℕ)
    → places_from n (lines ++ line ∷ []) t ≡ places_from n lines t ++ (if line.0 == t then (n + length lines) ∷ [] else [])
places_more n [] line t = by (line.0 == t) (omega arith)
  where
    by : (b : Bool) → n ≡ n + 0 → (if b then n ∷ [] else []) ≡ [] ++ (if b then (n + 0) ∷ [] else [])
    by true e = ap (λ (k : ℕ). k ∷ []) e
    by false e = refl
places_more n (l ∷ lines) line t =
    by (l.0 == t) (places_more (n + 1) lines line t ∙ ap (λ (k : ℕ). places_from (n + 1) lines t ++ (if line.0 == t then k ∷ [] else []))
    (omega arith))
  where
    by : (b : Bool)
        → places_from (n + 1) (lines ++ line ∷ []) t
        ≡ places_from (n + 1) lines t ++ (if line.0 == t then (n + length (l ∷ lines)) ∷ [] else [])
        → (if b then n ∷ places_from (n + 1) (lines ++ line ∷ []) t else places_from (n + 1) (lines ++ line ∷ []) t)
        ≡ (if b then n ∷ places_from (n + 1) lines t else places_from (n + 1) lines t)
        ++ (if line.0 == t then (n + length (l ∷ lines)) ∷ [] else [])
    by true more = ap (λ (ks : List ℕ). n ∷ ks) more
    by false more = more

-- how many calls one line more has
longer : (lines : List Call) (line : Call) (t : ℕ)
    → length (calls_of (lines ++ line ∷ []) t) ≡ length (calls_of lines t) + (if line.0 == t then 1 else 0)
longer lines line t = ap (λ (ops : List Op). length ops) (calls_more lines line t) ∙ by (line.0 == t) (calls_of lines t)
  where
    pushed : (ops : List Op) (op : Op) → length (ops ++ op ∷ []) ≡ length ops + 1
    pushed [] op = refl
    pushed (x ∷ ops) op = omega (arith, pushed ops op)

    by : (b : Bool) (ops : List Op) → length (ops ++ (if b then line.1 ∷ [] else [])) ≡ length ops + (if b then 1 else 0)
    by true ops = pushed ops line.1
    by false ops = ap (λ (x : List Op). length x) (append-nil ops) ∙ omega arith

pub counts_long : (counts : List ℕ) (t : ℕ) → length (counts_with counts t) ≡ length counts
counts_long counts t = by (nat_le 1 t && nat_le t (length counts))
  where
    by : (b : Bool) → length (if b then slice_set counts (t - 1) (slice_index counts (t - 1) + 1) else counts) ≡ length counts
    by true = length-set counts (t - 1) (slice_index counts (t - 1) + 1)
    by false = refl

set_at : (xs : List ℕ) (k x : ℕ) → k < length xs → slice_index (slice_set xs k x) k ≡ x
set_at [] k x within = absurd (omega (arith, within))
set_at (y ∷ xs) zero x within = refl
set_at (y ∷ xs) (suc k) x within = set_at xs k x (omega (arith, within))

pub counts_more : (lines : List Call) (line : Call) (counts : List ℕ) → AreCounts lines counts
    → AreCounts (lines ++ line ∷ []) (counts_with counts line.0)
counts_more lines line counts are t one within =
    by (nat_le 1 line.0 && nat_le line.0 (length counts)) refl
  where
    there : t ≤ length counts
    there = omega (arith, within, counts_long counts line.0)

    same : (b : Bool) → (line.0 == t) ≡ b → length (calls_of (lines ++ line ∷ []) t) ≡ length (calls_of lines t) + (if b then 1 else 0)
    same b e = longer lines line t ∙ ap (λ (b : Bool). length (calls_of lines t) + (if b then 1 else 0)) e

    by : (b : Bool) → (nat_le 1 line.0 && nat_le line.0 (length counts)) ≡ b
        → slice_index (if b then slice_set counts (line.0 - 1) (slice_index counts (line.0 - 1) + 1) else counts) (t - 1)
        ≡ length (calls_of (lines ++ line ∷ []) t)
    by true e = elim (same_or_other line.0 t) [
      | inl is ↦
          let place : line.0 - 1 ≡ t - 1 = ap (λ (n : ℕ). n - 1) is in
          ap (λ (k : ℕ). slice_index (slice_set counts k (slice_index counts k + 1)) (t - 1)) place
          ∙ (set_at counts (t - 1) (slice_index counts (t - 1) + 1) (omega (arith, one, there))
          ∙ (ap (λ (n : ℕ). n + 1) (are t one there) ∙ sym (same true (eq-eqb _ _ is))))
      | inr other ↦
          let low = leb-true 1 line.0 (and_parts _ _ e).0 in
          get_or-set_other counts (line.0 - 1) (t - 1) (slice_index counts (line.0 - 1) + 1) 0
          (λ (x : t - 1 ≡ line.0 - 1). other (omega (arith, x, low, one)))
          ∙ (are t one there ∙ (omega arith ∙ sym (same false (ne_eqb _ _ other))))
    ]
    by false e = elim (same_or_other line.0 t) [
      | inl is ↦
          let test : (nat_le 1 line.0 && nat_le line.0 (length counts)) ≡ true =
          and_from _ _ (le-leb 1 line.0 (omega (arith, is, one))) (le-leb line.0 (length counts) (omega (arith, is, there))) in
          absurd (differs (sym e ∙ test))
      | inr other ↦ are t one there ∙ (omega arith ∙ sym (same false (ne_eqb _ _ other)))
    ]
      where
        differs : false ≡ true → ⊥
        differs e = cc

pub no_counts : (counts : List ℕ) → ((k : ℕ) → slice_index counts k ≡ 0) → AreCounts [] counts
no_counts counts none t one within = none (t - 1)

-- no count is more than the lines
pub few_counts : (lines : List Call) (t : ℕ) → length (calls_of lines t) ≤ length lines
few_counts [] t = omega arith
few_counts (l ∷ lines) t = by (l.0 == t) (few_counts lines t)
  where
    by : (b : Bool) → length (calls_of lines t) ≤ length lines
        → length (map (λ (c : Call). c.1) (cond b (l ∷ filter (λ (c : Call). c.0 == t) lines) (filter (λ
        (c : Call). c.0 == t) lines))) ≤ length (l ∷ lines)
    by true few = omega (arith, few)
    by false few = omega (arith, few)

pub few_at : (lines : List Call) (counts : List ℕ) → AreCounts lines counts → (k : ℕ) → slice_index counts k ≤ length lines
few_at lines counts are k = elim (within k (length counts)) [
  | inl low ↦ omega (
    arith,
    are (k + 1) (omega arith) (omega (arith, low)),
    few_counts lines (k + 1),
    ap (λ
        (n : ℕ). slice_index counts n) (plain k),
  )
  | inr high ↦ omega (arith, beyond counts k high)
]
  where
    within : (k n : ℕ) → (k < n) ⊎ (n ≤ k)
    within k n = grind arith

    plain : (k : ℕ) → k + 1 - 1 ≡ k
    plain k = omega arith

    beyond : (xs : List ℕ) (k : ℕ) → length xs ≤ k → slice_index xs k ≡ 0
    beyond [] k l = refl
    beyond (x ∷ xs) zero l = absurd (omega (arith, l))
    beyond (x ∷ xs) (suc k) l = beyond xs k (omega (arith, l))

-- ---- the needs of a call

-- what is asked for by counts is asked for by the lines
pub counted_is : (lines : List Call) (k : ℕ) (counts : List ℕ) (waits : List Wait) → AreCounts (take k lines) counts
    → map (counted_need counts) (filter (is_wait_of k (length counts)) waits) ≡ needs_at lines waits (length counts) k
counted_is lines k counts [] are = refl
counted_is lines k counts (w ∷ waits) are = by (is_wait_of k (length counts) w) refl (counted_is lines k counts waits are)
  where
    by : (b : Bool) → is_wait_of k (length counts) w ≡ b
        → map (counted_need counts) (filter (is_wait_of k (length counts)) waits) ≡ needs_at lines waits (length counts) k
        → map (counted_need counts) (cond b (w ∷ filter (is_wait_of k (length counts)) waits) (filter (is_wait_of k (length counts)) waits))
        ≡ map (need_of lines k) (cond b (w ∷ filter (is_wait_of k (length counts)) waits) (filter (is_wait_of k (length counts)) waits))
    by true e more =
        let there = and_parts _ _ (and_parts _ _ e).1 in
        let count = are w.task (leb-true 1 w.task there.0) (leb-true w.task (length counts) there.1) in
        λ i. (record { place = w.task - 1; calls = count i }) ∷ more i
    by false e more = more

-- where no wait passes, none is found
none_pass : (p : Wait → Bool) (xs : List Wait) → ((i : ℕ) (d : Wait) → i < length xs → p (slice_index_or xs i d) ≡ false) → filter p xs ≡ []
none_pass p [] h = refl
none_pass p (x ∷ xs) h =
    ap (λ (b : Bool). cond b (x ∷ filter p xs) (filter p xs)) (h 0 x (omega arith))
    ∙ none_pass p xs (λ i d within. h (suc i) d (omega (arith, within)))

-- nor in the rest behind a front
rest_pass : (p : Wait → Bool) (xs : List Wait) (n : ℕ) → ((i : ℕ) (d : Wait) → n ≤ i → i < length xs → p (slice_index_or xs i d) ≡ false)
    → filter p (take n xs) ≡ filter p xs
rest_pass p [] zero h = refl
rest_pass p [] (suc n) h = refl
rest_pass p (x ∷ xs) zero h = sym (none_pass p (x ∷ xs) (λ i d within. h i d (omega arith) within))
rest_pass p (x ∷ xs) (suc n) h =
    ap (λ (ys : List Wait). cond (p x) (x ∷ ys) ys) (rest_pass p xs n (λ i d low within. h (suc i) d (omega (arith, low)) (omega
    (arith, within))))

-- the front of a list, place by place
front_at : (xs : List Wait) (n i : ℕ) (d : Wait) → i < n → slice_index_or (take n xs) i d ≡ slice_index_or xs i d
front_at [] zero i d within = refl
front_at [] (suc n) i d within = refl
front_at (x ∷ xs) zero i d within = absurd (omega (arith, within))
front_at (x ∷ xs) (suc n) zero d within = refl
front_at (x ∷ xs) (suc n) (suc i) d within = front_at xs n i d (omega (arith, within))

front_long : (xs : List Wait) (n : ℕ) → length (take n xs) ≤ n
front_long [] zero = omega arith
front_long [] (suc n) = omega arith
front_long (x ∷ xs) zero = omega arith
front_long (x ∷ xs) (suc n) = omega (arith, front_long xs n)

not_this : (call tasks : ℕ) (w : Wait) → (w.call ≡ call → ⊥) → is_wait_of call tasks w ≡ false
not_this call tasks w other = ap (λ (b : Bool). b && (nat_le 1 w.task && nat_le w.task tasks)) (ne_eqb _ _ other)

-- what stands at a place doesn't hang on what is told where nothing does
pub same_at : (xs : List Wait) (k : ℕ) (d e : Wait) → k < length xs → slice_index_or xs k d ≡ slice_index_or xs k e
same_at [] k d e within = absurd (omega (arith, within))
same_at (x ∷ xs) zero d e within = refl
same_at (x ∷ xs) (suc k) d e within = same_at xs k d e (omega (arith, within))

-- the loop over the waits of a call: so far
pub record Finding (waits : List Wait) (call : ℕ) (counts : List ℕ) (next : ℕ) (needs : List Need) : Type 0 where
  pub within : next ≤ length waits
  pub found : needs ≡ map (counted_need counts) (filter (is_wait_of call (length counts)) (take next waits))
  pub earlier : (i : ℕ) (d : Wait) → i < next → (slice_index_or waits i d).call < call + 1
  pub later : (i : ℕ) (d : Wait) → next ≤ i → i < length waits → call ≤ (slice_index_or waits i d).call

pub finds_none : (waits : List Wait) (call : ℕ) (counts : List ℕ) (before : ℕ) (needs : List Need) → SplitsAt waits before call → needs ≡ []
    → Finding waits call counts before needs
finds_none waits call counts before needs s none = record {
  within = s.within;
  found =
      none ∙ ap (λ (ws : List Wait). map (counted_need counts) ws)
      (sym (none_pass (is_wait_of call (length counts)) (take before waits) (λ i d within.
      let low : i < before = omega (arith, within, front_long waits before) in
      not_this call (length counts) (slice_index_or (take before waits) i d)
      (λ e. omega (arith, e, ap (λ (w : Wait). w.call) (front_at waits before i d low), s.earlier i d low)))));
  earlier = λ i d low. omega (arith, s.earlier i d low);
  later = s.later;
}

-- the next wait is of the call
pub finds_on : (waits : List Wait) (call : ℕ) (counts : List ℕ) (next : ℕ) (needs more : List Need) (w : Wait)
    → Finding waits call counts next needs
    → next < length waits → slice_index_or waits next w ≡ w → w.call ≡ call
    → more ≡ needs ++ (if nat_le 1 w.task && nat_le w.task (length counts) then counted_need counts w ∷ [] else [])
    → Finding waits call counts (next + 1) more
finds_on waits call counts next needs more w f within is of pushed = record {
  within = omega (arith, within);
  found = pushed ∙ (ap (λ (ns : List Need). ns ++ (if there then counted_need counts w ∷ [] else [])) f.found ∙ sym longer_by);
  earlier = λ i d low. elim (same_or_other i next) [
    | inl e ↦ omega (arith, ap (λ (k : ℕ). (slice_index_or waits k d).call) e, ap (λ (x : Wait). x.call) (any d), of)
    | inr other ↦ f.earlier i d (omega (arith, low, below i low other))
  ];
  later = λ i d low high. f.later i d (omega (arith, low)) high;
}
  where
    there : Bool
    there = nat_le 1 w.task && nat_le w.task (length counts)

    below : (i : ℕ) → i < next + 1 → (i ≡ next → ⊥) → i < next
    below i low other = grind arith

    any : (d : Wait) → slice_index_or waits next d ≡ w
    any d = same_at waits next d w within ∙ is

    test : is_wait_of call (length counts) w ≡ there
    test = ap (λ (b : Bool). b && there) (eq-eqb _ _ of)

    pushed_map : (b : Bool) (ws : List Wait)
        → map (counted_need counts) (ws ++ cond b (w ∷ []) [])
        ≡ map (counted_need counts) ws ++ (if b then counted_need counts w ∷ [] else [])
    pushed_map b [] = by b
      where
        by : (b : Bool) → map (counted_need counts) (cond b (w ∷ []) []) ≡ (if b then counted_need counts w ∷ [] else [])
        by true = refl
        by false = refl
    pushed_map b (x ∷ ws) = ap (λ (ns : List Need). counted_need counts x ∷ ns) (pushed_map b ws)

    longer_by : map (counted_need counts) (filter (is_wait_of call (length counts)) (take (next + 1) waits))
        ≡ map (counted_need counts) (filter (is_wait_of call (length counts)) (take next waits))
        ++ (if there then counted_need counts w ∷ [] else [])
    longer_by =
        ap (λ (ws : List Wait). map (counted_need counts) ws) (filter_more (is_wait_of call (length counts)) waits next w within
        ∙ ap (λ (x : Wait). filter (is_wait_of call (length counts)) (take next waits)
        ++ cond (is_wait_of call (length counts) x) (x ∷ []) []) is)
        ∙ (ap (λ (b : Bool). map (counted_need counts) (filter (is_wait_of call (length counts)) (take next waits)
        ++ cond b (w ∷ []) [])) test
        ∙ pushed_map there (filter (is_wait_of call (length counts)) (take next waits)))

-- a need is added where the task is there
pub pushes : (counts : List ℕ) (w : Wait) (n : ℕ) (old more : List Need) → n ≡ w.task → 1 ≤ n → n ≤ length counts
    → more ≡ old ++ (record { place = n - 1; calls = slice_index counts (n - 1) }) ∷ []
    → more ≡ old ++ (if nat_le 1 w.task && nat_le w.task (length counts) then counted_need counts w ∷ [] else [])
pushes counts w n old more is low high pushed =
    pushed ∙ (ap (λ (k : ℕ). old ++ (record { place = k - 1; calls = slice_index counts (k - 1) }) ∷ []) is
    ∙ ap (λ (b : Bool). old ++ (if b then counted_need counts w ∷ [] else []))
    (sym (and_from _ _ (le-leb 1 w.task (omega (arith, is, low))) (le-leb w.task (length counts) (omega (arith, is, high))))))

-- and none where it isn't
pub skips : (counts : List ℕ) (w : Wait) (n : ℕ) (old more : List Need) → n ≡ w.task → (n < 1) ⊎ (length counts < n) → more ≡ old
    → more ≡ old ++ (if nat_le 1 w.task && nat_le w.task (length counts) then counted_need counts w ∷ [] else [])
skips counts w n old more is away same = by (nat_le 1 w.task && nat_le w.task (length counts)) refl
  where
    by : (b : Bool) → (nat_le 1 w.task && nat_le w.task (length counts)) ≡ b
        → more ≡ old ++ (if nat_le 1 w.task && nat_le w.task (length counts) then counted_need counts w ∷ [] else [])
    by true e =
        let parts = and_parts (nat_le 1 w.task) (nat_le w.task (length counts)) e in
        absurd (omega (arith, away, is, leb-true 1 w.task parts.0, leb-true w.task (length counts) parts.1))
    by false e =
        same ∙ (sym (append-nil old) ∙ ap (λ (b : Bool). old ++ (if b then counted_need counts w ∷ [] else [])) (sym e))

-- no more waits are of the call
pub record Found (waits : List Wait) (call : ℕ) (counts : List ℕ) (next : ℕ) (needs : List Need) : Type 0 where
  pub needs_are : needs ≡ map (counted_need counts) (filter (is_wait_of call (length counts)) waits)
  pub split : SplitsAt waits next (call + 1)

pub finds_all : (waits : List Wait) (call : ℕ) (counts : List ℕ) (next : ℕ) (needs : List Need)
    → IsNonDecreasingBy (λ (w : Wait). w.call) waits
    → Finding waits call counts next needs
    → ((d : Wait) → next < length waits → (slice_index_or waits next d).call ≡ call → ⊥) → Found waits call counts next needs
finds_all waits call counts next needs order f over = record {
  needs_are =
      f.found ∙ ap (λ (ws : List Wait). map (counted_need counts) ws)
      (rest_pass (is_wait_of call (length counts)) waits next (λ i d low high.
      not_this call (length counts) (slice_index_or waits i d) (λ e. omega (arith, e, behind i d low high))));
  split = record { within = f.within; earlier = f.earlier; later = λ i d low high. omega (arith, behind i d low high) };
}
  where
    strict : (a b : ℕ) → a ≤ b → (b ≡ a → ⊥) → a < b
    strict a b le other = grind arith

    behind : (i : ℕ) (d : Wait) → next ≤ i → i < length waits → call < (slice_index_or waits i d).call
    behind i d low high =
        let first = strict call (slice_index_or waits next d).call (f.later next d (omega arith) (omega (arith, low, high)))
        (over d (omega (arith, low, high))) in
        omega (arith, first, order next i d low high)

-- ---- the needs of a task's calls

-- one call more
pub needs_more : (lines : List Call) (waits : List Wait) (tasks k t : ℕ) (line : Call) (of_call : List Need) (needs : List (List Need))
    → k < length lines → slice_index_or lines k line ≡ line → of_call ≡ needs_at lines waits tasks k
    → needs ≡ map (needs_at lines waits tasks) (places_from 0 (take k lines) t)
    → needs ++ (if line.0 == t then of_call ∷ [] else []) ≡ map (needs_at lines waits tasks) (places_from 0 (take (k + 1) lines) t)
needs_more lines waits tasks k t line of_call needs within is of are =
    ap (λ (ns : List (List Need)). ns ++ (if line.0 == t then of_call ∷ [] else [])) are
    ∙ (ap (λ (n : List Need). map f (places_from 0 (take k lines) t) ++ (if line.0 == t then n ∷ [] else [])) of
    ∙ (sym (pushed (line.0 == t) (places_from 0 (take k lines) t))
    ∙ sym (ap (λ (ks : List ℕ). map f ks) places)))
  where
    f : ℕ → List Need
    f = needs_at lines waits tasks

    pushed : (b : Bool) (ks : List ℕ) → map f (ks ++ (if b then k ∷ [] else [])) ≡ map f ks ++ (if b then f k ∷ [] else [])
    pushed true [] = refl
    pushed false [] = refl
    pushed b (x ∷ ks) = ap (λ (ns : List (List Need)). f x ∷ ns) (pushed b ks)

    front_of : (xs : List Call) (n : ℕ) → n ≤ length xs → length (take n xs) ≡ n
    front_of [] zero l = refl
    front_of [] (suc n) l = absurd (omega (arith, l))
    front_of (x ∷ xs) zero l = refl
    front_of (x ∷ xs) (suc n) l = ap suc (front_of xs n (omega (arith, l)))

    places : places_from 0 (take (k + 1) lines) t ≡ places_from 0 (take k lines) t ++ (if line.0 == t then k ∷ [] else [])
    places =
        ap (λ (ls : List Call). places_from 0 ls t) (take_more lines k line within ∙ ap (λ (l : Call). take k lines ++ l ∷ []) is)
        ∙ (places_more 0 (take k lines) line t
        ∙ ap (λ (n : ℕ). places_from 0 (take k lines) t ++ (if line.0 == t then n ∷ [] else []))
        (omega (arith, front_of lines k (omega (arith, within)))))

-- and counts of one line more
pub counts_at : (lines : List Call) (counts : List ℕ) (k : ℕ) (line : Call) → k < length lines → slice_index_or lines k line ≡ line
    → AreCounts (take k lines) counts → AreCounts (take (k + 1) lines) (counts_with counts line.0)
counts_at lines counts k line within is are =
    subst (λ (ls : List Call). AreCounts ls (counts_with counts line.0))
    (sym (take_more lines k line within ∙ ap (λ (l : Call). take k lines ++ l ∷ []) is)) (counts_more (take k lines) line counts are)

pub splits_first : (waits : List Wait) → SplitsAt waits 0 0
splits_first waits = record {
  within = omega arith;
  earlier = λ i d low. absurd (omega (arith, low));
  later = λ i d low high. omega arith;
}

-- a front is no longer than its number
pub front_few : (lines : List Call) (n : ℕ) → length (take n lines) ≤ n
front_few [] zero = omega arith
front_few [] (suc n) = omega arith
front_few (l ∷ lines) zero = omega arith
front_few (l ∷ lines) (suc n) = omega (arith, front_few lines n)

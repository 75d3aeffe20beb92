-- The values of a function in order, which are those of the map that has them.
use Rattle.std.proofs.Common.{◌≡◌, ℕ, suc, zero, ◌+◌, ◌-◌, ◌<◌, ◌≤◌, List, [], ◌∷◌, ◌++◌, Option, None, Some, length}
use Rattle.std.proofs.Common.{refl, sym, ap, ◌∙◌, arith}
use Rattle.std.specs.Prelude.{All, is_some, cond}
use Rattle.std.specs.Ordering.{nat_cmp}
use Rattle.std.specs.Cmp.{nat_cmp_total}
use Rattle.std.specs.FinMap as map
use Rattle.std.proofs.lemmas.Bool.Decides.{nat_tests}
use Rattle.std.proofs.lemmas.List.{append-nil, append_assoc, length-append}
use Rattle.std.proofs.lemmas.List.Elements.{All-append}
use Rattle.hp_base.specs.Indices.{count_below}
use Rattle.hp_chunks.specs.Chunks.{with_value, map_below}
use Rattle.hp_chunks.specs.Framed.{entry_at, listed, IsFirstWithin}

-- a key above all comes last
put_last : (es : List (ℕ × ℕ)) (key value : ℕ) → All (λ e. e.0 < key) es → map.put nat_cmp key value es ≡ es ++ (key, value) ∷ []
put_last [] key value under = refl
put_last (e ∷ es) key value under =
    let first : e.0 < key = under 0 e (omega arith) in
    let rest = put_last es key value (λ k d within. under (suc k) d (omega arith)) in
    grind (arith, nat_tests)

entry_under : (limit number : ℕ) (frame : Option ℕ) → number < limit → All (λ e. e.0 < limit) (entry_at number frame)
entry_under limit number None below k d within = absurd (omega arith)
entry_under limit number (Some frame) below zero d within = below
entry_under limit number (Some frame) below (suc k) d within = absurd (omega arith)

pub listed_under : (values : ℕ → Option ℕ) (limit from n : ℕ) → from + n ≤ limit → All (λ e. e.0 < limit) (listed values from n)
unfolding listed
listed_under values limit from zero le = λ k d within. absurd (omega arith)
listed_under values limit from (suc n) le =
    All-append (λ e. e.0 < limit) (entry_at from (values from)) (listed values (suc from) n)
    (entry_under limit from (values from) (omega arith)) (listed_under values limit (suc from) n (omega arith))

-- one number more, which comes last
pub listed_more : (values : ℕ → Option ℕ) (from n : ℕ)
    → listed values from (suc n) ≡ listed values from n ++ entry_at (from + n) (values (from + n))
unfolding listed
listed_more values from zero = let e : from + 0 ≡ from = omega arith in rw e (append-nil (entry_at from (values from)))
listed_more values from (suc n) =
    let e : from + suc n ≡ suc from + n = omega arith in
    rw e (ap (λ es. entry_at from (values from) ++ es) (listed_more values (suc from) n)
    ∙ sym (append_assoc (entry_at from (values from)) (listed values (suc from) n) (entry_at (suc from + n) (values (suc from + n)))))

entries_with : (m : map.FinMap nat_cmp ℕ) (key : ℕ) (value : Option ℕ) → All (λ e. e.0 < key) (map.entries m)
    → map.entries (with_value m key value) ≡ map.entries m ++ entry_at key value
entries_with m key None under = sym (append-nil (map.entries m))
entries_with m key (Some value) under = map.entries-insert nat_cmp_total m key value ∙ put_last (map.entries m) key value under

no_entries : (es : List (ℕ × ℕ)) → length es ≡ 0 → es ≡ []
no_entries [] none = refl
no_entries (e ∷ es) none = absurd (omega arith)

entries_empty : map.entries (map.empty {X = ℕ} {R = nat_cmp}) ≡ []
entries_empty = no_entries (map.entries map.empty) (sym (map.len-entries map.empty) ∙ map.len-empty nat_cmp ℕ)

listed_nothing : (values : ℕ → Option ℕ) (from : ℕ) → listed values from 0 ≡ []
unfolding listed
listed_nothing values from = refl

pub entries-map_below : (values : ℕ → Option ℕ) (n : ℕ) → map.entries (map_below values n) ≡ listed values 0 n
unfolding map_below
entries-map_below values zero = entries_empty ∙ sym (listed_nothing values 0)
entries-map_below values (suc n) =
    let rest = entries-map_below values n in
    entries_with (map_below values n) n (values n) (rw rest (listed_under values n 0 n (omega arith)))
    ∙ (ap (λ es. es ++ entry_at n (values n)) rest ∙ sym (let e : 0 + n ≡ n = omega arith in rw e at (listed_more values 0 n)))

entry_count : (number : ℕ) (frame : Option ℕ) → length (entry_at number frame) ≡ cond (is_some frame) 1 0
entry_count number None = refl
entry_count number (Some frame) = refl

-- as many are listed as have a value
pub listed_count : (values : ℕ → Option ℕ) (n : ℕ) → length (listed values 0 n) ≡ count_below (λ k. is_some (values k)) n
unfolding count_below
listed_count values zero = ap length (listed_nothing values 0)
listed_count values (suc n) =
    let same : 0 + n ≡ n = omega arith in
    let rest = listed_count values n in
    let more = length-append (listed values 0 n) (entry_at n (values n)) in
    let one = entry_count n (values n) in
    ap length (rw same at (listed_more values 0 n)) ∙ omega (arith, rest, more, one)

-- where there is no value, nothing is listed
listed_skip : (values : ℕ → Option ℕ) (from gap n : ℕ) → ((k : ℕ) → from ≤ k → k < from + gap → values k ≡ None)
    → listed values from (gap + n) ≡ listed values (from + gap) n
unfolding listed
listed_skip values from zero n none =
    let e : from + 0 ≡ from = omega arith in
    let same : 0 + n ≡ n = omega arith in
    rw (e, same) refl
listed_skip values from (suc gap) n none =
    let first : values from ≡ None = none from (omega arith) (omega arith) in
    let rest = listed_skip values (suc from) gap n (λ k above below. none k (omega arith) (omega arith)) in
    let e : from + suc gap ≡ suc from + gap = omega arith in
    let all : suc gap + n ≡ suc (gap + n) = omega arith in
    ap (listed values from) all ∙ rw (e, first) rest

listed_here : (values : ℕ → Option ℕ) (number frame n : ℕ) → values number ≡ Some frame
    → listed values number (suc n) ≡ (number, frame) ∷ listed values (suc number) n
unfolding listed
listed_here values number frame n is = rw is refl

-- the first that has a value comes first
pub listed_first : (values : ℕ → Option ℕ) (from limit : ℕ) (e : ℕ × ℕ) → IsFirstWithin values from limit (Some e)
    → listed values from (limit - from) ≡ e ∷ listed values (e.0 + 1) (limit - (e.0 + 1))
listed_first values from limit e first =
    let n = limit - (e.0 + 1) in
    let all : limit - from ≡ (e.0 - from) + suc n = omega (arith, first.0, first.1) in
    let at : from + (e.0 - from) ≡ e.0 = omega (arith, first.0) in
    let next : suc e.0 ≡ e.0 + 1 = omega arith in
    ap (listed values from) all
    ∙ listed_skip values from (e.0 - from) (suc n) (λ k above below. first.3 k above (omega arith))
    ∙ ap (λ k. listed values k (suc n)) at
    ∙ listed_here values e.0 e.1 n first.2
    ∙ ap (λ k. e ∷ listed values k n) next

pub listed_none : (values : ℕ → Option ℕ) (from n : ℕ) → IsFirstWithin values from (from + n) None → listed values from n ≡ []
unfolding listed
listed_none values from zero none = refl
listed_none values from (suc n) none =
    let first : values from ≡ None = none from (omega arith) (omega arith) in
    rw first (listed_none values (suc from) n (λ k above below. none k (omega arith) (omega arith)))

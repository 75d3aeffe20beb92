-- The gaps of mappings: their order, what a mapping that comes or goes makes of them, and the first that is long enough.
use Rattle.std.proofs.Common.{◌≡◌, ℕ, zero, suc, ◌+◌, ◌-◌, ◌<◌, ◌≤◌, true, false, List, [], ◌∷◌, ◌++◌, Option, Some, None, length}
use Rattle.std.proofs.Common.{get_or, take, drop, refl, sym, ap, ◌∙◌, arith, append_assoc, append-nil}
use Rattle.std.specs.Prelude.{nat_le, nat_lt, if◌then◌else◌}
use Rattle.std.specs.List.{prefix_len, insert, remove}
use Rattle.std.specs.List.Sorted.{IsNonDecreasingBy}
use Rattle.std.proofs.lemmas.Bool.{lt-ltb, le-ltb, ltb-true, ltb-false, lt-leb, le-leb}
use Rattle.hp_base.specs.declared.mapping.Mapping.{Mapping}
use Rattle.hp_base.specs.Mappings.{IsSpread}
use Rattle.hp_table.specs.Gaps.{between, gaps_of, end_of, is_below, swapped, up_to}
use Rattle.hp_table.specs.declared.gaps.Gap.{Gap}
use Rattle.hp_table.proofs.Room.{gap, fits_end}

-- the gap between two pages
abbrev pub one : (from to : ℕ) → Gap
one from to = record { base = from; len = to - from }

cons_above : (low : ℕ) (g : Gap) (gs : List Gap) → low ≤ g.base → ((k : ℕ) (d : Gap) → k < length gs → low ≤ (get_or gs k d).base)
    → (k : ℕ) (d : Gap) → k < length (g ∷ gs) → low ≤ (get_or (g ∷ gs) k d).base
cons_above low g gs first rest zero d within = first
cons_above low g gs first rest (suc k) d within = rest k d (omega arith)

-- no gap begins below the mappings
gaps_above : (space low : ℕ) (ms : List Mapping) → IsSpread space low ms → (k : ℕ) (d : Gap) → k < length (gaps_of low ms)
    → low ≤ (get_or (gaps_of low ms) k d).base
gaps_above space low [] spread = λ k d within. absurd (omega arith)
gaps_above space low (m ∷ ms) spread =
    let past : low ≤ m.base + m.len = omega (arith, spread.0) in
    let rest = gaps_above space (m.base + m.len) ms spread.2 in
    let higher : (k : ℕ) (d : Gap) → k < length (gaps_of (m.base + m.len) ms) → low ≤ (get_or (gaps_of (m.base + m.len) ms) k d).base =
    λ k d within. omega (arith, rest k d within, past) in
    elim (nat_lt low m.base) as
    (λ b. (k : ℕ) (d : Gap) → k < length ((if b then one low m.base ∷ [] else []) ++ gaps_of (m.base + m.len) ms)
    → low ≤ (get_or ((if b then one low m.base ∷ [] else []) ++ gaps_of (m.base + m.len) ms) k d).base) [
      | true ↦ cons_above low (one low m.base) (gaps_of (m.base + m.len) ms) (omega arith) higher
      | false ↦ higher
    ]

cons_rises : (g : Gap) (gs : List Gap) → ((k : ℕ) (d : Gap) → k < length gs → g.base ≤ (get_or gs k d).base)
    → IsNonDecreasingBy (λ g. g.base) gs → (i j : ℕ) (d : Gap) → i ≤ j → j < length (g ∷ gs)
    → (get_or (g ∷ gs) i d).base ≤ (get_or (g ∷ gs) j d).base
cons_rises g gs above rest zero zero d le within = omega arith
cons_rises g gs above rest zero (suc j) d le within = above j d (omega arith)
cons_rises g gs above rest (suc i) zero d le within = absurd (omega arith)
cons_rises g gs above rest (suc i) (suc j) d le within = rest i j d (omega arith) (omega arith)

-- gaps are in order
pub gaps_rise : (space low : ℕ) (ms : List Mapping) → IsSpread space low ms → IsNonDecreasingBy (λ g. g.base) (gaps_of low ms)
gaps_rise space low [] spread = λ i j d le within. absurd (omega arith)
gaps_rise space low (m ∷ ms) spread =
    let rest = gaps_rise space (m.base + m.len) ms spread.2 in
    let above = gaps_above space (m.base + m.len) ms spread.2 in
    elim (nat_lt low m.base) as
    (λ b. IsNonDecreasingBy (λ g. g.base) ((if b then one low m.base ∷ [] else []) ++ gaps_of (m.base + m.len) ms)) [
      | true ↦ cons_rises (one low m.base) (gaps_of (m.base + m.len) ms) (λ k d within. omega (arith, above k d within, spread.0)) rest
      | false ↦ rest
    ]

-- there are no more of them than mappings
pub gaps_len : (low : ℕ) (ms : List Mapping) → length (gaps_of low ms) ≤ length ms
gaps_len low [] = omega arith
gaps_len low (m ∷ ms) =
    let rest = gaps_len (m.base + m.len) ms in
    elim (nat_lt low m.base) as
    (λ b. length ((if b then one low m.base ∷ [] else []) ++ gaps_of (m.base + m.len) ms) ≤ suc (length ms)) [
      | true ↦ omega (arith, rest)
      | false ↦ omega (arith, rest)
    ]

none_below : (space low : ℕ) (ms : List Mapping) (v : ℕ) → IsSpread space low ms → v ≤ low → prefix_len (is_below v) (gaps_of low ms) ≡ 0
none_below space low [] v spread under = refl
none_below space low (m ∷ ms) v spread under =
    let rest = none_below space (m.base + m.len) ms v spread.2 (omega (arith, spread.0)) in
    elim (nat_lt low m.base) as
    (λ b. prefix_len (is_below v) ((if b then one low m.base ∷ [] else []) ++ gaps_of (m.base + m.len) ms) ≡ 0) [
      | true ↦ rw (le-ltb low v under) refl
      | false ↦ rest
    ]

-- a gap that begins below a page counts there
below_between : (low to v : ℕ) (gs : List Gap) → low < v
    → prefix_len (is_below v) (between low to ++ gs) ≡ length (between low to) + prefix_len (is_below v) gs
below_between low to v gs under =
    elim (nat_lt low to) as
    (λ b. prefix_len (is_below v) ((if b then one low to ∷ [] else []) ++ gs)
    ≡ length (if b then one low to ∷ [] else []) + prefix_len (is_below v) gs) [
      | true ↦ rw (lt-ltb low v under) (omega arith)
      | false ↦ omega arith
    ]

take_past : (xs gs : List Gap) (n : ℕ) → take (length xs + n) (xs ++ gs) ≡ xs ++ take n gs
take_past [] gs n = ap (λ (i : ℕ). take i gs) (omega arith)
take_past (x ∷ xs) gs n =
    let e : suc (length xs) + n ≡ suc (length xs + n) = omega arith in
    rw e (ap (λ (ys : List Gap). x ∷ ys) (take_past xs gs n))

drop_past : (xs gs : List Gap) (n : ℕ) → drop (length xs + n) (xs ++ gs) ≡ drop n gs
drop_past [] gs n = ap (λ (i : ℕ). drop i gs) (omega arith)
drop_past (x ∷ xs) gs n =
    let e : suc (length xs) + n ≡ suc (length xs + n) = omega arith in
    rw e (drop_past xs gs n)

-- what is swapped above a gap
swapped_past : (low to from end : ℕ) (gs fresh : List Gap) → low < from → low < end + 1
    → swapped (between low to ++ gs) from end fresh ≡ between low to ++ swapped gs from end fresh
swapped_past low to from end gs fresh first last =
    let b = between low to in
    let p = prefix_len (is_below from) gs in
    let q = prefix_len (is_below (end + 1)) gs in
    let taken : take (prefix_len (is_below from) (b ++ gs)) (b ++ gs) ≡ b ++ take p gs =
    ap (λ (i : ℕ). take i (b ++ gs)) (below_between low to from gs first) ∙ take_past b gs p in
    let left : drop (prefix_len (is_below (end + 1)) (b ++ gs)) (b ++ gs) ≡ drop q gs =
    ap (λ (i : ℕ). drop i (b ++ gs)) (below_between low to (end + 1) gs last) ∙ drop_past b gs q in
    ap (λ (xs : List Gap). xs ++ (fresh ++ drop (prefix_len (is_below (end + 1)) (b ++ gs)) (b ++ gs))) taken
    ∙ (ap (λ (xs : List Gap). (b ++ take p gs) ++ (fresh ++ xs)) left
    ∙ append_assoc b (take p gs) (fresh ++ drop q gs))

-- what is swapped at the first mapping: all that begins below `end + 1`
swapped_first : (low end n : ℕ) (gs left fresh : List Gap) → prefix_len (is_below low) gs ≡ 0
    → prefix_len (is_below (end + 1)) gs ≡ n → drop n gs ≡ left → swapped gs low end fresh ≡ fresh ++ left
swapped_first low end n gs left fresh none some rest =
    ap (λ (i : ℕ). take i gs ++ (fresh ++ drop (prefix_len (is_below (end + 1)) gs) gs)) none
    ∙ (ap (λ (i : ℕ). fresh ++ drop i gs) some ∙ ap (λ (xs : List Gap). fresh ++ xs) rest)

pub end_above : (space low : ℕ) (ms : List Mapping) (k : ℕ) → IsSpread space low ms → low ≤ end_of low ms k
end_above space low ms zero spread = omega arith
end_above space low [] (suc k) spread = omega arith
end_above space low (m ∷ ms) (suc k) spread = omega (arith, spread.0, end_above space (m.base + m.len) ms k spread.2)

-- a mapping has come
pub filled : (space low : ℕ) (ms : List Mapping) (k : ℕ) (d : Mapping) → k < length ms → IsSpread space low ms
    → gaps_of low ms ≡ swapped (gaps_of low (remove ms k)) (end_of low ms k) (end_of low ms (suc k))
    (between (end_of low ms k) (get_or ms k d).base ++ up_to ms (suc k) (end_of low ms (suc k)))
filled space low [] k d within spread = absurd (omega arith)
filled space low (m ∷ []) zero d within spread = sym (append-nil (between low m.base ++ []))
filled space low (m ∷ n ∷ ms) zero d within spread =
    let end = m.base + m.len in
    let b = between low n.base in
    let rest = gaps_of (n.base + n.len) ms in
    let later : IsSpread space low (n ∷ ms) = (omega (arith, spread.0, spread.2.0), spread.2.1, spread.2.2) in
    let none = none_below space low (n ∷ ms) low later (omega arith) in
    let past = none_below space (n.base + n.len) ms (end + 1) spread.2.2 (omega (arith, spread.2.0, spread.2.1)) in
    let some = below_between low n.base (end + 1) rest (omega (arith, spread.0)) ∙ ap (λ (i : ℕ). length b + i) past in
    sym (swapped_first low end (length b + 0) (b ++ rest) rest (between low m.base ++ between end n.base) none some
    (drop_past b rest 0) ∙ append_assoc (between low m.base) (between end n.base) rest)
filled space low (m ∷ ms) (suc k) d within spread =
    let from = end_of (m.base + m.len) ms k in
    let end = end_of (m.base + m.len) ms (suc k) in
    let rest = filled space (m.base + m.len) ms k d (omega arith) spread.2 in
    let first : low < from = omega (arith, spread.0, spread.1, end_above space (m.base + m.len) ms k spread.2) in
    let last : low < end + 1 = omega (arith, spread.0, end_above space (m.base + m.len) ms (suc k) spread.2) in
    ap (λ (gs : List Gap). between low m.base ++ gs) rest
    ∙ sym (swapped_past low m.base from end (gaps_of (m.base + m.len) (remove ms k))
    (between from (get_or ms k d).base ++ up_to ms (suc k) end) first last)

-- a mapping goes
pub opened : (space low : ℕ) (ms : List Mapping) (k : ℕ) → k < length ms → IsSpread space low ms
    → gaps_of low (remove ms k) ≡ swapped (gaps_of low ms) (end_of low ms k) (end_of low ms (suc k))
    (up_to ms (suc k) (end_of low ms k) ++ [])
opened space low [] k within spread = absurd (omega arith)
opened space low (m ∷ []) zero within spread =
    let b = between low m.base in
    let none = none_below space low (m ∷ []) low spread (omega arith) in
    let some = below_between low m.base (m.base + m.len + 1) [] (omega (arith, spread.0)) in
    sym (swapped_first low (m.base + m.len) (length b + 0) (b ++ []) [] [] none some (drop_past b [] 0))
opened space low (m ∷ n ∷ ms) zero within spread =
    let end = m.base + m.len in
    let b = between low m.base in
    let c = between end n.base in
    let rest = gaps_of (n.base + n.len) ms in
    let none = none_below space low (m ∷ n ∷ ms) low spread (omega arith) in
    let past = none_below space (n.base + n.len) ms (end + 1) spread.2.2 (omega (arith, spread.2.0, spread.2.1)) in
    let second = below_between end n.base (end + 1) rest (omega arith) ∙ ap (λ (i : ℕ). length c + i) past in
    let some = below_between low m.base (end + 1) (c ++ rest) (omega (arith, spread.0)) ∙ ap (λ (i : ℕ). length b + i) second in
    let left = drop_past b (c ++ rest) (length c + 0) ∙ drop_past c rest 0 in
    sym (swapped_first low end (length b + (length c + 0)) (b ++ (c ++ rest)) rest (between low n.base ++ []) none some left
    ∙ ap (λ (xs : List Gap). xs ++ rest) (append-nil (between low n.base)))
opened space low (m ∷ ms) (suc k) within spread =
    let from = end_of (m.base + m.len) ms k in
    let end = end_of (m.base + m.len) ms (suc k) in
    let rest = opened space (m.base + m.len) ms k (omega arith) spread.2 in
    let first : low < from = omega (arith, spread.0, spread.1, end_above space (m.base + m.len) ms k spread.2) in
    let last : low < end + 1 = omega (arith, spread.0, end_above space (m.base + m.len) ms (suc k) spread.2) in
    ap (λ (gs : List Gap). between low m.base ++ gs) rest
    ∙ sym (swapped_past low m.base from end (gaps_of (m.base + m.len) ms) (up_to ms (suc k) from ++ []) first last)

lower : (space low other : ℕ) (ms : List Mapping) → other ≤ low → IsSpread space low ms → IsSpread space other ms
lower space low other [] under spread = omega (arith, spread)
lower space low other (m ∷ ms) under spread = (omega (arith, spread.0), spread.1, spread.2)

-- mappings without one are spread
pub remove_spread : (space low : ℕ) (ms : List Mapping) (k : ℕ) → IsSpread space low ms → IsSpread space low (remove ms k)
remove_spread space low [] zero spread = spread
remove_spread space low [] (suc k) spread = spread
remove_spread space low (m ∷ ms) zero spread = lower space (m.base + m.len) low ms (omega (arith, spread.0)) spread.2
remove_spread space low (m ∷ ms) (suc k) spread = (spread.0, spread.1, remove_spread space (m.base + m.len) ms k spread.2)

-- what came at a place goes again
pub remove_insert : (ms : List Mapping) (k : ℕ) (new : Mapping) → k ≤ length ms → remove (insert ms k new) k ≡ ms
remove_insert ms zero new within = refl
remove_insert [] (suc k) new within = absurd (omega arith)
remove_insert (m ∷ ms) (suc k) new within = ap (λ (rest : List Mapping). m ∷ rest) (remove_insert ms k new (omega arith))

-- where a mapping ends
pub end_of_one : (low : ℕ) (ms : List Mapping) (k : ℕ) (d : Mapping) → k < length ms
    → end_of low ms (suc k) ≡ (get_or ms k d).base + (get_or ms k d).len
end_of_one low [] k d within = absurd (omega arith)
end_of_one low (m ∷ ms) zero d within = refl
end_of_one low (m ∷ ms) (suc k) d within = end_of_one (m.base + m.len) ms k d (omega arith)

pub end_rises : (space low : ℕ) (ms : List Mapping) (k : ℕ) → IsSpread space low ms → end_of low ms k ≤ end_of low ms (suc k)
end_rises space low [] zero spread = omega arith
end_rises space low [] (suc k) spread = omega arith
end_rises space low (m ∷ ms) zero spread = omega (arith, spread.0)
end_rises space low (m ∷ ms) (suc k) spread = end_rises space (m.base + m.len) ms k spread.2

-- whether there is a mapping at a place
pub up_to_some : (ms : List Mapping) (k from : ℕ) (d : Mapping) → k < length ms → up_to ms k from ≡ between from (get_or ms k d).base
up_to_some [] k from d within = absurd (omega arith)
up_to_some (m ∷ ms) zero from d within = refl
up_to_some (m ∷ ms) (suc k) from d within = up_to_some ms k from d (omega arith)

pub up_to_none : (ms : List Mapping) (k from : ℕ) → length ms ≤ k → up_to ms k from ≡ []
up_to_none [] k from past = refl
up_to_none (m ∷ ms) zero from past = absurd (omega arith)
up_to_none (m ∷ ms) (suc k) from past = up_to_none ms k from (omega arith)

-- the same, of what code has computed
pub filled_is : (space : ℕ) (ms : List Mapping) (at from end : ℕ) (d : Mapping) (gs below over : List Gap) → at < length ms
    → IsSpread space 0 ms → gs ≡ gaps_of 0 (remove ms at) → from ≡ end_of 0 ms at → end ≡ end_of 0 ms (at + 1)
    → below ≡ between from (get_or ms at d).base → over ≡ up_to ms (at + 1) end → swapped gs from end (below ++ over) ≡ gaps_of 0 ms
filled_is space ms at from end d gs below over within spread same first last under past =
    let next : at + 1 ≡ suc at = omega arith in
    rw (under, past, same, first, last, next) (sym (filled space 0 ms at d within spread))

pub opened_is : (space : ℕ) (ms : List Mapping) (at from end : ℕ) (gs merged : List Gap) → at < length ms
    → IsSpread space 0 ms → gs ≡ gaps_of 0 ms → from ≡ end_of 0 ms at → end ≡ end_of 0 ms (at + 1)
    → merged ≡ up_to ms (at + 1) from → swapped gs from end (merged ++ []) ≡ gaps_of 0 (remove ms at)
opened_is space ms at from end gs merged within spread same first last past =
    let next : at + 1 ≡ suc at = omega arith in
    rw (past, same, first, last, next) (sym (opened space 0 ms at within spread))

-- as many gaps begin below a page as below a higher one, or fewer
pub below_more : (gs : List Gap) (v w : ℕ) → v ≤ w → prefix_len (is_below v) gs ≤ prefix_len (is_below w) gs
below_more [] v w under = omega arith
below_more (g ∷ gs) v w under =
    let rest = below_more gs v w under in
    elim (nat_lt g.base v) as
    (λ b. nat_lt g.base v ≡ b → (if b then 1 + prefix_len (is_below v) gs else 0)
    ≤ (if nat_lt g.base w then 1 + prefix_len (is_below w) gs else 0)) [
      | true ↦ λ e. rw (lt-ltb g.base w (omega (arith, ltb-true g.base v e))) (omega (arith, rest))
      | false ↦ λ e. omega arith
    ] refl

-- the first gap that is long enough, else what lies above all
abbrev pub chosen : (space end len : ℕ) → List Gap → Option ℕ
chosen space end len [] = if nat_le len (space - end) then Some end else None
chosen space end len (g ∷ gs) = if nat_le len g.len then Some g.base else chosen space end len gs

-- it is the first room beside the mappings
pub gap-chosen : (space low : ℕ) (ms : List Mapping) (len : ℕ) → 1 ≤ len → IsSpread space low ms
    → gap space low ms len ≡ chosen space (end_of low ms (length ms)) len (gaps_of low ms)
gap-chosen space low [] len some spread = rw (fits_end space low len spread) refl
gap-chosen space low (m ∷ ms) len some spread =
    let end = end_of (m.base + m.len) ms (length ms) in
    let rest = gap-chosen space (m.base + m.len) ms len some spread.2 in
    elim (nat_lt low m.base) as
    (λ b. nat_lt low m.base ≡ b → (if nat_le (low + len) m.base then Some low else gap space (m.base + m.len) ms len)
    ≡ chosen space end len ((if b then one low m.base ∷ [] else []) ++ gaps_of (m.base + m.len) ms)) [
      | true ↦ λ e. rw (fits_end m.base low len spread.0)
          (ap (λ (o : Option ℕ). if nat_le len (m.base - low) then Some low else o) rest)
      | false ↦ λ e. rw (lt-leb (low + len) m.base (omega (arith, ltb-false low m.base e))) rest
    ] refl

-- no pages have room everywhere
pub gap-nothing : (space : ℕ) (ms : List Mapping) → gap space 0 ms 0 ≡ Some 0
gap-nothing space [] = rw (le-leb 0 space (omega arith)) refl
gap-nothing space (m ∷ ms) = rw (le-leb 0 m.base (omega arith)) refl

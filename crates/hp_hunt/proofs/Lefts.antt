-- What is left where events are dropped and numbers made smaller.
use Rattle.std.proofs.Common.{◌≡◌, ℕ, zero, suc, ◌+◌, ◌≤◌, ◌<◌, List, [], ◌∷◌, length, refl, sym, subst, ap, arith, ◌∙◌}
use Rattle.std.proofs.Common.{inl, inr}
use Rattle.std.specs.Prelude.{slice_set}
use Rattle.std.proofs.lemmas.List.{get_or-set_same, get_or_past, length-set}
use Rattle.std.proofs.lemmas.List.Sums.{sum_by-set, sum_by-cons}
use Rattle.hp_base.specs.declared.config.Config.{Config}
use Rattle.hp_base.specs.declared.event.Event.{Event}
use Rattle.hp_base.specs.declared.event.Event.TheVariants.{Begin, Step, Kill, Resize}
use Rattle.hp_base.specs.declared.event.Op.{Op}
use Rattle.hp_base.specs.declared.event.Op.TheVariants.{Map, MapNoReserve, Unmap, Load, Store, Alloc, Punch, Truncate, Exit}
use Rattle.hp_hunt.specs.Cutting.{IsSubsequence}
use Rattle.hp_hunt.specs.Lowering.{IsLowest, weight, sum_of}
use Rattle.hp_hunt.specs.Numbers.{op_numbers, with_op_numbers, numbers_of, with_numbers, at, put, replaced, AreWithin, IsAtMost, IsLeft}
use Rattle.hp_hunt.specs.Numbers.{event_at, number_at, with_number}
use Rattle.hp_hunt.specs.declared.condition.Condition.{Condition}
use Rattle.hp_hunt.specs.declared.numbers.Numbers.{Numbers}
use Rattle.hp_hunt.specs.declared.numbers.Which.{Which}
use Rattle.hp_hunt.specs.declared.numbers.Which.TheVariants.{First, Second, Third}

-- ---- one event

pub within_self : (ns : Numbers) → AreWithin ns ns
within_self ns = record { first = omega arith; second = omega arith; third = omega arith }

pub within_within : (xs ys zs : Numbers) → AreWithin xs ys → AreWithin ys zs → AreWithin xs zs
within_within xs ys zs p q =
    record { first = omega (arith, p.first, q.first); second = omega (arith, p.second, q.second); third = omega (arith, p.third, q.third) }

op_same : (op : Op) → with_op_numbers op (op_numbers op) ≡ op
op_same (Map file from len) = refl
op_same (MapNoReserve file from len) = refl
op_same (Unmap base) = refl
op_same (Load vpn) = refl
op_same (Store vpn word) = refl
op_same (Alloc file from len keep) = refl
op_same (Punch file from len) = refl
op_same (Truncate file new) = refl
op_same Exit = refl

-- an event with its own numbers
same_numbers : (e : Event) → with_numbers e (numbers_of e) ≡ e
same_numbers (Begin task op) = ap (λ (o : Op). Begin task o) (op_same op)
same_numbers (Step task granted) = refl
same_numbers (Kill task) = refl
same_numbers (Resize frames) = refl

op_again : (op : Op) (xs ys : Numbers) → with_op_numbers (with_op_numbers op xs) ys ≡ with_op_numbers op ys
op_again (Map file from len) xs ys = refl
op_again (MapNoReserve file from len) xs ys = refl
op_again (Unmap base) xs ys = refl
op_again (Load vpn) xs ys = refl
op_again (Store vpn word) xs ys = refl
op_again (Alloc file from len keep) xs ys = refl
op_again (Punch file from len) xs ys = refl
op_again (Truncate file new) xs ys = refl
op_again Exit xs ys = refl

-- the last numbers count
numbers_again : (e : Event) (xs ys : Numbers) → with_numbers (with_numbers e xs) ys ≡ with_numbers e ys
numbers_again (Begin task op) xs ys = ap (λ (o : Op). Begin task o) (op_again op xs ys)
numbers_again (Step task granted) xs ys = refl
numbers_again (Kill task) xs ys = refl
numbers_again (Resize frames) xs ys = refl

op_within : (op : Op) (ns : Numbers) → AreWithin (op_numbers (with_op_numbers op ns)) ns
op_within (Map file from len) ns = within_self ns
op_within (MapNoReserve file from len) ns = within_self ns
op_within (Unmap base) ns = record { first = omega arith; second = omega arith; third = omega arith }
op_within (Load vpn) ns = record { first = omega arith; second = omega arith; third = omega arith }
op_within (Store vpn word) ns = record { first = omega arith; second = omega arith; third = omega arith }
op_within (Alloc file from len keep) ns = within_self ns
op_within (Punch file from len) ns = within_self ns
op_within (Truncate file new) ns = record { first = omega arith; second = omega arith; third = omega arith }
op_within Exit ns = record { first = omega arith; second = omega arith; third = omega arith }

-- an event has the numbers that it was given, or fewer
numbers_within : (e : Event) (ns : Numbers) → AreWithin (numbers_of (with_numbers e ns)) ns
numbers_within (Begin task op) ns = op_within op ns
numbers_within (Step task granted) ns = record { first = omega arith; second = omega arith; third = omega arith }
numbers_within (Kill task) ns = record { first = omega arith; second = omega arith; third = omega arith }
numbers_within (Resize frames) ns = record { first = omega arith; second = omega arith; third = omega arith }

pub at_most_self : (e : Event) → IsAtMost e e
at_most_self e = (numbers_of e, sym (same_numbers e), within_self (numbers_of e))

at_most_most : (a b c : Event) → IsAtMost a b → IsAtMost b c → IsAtMost a c
at_most_most a b c (ns, is, within) (ms, was, few) = (
  ns,
  is ∙ ap (λ (e : Event). with_numbers e ns) was ∙ numbers_again c ms ns,
  within_within ns ms (numbers_of c)
      (within_within ns (numbers_of b) ms within (subst (λ (e : Event). AreWithin (numbers_of e) ms) (sym was) (numbers_within c ms))) few,
)

-- one number was put in the place of one that is no smaller
pub put_within : (which : Which) (n : ℕ) (ns : Numbers) → n ≤ at which ns → AreWithin (put which n ns) ns
put_within First n ns few = record { first = few; second = omega arith; third = omega arith }
put_within Second n ns few = record { first = omega arith; second = few; third = omega arith }
put_within Third n ns few = record { first = omega arith; second = omega arith; third = few }

pub replaced_at_most : (e : Event) (which : Which) (n : ℕ) → n ≤ at which (numbers_of e) → IsAtMost (replaced e which n) e
replaced_at_most e which n few = (put which n (numbers_of e), refl, put_within which n (numbers_of e) few)

lighter : (a b : Event) → IsAtMost a b → weight a ≤ weight b
lighter a b (ns, is, within) =
    let few = within_within (numbers_of a) ns (numbers_of b)
    (subst (λ (e : Event). AreWithin (numbers_of e) ns) (sym is) (numbers_within b ns)) within in
    omega (arith, few.first, few.second, few.third)

put_less : (which : Which) (n : ℕ) (ns : Numbers) → n < at which ns
    → (put which n ns).first + (put which n ns).second + (put which n ns).third < ns.first + ns.second + ns.third
put_less First n ns few = omega (arith, few)
put_less Second n ns few = omega (arith, few)
put_less Third n ns few = omega (arith, few)

-- a smaller number makes an event lighter
replaced_less : (e : Event) (which : Which) (n : ℕ) → n < at which (numbers_of e) → weight (replaced e which n) < weight e
replaced_less e which n few =
    let ns = put which n (numbers_of e) in
    let within = numbers_within e ns in
    omega (arith, within.first, within.second, within.third, put_less which n (numbers_of e) few)

op_at : (op : Op) (which : Which) (n : ℕ) → n ≤ at which (op_numbers op)
    → at which (op_numbers (with_op_numbers op (put which n (op_numbers op)))) ≡ n
op_at (Map file from len) First n few = refl
op_at (Map file from len) Second n few = refl
op_at (Map file from len) Third n few = refl
op_at (MapNoReserve file from len) First n few = refl
op_at (MapNoReserve file from len) Second n few = refl
op_at (MapNoReserve file from len) Third n few = refl
op_at (Unmap base) First n few = refl
op_at (Unmap base) Second n few = omega (arith, few)
op_at (Unmap base) Third n few = omega (arith, few)
op_at (Load vpn) First n few = refl
op_at (Load vpn) Second n few = omega (arith, few)
op_at (Load vpn) Third n few = omega (arith, few)
op_at (Store vpn word) First n few = refl
op_at (Store vpn word) Second n few = refl
op_at (Store vpn word) Third n few = omega (arith, few)
op_at (Alloc file from len keep) First n few = refl
op_at (Alloc file from len keep) Second n few = refl
op_at (Alloc file from len keep) Third n few = refl
op_at (Punch file from len) First n few = refl
op_at (Punch file from len) Second n few = refl
op_at (Punch file from len) Third n few = refl
op_at (Truncate file new) First n few = refl
op_at (Truncate file new) Second n few = refl
op_at (Truncate file new) Third n few = omega (arith, few)
op_at Exit First n few = omega (arith, few)
op_at Exit Second n few = omega (arith, few)
op_at Exit Third n few = omega (arith, few)

-- it is the event's number now
replaced_at : (e : Event) (which : Which) (n : ℕ) → n ≤ at which (numbers_of e) → at which (numbers_of (replaced e which n)) ≡ n
replaced_at (Begin task op) which n few = op_at op which n few
replaced_at (Step task granted) First n few = omega (arith, few)
replaced_at (Step task granted) Second n few = omega (arith, few)
replaced_at (Step task granted) Third n few = omega (arith, few)
replaced_at (Kill task) First n few = omega (arith, few)
replaced_at (Kill task) Second n few = omega (arith, few)
replaced_at (Kill task) Third n few = omega (arith, few)
replaced_at (Resize frames) First n few = refl
replaced_at (Resize frames) Second n few = omega (arith, few)
replaced_at (Resize frames) Third n few = omega (arith, few)

-- ---- all of them

pub left_self : (events : List Event) → IsLeft events events
unfolding IsLeft
left_self [] = refl
left_self (e ∷ events) = inr (e, events, refl, at_most_self e, left_self events)

pub same_left : (left events : List Event) → left ≡ events → IsLeft left events
same_left left events is = subst (λ (x : List Event). IsLeft x events) (sym is) (left_self events)

pub left_left : (left mid events : List Event) → IsLeft left mid → IsLeft mid events → IsLeft left events
unfolding IsLeft
left_left left mid [] p q = subst (IsLeft left) q p
left_left left mid (e ∷ events) p (inl q) = inl (left_left left mid events p q)
left_left left mid (e ∷ events) p (inr (small, rest, is, most, q)) =
    elim (subst (IsLeft left) is p) [
      | inl r ↦ inl (left_left left rest events r q)
      | inr r ↦ inr (r.0, r.1, r.2, at_most_most r.0 small e r.3 most, left_left r.1 rest events r.4 q)
    ]

-- where events were dropped alone
pub left_of_cut : (left events : List Event) → IsSubsequence left events → IsLeft left events
unfolding IsLeft IsSubsequence
left_of_cut left [] is = is
left_of_cut left (e ∷ events) (inl dropped) = inl (left_of_cut left events dropped)
left_of_cut left (e ∷ events) (inr (rest, is, kept)) = inr (e, rest, is, at_most_self e, left_of_cut rest events kept)

-- no more are left than there were
pub fewer_left : (left events : List Event) → IsLeft left events → length left ≤ length events
unfolding IsLeft
fewer_left left [] is = omega (arith, ap (λ (x : List Event). length x) is)
fewer_left left (e ∷ events) (inl dropped) = omega (arith, fewer_left left events dropped)
fewer_left left (e ∷ events) (inr (small, rest, is, most, kept)) =
    omega (arith, ap (λ (x : List Event). length x) is, fewer_left rest events kept)

-- nor is the sum of their numbers larger
pub sum_left : (left events : List Event) → IsLeft left events → sum_of left ≤ sum_of events
unfolding IsLeft
sum_left left [] is = omega (arith, ap (λ (x : List Event). sum_of x) is)
sum_left left (e ∷ events) (inl dropped) = omega (arith, sum_left left events dropped, sum_by-cons weight e events)
sum_left left (e ∷ events) (inr (small, rest, is, most, kept)) =
    omega (
      arith,
      ap (λ (x : List Event). sum_of x) is,
      sum_by-cons weight small rest,
      sum_by-cons weight e events,
      lighter small e most,
      sum_left rest events kept,
    )

set_left : (events : List Event) (place : ℕ) (small : Event) → IsAtMost small (event_at events place) → place < length events
    → IsLeft (slice_set events place small) events
unfolding IsLeft
set_left [] place small most lt = let bad : ⊥ = omega (arith, lt) in absurd bad
set_left (e ∷ events) zero small most lt = inr (small, events, refl, most, left_self events)
set_left (e ∷ events) (suc place) small most lt =
    inr (e, slice_set events place small, refl, at_most_self e, set_left events place small most (omega (arith, lt)))

-- ---- one number is smaller

module _ (events : List Event) (place : ℕ) (which : Which) (n : ℕ) (lt : place < length events) where
  pub number_left : n ≤ number_at events place which → IsLeft (with_number events place which n) events
  number_left few = set_left events place (replaced (event_at events place) which n) (replaced_at_most (event_at events place) which n few) lt

  pub number_less : n < number_at events place which → sum_of (with_number events place which n) < sum_of events
  number_less few =
      let e = event_at events place in
      omega (arith, sum_by-set weight events place (replaced e which n) (Resize 0) lt, replaced_less e which n few)

  pub number_count : length (with_number events place which n) ≡ length events
  number_count = length-set events place (replaced (event_at events place) which n)

  pub number_now : n ≤ number_at events place which → number_at (with_number events place which n) place which ≡ n
  number_now few =
      let e = event_at events place in
      ap (λ (x : Event). at which (numbers_of x)) (get_or-set_same events place (replaced e which n) (Resize 0) lt) ∙ replaced_at e which n few

-- ---- numbers that can't be smaller

no_number : (which : Which) → at which (numbers_of (Resize 0)) ≡ 0
no_number First = refl
no_number Second = refl
no_number Third = refl

-- behind the last event there is no number
pub number_past : (events : List Event) (place : ℕ) (which : Which) → length events ≤ place → number_at events place which ≡ 0
number_past events place which past =
    ap (λ (e : Event). at which (numbers_of e)) (get_or_past events place (Resize 0) past) ∙ no_number which

module _ (config : Config) (conditions : List Condition) (place : ℕ) where
  -- nothing changed between the trials of an event's numbers
  pub all_lowest : (one two three : List Event) → two ≡ one → three ≡ two → IsLowest config conditions one place First
      → IsLowest config conditions two place Second → IsLowest config conditions three place Third
      → (which : Which) → IsLowest config conditions three place which
  all_lowest one two three is was p q r First =
      subst (λ (x : List Event). IsLowest config conditions x place First) (sym (was ∙ is)) p
  all_lowest one two three is was p q r Second = subst (λ (x : List Event). IsLowest config conditions x place Second) (sym was) q
  all_lowest one two three is was p q r Third = r

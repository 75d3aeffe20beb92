-- What is left where events are dropped.
use Rattle.std.proofs.Common.{◌≡◌, ℕ, zero, suc, ◌+◌, ◌≤◌, List, [], ◌∷◌, ◌++◌, length, take, drop, refl, sym, subst, ap, arith}
use Rattle.std.proofs.Common.{inl, inr, ◌<◌, ◌∙◌, add-one}
use Rattle.std.proofs.Math.Seq.{take-suc}
use Rattle.std.specs.Prelude.{Bool, true, false, slice_index_or}
use Rattle.std.proofs.lemmas.List.{length-append, length-take, length-drop}
use Rattle.hp_base.specs.declared.config.Config.{Config}
use Rattle.hp_base.specs.declared.event.Event.{Event}
use Rattle.hp_hunt.specs.Conditions.{SomeRunMeets}
use Rattle.hp_hunt.specs.declared.condition.Condition.{Condition}
use Rattle.hp_hunt.specs.Cutting.{IsSubsequence, cut}

pub all_left : (events : List Event) → IsSubsequence events events
unfolding IsSubsequence
all_left [] = refl
all_left (e ∷ events) = inr (events, refl, all_left events)

-- all events are left, as they are
pub same_left : (left events : List Event) → left ≡ events → IsSubsequence left events
same_left left events is = subst (λ (x : List Event). IsSubsequence x events) (sym is) (all_left events)

-- what is left of what is left
pub left_of_left : (left mid events : List Event) → IsSubsequence left mid → IsSubsequence mid events → IsSubsequence left events
unfolding IsSubsequence
left_of_left left mid [] p q = subst (IsSubsequence left) q p
left_of_left left mid (e ∷ events) p (inl q) = inl (left_of_left left mid events p q)
left_of_left left mid (e ∷ events) p (inr (rest, is, q)) =
    elim (subst (IsSubsequence left) is p) [
      | inl r ↦ inl (left_of_left left rest events r q)
      | inr r ↦ inr (r.0, r.1, left_of_left r.0 rest events r.2 q)
    ]

-- nothing of the first events is left
back_left : (n : ℕ) (events : List Event) → IsSubsequence (drop n events) events
unfolding IsSubsequence
back_left zero events = all_left events
back_left (suc n) [] = refl
back_left (suc n) (e ∷ events) = inl (back_left n events)

none_left : (n : ℕ) → drop {A = Event} n [] ≡ []
none_left zero = refl
none_left (suc n) = refl

pub cut_left : (from len : ℕ) (events : List Event) → IsSubsequence (cut events from len) events
unfolding IsSubsequence
cut_left zero len events = back_left (0 + len) events
cut_left (suc from) len [] = none_left (suc from + len)
cut_left (suc from) len (e ∷ events) =
    let further : suc from + len ≡ suc (from + len) = omega arith in
    inr (
      cut events from len,
      ap (λ (n : ℕ). e ∷ (take from events ++ drop n (e ∷ events))) further,
      cut_left from len events,
    )

-- ---- passes over what is left

-- events were dropped, or none
pub step_left : (old mid new : List Event) (from len : ℕ) (done : Bool)
    → (done ≡ true → new ≡ cut mid from len) → (done ≡ false → new ≡ mid) → IsSubsequence mid old → IsSubsequence new old
step_left old mid new from len true cuts keeps left =
    left_of_left new mid old (subst (λ (x : List Event). IsSubsequence x mid) (sym (cuts refl)) (cut_left from len mid)) left
step_left old mid new from len false cuts keeps left = subst (λ (x : List Event). IsSubsequence x old) (sym (keeps refl)) left

pub step_meets : (config : Config) (conditions : List Condition) (mid new : List Event) (done : Bool)
    → (done ≡ true → SomeRunMeets config new conditions) → (done ≡ false → new ≡ mid) → SomeRunMeets config mid conditions
    → SomeRunMeets config new conditions
step_meets config conditions mid new true drops keeps meets = drops refl
step_meets config conditions mid new false drops keeps meets =
    subst (λ (x : List Event). SomeRunMeets config x conditions) (sym (keeps refl)) meets

-- how many are left
pub cut_length : (from len : ℕ) (events : List Event) → from + len ≤ length events → length (cut events from len) + len ≡ length events
cut_length from len events within =
    omega (arith, length-append (take from events) (drop (from + len) events), length-take from events, length-drop (from + len) events)

-- the events below that place are as they were, and at least so many
pub step_within : (mid new : List Event) (from len : ℕ) (done : Bool) → from + len ≤ length mid
    → (done ≡ true → new ≡ cut mid from len) → (done ≡ false → new ≡ mid) → from ≤ length new
step_within mid new from len true within cuts keeps =
    omega (arith, within, cut_length from len mid within, ap (λ (x : List Event). length x) (cuts refl))
step_within mid new from len false within cuts keeps = omega (arith, within, ap (λ (x : List Event). length x) (keeps refl))

-- no more are left than there were
pub fewer_left : (left events : List Event) → IsSubsequence left events → length left ≤ length events
unfolding IsSubsequence
fewer_left left [] is = omega (arith, ap (λ (x : List Event). length x) is)
fewer_left left (e ∷ events) (inl dropped) = omega (arith, fewer_left left events dropped)
fewer_left left (e ∷ events) (inr kept) =
    omega (arith, ap (λ (x : List Event). length x) kept.1, fewer_left kept.0 events kept.2)

-- ---- events that are gone over

pub more_kept : (left events : List Event) (e : Event) → IsSubsequence left events → IsSubsequence (left ++ e ∷ []) (events ++ e ∷ [])
unfolding IsSubsequence
more_kept left [] e is = inr ([], ap (λ (x : List Event). x ++ e ∷ []) is, refl)
more_kept left (x ∷ events) e (inl dropped) = inl (more_kept left events e dropped)
more_kept left (x ∷ events) e (inr (rest, is, kept)) =
    inr (rest ++ e ∷ [], ap (λ (x : List Event). x ++ e ∷ []) is, more_kept rest events e kept)

pub more_dropped : (left events : List Event) (e : Event) → IsSubsequence left events → IsSubsequence left (events ++ e ∷ [])
unfolding IsSubsequence
more_dropped left [] e is = inl is
more_dropped left (x ∷ events) e (inl dropped) = inl (more_dropped left events e dropped)
more_dropped left (x ∷ events) e (inr (rest, is, kept)) = inr (rest, is, more_dropped rest events e kept)

module _ (left events : List Event) (place : ℕ) (e : Event) (lt : place < length events) (is : e ≡ slice_index_or events place e)
    (so_far : IsSubsequence left (take place events)) where
  one_more : take (place + 1) events ≡ take place events ++ e ∷ []
  one_more = rw add-one (take-suc events place e lt) ∙ ap (λ (x : Event). take place events ++ x ∷ []) (sym is)

  -- the event at the place is kept
  pub place_kept : IsSubsequence (left ++ e ∷ []) (take (place + 1) events)
  place_kept = subst (IsSubsequence (left ++ e ∷ [])) (sym one_more) (more_kept left (take place events) e so_far)

  -- it is dropped
  pub place_dropped : IsSubsequence left (take (place + 1) events)
  place_dropped = subst (IsSubsequence left) (sym one_more) (more_dropped left (take place events) e so_far)

-- what was left was taken, or not
pub kept_left : (old mid left new : List Event) (done : Bool) → (done ≡ true → new ≡ left) → (done ≡ false → new ≡ mid)
    → IsSubsequence left mid → IsSubsequence mid old → IsSubsequence new old
kept_left old mid left new true takes keeps less was = left_of_left new mid old (subst (λ (x : List Event). IsSubsequence x mid) (sym (takes refl)) less) was
kept_left old mid left new false takes keeps less was = subst (λ (x : List Event). IsSubsequence x old) (sym (keeps refl)) was

pub kept_meets : (config : Config) (conditions : List Condition) (mid left new : List Event) (done : Bool)
    → (done ≡ true → (new ≡ left) × SomeRunMeets config left conditions) → (done ≡ false → new ≡ mid) → SomeRunMeets config mid conditions
    → SomeRunMeets config new conditions
kept_meets config conditions mid left new done takes keeps was =
    step_meets config conditions mid new done
    (λ is. subst (λ (x : List Event). SomeRunMeets config x conditions) (sym (takes is).0) (takes is).1) keeps was

-- Runs that grow by an event.
use Rattle.std.proofs.Common.{◌≡◌, ◌∙◌, ℕ, ◌+◌, ◌<◌, List, [], ◌∷◌, ◌++◌, ap, get_or, inl, inr, refl, sym, subst, take, drop, length, arith}
use Rattle.std.specs.Prelude.{map, set, zero, suc, Option, Some, None, IsSomeAnd}
use Rattle.std.proofs.lemmas.List.Elements.{at_read}
use Rattle.std.proofs.lemmas.List.{drop-set-lt, map-append, take_more, take_more_set}
use Rattle.std.proofs.lemmas.Grind.{common_steps}
use Rattle.hp_base.specs.declared.event.Event.{Event}
use Rattle.hp_core.specs.State.{CoreState}
use Rattle.hp_core.specs.Runs.{Row, WantsGrowth}
use Rattle.hp_core.proofs.RunsOn.{run_more, run_none}
use Rattle.hp_words.specs.declared.event_words.EventWords.{EventWords}
use Rattle.hp_words.specs.declared.outcome_words.OutcomeWords.{OutcomeWords}
use Rattle.hp_words.specs.Words.{event_named, outcome_words}
use Rattle.hp_c.specs.Answers.{Answered, Happened, IsEventRefused}
use Rattle.hp_c.specs.Runs.{RanOn, IsRunRefused}

-- nothing happened yet
pub ran_none : (s : CoreState) → RanOn s [] [] s
ran_none s = record { events = []; outcomes = []; are_events = refl; are_told = refl; run = run_none s }

-- one more
ran_more : (s mid new : CoreState) (ns : List EventWords) (ws : List OutcomeWords) (n : EventWords) (w : OutcomeWords)
    → RanOn s ns ws mid → Happened (Some mid) (event_named n) w (Some new) → RanOn s (ns ++ n ∷ []) (ws ++ w ∷ []) new
ran_more s mid new ns ws n w ran h = record {
  events = ran.events ++ h.event ∷ [];
  outcomes = ran.outcomes ++ h.outcome ∷ [];
  are_events =
      map-append event_named ns (n ∷ [])
      ∙ ap (λ (es : List (Option Event)). es ++ event_named n ∷ []) ran.are_events
      ∙ ap (λ (e : Option Event). map Some ran.events ++ e ∷ []) h.is_event
      ∙ sym (map-append Some ran.events (h.event ∷ []));
  are_told =
      ap (λ (os : List OutcomeWords). os ++ w ∷ []) ran.are_told
      ∙ ap (λ (o : OutcomeWords). map outcome_words ran.outcomes ++ o ∷ []) h.is_told
      ∙ sym (map-append outcome_words ran.outcomes (h.outcome ∷ []));
  run = run_more s mid new ran.events ran.outcomes h.event h.outcome ran.run (row_of h);
}
  where
    some_is : (x y : CoreState) → Some x ≡ Some y → x ≡ y
    some_is x y e = cc

    row_of : (h : Happened (Some mid) (event_named n) w (Some new)) → Row mid h.event h.outcome new
    row_of h =
        let from : mid ≡ h.before = some_is mid h.before h.is_before in
        let to : new ≡ h.after = some_is new h.after h.is_after in
        subst (λ (x : CoreState). Row x h.event h.outcome new) (sym from)
        (subst (λ (x : CoreState). Row h.before h.event h.outcome x) (sym to) h.row)

-- a round of the loop is one more event, whose outcome is put at its place
pub ran_next : (s mid new : CoreState) (ns : List EventWords) (i k : ℕ) (ws : List OutcomeWords) (n : EventWords) (w : OutcomeWords)
    → k ≡ i → i < length ns → k < length ws → n ≡ get_or ns i n → RanOn s (take i ns) (take i ws) mid
    → Happened (Some mid) (event_named n) w (Some new) → RanOn s (take (i + 1) ns) (take (i + 1) (set ws k w)) new
ran_next s mid new ns i k ws n w here within room is ran h =
    subst (λ (os : List OutcomeWords). RanOn s (take (i + 1) ns) os new)
    (sym (ap (λ (at : ℕ). take (i + 1) (set ws at w)) here ∙ take_more_set ws i w (omega (arith, here, room))))
    (subst (λ (es : List EventWords). RanOn s es (take i ws ++ w ∷ []) new)
    (sym (take_more ns i n within ∙ ap (λ (x : EventWords). take i ns ++ x ∷ []) (sym is)))
    (ran_more s mid new (take i ns) (take i ws) n w ran h))

-- what is put at a place doesn't show behind it
pub rest_next : (ws first : List OutcomeWords) (i k : ℕ) (w : OutcomeWords) → k ≡ i → drop i ws ≡ drop i first
    → drop (i + 1) (set ws k w) ≡ drop (i + 1) first
rest_next ws first i k w here rest =
    drop-set-lt (i + 1) ws k w (omega (arith, here))
    ∙ subst (λ (n : ℕ). drop n ws ≡ drop n first) {x = suc i} {y = i + 1} (omega arith)
    (drops i ws ∙ ap (λ (xs : List OutcomeWords). drop 1 xs) rest ∙ sym (drops i first))
  where
    drops : (n : ℕ) (xs : List OutcomeWords) → drop (suc n) xs ≡ drop 1 (drop n xs)
    drops zero xs = refl
    drops (suc n) [] = refl
    drops (suc n) (x ∷ xs) = drops n xs

-- an event that is refused stops the run there
stopped_at : (core before : CoreState) (ns : List EventWords) (i room : ℕ) (n : EventWords) (code : ℕ) (all : Type 0)
    → i < length ns → n ≡ get_or ns i n → core ≡ before → IsEventRefused (Some before) (event_named n) code
    → Answered code all (IsRunRefused (Some core) ns room i code)
stopped_at core before ns i room n code all within is same (inl (closed, none)) = absurd (cc)
stopped_at core before ns i room n code all within is same (inr (inl (memory, wants))) =
    subst (λ (k : ℕ). Answered k all (IsRunRefused (Some core) ns room i k)) (sym memory) (
      within,
      inl (
        refl,
        at_read ns (λ e. IsSomeAnd (event_named e) (WantsGrowth core.parts core.task_states)) i n within is
            (subst (λ (s : CoreState). IsSomeAnd (event_named n) (WantsGrowth s.parts s.task_states)) (sym same) wants),
      ),
    )
stopped_at core before ns i room n code all within is same (inr (inr (no_such, none))) =
    subst (λ (k : ℕ). Answered k all (IsRunRefused (Some core) ns room i k)) (sym no_such)
    (within, inr (inl (refl, at_read ns (λ e. event_named e ≡ None) i n within is none)))

-- the same, where the place has another name
pub stopped_by : (core before : CoreState) (ns : List EventWords) (i k room : ℕ) (n : EventWords) (code : ℕ) (all : Type 0)
    → k ≡ i → i < length ns → n ≡ get_or ns i n → core ≡ before → IsEventRefused (Some before) (event_named n) code
    → Answered code all (IsRunRefused (Some core) ns room k code)
stopped_by core before ns i k room n code all here within is same refused =
    subst (λ (at : ℕ). Answered code all (IsRunRefused (Some core) ns room at code)) (sym here)
    (stopped_at core before ns i room n code all within is same refused)

-- the element at a place, as the loop reads it
abbrev pub at : (ns : List EventWords) (i : ℕ) → EventWords
at ns i = get_or ns i (record { word = 0; kind = 0; task = 0; op = 0; file = 0; from = 0; len = 0; page = 0 })

pub at_is : (ns : List EventWords) (i : ℕ) → i < length ns → at ns i ≡ get_or ns i (at ns i)
at_is ns i within = grind (arith, common_steps)

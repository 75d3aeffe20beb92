-- Runs, and what is drawn of them, event by event.
use Rattle.std.proofs.Common.{◌≡◌, ℕ, suc, ◌+◌, ◌<◌, ◌≤◌, List, [], ◌∷◌, ◌++◌, length, take, get_or, Option, refl, sym}
use Rattle.std.proofs.Common.{ap, subst, ◌∙◌, append_assoc, arith, length-append, add-one}
use Rattle.std.specs.Prelude.{None}
use Rattle.std.proofs.lemmas.List.{append-nil, take_all}
use Rattle.hp_base.specs.Text.{Sizes, sizes}
use Rattle.hp_base.specs.declared.config.Config.{Config}
use Rattle.hp_base.specs.declared.event.Event.{Event}
use Rattle.hp_core.specs.Runs.{Row, IsOpening}
use Rattle.hp_draw.specs.Lists.{listed}
use Rattle.hp_core.specs.State.{CoreState}
use Rattle.hp_machine.specs.declared.outcome.Outcome.{Outcome}
use Rattle.hp_machine.specs.declared.phase.Phase.{Phase}
use Rattle.hp_draw.specs.Following.{stay_in}
use Rattle.hp_watch.specs.Happenings.{Happening, Happens, events_of, stood_at}
use Rattle.hp_watch.specs.Holders.{AreHolders}
use Rattle.hp_watch.proofs.Happenings.{events_more, happens_more, up_to}
use Rattle.hp_draw.specs.Sketches.{AreWaits, Drawn, IsDrawn, nothing_drawn, after, after_all}
use Rattle.hp_draw.specs.Sketches.{stays_in, ended}
use Rattle.hp_draw.proofs.Columns.{opened}
use Rattle.hp_draw.proofs.Exact.{exact_waits}
use Rattle.hp_draw.specs.declared.following.OpenStay.{OpenStay}
use Rattle.hp_draw.specs.declared.following.Stay.{Stay}

-- what is drawn of it is added to what was drawn before
drawn_more : (at n : ℕ) (d : Drawn) (list : List Happening) (h : Happening) → n ≡ at + length list
    → after_all at d (list ++ (h ∷ [])) ≡ after n (after_all at d list) h
unfolding after_all
drawn_more at n d [] h is =
    let here : at ≡ n = omega (arith, is) in
    ap (λ (k : ℕ). after k d h) here
drawn_more at n d (k ∷ list) h is =
    let next : n ≡ suc at + length list = omega (arith, is) in
    drawn_more (suc at) n (after at d k) list h next

-- the first n events happened, and this is drawn of them
pub record DrawnSoFar (tasks : ℕ) (events : List Event) (n : ℕ) (old now : CoreState) (d : Drawn) : Type 0 where
  pub happenings : List Happening
  pub are_events : events_of happenings ≡ take n events
  pub count : length happenings ≡ n
  pub happens : Happens old happenings now
  pub is : d ≡ after_all 0 (nothing_drawn tasks) happenings

pub nothing_yet : (tasks : ℕ) (events : List Event) (old : CoreState) (d : Drawn) → d ≡ nothing_drawn tasks
    → DrawnSoFar tasks events 0 old old d
unfolding after_all
nothing_yet tasks events old d is = record { happenings = []; are_events = refl; count = refl; happens = refl; is = is }

pub one_event : (tasks : ℕ) (events slice : List Event) (n at : ℕ) (e : Event) (outcome : Outcome) (old mid new : CoreState)
    (holders : List (Option ℕ)) (from : Option Phase) (d dd : Drawn)
    → slice ≡ events → n < length slice → e ≡ get_or slice n e → at ≡ n → DrawnSoFar tasks events n old mid d → Row mid e outcome new
    → AreHolders new holders → from ≡ stood_at mid e
    → dd ≡ after at d (record { event = e; outcome = outcome; core = new; holders = holders; from = from })
    → DrawnSoFar tasks events (n + 1) old new dd
one_event tasks events slice n at e outcome old mid new holders from d dd same lt is number s row are stood drawn =
    record {
      happenings = s.happenings ++ (h ∷ []);
      are_events =
          events_more s.happenings h ∙ ap (λ (x : List Event). x ++ (e ∷ [])) s.are_events ∙ sym (up_to events n e there here);
      count = counted;
      happens = happens_more old mid new s.happenings h s.happens (row, are, stood) refl;
      is = drawn ∙ ap (λ (x : Drawn). after at x h) s.is ∙ sym (drawn_more 0 at (nothing_drawn tasks) s.happenings h place);
    }
  where
    h : Happening
    h = record { event = e; outcome = outcome; core = new; holders = holders; from = from }

    there : n < length events
    there = subst (λ (x : List Event). n < length x) same lt

    here : e ≡ get_or events n e
    here = subst (λ (x : List Event). e ≡ get_or x n e) same is

    place : at ≡ 0 + length s.happenings
    place =
        let before_it = s.count in
        omega (arith, number)

    counted : length (s.happenings ++ (h ∷ [])) ≡ n + 1
    counted =
        let longer = length-append s.happenings (h ∷ []) in
        let before_it = s.count in
        omega arith

-- all happened, and the stays of the calls in flight are added
pub whole_run : (config : Config) (events slice : List Event) (n at : ℕ) (first new : CoreState) (d dd : Drawn)
    → slice ≡ events → length slice ≤ n → at ≡ n → IsOpening config first → DrawnSoFar (sizes config).tasks events n first new d
    → dd ≡ ended at d
    → IsDrawn (sizes config) events dd
whole_run config events slice n at first new d dd same le number opening s ends =
    record {
      config = config;
      sizes_are = refl;
      first = first;
      opening = opening;
      happenings = s.happenings;
      are_events = s.are_events ∙ take_all n events (subst (λ (x : List Event). length x ≤ n) same le);
      new = new;
      happens = s.happens;
      is =
          ends ∙ ap (λ (x : Drawn). ended at x) s.is
          ∙ whole;
      are_waits =
          subst (λ (x : Drawn). AreWaits (sizes config).tasks s.happenings x.waits)
          (sym (ends ∙ ap (λ (x : Drawn). ended at x) s.is ∙ whole))
          (exact_waits (sizes config).tasks first new s.happenings (ap (λ (z : Sizes). z.tasks) (opened config first opening)) s.happens);
    }
  where
    whole : ended at (after_all 0 (nothing_drawn (sizes config).tasks) s.happenings)
        ≡ ended (length s.happenings) (after_all 0 (nothing_drawn (sizes config).tasks) s.happenings)
    whole = ap (λ (k : ℕ). ended k (after_all 0 (nothing_drawn (sizes config).tasks) s.happenings)) (number ∙ sym s.count)

-- the stays in flight, column by column

pub no_stay : (at : ℕ) (open_stays : List (Option OpenStay)) (old : List Stay) → old ≡ old ++ stays_in at open_stays 0
unfolding stays_in
no_stay at open_stays old = sym (append-nil old)

pub one_stay : (at : ℕ) (open_stays : List (Option OpenStay)) (n : ℕ) (old now new : List Stay) → now ≡ old ++ stays_in at open_stays n
    → new ≡ now ++ listed (stay_in n at (get_or open_stays n None)) → new ≡ old ++ stays_in at open_stays (n + 1)
unfolding stays_in
one_stay at open_stays n old now new is e =
    rw (add-one) (e ∙ ap (λ (x : List Stay). x ++ listed (stay_in n at (get_or open_stays n None))) is
    ∙ append_assoc old (stays_in at open_stays n) (listed (stay_in n at (get_or open_stays n None))))

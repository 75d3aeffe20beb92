-- Events that happen one after the other, and the texts that tell of them.
use Rattle.std.proofs.Common.{◌≡◌, ℕ, suc, ◌+◌, ◌<◌, ◌≤◌, List, [], ◌∷◌, ◌++◌, length, take, drop, get_or, Option}
use Rattle.std.proofs.Common.{refl, sym, ap, subst, ◌∙◌}
use Rattle.std.proofs.Common.{append_assoc, arith, length-append}
use Rattle.std.proofs.Common.{inl, inr}
use Rattle.std.specs.Prelude.{OnOk, IfErr, Result, Ok, Err, ◌⊎◌}
use Rattle.std.specs.Io.KnownBytes.{Appends, Keeps}
use Rattle.std.proofs.KnownBytes.{Appends-nil, Appends-trans, Appends-kept}
use Rattle.std.proofs.lemmas.List.{append-nil, take-append-drop, take_all}
use Rattle.hp_base.specs.declared.event.Event.{Event}
use Rattle.hp_core.specs.Runs.{Row}
use Rattle.hp_core.specs.State.{CoreState}
use Rattle.hp_machine.specs.declared.outcome.Outcome.{Outcome}
use Rattle.hp_machine.specs.declared.phase.Phase.{Phase}
use Rattle.hp_text.specs.Writing.{Wrote, IsWriteFault}
use Rattle.hp_text.specs.declared.fault.ReplayFault.{ReplayFault}
use Rattle.hp_text.specs.declared.fault.ReplayFault.TheVariants.{Write}
use Rattle.hp_text.proofs.Writes.{Wrote-behind}
use Rattle.hp_watch.specs.Happenings.{Happening, Happens, events_of, stood_at}
use Rattle.hp_watch.specs.Holders.{AreHolders}
use Rattle.hp_watch.proofs.Happenings.{events_more, happens_more, up_to}
use Rattle.hp_explain.specs.Happenings.{Telling, texts_of}
use Rattle.hp_explain.specs.Happenings.{EventTold, EventPartlyTold, EventsTold, EventsPartlyTold}

-- whom tasks wait for behind these, who waited for those
abbrev pub waits_after : (waited : List (Option ℕ)) → List Happening → List (Option ℕ)
waits_after waited [] = waited
waits_after waited (h ∷ more) = waits_after h.holders more

waits_more : (waited : List (Option ℕ)) (list : List Happening) (h : Happening) → waits_after waited (list ++ (h ∷ [])) ≡ h.holders
waits_more waited [] h = refl
waits_more waited (k ∷ list) h = waits_more k.holders list h

length_of : (list : List Happening) → length (events_of list) ≡ length list
length_of [] = refl
length_of (k ∷ list) = ap suc (length_of list)

-- its text stands behind those before it
text_more : (tell : Telling) (line : ℕ) (waited : List (Option ℕ)) (list : List Happening) (h : Happening)
    → texts_of tell line waited (list ++ (h ∷ []))
    ≡ texts_of tell line waited list ++ tell (line + length list) (waits_after waited list) h
unfolding texts_of
text_more tell line waited [] h =
    let here : line ≡ line + 0 = omega arith in
    append-nil (tell line waited h) ∙ ap (λ (n : ℕ). tell n waited h) here
text_more tell line waited (k ∷ list) h =
    let next : suc line + length list ≡ line + suc (length list) = omega arith in
    let last = waits_after k.holders list in
    ap (λ (x : List ℕ). tell line waited k ++ x)
    (text_more tell (suc line) k.holders list h
    ∙ ap (λ (n : ℕ). texts_of tell (suc line) k.holders list ++ tell n last h) next)
    ∙ sym (append_assoc (tell line waited k) (texts_of tell (suc line) k.holders list)
    (tell (line + suc (length list)) last h))

-- the first n events happened, and their texts are written
pub record ToldSoFar (tell : Telling) (events : List Event) (n : ℕ) (old now : CoreState) (waited waits : List (Option ℕ))
    (before after : Option (List ℕ)) : Type 0 where
  pub happenings : List Happening
  pub are_events : events_of happenings ≡ take n events
  pub count : length happenings ≡ n
  pub happens : Happens old happenings now
  pub last : waits_after waited happenings ≡ waits
  pub wrote : Appends before after (texts_of tell 2 waited happenings)

pub none_told : (tell : Telling) (events : List Event) (old : CoreState) (waited : List (Option ℕ)) (o : Option (List ℕ))
    → ToldSoFar tell events 0 old old waited waited o o
unfolding texts_of
none_told tell events old waited o =
    record { happenings = []; are_events = refl; count = refl; happens = refl; last = refl; wrote = Appends-nil o }

-- and its text behind those that are written
text_behind : (tell : Telling) (events : List Event) (n line : ℕ) (old now : CoreState) (waited waits : List (Option ℕ))
    (before after : Option (List ℕ)) (s : ToldSoFar tell events n old now waited waits before after) (h : Happening) → line ≡ n + 2
    → texts_of tell 2 waited (s.happenings ++ (h ∷ [])) ≡ texts_of tell 2 waited s.happenings ++ tell line waits h
text_behind tell events n line old now waited waits before after s h number =
    let counted = s.count in
    let here : 2 + length s.happenings ≡ line = omega arith in
    text_more tell 2 waited s.happenings h
    ∙ ap (λ (k : ℕ). texts_of tell 2 waited s.happenings ++ tell k (waits_after waited s.happenings) h) here
    ∙ ap (λ (w : List (Option ℕ)). texts_of tell 2 waited s.happenings ++ tell line w h) s.last

pub one_told : (tell : Telling) (events : List Event) (n line : ℕ) (e : Event) (old mid new : CoreState)
    (waited waits next : List (Option ℕ)) (before now after : Option (List ℕ)) → n < length events → e ≡ get_or events n e → line ≡ n + 2
    → ToldSoFar tell events n old mid waited waits before now → EventTold tell line e mid new waits next now after
    → ToldSoFar tell events (n + 1) old new waited next before after
one_told tell events n line e old mid new waited waits next before now after lt is number s r =
    record {
      happenings = s.happenings ++ (r.happening ∷ []);
      are_events =
          events_more s.happenings r.happening
          ∙ ap (λ (x : Event). events_of s.happenings ++ (x ∷ [])) r.is_event
          ∙ ap (λ (x : List Event). x ++ (e ∷ [])) s.are_events ∙ sym (up_to events n e lt is);
      count = counted;
      happens = happens_more old mid new s.happenings r.happening s.happens r.happened r.is_core;
      last = waits_more waited s.happenings r.happening ∙ r.are_holders;
      wrote =
          subst (λ (x : List ℕ). Appends before after x)
          (sym (text_behind tell events n line old mid waited waits before now s r.happening number))
          (Appends-trans before now after (texts_of tell 2 waited s.happenings)
          (tell line waits r.happening) s.wrote r.wrote);
    }
  where
    counted : length (s.happenings ++ (r.happening ∷ [])) ≡ n + 1
    counted =
        let longer = length-append s.happenings (r.happening ∷ []) in
        let before_it = s.count in
        omega arith

pub all_told : (tell : Telling) (events : List Event) (n : ℕ) (old new : CoreState) (waited waits : List (Option ℕ))
    (before after : Option (List ℕ)) → length events ≤ n → ToldSoFar tell events n old new waited waits before after
    → EventsTold tell 2 events old new waited before after
all_told tell events n old new waited waits before after le s =
    record { happenings = s.happenings; are_events = s.are_events ∙ take_all n events le; happens = s.happens; wrote = s.wrote }

-- the next event didn't happen
pub stopped_before : (tell : Telling) (events : List Event) (n : ℕ) (old mid : CoreState) (waited waits : List (Option ℕ))
    (before now after : Option (List ℕ)) → ToldSoFar tell events n old mid waited waits before now → Keeps now after
    → EventsPartlyTold tell 2 events old waited before after
stopped_before tell events n old mid waited waits before now after s kept =
    record {
      happenings = s.happenings;
      rest = drop n events;
      new = mid;
      are_events = ap (λ (x : List Event). x ++ drop n events) s.are_events ∙ take-append-drop n events;
      happens = s.happens;
      wrote =
          record {
            front = texts_of tell 2 waited s.happenings;
            back = [];
            parts = sym (append-nil (texts_of tell 2 waited s.happenings));
            appends = Appends-kept before now after (texts_of tell 2 waited s.happenings) s.wrote kept;
          };
    }

-- or its text was not written to its end
pub stopped_in : (tell : Telling) (events : List Event) (n line : ℕ) (e : Event) (old mid : CoreState)
    (waited waits : List (Option ℕ))
    (before now after : Option (List ℕ)) → n < length events → e ≡ get_or events n e → line ≡ n + 2
    → ToldSoFar tell events n old mid waited waits before now → EventPartlyTold tell line e mid waits now after
    → EventsPartlyTold tell 2 events old waited before after
stopped_in tell events n line e old mid waited waits before now after lt is number s r =
    record {
      happenings = s.happenings ++ (r.happening ∷ []);
      rest = drop (n + 1) events;
      new = r.happening.core;
      are_events =
          ap (λ (x : List Event). x ++ drop (n + 1) events)
          (events_more s.happenings r.happening
          ∙ ap (λ (x : Event). events_of s.happenings ++ (x ∷ [])) r.is_event
          ∙ ap (λ (x : List Event). x ++ (e ∷ [])) s.are_events ∙ sym (up_to events n e lt is))
          ∙ take-append-drop (n + 1) events;
      happens = happens_more old mid r.happening.core s.happenings r.happening s.happens r.happened refl;
      wrote =
          subst (λ (x : List ℕ). Wrote before after x)
          (sym (text_behind tell events n line old mid waited waits before now s r.happening number))
          (Wrote-behind before now after (texts_of tell 2 waited s.happenings)
          (tell line waits r.happening) s.wrote r.wrote);
    }

-- ---- one event

-- an event that happened, and whose text was written
pub event_told : {A : Type 0} (r : Result A ReplayFault) (tell : Telling) (line : ℕ) (e : Event) (outcome : Outcome)
    (old new : CoreState) (waited waits : List (Option ℕ)) (from : Option Phase) (before after : Option (List ℕ)) (text told : List ℕ)
    → Row old e outcome new → AreHolders new waits → from ≡ stood_at old e → text ≡ told
    → told ≡ tell line waited (record { event = e; outcome = outcome; core = new; holders = waits; from = from })
    → OnOk r (Appends before after text) → OnOk r (EventTold tell line e old new waited waits before after)
event_told (Ok x) tell line e outcome old new waited waits from before after text told happens holders stood same is wrote =
    record {
      happening = record { event = e; outcome = outcome; core = new; holders = waits; from = from };
      is_event = refl;
      is_core = refl;
      are_holders = refl;
      happened = (happens, holders, stood);
      wrote = subst (λ (x : List ℕ). Appends before after x) (same ∙ is) wrote;
    }
event_told (Err fault) tell line e outcome old new waited waits from before after text told happens holders stood same is wrote = tt

-- or in part
pub event_stopped : {A : Type 0} (r : Result A ReplayFault) (tell : Telling) (line : ℕ) (e : Event) (outcome : Outcome)
    (old new : CoreState) (waited waits : List (Option ℕ)) (from : Option Phase) (before after : Option (List ℕ)) (text told : List ℕ)
    → Row old e outcome new → AreHolders new waits → from ≡ stood_at old e → text ≡ told
    → told ≡ tell line waited (record { event = e; outcome = outcome; core = new; holders = waits; from = from })
    → IfErr r (λ fault. (fault ≡ Write) × Wrote before after text)
    → IfErr r (λ fault. IsWriteFault fault × (Keeps before after ⊎ EventPartlyTold tell line e old waited before after))
event_stopped (Ok x) tell line e outcome old new waited waits from before after text told happens holders stood same is wrote = tt
event_stopped (Err fault) tell line e outcome old new waited waits from before after text told happens holders stood same is wrote = (
  subst (λ (f : ReplayFault). IsWriteFault f) (sym wrote.0) tt,
  inr (record {
    happening = record { event = e; outcome = outcome; core = new; holders = waits; from = from };
    is_event = refl;
    happened = (happens, holders, stood);
    wrote = subst (λ (x : List ℕ). Wrote before after x) (same ∙ is) wrote.1;
  }),
)

-- where an event stopped, the texts did
pub stopped_at : (tell : Telling) (events : List Event) (n line : ℕ) (e : Event) (old mid : CoreState)
    (waited waits : List (Option ℕ))
    (before now after : Option (List ℕ)) → n < length events → e ≡ get_or events n e → line ≡ n + 2
    → ToldSoFar tell events n old mid waited waits before now
    → Keeps now after ⊎ EventPartlyTold tell line e mid waits now after → EventsPartlyTold tell 2 events old waited before after
stopped_at tell events n line e old mid waited waits before now after lt is number s (inl kept) =
    stopped_before tell events n old mid waited waits before now after s kept
stopped_at tell events n line e old mid waited waits before now after lt is number s (inr r) =
    stopped_in tell events n line e old mid waited waits before now after lt is number s r

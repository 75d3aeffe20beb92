-- What is kept of a schedule is right.
use Rattle.std.proofs.Common.{◌≡◌, ◌∙◌, ℕ, ◌+◌, ◌<◌, refl, ap, sym, subst, inl, inr, arith, List, [], ◌∷◌, ◌++◌, length, take}
use Rattle.std.specs.Cmp.Lexicographic.{bytes_decides, nat_list_eq_equiv, pointwise}
use Rattle.std.proofs.lemmas.Map.Views.{list_any-from_Contains}
use Rattle.std.specs.Prelude.{◌↔◌, ◌⊎◌, ◌==◌, nat_eq, All, Bool, Contains, IfOk, None, Result, Ok, Err, true, false, slice_index_or}
use Rattle.std.proofs.lemmas.List.{take_more}
use Rattle.std.proofs.lemmas.List.Elements.{Contains-append_left, Contains-get_or, Contains-push, Contains-push_cases}
use Rattle.std.proofs.lemmas.Bool.Decides.{nat_tests}
use Rattle.hp_base.specs.declared.event.Event.{Event}
use Rattle.hp_laws.proofs.Deciding.{clash}
use Rattle.hp_core.specs.State.{CoreState}
use Rattle.hp_watch.specs.Moments.{Moment, last_of}
use Rattle.hp_layers.specs.Layers.{AreReached, AreReachedApart, IsCrowded, IsCutAtLimits, IsHeavy, IsLong, IsRight, IsShortest, NoneBefore, NoneMeets}
use Rattle.hp_layers.specs.declared.limits.Limits.{Limits}
use Rattle.hp_layers.specs.declared.verdict.Verdict.{Verdict}
use Rattle.hp_layers.specs.declared.verdict.Verdict.TheVariants.{Never, Met, Cut}
use Rattle.hp_explore.specs.Schedule.{Plan}
use Rattle.hp_hunt.specs.Conditions.{MeetsAll}
use Rattle.hp_hunt.specs.Watching.{AllKnow, known_of}
use Rattle.hp_hunt.specs.declared.condition.Condition.{Condition}
use Rattle.hp_hunt.specs.declared.condition.Sought.TheVariants.{Blocked}
use Rattle.hp_every.specs.declared.turn.Turn.{Turn}
use Rattle.hp_every.specs.Eager.{AreTried}
use Rattle.hp_every.specs.Schedules.{Ends, IsFinal, MayTurn, Place, plan_for}
use Rattle.hp_every.specs.Search.{AreBehind, GoesOn, HasTurns, IsPath, MayGoOn, MeetsHere, PathState, Question, search_key}
use Rattle.hp_every.specs.Turns.{AreAllTurns}
use Rattle.hp_every.proofs.Answers.{may_at, reached_path, turn_count}
use Rattle.hp_every.proofs.Good.{run_of}
use Rattle.hp_every.proofs.Runs.{event_count}
use Rattle.hp_every.proofs.Tried.{reached_as}
use Rattle.hp_every.proofs.Sames.{last_core}
use Rattle.hp_search.specs.declared.position.Position.{Position}
use Rattle.hp_search.specs.declared.reachability.Reachability.{Reachability}
use Rattle.hp_search.specs.Searching.{AreKeysOf, AreLong, ArePathsApart, HasEvents, IsAt, IsSearched, IsTooHeavy, IsTooMany, IsWithin}
use Rattle.hp_search.specs.Searching.{path_bytes, place_of}
use Rattle.hp_search.proofs.Made.{has_at}

-- ---- whether it meets all conditions

unlisted : (plan : Plan) (p : Place) (turns : List Turn) → AreAllTurns plan p turns → (length turns == 0) ≡ true → Ends plan p
unfolding AreAllTurns
unlisted plan p [] all e next may = (let c = (all next).1 may in absurd (omega (arith, c.1)))
unlisted plan p (x ∷ xs) all e next may = (let bad : (length (x ∷ xs) == 0) ≡ false = grind (arith, nat_tests) in clash (length (x ∷ xs) == 0) e bad)

none_listed : (plan : Plan) (p : Place) (turns : List Turn) → AreAllTurns plan p turns → Ends plan p → (length turns == 0) ≡ true
unfolding AreAllTurns
none_listed plan p [] all ends = refl
none_listed plan p (x ∷ xs) all ends = absurd (ends x ((all x).0 (0, omega arith, refl)))

pub ends_met : (plan : Plan) (conditions : List Condition) (first : CoreState) (moments : List Moment) (p : Place) (turns : List Turn) (empty : Bool)
    → MeetsAll conditions first moments → (k : ℕ) → k < length conditions → ((d : Condition) → IsFinal (slice_index_or conditions k d))
    → AreAllTurns plan p turns → empty ≡ (length turns == 0) → (empty ≡ true ↔ MeetsHere plan conditions first moments p)
ends_met plan conditions first moments p turns empty meets k within final all is = (
  λ e. record { looked_at = λ j d l final. unlisted plan p turns all (sym is ∙ e); meets = meets },
  λ h. is ∙ none_listed plan p turns all
      (let d : Condition = record { sought = Blocked None; wanted = true; choice = 0 } in h.looked_at k d within (final d)),
)

-- ---- paths

pub path_is : (a : Question) (turns : List Turn) (events : List Event) (p : Position) (key : List ℕ) (met : Bool) → IsAt a turns events p
    → key ≡ search_key (known_of p.watches) (place_of p)
    → ((first : CoreState) (moments : List Moment) → p.walk.core ≡ last_of first moments → AllKnow a.conditions (known_of p.watches) moments
    → (met ≡ true ↔ MeetsHere (plan_for a.script) a.conditions first moments (place_of p)))
    → IsPath a (record { turns = turns; key = key; met = met })
path_is a turns events p key met at is meets = record {
  first = at.first;
  moments = at.moments;
  last = place_of p;
  known = known_of p.watches;
  run = at.run;
  made = at.made;
  know = at.know;
  key = is;
  met = meets at.first at.moments (sym (last_core a at.first at.moments (place_of p) at.run)) at.know;
}

pub behind_may : (a : Question) (turns : List Turn) (events : List Event) (p : Position) (next : Turn) → MayGoOn a turns next → IsAt a turns events p
    → MayTurn (plan_for a.script) (place_of p) next
behind_may a turns events p next may at = may_at a turns may.has (has_at a turns events p at) next may.may

pub behind_one : (a : Question) (s next : PathState) (turns : List Turn) (k : ℕ) (d : Turn) (old : List PathState) → k < length turns
    → AreBehind a s (take k turns) old → IsPath a next → next.turns ≡ s.turns ++ slice_index_or turns k d ∷ []
    → AreBehind a s (take (k + 1) turns) (old ++ next ∷ [])
behind_one a s next turns k d old within behind path is =
    subst (λ (xs : List Turn). AreBehind a s xs (old ++ next ∷ [])) (sym (take_more turns k d within)) (record {
      some = λ t c. elim (Contains-push_cases old next t c) [
        | inl before ↦ (let old = behind.some t before in
            (old.0, Contains-append_left (take k turns) (slice_index_or turns k d ∷ []) old.0.next old.1))
        | inr same ↦ subst (λ (u : PathState). (goes : GoesOn a s u) × Contains (take k turns ++ slice_index_or turns k d ∷ []) goes.next) same (
          record { next = slice_index_or turns k d; turns = is; path = path },
          Contains-push (take k turns) (slice_index_or turns k d),
        )
      ];
      all = λ x c. elim (Contains-push_cases (take k turns) (slice_index_or turns k d) x c) [
        | inl before ↦ (let h = behind.all x before in (h.0, Contains-append_left old (next ∷ []) h.0 h.1, h.2))
        | inr same ↦ (next, Contains-push old next, is ∙ ap (λ (y : Turn). s.turns ++ y ∷ []) same)
      ];
    })

-- behind the turns each that may be made may be made
pub goes_on : (a : Question) (turns : List Turn) (here : HasTurns a turns) (next : List Turn) → AreAllTurns (plan_for a.script) here.last next
    → All (MayGoOn a turns) next
unfolding AreAllTurns
goes_on a turns here next all k d within =
    record { has = here; may = (all (slice_index_or next k d)).0 (Contains-get_or next k d within) }

-- and so each that is tried
pub tries_on : (a : Question) (eager : Bool) (turns : List Turn) (here : HasTurns a turns) (next : List Turn)
    → AreTried (plan_for a.script) here.last eager next → All (MayGoOn a turns) next
unfolding AreTried
tries_on a eager turns here next all k d within =
    record { has = here; may = ((all (slice_index_or next k d)).0 (Contains-get_or next k d within)).0 }

-- ---- what a search says

pub right_never : {S : Type 0} (turn : S → S → Type 0) (meets : S → Type 0) (first : S) (v : Verdict S) → v ≡ Never → IsRight turn meets first v
    → (n : ℕ) → NoneMeets turn meets first n
unfolding IsRight
right_never turn meets first v is h = subst (IsRight turn meets first) is h

pub right_met : {S : Type 0} (turn : S → S → Type 0) (meets : S → Type 0) (first s : S) (n : ℕ) (v : Verdict S) → v ≡ Met s n
    → IsRight turn meets first v → IsShortest turn meets first s n
unfolding IsRight
right_met turn meets first s n v is h = subst (IsRight turn meets first) is h

pub right_cut : {S : Type 0} (turn : S → S → Type 0) (meets : S → Type 0) (first : S) (n : ℕ) (v : Verdict S) → v ≡ Cut n
    → IsRight turn meets first v → NoneBefore turn meets first n
unfolding IsRight
right_cut turn meets first n v is h = subst (IsRight turn meets first) is h

pub right_within : {S K : Type 0} (eq : K → K → Bool) (key_of : S → K) (turn : S → S → Type 0) (bytes_of : S → ℕ) (limits : Limits)
    (first s : S) (n : ℕ) (v : Verdict S) → v ≡ Met s n → IsCutAtLimits eq key_of turn bytes_of first limits v → n < limits.turns
unfolding IsCutAtLimits
right_within eq key_of turn bytes_of limits first s n v is h = subst (IsCutAtLimits eq key_of turn bytes_of first limits) is h

pub right_cut_at : {S K : Type 0} (eq : K → K → Bool) (key_of : S → K) (turn : S → S → Type 0) (bytes_of : S → ℕ) (limits : Limits)
    (first : S) (n : ℕ) (v : Verdict S) → v ≡ Cut n → IsCutAtLimits eq key_of turn bytes_of first limits v
    → ((n ≡ limits.turns) × IsLong turn first n) ⊎ IsCrowded eq key_of turn first limits.states n
    ⊎ IsHeavy eq key_of turn bytes_of first limits.bytes n
unfolding IsCutAtLimits
right_cut_at eq key_of turn bytes_of limits first n v is h = subst (IsCutAtLimits eq key_of turn bytes_of first limits) is h

-- as many events as turns
pub within : (a : Question) (turns : List Turn) (events : List Event) (n most : ℕ) → HasEvents a turns events → length turns ≡ n → n < most
    → length events < most
within a turns events n most h long few =
    let told = ap (λ (es : List Event). length es) (sym h.told) ∙ event_count h.has.moments in
    let made = ap (λ (xs : List Turn). length xs) (sym h.has.made) ∙ turn_count h.has.moments in
    omega (arith, told, made, long, few)

-- keys of what is reached are keys of places to which schedules lead
keys_of : (a : Question) (first : PathState) → IsPath a first → first.turns ≡ [] → (n : ℕ) (keys : List (List ℕ))
    → AreReached (pointwise nat_eq) (λ (s : PathState). s.key) (GoesOn a) first n keys → AreKeysOf a n keys
keys_of a first path none n keys h = record {
  distinct = h.distinct;
  each = λ key there. (
      let s = h.each key (list_any-from_Contains nat_list_eq_equiv key keys there) in
      let at = reached_path a first path none n s.0 s.1 in
      let p = at.0 in
      record {
        first = p.first;
        moments = p.moments;
        last = p.last;
        known = p.known;
        run = p.run;
        long = sym (turn_count p.moments) ∙ (ap (λ (xs : List Turn). length xs) p.made ∙ at.1);
        know = p.know;
        is = sym ((bytes_decides s.0.key key).0 s.2) ∙ p.key;
      });
}

-- what is reached are schedules
paths_apart : (a : Question) (first : PathState) → IsPath a first → first.turns ≡ [] → (n : ℕ) (paths : List PathState)
    → AreReachedApart (pointwise nat_eq) (λ (s : PathState). s.key) (GoesOn a) first n paths → ArePathsApart a n paths
paths_apart a first path none n paths h = record {
  keys = h.keys;
  apart = h.apart;
  each = λ s c. reached_path a first path none n s (h.each s c);
}

-- a schedule has each number of turns in which something is reached
long_paths : (a : Question) (first : PathState) → IsPath a first → first.turns ≡ [] → (n : ℕ) → IsLong (GoesOn a) first n → AreLong a n
unfolding IsLong
long_paths a first path none n long m few =
    let s = long m few in
    let at = reached_path a first path none m s.0 s.1 in
    (s.0.turns, run_of a s.0 at.0, at.1)

-- a search that is cut is cut at its limits
pub at_limit : (a : Question) (limits : Limits) (first : PathState) → IsPath a first → first.turns ≡ [] → (n : ℕ)
    → (((n ≡ limits.turns) × IsLong (GoesOn a) first n)
    ⊎ IsCrowded (pointwise nat_eq) (λ (s : PathState). s.key) (GoesOn a) first limits.states n
    ⊎ IsHeavy (pointwise nat_eq) (λ (s : PathState). s.key) (GoesOn a) path_bytes first limits.bytes n)
    → ((n ≡ limits.turns) × AreLong a n) ⊎ IsTooMany a limits.states n ⊎ IsTooHeavy a limits.bytes n
at_limit a limits first path none n cut = elim cut [
  | inl turns ↦ inl (turns.0, long_paths a first path none n turns.1)
  | inr wide ↦ inr (elim wide [
    | inl crowd ↦ inl (record {
      before = crowd.before;
      next = crowd.next;
      some = crowd.some;
      others = crowd.others;
      here = keys_of a first path none crowd.before crowd.some crowd.here;
      behind = keys_of a first path none n crowd.others crowd.behind;
      many = crowd.many;
    })
    | inr heavy ↦ inr (record {
      before = heavy.before;
      next = heavy.next;
      some = heavy.some;
      others = heavy.others;
      here = paths_apart a first path none heavy.before heavy.some heavy.here;
      behind = paths_apart a first path none n heavy.others heavy.behind;
      many = heavy.many;
    })
  ])
]

-- what is reached, of that many keys, by some turns is by more
keys_as : {S K : Type 0} (eq : K → K → Bool) (key_of : S → K) (turn other : S → S → Type 0) → ((s t : S) → turn s t → other s t)
    → (first : S) (n : ℕ) (keys : List K) → AreReached eq key_of turn first n keys → AreReached eq key_of other first n keys
keys_as eq key_of turn other on first n keys h = record {
  distinct = h.distinct;
  each = λ key there. (let s = h.each key there in (s.0, reached_as turn other on first n s.0 s.1, s.2));
}

apart_as : {S K : Type 0} (eq : K → K → Bool) (key_of : S → K) (turn other : S → S → Type 0) → ((s t : S) → turn s t → other s t)
    → (first : S) (n : ℕ) (states : List S) → AreReachedApart eq key_of turn first n states → AreReachedApart eq key_of other first n states
apart_as eq key_of turn other on first n states h = record {
  keys = h.keys;
  apart = h.apart;
  each = λ s there. reached_as turn other on first n s (h.each s there);
}

-- so what is cut by some turns would be by more
pub cut_as : {S K : Type 0} (eq : K → K → Bool) (key_of : S → K) (turn other : S → S → Type 0) (bytes_of : S → ℕ) (limits : Limits)
    (first : S) (n : ℕ) → ((s t : S) → turn s t → other s t)
    → (((n ≡ limits.turns) × IsLong turn first n) ⊎ IsCrowded eq key_of turn first limits.states n
    ⊎ IsHeavy eq key_of turn bytes_of first limits.bytes n)
    → ((n ≡ limits.turns) × IsLong other first n) ⊎ IsCrowded eq key_of other first limits.states n
    ⊎ IsHeavy eq key_of other bytes_of first limits.bytes n
unfolding IsLong
cut_as eq key_of turn other bytes_of limits first n on cut = elim cut [
  | inl turns ↦ inl (turns.0, λ m few. (let s = turns.1 m few in (s.0, reached_as turn other on first m s.0 s.1)))
  | inr wide ↦ inr (elim wide [
    | inl crowd ↦ inl (record {
      before = crowd.before;
      next = crowd.next;
      some = crowd.some;
      others = crowd.others;
      here = keys_as eq key_of turn other on first crowd.before crowd.some crowd.here;
      behind = keys_as eq key_of turn other on first n crowd.others crowd.behind;
      many = crowd.many;
    })
    | inr heavy ↦ inr (record {
      before = heavy.before;
      next = heavy.next;
      some = heavy.some;
      others = heavy.others;
      here = apart_as eq key_of turn other on first heavy.before heavy.some heavy.here;
      behind = apart_as eq key_of turn other on first n heavy.others heavy.behind;
      many = heavy.many;
    })
  ])
]

-- an answer that keeps whatever limits its search was cut at keeps those that it had
pub at_limits : {E : Type 0} (a : Question) (eager : Bool) (limits : Limits) (verdict : Verdict PathState) (r : Result Reachability E)
    → IfOk r (λ answer. (l : Limits) → IsSearched a eager l verdict → IsWithin a l answer) → IsSearched a eager limits verdict
    → IfOk r (IsWithin a limits)
at_limits a eager limits verdict (Ok answer) h searched = h limits searched
at_limits a eager limits verdict (Err e) h searched = tt

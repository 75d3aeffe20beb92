-- What a table of endings keeps of schedules is right.
use Rattle.std.proofs.Common.{◌≡◌, ◌∙◌, ℕ, ◌+◌, ◌<◌, ◌≤◌, sym, subst, arith, List, [], ◌∷◌, ◌++◌, length, take}
use Rattle.std.specs.Prelude.{IfOk, Result, Ok, Err, false, true, Option, None, Some, slice_index_or}
use Rattle.std.specs.List.{AllZip}
use Rattle.std.proofs.lemmas.List.{take_all, take_more}
use Rattle.std.proofs.lemmas.List.Elements.{Contains-get_or}
use Rattle.hp_base.specs.declared.event.Event.{Event}
use Rattle.hp_explore.specs.Schedule.{Plan}
use Rattle.hp_watch.specs.Moments.{Moment}
use Rattle.hp_layers.specs.Layers.{AreAllAfter}
use Rattle.hp_layers.specs.Named.{AreApart, AreEach}
use Rattle.hp_layers.proofs.Spreading.{all_after, zip_push}
use Rattle.hp_key.specs.Packed.{packed}
use Rattle.hp_every.specs.declared.turn.Turn.{Turn}
use Rattle.hp_every.specs.Endings.{AreEndsAlike, EndState, GoesBy, GoesOnBy, IsEndState, IsEnding, answers_in, answers_words, ended_key}
use Rattle.hp_every.specs.Schedules.{Ends, Place, plan_for}
use Rattle.hp_every.specs.Search.{HasTurns, IsPath, PathState, Question}
use Rattle.hp_every.specs.Turns.{AreAllTurns}
use Rattle.hp_every.proofs.Endings.{answers_by_turns, ending_by_turns, named_ends, turn_listed}
use Rattle.hp_every.proofs.Good.{run_of}
use Rattle.hp_search.specs.declared.position.Position.{Position}
use Rattle.hp_search.specs.Searching.{IsAt, ended_here, place_of}

-- where a list of all turns is empty, no turn may be made
pub over_here : (plan : Plan) (p : Place) (turns : List Turn) → AreAllTurns plan p turns → length turns ≡ 0 → Ends plan p
unfolding AreAllTurns
over_here plan p turns all none next may = absurd (let c = (all next).1 may in let lt = c.1 in omega (arith, lt, none))

pub not_over : (plan : Plan) (p : Place) (turns : List Turn) (d : Turn) → AreAllTurns plan p turns → 0 < length turns → Ends plan p → ⊥
unfolding AreAllTurns
not_over plan p turns d all some over =
    over (slice_index_or turns 0 d) ((all (slice_index_or turns 0 d)).0 (Contains-get_or turns 0 d some))

pub none_ends : (plan : Plan) (moments : List Moment) (p : Place) → (Ends plan p → ⊥) → IsEnding plan moments p None
unfolding IsEnding
none_ends plan moments p h = h

pub ends_with : (plan : Plan) (moments : List Moment) (p : Position) (key : List ℕ) → Ends plan (place_of p) → key ≡ ended_key (ended_here p)
    → p.answers.ended.items ≡ answers_in moments → IsEnding plan moments (place_of p) (Some key)
unfolding IsEnding
ends_with plan moments p key over is answers = (
  over,
  is ∙ (λ i. ended_key (record {
    answers = answers i;
    free = (ended_here p).free;
    resv = (ended_here p).resv;
    used = (ended_here p).used;
  })),
)

-- what is kept is right, by whatever moments the turns were made
pub state_is : (a : Question) (turns : List Turn) (events : List Event) (p : Position) (path : PathState) (key : List ℕ)
    (ending : Option (List ℕ)) → IsAt a turns events p → IsPath a path → path.turns ≡ turns
    → key ≡ packed (answers_words p.answers.ended.items) ++ path.key
    → ((moments : List Moment) → p.answers.ended.items ≡ answers_in moments → IsEnding (plan_for a.script) moments (place_of p) ending)
    → IsEndState a (record { path = path; key = key; ending = ending })
state_is a turns events p path key ending at is same told ends =
    let here : HasTurns a path.turns =
    record { first = at.first; moments = at.moments; last = place_of p; run = at.run; made = at.made ∙ sym same } in
    let own = run_of a path is in
    let answers = answers_by_turns a path.turns here own in
    record {
      path = is;
      key = told ∙ (λ i. packed (answers_words ((at.answers ∙ answers) i)) ++ path.key);
      ending = ending_by_turns a path.turns here own ending (ends at.moments at.answers);
    }

-- one for each turn
pub each_behind : (a : Question) (s : EndState) (turns : List Turn) (next : List EndState) (here : HasTurns a s.path.turns)
    → AreAllTurns (plan_for a.script) here.last turns → AreApart turns → AllZip (GoesBy a s) turns next
    → AreEach (λ u turn t. GoesBy a u turn t) s next
each_behind a s turns next here all apart behind = record {
  names = turns;
  apart = apart;
  each = behind;
  all = λ turn t goes. turn_listed a s.path.turns here turns all turn
      (let p = goes.state.path in record { first = p.first; moments = p.moments; last = p.last; run = p.run; made = p.made ∙ goes.turns });
}

-- one turn more of those that are made
pub zip_more : (a : Question) (s t : EndState) (turns : List Turn) (k : ℕ) (d : Turn) (next : List EndState) → k < length turns
    → AllZip (GoesBy a s) (take k turns) next → GoesBy a s (slice_index_or turns k d) t
    → AllZip (GoesBy a s) (take (k + 1) turns) (next ++ t ∷ [])
zip_more a s t turns k d next within zip goes =
    subst (λ (xs : List Turn). AllZip (GoesBy a s) xs (next ++ t ∷ [])) (sym (take_more turns k d within))
    (zip_push (GoesBy a s) (take k turns) next (slice_index_or turns k d) t zip goes)

pub zip_whole : (a : Question) (s : EndState) (turns : List Turn) (k : ℕ) (next : List EndState) → length turns ≤ k
    → AllZip (GoesBy a s) (take k turns) next → AllZip (GoesBy a s) turns next
zip_whole a s turns k next all zip = subst (λ (xs : List Turn). AllZip (GoesBy a s) xs next) (take_all k turns all) zip

-- and so all that come next
pub all_behind : {V E : Type 0} (a : Question) (items : V → List EndState) (s : EndState) → AreEndsAlike a s s → (r : Result V E)
    → IfOk r (λ next. AreEach (λ u turn t. GoesBy a u turn t) s (items next))
    → IfOk r (λ next. AreAllAfter (GoesOnBy a) (AreEndsAlike a) s (items next))
all_behind a items s itself (Err e) h = tt
all_behind a items s itself (Ok next) h =
    all_after (λ x y. false) (λ (t : EndState). t.key) (IsEndState a) (GoesOnBy a) (AreEndsAlike a) (λ u turn t. GoesBy a u turn t)
    (λ x y v w e. (let z : false ≡ true = e in absurd (cc))) (λ x y v goes. goes.1.state) (named_ends a) s (items next) itself h

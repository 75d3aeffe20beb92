-- What a search makes are schedules.
use Rattle.std.proofs.Common.{◌≡◌, ◌∙◌, ◌⊎◌, ℕ, ◌+◌, ◌<◌, ◌≤◌, refl, ap, sym, subst, inl, inr, arith, List, [], ◌∷◌, ◌++◌, length, take}
use Rattle.std.specs.Prelude.{◌↔◌, Bool, Contains, IfSome, IsTrue, None, Option, Some, slice_index_or}
use Rattle.std.proofs.lemmas.List.{take_all, take_more}
use Rattle.std.proofs.lemmas.Bool.{cases_lt}
use Rattle.std.proofs.lemmas.List.Elements.{Contains-append_left, Contains-push, Contains-push_cases}
use Rattle.hp_base.specs.declared.event.Event.{Event}
use Rattle.hp_machine.specs.declared.outcome.Outcome.{Outcome}
use Rattle.hp_core.specs.Runs.{IsOpening, Row}
use Rattle.hp_core.specs.State.{CoreState}
use Rattle.hp_watch.specs.Calls.{AreCalls, ended_by}
use Rattle.hp_watch.specs.Moments.{Moment}
use Rattle.hp_watch.specs.declared.calls.EndedCall.{EndedCall}
use Rattle.hp_watch.specs.declared.calls.TaskCalls.{TaskCalls}
use Rattle.hp_explore.specs.Schedule.{Plan, World}
use Rattle.hp_hunt.specs.Watching.{AllKnow, known_of}
use Rattle.hp_hunt.specs.declared.condition.Condition.{Condition}
use Rattle.hp_hunt.specs.declared.watching.Watches.{Watches}
use Rattle.hp_every.specs.declared.turn.Turn.{Turn}
use Rattle.hp_every.specs.declared.turn.Turn.TheVariants as turn
use Rattle.hp_every.specs.Endings.{all_among, among}
use Rattle.hp_every.specs.Schedules.{IsTask, Leads, MayTurn, Place, first_place, plan_for}
use Rattle.hp_every.specs.Search.{Question, HasTurns}
use Rattle.hp_every.specs.Turns.{AreAllTurns, IsChosen, task_of}
use Rattle.hp_every.proofs.Answers.{may_at, may_at_place}
use Rattle.hp_every.proofs.Sames.{joined}
use Rattle.hp_layers.specs.Named.{AreApart}
use Rattle.hp_layers.proofs.Naming.{apart_append, apart_one}
use Rattle.hp_search.specs.declared.answers.Answers.{Answers}
use Rattle.hp_search.specs.declared.position.Position.{Position}
use Rattle.hp_search.specs.Searching.{IsAt, IsMade, place_of}

abbrev pub has_at : (a : Question) (turns : List Turn) (events : List Event) (p : Position) → IsAt a turns events p → HasTurns a turns
has_at a turns events p h = record { first = h.first; moments = h.moments; last = place_of p; run = h.run; made = h.made }

-- one turn more is made
pub at_more : (a : Question) (turns : List Turn) (events : List Event) (p q : Position) (next : Turn) (event : Event) → IsAt a turns events p
    → IsMade (plan_for a.script) p next event q → IsAt a (turns ++ next ∷ []) (events ++ event ∷ []) q
at_more a turns events p q next event h made =
    let m : Moment = record { event = event; outcome = made.outcome; core = q.walk.core } in
    record {
      first = h.first;
      moments = m ∷ h.moments;
      run = joined a h.first m h.moments (place_of p) (place_of q) h.run refl made.made;
      made = λ i. h.made i ++ made.same i ∷ [];
      told = λ i. h.told i ++ event ∷ [];
      know = made.know a.conditions h.moments h.know;
      answers = made.answers h.moments h.know.calls ∙ ap (all_among (ended_by h.moments event made.outcome)) h.answers;
    }

-- a turn that was chosen and played is made
pub made_of : (plan : Plan) (old mid : Position) (turn : Turn) (event : Event) (outcome : Outcome) (walk : World) (watches : Watches)
    (answers : Answers) → IsChosen plan (place_of old) turn event (place_of mid) → mid.walk.core ≡ old.walk.core → mid.watches ≡ old.watches
    → mid.answers ≡ old.answers → Row mid.walk.core event outcome walk.core → walk ≡ record mid.walk { core = walk.core }
    → ((conditions : List Condition) (before : List Moment) → AllKnow conditions (known_of mid.watches) before
    → AllKnow conditions (known_of watches) (record { event = event; outcome = outcome; core = walk.core } ∷ before))
    → ((before : List Moment) → AreCalls mid.watches.calls.tasks.items before
    → answers.ended.items ≡ all_among (ended_by before event outcome) mid.answers.ended.items)
    → IsMade plan old turn event (record { walk = walk; watches = watches; answers = answers; denials = mid.denials; kills = mid.kills })
made_of plan old mid turn event outcome walk watches answers chosen core seen had row stays know ended = record {
  outcome = outcome;
  made = record {
    task = task_of turn;
    some = chosen.there.0;
    there = chosen.there.1;
    choice = elim chosen.choice [
      | inl c ↦ inl (record {
        idle = c.idle;
        can = c.can;
        op = c.op;
        next = c.next;
        is = c.is;
        made = made ∙ c.made;
        denials = c.denials;
        kills = c.kills;
      })
      | inr (inl c) ↦ inr (inl (record {
        busy = c.busy;
        can = c.can;
        is = c.is;
        made = made ∙ c.made;
        denials = c.denials;
        kills = c.kills;
      }))
      | inr (inr (inl c)) ↦ inr (inr (inl (record {
        busy = c.busy;
        can = c.can;
        wants = c.wants;
        is = c.is;
        made = made ∙ c.made;
        denials = c.denials;
        kills = c.kills;
      })))
      | inr (inr (inr c)) ↦ inr (inr (inr (record {
        alive = c.alive;
        more = c.more;
        is = c.is;
        made = made ∙ c.made;
        denials = c.denials;
        kills = c.kills;
      })))
    ];
    row = subst (λ (s : CoreState). Row s event outcome walk.core) core row;
  };
  same = chosen.same;
  know = λ conditions before knows. know conditions before
      (subst (λ (ws : Watches). AllKnow conditions (known_of ws) before) (sym seen) knows);
  answers = λ before calls. ended before (subst (λ (ws : Watches). AreCalls ws.calls.tasks.items before) (sym seen) calls)
      ∙ ap (λ (x : Answers). all_among (ended_by before event outcome) x.ended.items) had;
}
  where
    made : walk.made ≡ mid.walk.made
    made = ap (λ (w : World). w.made) stays

-- the call that ended behind those moments, if one did
pub told_some : (ended : Option EndedCall) (tasks : List TaskCalls) (before : List Moment) (event : Event) (outcome : Outcome)
    → AreCalls tasks before
    → IfSome ended (λ call. (moments : List Moment) → AreCalls tasks moments → ended_by moments event outcome ≡ call ∷ [])
    → IfSome ended (λ call. ended_by before event outcome ≡ call ∷ [])
told_some None tasks before event outcome calls h = h
told_some (Some call) tasks before event outcome calls h = h before calls

-- the answers with the call that ended, if one did
pub answers_seen : (ended : Option EndedCall) (before : List Moment) (event : Event) (outcome : Outcome) (old new : List EndedCall)
    → IfSome ended (λ call. ended_by before event outcome ≡ call ∷ []) → (ended ≡ None → ended_by before event outcome ≡ [])
    → IfSome ended (λ call. new ≡ among call old) → (ended ≡ None → new ≡ old) → new ≡ all_among (ended_by before event outcome) old
answers_seen None before event outcome old new some none put kept =
    kept refl ∙ ap (λ (es : List EndedCall). all_among es old) (sym (none refl))
answers_seen (Some call) before event outcome old new some none put kept =
    put ∙ ap (λ (es : List EndedCall). all_among es old) (sym some)

-- ---- which turns are listed

-- a list has what the one before has, and the turn if the flag says so
abbrev pub Lists : (old new : List Turn) → (may : Bool) → Turn → Type 0
Lists old new may turn = (t : Turn) → (Contains new t ↔ (Contains old t ⊎ (IsTrue may × (t ≡ turn))))

-- a turn more, if it isn't there
apart_more : (old new : List Turn) (t : Turn) → (new ≡ old) ⊎ (new ≡ old ++ t ∷ []) → AreApart old → (Contains old t → ⊥) → AreApart new
apart_more old new t added apart none = elim added [
  | inl same ↦ subst AreApart (sym same) apart
  | inr more ↦ subst AreApart (sym more) (apart_append old (t ∷ []) apart (apart_one t)
      (λ x c d. elim (Contains-push_cases [] t x d) [ inl e ↦ absurd (omega (arith, e.1)) | inr e ↦ none (subst (Contains old) (sym e) c) ]))
]

-- which kind of turn it is
kind : Turn → ℕ
kind (turn.Next t) = 0
kind (turn.Denied t) = 1
kind (turn.Killed t) = 2

-- the turns of one task are three
pub apart_task : (k : ℕ) (a b c d : List Turn) (next deny kill : Bool)
    → (b ≡ a) ⊎ (b ≡ a ++ turn.Next k ∷ []) → (c ≡ b) ⊎ (c ≡ b ++ turn.Denied k ∷ []) → (d ≡ c) ⊎ (d ≡ c ++ turn.Killed k ∷ [])
    → Lists a b next (turn.Next k) → Lists b c deny (turn.Denied k) → AreApart a → ((t : Turn) → Contains a t → task_of t < k) → AreApart d
unfolding kind
apart_task k a b c d next deny kill one two three first second apart low =
    apart_more c d (turn.Killed k) three (apart_more b c (turn.Denied k) two (apart_more a b (turn.Next k) one apart new) denied) killed
  where
    new : Contains a (turn.Next k) → ⊥
    new x = absurd (let z = low (turn.Next k) x in omega (arith, z))

    denied : Contains b (turn.Denied k) → ⊥
    denied x = elim ((first (turn.Denied k)).0 x) [
      | inl y ↦ absurd (let z = low (turn.Denied k) y in omega (arith, z))
      | inr y ↦ absurd (let z = ap kind y.1 in omega (arith, z))
    ]

    killed : Contains c (turn.Killed k) → ⊥
    killed x = elim ((second (turn.Killed k)).0 x) [
      | inl y ↦ elim ((first (turn.Killed k)).0 y) [
        | inl w ↦ absurd (let z = low (turn.Killed k) w in omega (arith, z))
        | inr w ↦ absurd (let z = ap kind w.1 in omega (arith, z))
      ]
      | inr y ↦ absurd (let z = ap kind y.1 in omega (arith, z))
    ]

-- one turn more is listed, if it may be made
pub listed_one : (old : List Turn) (turn t : Turn) → (Contains (old ++ turn ∷ []) t ↔ (Contains old t ⊎ (t ≡ turn)))
listed_one old turn t = (
  λ c. elim (Contains-push_cases old turn t c) [
    | inl before ↦ inl before
    | inr same ↦ inr (sym same)
  ],
  λ h. elim h [
    | inl before ↦ Contains-append_left old (turn ∷ []) t before
    | inr same ↦ subst (λ (x : Turn). Contains (old ++ turn ∷ []) x) (sym same) (Contains-push old turn)
  ],
)

-- the turns of one task
pub listed_task : (plan : Plan) (p : Place) (k : ℕ) (a b c d : List Turn) (next deny kill : Bool) → Lists a b next (turn.Next k)
    → Lists b c deny (turn.Denied k) → Lists c d kill (turn.Killed k) → (IsTrue next ↔ MayTurn plan p (turn.Next k))
    → (IsTrue deny ↔ MayTurn plan p (turn.Denied k)) → (IsTrue kill ↔ MayTurn plan p (turn.Killed k)) → (t : Turn)
    → (Contains d t ↔ (Contains a t ⊎ ((task_of t ≡ k) × MayTurn plan p t)))
listed_task plan p k a b c d next deny kill one two three may_next may_deny may_kill t = (on, back)
  where
    Of : Turn → Type 0
    Of x = (task_of x ≡ k) × MayTurn plan p x

    on : Contains d t → Contains a t ⊎ Of t
    on h = elim ((three t).0 h) [
      | inr now ↦ inr (subst Of (sym now.1) (refl, may_kill.0 now.0))
      | inl before ↦ elim ((two t).0 before) [
        | inr now ↦ inr (subst Of (sym now.1) (refl, may_deny.0 now.0))
        | inl first ↦ elim ((one t).0 first) [
          | inr now ↦ inr (subst Of (sym now.1) (refl, may_next.0 now.0))
          | inl was ↦ inl was
        ]
      ]
    ]

    by : (x : Turn) → Of x → Contains d x
    by (turn.Next j) (same, may) =
        (three (turn.Next j)).1 (inl ((two (turn.Next j)).1 (inl ((one (turn.Next j)).1
        (inr (may_next.1 (subst (λ (i : ℕ). MayTurn plan p (turn.Next i)) same may), ap (λ (i : ℕ). turn.Next i) same))))))
    by (turn.Denied j) (same, may) =
        (three (turn.Denied j)).1 (inl ((two (turn.Denied j)).1
        (inr (may_deny.1 (subst (λ (i : ℕ). MayTurn plan p (turn.Denied i)) same may), ap (λ (i : ℕ). turn.Denied i) same))))
    by (turn.Killed j) (same, may) =
        (three (turn.Killed j)).1
        (inr (may_kill.1 (subst (λ (i : ℕ). MayTurn plan p (turn.Killed i)) same may), ap (λ (i : ℕ). turn.Killed i) same))

    back : Contains a t ⊎ Of t → Contains d t
    back h = elim h [
      | inl was ↦ (three t).1 (inl ((two t).1 (inl ((one t).1 (inl was)))))
      | inr now ↦ by t now
    ]

-- those of the first tasks are listed
abbrev pub ListsUpTo : Plan → Place → List Turn → ℕ → Type 0
ListsUpTo plan p turns n = (t : Turn) → (Contains turns t ↔ ((task_of t ≤ n) × MayTurn plan p t))

-- whatever may be done a task of the script does
its_task : (plan : Plan) (p : Place) (t : Turn) → MayTurn plan p t → IsTask p (task_of t)
its_task plan p (turn.Next t) may = may.0
its_task plan p (turn.Denied t) may = may.0
its_task plan p (turn.Killed t) may = may.0

pub listed_none : (plan : Plan) (p : Place) → ListsUpTo plan p [] 0
listed_none plan p t = (
  λ c. absurd (omega (arith, c.1)),
  λ h. (let some = (its_task plan p t h.1).0 in absurd (omega (arith, some, h.0))),
)

pub listed_more : (plan : Plan) (p : Place) (n k : ℕ) (old new : List Turn) → k ≡ n + 1 → ListsUpTo plan p old n
    → ((t : Turn) → (Contains new t ↔ (Contains old t ⊎ ((task_of t ≡ k) × MayTurn plan p t)))) → ListsUpTo plan p new (n + 1)
listed_more plan p n k old new next up one t = (
  λ c. elim ((one t).0 c) [
    | inl was ↦ (let h = (up t).0 was in (omega (arith, h.0), h.1))
    | inr now ↦ (let is = now.0 in (omega (arith, is, next), now.1))
  ],
  λ h. (one t).1 (elim (cases_lt n (task_of t)) [
    | inl above ↦ inr (let low = h.0 in omega (arith, above, low, next), h.1)
    | inr below ↦ inl ((up t).1 (below, h.1))
  ]),
)

pub listed_all : (plan : Plan) (p : Place) (turns : List Turn) (n : ℕ) → length p.made ≤ n → ListsUpTo plan p turns n → AreAllTurns plan p turns
unfolding AreAllTurns
listed_all plan p turns n all up t = (
  λ c. ((up t).0 c).1,
  λ may. (let last = (its_task plan p t may).1 in (up t).1 (omega (arith, last, all), may)),
)

-- ---- turns made again

-- none is made
pub at_first : (a : Question) (p : Position) → IsOpening a.script.config p.walk.core
    → place_of p ≡ first_place a.script a.denials a.kills p.walk.core → AllKnow a.conditions (known_of p.watches) []
    → p.answers.ended.items ≡ [] → IsAt a [] [] p
unfolding Leads
at_first a p opens place know answers = record {
  first = p.walk.core;
  moments = [];
  run = record { opening = opens; leads = place };
  made = refl;
  told = refl;
  know = know;
  answers = answers;
}

-- the next of them may be made
pub next_may : (a : Question) (turns : List Turn) (k : ℕ) (events : List Event) (p : Position) (d : Turn) → HasTurns a turns → k < length turns
    → IsAt a (take k turns) events p → MayTurn (plan_for a.script) (place_of p) (slice_index_or turns k d)
next_may a turns k events p d has within at =
    let next = may_at_place a turns has k d within in
    may_at a (take k turns) next.has (has_at a (take k turns) events p at) (slice_index_or turns k d) next.may

pub next_made : (a : Question) (turns : List Turn) (k : ℕ) (events : List Event) (p q : Position) (d : Turn) (event : Event) → k < length turns
    → IsAt a (take k turns) events p → IsMade (plan_for a.script) p (slice_index_or turns k d) event q
    → IsAt a (take (k + 1) turns) (events ++ event ∷ []) q
next_made a turns k events p q d event within at made =
    subst (λ (xs : List Turn). IsAt a xs (events ++ event ∷ []) q) (sym (take_more turns k d within))
    (at_more a (take k turns) events p q (slice_index_or turns k d) event at made)

pub all_made : (a : Question) (turns : List Turn) (k : ℕ) (events : List Event) (p : Position) → length turns ≤ k → IsAt a (take k turns) events p
    → IsAt a turns events p
all_made a turns k events p all at = subst (λ (xs : List Turn). IsAt a xs events p) (take_all k turns all) at

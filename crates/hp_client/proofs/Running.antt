-- Rounds, step by step.
use Rattle.std.proofs.Common.{◌≡◌, ℕ, ◌+◌, ◌<◌, ◌≤◌, Bool, List, [], ◌∷◌, ◌++◌, length, take, drop, get_or, set, inl, inr}
use Rattle.std.proofs.Common.{refl, sym, ap, subst, ◌∙◌, arith, add-zero, add-one, Some, true}
use Rattle.std.proofs.lemmas.Grind.{common_steps}
use Rattle.std.proofs.lemmas.List.{get_or-drop, drop-drop, drop-set-lt, take-append-drop, take_more, take_more_set, take_all, length-take-le}
use Rattle.hp_base.specs.Numbers.{bit}
use Rattle.hp_base.specs.declared.answer.Answer.{Answer}
use Rattle.hp_base.specs.declared.event.Op.{Op}
use Rattle.hp_base.specs.declared.event.Event.TheVariants.{Begin, Step}
use Rattle.hp_machine.specs.declared.outcome.Outcome.TheVariants as outcome
use Rattle.hp_machine.specs.declared.outcome.Refusal.{Refusal}
use Rattle.hp_core.specs.Runs.{Row, WantsGrowth}
use Rattle.hp_core.specs.State.{CoreState}
use Rattle.hp_client.specs.Rounds.{Begins, BeginsRefused, Advance, Turn, TurnStops, AreBlocked, Turns, AreEnded}
use Rattle.hp_client.specs.declared.rounds.Asked.{Asked}

-- one more call begins
pub begins_more : (s mid new : CoreState) (calls : List (ℕ × Op)) (call : ℕ × Op) → Begins s calls mid
    → Row mid (Begin call.0 call.1) outcome.Begun new → Begins s (calls ++ call ∷ []) new
begins_more s mid new [] call begins row = (
  new,
  subst (λ (x : CoreState). Row x (Begin call.0 call.1) outcome.Begun new)
      begins row,
  refl,
)
begins_more s mid new (first ∷ calls) call begins row = (begins.0, begins.1, begins_more begins.0 mid new calls call begins.2 row)

-- one more call makes its step
pub turn_more : (s mid new : CoreState) (asked next : List Asked) (call after : Asked) → Turn s asked mid next
    → Advance mid call new after → Turn s (asked ++ call ∷ []) new (next ++ after ∷ [])
turn_more s mid new [] next call after turn step = (
  new,
  after,
  [],
  subst (λ (x : CoreState). Advance x call new after) turn.0 step,
  (refl, refl),
  ap (λ (xs : List
      Asked). xs ++ after ∷ []) turn.1,
)
turn_more s mid new (first ∷ asked) next call after turn step = (
  turn.0,
  turn.1,
  turn.2 ++ after ∷ [],
  turn.3,
  turn_more turn.0 mid new asked turn.2 call after turn.4 step,
  ap (λ (xs
      : List Asked). xs ++ after ∷ []) turn.5,
)

same_below : (i : ℕ) (before asked : List Asked) (d : Asked) → drop i asked ≡ drop i before → get_or before i d ≡ get_or asked i d
same_below i before asked d same =
    ap (λ (n : ℕ). get_or before n d) (sym (add-zero i)) ∙ sym (get_or-drop i before 0 d)
    ∙ ap (λ (xs : List Asked). get_or xs 0 d) (sym same) ∙ get_or-drop i asked 0 d
    ∙ ap (λ (n : ℕ). get_or asked n d) (add-zero i)

asked_at : (i : ℕ) (before asked : List Asked) (d : Asked) → i < length before → drop i asked ≡ drop i before
    → take (i + 1) before ≡ take i before ++ get_or asked i d ∷ []
asked_at i before asked d within same =
    take_more before i d within ∙ ap (λ (x : Asked). take i before ++ x ∷ []) (same_below i before asked d same)

-- the call at the loop's index makes its step
pub turn_next : (s mid new : CoreState) (i : ℕ) (before asked : List Asked) (d after : Asked)
    → length asked ≡ length before → i < length before → drop i asked ≡ drop i before
    → Turn s (take i before) mid (take i asked) → Advance mid (get_or asked i d) new after
    → Turn s (take (i + 1) before) new (take (i + 1) (set asked i after))
turn_next s mid new i before asked d after long within same turn step =
    subst (λ (xs : List Asked). Turn s (take (i + 1) before) new xs) (sym (take_more_set asked i after (omega (
      arith,
      long,
      within,
    ))))
    (subst (λ (xs : List Asked). Turn s xs new (take i asked ++ after ∷ [])) (sym (asked_at i before asked d within same))
    (turn_more s mid new (take i before) (take i asked) (get_or asked i d) after turn step))

-- and the calls after it stay
pub others_next : (i : ℕ) (before asked : List Asked) (after : Asked) → drop i asked ≡ drop i before
    → drop (i + 1) (set asked i after) ≡ drop (i + 1) before
others_next i before asked after same =
    drop-set-lt (i + 1) asked i after (omega arith) ∙ sym (drop-drop 1 i asked)
    ∙ ap (λ (xs : List Asked). drop 1 xs) same ∙ drop-drop 1 i before

-- all of them made theirs
pub turn_all : (s new : CoreState) (i : ℕ) (before asked : List Asked) → length asked ≡ length before → length asked ≤ i
    → Turn s (take i before) new (take i asked) → Turn s before new asked
turn_all s new i before asked long past turn =
    subst (λ (xs : List Asked). Turn s before new xs) (take_all i asked past)
    (subst (λ (xs : List Asked). Turn s xs new (take i asked)) (take_all i before (omega (arith, long, past))) turn)

drop_more : {A : Type 0} (xs : List A) (i : ℕ) (d : A) → i < length xs → drop i xs ≡ get_or xs i d ∷ drop (i + 1) xs
drop_more xs i d within = grind (arith, common_steps)

call_at : (i : ℕ) (calls : List (ℕ × Op)) (call : ℕ × Op) → i < length calls → call ≡ get_or calls i call
    → take (i + 1) calls ≡ take i calls ++ call ∷ []
call_at i calls call within is = take_more calls i call within ∙ ap (λ (x : ℕ × Op). take i calls ++ x ∷ []) (sym is)

pub begins_next : (s mid new : CoreState) (i : ℕ) (calls : List (ℕ × Op)) (call : ℕ × Op) → i < length calls
    → call ≡ get_or calls i call → Begins s (take i calls) mid → Row mid (Begin call.0 call.1) outcome.Begun new
    → Begins s (take (i + 1) calls) new
begins_next s mid new i calls call within is begins row =
    subst (λ (xs : List (ℕ × Op)). Begins s xs new) (sym (call_at i calls call within is)) (begins_more s mid new (take i
    calls) call begins row)

pub begins_all : (s new : CoreState) (i : ℕ) (calls : List (ℕ × Op)) → length calls ≤ i → Begins s (take i calls) new
    → Begins s calls new
begins_all s new i calls past begins = subst (λ (xs : List (ℕ × Op)). Begins s xs new) (take_all i calls past) begins

refused_more : (why : Refusal) (s mid new : CoreState) (calls back : List (ℕ × Op)) (call : ℕ × Op) → Begins s calls mid
    → Row mid (Begin call.0 call.1) (outcome.Refused why) new → BeginsRefused why s (calls ++ call ∷ back) new
refused_more why s mid new [] back call begins row = inl (subst (λ (x : CoreState). Row x (Begin call.0 call.1)
    (outcome.Refused why) new) begins row)
refused_more why s mid new (first ∷ calls) back call begins row = inr (
  begins.0,
  begins.1,
  refused_more why begins.0 mid
      new calls back call begins.2 row,
)

parted : {A : Type 0} (i : ℕ) (xs : List A) (x : A) → i < length xs → x ≡ get_or xs i x → take i xs ++ x ∷ drop (i + 1) xs ≡ xs
parted {A = A} i xs x within is =
    ap (λ (y : A). take i xs ++ y ∷ drop (i + 1) xs) is
    ∙ ap (λ (ys : List A). take i xs ++ ys) (sym (drop_more xs i x within)) ∙ take-append-drop i xs

pub refused_at : (why : Refusal) (s mid new : CoreState) (i : ℕ) (calls : List (ℕ × Op)) (call : ℕ × Op)
    → i < length calls → call ≡ get_or calls i call → Begins s (take i calls) mid
    → Row mid (Begin call.0 call.1) (outcome.Refused why) new → BeginsRefused why s calls new
refused_at why s mid new i calls call within is begins row =
    subst (λ (xs : List (ℕ × Op)). BeginsRefused why s xs new) (parted i calls call within is) (refused_more why s mid new
    (take i calls) (drop (i + 1) calls) call begins row)

blocked_more : (s mid new : CoreState) (asked : List Asked) (call : Asked) → AreBlocked s asked mid
    → AreBlocked mid (call ∷ []) new → AreBlocked s (asked ++ call ∷ []) new
blocked_more s mid new [] call blocked step = subst (λ (x : CoreState). AreBlocked x (call ∷ []) new) blocked step
blocked_more s mid new (first ∷ asked) call blocked step = (
  blocked.0,
  blocked.1,
  blocked_more blocked.0 mid new asked call
      blocked.2 step,
)

-- it was blocked like those before it
pub blocked_next : (s mid new : CoreState) (i : ℕ) (before asked : List Asked) (d : Asked) → i < length before
    → drop i asked ≡ drop i before
    → AreBlocked s (take i before) mid → AreBlocked mid (get_or asked i d ∷ []) new → AreBlocked s (take (i + 1) before) new
blocked_next s mid new i before asked d within same blocked step =
    subst (λ (xs : List Asked). AreBlocked s xs new) (sym (asked_at i before asked d within same)) (blocked_more s mid new
    (take i before) (get_or asked i d) blocked step)

pub blocked_all : (s new : CoreState) (i : ℕ) (before : List Asked) → length before ≤ i
    → AreBlocked s (take i before) new → AreBlocked s before new
blocked_all s new i before past blocked = subst (λ (xs : List Asked). AreBlocked s xs new) (take_all i before past) blocked

-- it stopped the turn, and changed nothing
pub turn_stops : (s new : CoreState) (i : ℕ) (before asked : List Asked) (d : Asked) → i < length before
    → drop i asked ≡ drop i before → Turn s (take i before) new (take i asked)
    → WantsGrowth new.parts new.task_states (Step (get_or asked i d).task true) → TurnStops s before new
turn_stops s new i before asked d within same turn wants = record {
  front = take i before;
  call = get_or asked i d;
  back = drop (i + 1) before;
  next = take i asked;
  parts = sym (ap (λ (x : Asked). take i before ++ x ∷ drop (i + 1) before) (sym (same_below i before asked d same))
      ∙ ap (λ (ys : List Asked). take i before ++ ys) (sym (drop_more before i d within)) ∙ take-append-drop i before);
  made = turn;
  wants = wants;
}

-- no turn was made
pub turns_none : (s : CoreState) (asked : List Asked) → Turns 0 s asked s asked
unfolding Turns
turns_none s asked = (refl, refl)

-- one more turn
pub turns_next : (turns : ℕ) (s mid new : CoreState) (asked next last : List Asked) → Turns turns s asked mid next
    → Turn mid next new last → Turns (turns + 1) s asked new last
unfolding Turns
turns_next turns s mid new asked next last made turn = rw add-one (mid, next, made, turn)

-- one more has ended
pub ended_more : (asked : List Asked) (answers : List Answer) (call : Asked) (answer : Answer) → AreEnded asked answers
    → call.answer ≡ Some answer → AreEnded (asked ++ call ∷ []) (answers ++ answer ∷ [])
ended_more [] [] call answer ended is = (is, tt)
ended_more [] (b ∷ answers) call answer ended is = absurd ended
ended_more (first ∷ asked) [] call answer ended is = absurd ended
ended_more (first ∷ asked) (b ∷ answers) call answer ended is = (ended.0, ended_more asked answers call answer ended.1 is)

pub ended_next : (i : ℕ) (asked : List Asked) (answers more : List Answer) (call : Asked) (answer : Answer) → i < length asked
    → call ≡ get_or asked i call → call.answer ≡ Some answer → more ≡ answers ++ answer ∷ []
    → AreEnded (take i asked) answers → AreEnded (take (i + 1) asked) more
ended_next i asked answers more call answer within is ended longer before =
    subst (λ (xs : List Answer). AreEnded (take (i + 1) asked) xs) (sym longer)
    (subst (λ (xs : List Asked). AreEnded xs (answers ++ answer ∷ []))
    (sym (take_more asked i call within ∙ ap (λ (x : Asked). take i asked ++ x ∷ []) (sym is)))
    (ended_more (take i asked) answers call answer before ended))

pub ended_all : (i : ℕ) (asked : List Asked) (answers : List Answer) → length asked ≤ i → AreEnded (take i asked) answers
    → AreEnded asked answers
ended_all i asked answers past ended = subst (λ (xs : List Asked). AreEnded xs answers) (take_all i asked past) ended

pub ended_long : (asked : List Asked) (answers : List Answer) → AreEnded asked answers → length answers ≡ length asked
ended_long [] [] ended = refl
ended_long [] (b ∷ answers) ended = absurd ended
ended_long (first ∷ asked) [] ended = absurd ended
ended_long (first ∷ asked) (b ∷ answers) ended = let more = ended_long asked answers ended.1 in omega (arith, more)

pub told_long : (i : ℕ) (asked : List Asked) (answers : List Answer) → i < length asked → AreEnded (take i asked) answers
    → length answers ≡ i
told_long i asked answers within ended = ended_long (take i asked) answers ended ∙ length-take-le i asked (omega (arith, within))

-- a turn in which a step went on, and then one
pub near_on : (went more : Bool) (old mid new b : ℕ) → more ≡ true → went ≡ true → mid + b ≤ old → new + bit went ≤ mid
    → new + bit more ≤ old
near_on went more old mid new b m w h k =
    let x : bit went ≡ 1 = ap bit w in
    let y : bit more ≡ 1 = ap bit m in
    omega (arith, x, y, h, k)

-- a step that was blocked
pub near_off : (went before more : Bool) (old mid new : ℕ) → more ≡ before → mid + bit before ≤ old → new + bit went ≤ mid
    → new + bit more ≤ old
near_off went before more old mid new m h k =
    let y : bit more ≡ bit before = ap bit m in
    omega (arith, y, h, k)

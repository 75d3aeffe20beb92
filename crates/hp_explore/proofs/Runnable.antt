-- The tasks that may take a turn.
use Rattle.std.proofs.Common.{◌≡◌, ℕ, zero, suc, ◌+◌, ◌<◌, ◌≤◌, inl, inr, List, [], ◌∷◌}
use Rattle.std.proofs.Common.{◌++◌, length, length-append, add-one, refl, sym, ap, ◌∙◌, subst, arith}
use Rattle.std.specs.Prelude.{Bool, true, false, not, ◌&&◌, ◌==◌, Option, None, Some, is_none, is_some, IsSome, IsTrue}
use Rattle.std.specs.Prelude.{MatchBool, if◌then◌else◌}
use Rattle.std.specs.List.{All, range_with_len, list_all}
use Rattle.std.proofs.lemmas.List.Elements.{All-append}
use Rattle.std.proofs.lemmas.Bool.{eqb-true}
use Rattle.std.proofs.lemmas.Bool.Decides.{nat_tests}
use Rattle.hp_machine.specs.State.{Geometry}
use Rattle.hp_machine.specs.Events.{IsReached}
use Rattle.hp_machine.specs.Events.{word_of}
use Rattle.std.specs.Option.{option_map}
use Rattle.hp_machine.specs.declared.call.Call.{Call}
use Rattle.hp_laws.specs.Bounds.{IsUnblocked}
use Rattle.hp_laws.proofs.Meets.{caller_there}
use Rattle.hp_laws.proofs.Waiting.{some_call_goes_on}
use Rattle.hp_core.specs.State.{as_state}
use Rattle.hp_core.specs.Readers.{config_of, phase_of}
use Rattle.hp_core.specs.Runs.{IsOfConfig, Row}
use Rattle.hp_core.specs.Waiting.{WaitsFor}
use Rattle.hp_explore.specs.Schedule.{Plan, World, CanTurn, AreRunnableOf, IsPlan, in_call, may_begin, next_call}
use Rattle.hp_explore.specs.Explored.{is_done, all_done, idle_finish}
use Rattle.hp_explore.specs.declared.line.Finish.TheVariants.{Finished, Stuck}
use Rattle.hp_alike.proofs.Twins.{still_some}
use Rattle.hp_explore.proofs.Awaiting as nobody

-- one with a call in flight exactly where it waits for nobody
pub free_can : (plan : Plan) (w : World) (t : ℕ) → IsSome (phase_of w.core t) → WaitsFor w.core t None → CanTurn plan w t
free_can plan w t busy free =
    subst (λ (b : Bool). MatchBool b (WaitsFor w.core t None) (IsTrue (may_begin plan w t))) (sym busy) free

pub held_cannot : (plan : Plan) (w : World) (t holder : ℕ) → IsSome (phase_of w.core t) → WaitsFor w.core t (Some holder)
    → CanTurn plan w t → ⊥
unfolding WaitsFor
held_cannot plan w t holder busy held can =
    (subst (λ (b : Bool). MatchBool b (WaitsFor w.core t None) (IsTrue (may_begin plan w t))) busy can) true holder w.core (held true)

-- the list is made task by task
pub one_more : (plan : Plan) (w : World) (n : ℕ) (tasks more : List ℕ) → AreRunnableOf plan w n tasks → CanTurn plan w (n + 1)
    → more ≡ tasks ++ (n + 1) ∷ [] → AreRunnableOf plan w (n + 1) more
unfolding AreRunnableOf
one_more plan w n tasks more h can is =
    rw (add-one) (tasks, h, inl (subst (CanTurn plan w) (add-one n) can, is ∙ ap (λ (k : ℕ). tasks ++ k ∷ []) (add-one n)))

pub no_more : (plan : Plan) (w : World) (n : ℕ) (tasks same : List ℕ) → AreRunnableOf plan w n tasks
    → (CanTurn plan w (n + 1) → ⊥)
    → same ≡ tasks → AreRunnableOf plan w (n + 1) same
unfolding AreRunnableOf
no_more plan w n tasks same h cannot is =
    rw (add-one) (tasks, h, inr ((λ can. cannot (subst (CanTurn plan w) (sym (add-one n)) can)), is))

pub none_yet : (plan : Plan) (w : World) (tasks : List ℕ) → tasks ≡ [] → AreRunnableOf plan w 0 tasks
unfolding AreRunnableOf
none_yet plan w tasks is = is

-- no more than all
pub no_more_than : (plan : Plan) (w : World) (n : ℕ) (tasks : List ℕ) → AreRunnableOf plan w n tasks → length tasks ≤ n
unfolding AreRunnableOf
no_more_than plan w zero tasks h = rw h (omega arith)
no_more_than plan w (suc n) tasks (front, before, inl last) =
    rw last.1 (omega (arith, length-append front (suc n ∷ []), no_more_than plan w n front before))
no_more_than plan w (suc n) tasks (front, before, inr last) = rw last.1 (omega (arith, no_more_than plan w n front before))

-- all of them are there
abbrev pub InRange : ℕ → List ℕ → Type 0
InRange n tasks = All (λ t. (1 ≤ t) × (t ≤ n)) tasks

pub in_range_none : (n : ℕ) (tasks : List ℕ) → tasks ≡ [] → InRange n tasks
in_range_none n tasks is = subst (InRange n) (sym is) (λ k d within. absurd (omega (arith, within)))

pub in_range_more : (n place : ℕ) (tasks more : List ℕ) → InRange n tasks → place < n
    → more ≡ tasks ++ (place + 1) ∷ [] → InRange n more
in_range_more n place tasks more h within is =
    subst (InRange n) (sym is) (All-append (λ (t : ℕ). (1 ≤ t) × (t ≤ n)) tasks ((place + 1) ∷ []) h last)
  where
    last : All (λ t. (1 ≤ t) × (t ≤ n)) ((place + 1) ∷ [])
    last zero d l = (omega arith, omega (arith, within))
    last (suc k) d l = absurd (omega (arith, l))

pub in_range_same : (n : ℕ) (tasks same : List ℕ) → InRange n tasks → same ≡ tasks → InRange n same
in_range_same n tasks same h is = subst (InRange n) (sym is) h

-- a list with something at its end isn't empty
not_empty : {P : Type 0} (xs : List ℕ) (x : ℕ) → ◌≡◌ {A = List ℕ} [] (xs ++ x ∷ []) → P
not_empty [] x e = absurd (cc)
not_empty (y ∷ xs) x e = absurd (cc)

-- where no task may take a turn, none may
pub none_can : (plan : Plan) (w : World) (n t : ℕ) → AreRunnableOf plan w n [] → 1 ≤ t → t ≤ n → CanTurn plan w t → ⊥
unfolding AreRunnableOf
none_can plan w zero t h one within can = absurd (omega (arith, one, within))
none_can plan w (suc n) t (front, before, inl last) one within can = not_empty front (suc n) last.1
none_can plan w (suc n) t (front, before, inr last) one within can = elim (t == suc n) as (λ b. (t == suc n) ≡ b → ⊥) [
  | true ↦ λ e. last.0 (subst (CanTurn plan w) (eqb-true t (suc n) e) can)
  | false ↦ λ e. none_can plan w n t (subst (λ (ts : List ℕ). AreRunnableOf plan w n ts) (sym last.1) before) one (smaller t n within e) can
] refl
  where
    smaller : (t n : ℕ) → t ≤ suc n → (t == suc n) ≡ false → t ≤ n
    smaller t n l e = grind (arith, nat_tests)

-- a call in flight whose steps are never blocked may take a turn
goes_on : (plan : Plan) (w : World) (u : ℕ) (d : Call) → (as_state w.core).calls u ≡ Some d
    → IsUnblocked (as_state w.core) u → CanTurn plan w u
unfolding phase_of WaitsFor Row
goes_on plan w u d call free =
    let busy : in_call w u ≡ true = ap (λ (o : Option Call). is_some (option_map word_of o)) call in
    subst (λ (b : Bool). MatchBool b (WaitsFor w.core u None) (IsTrue (may_begin plan w u))) (sym busy)
    (λ grant holder new row. free grant holder (as_state new) row.0)

-- where no task may take a turn, no call is in flight
none_busy : (plan : Plan) (w : World) (t : ℕ) → IsReached (as_state w.core) → length w.made ≡ (as_state w.core).geometry.tasks
    → AreRunnableOf plan w (length w.made) [] → (o : Option Call) → (as_state w.core).calls t ≡ o → is_some o ≡ false
none_busy plan w t reached many idle None e = refl
none_busy plan w t reached many idle (Some c) e =
    let on = some_call_goes_on (as_state w.core) t c reached e in
    let there = caller_there (as_state w.core) on.0 on.1 reached on.2 in
    absurd (none_can plan w (length w.made) on.0 idle there.0 (omega (arith, there.1, many)) (goes_on plan w on.0 on.1 on.2 on.4))

rests : (plan : Plan) (w : World) (t : ℕ) → IsReached (as_state w.core) → length w.made ≡ (as_state w.core).geometry.tasks
    → AreRunnableOf plan w (length w.made) [] → in_call w t ≡ false
unfolding phase_of
rests plan w t reached many idle =
    still_some word_of ((as_state w.core).calls t) ∙ none_busy plan w t reached many idle ((as_state w.core).calls t) refl

-- a test that all numbers of a range pass
all_of_range : (p : ℕ → Bool) (from n : ℕ) → ((t : ℕ) → from ≤ t → t < from + n → p t ≡ true)
    → list_all p (range_with_len from n) ≡ true
all_of_range p from zero h = refl
all_of_range p from (suc n) h =
    let here : p from ≡ true = h from (omega arith) (omega arith) in
    let rest : list_all p (range_with_len (from + 1) n) ≡ true =
    all_of_range p (from + 1) n (λ t low high. h t (omega (arith, low)) (omega (arith, high))) in
    λ i. here i && rest i

-- what isn't there is none
none_left : {A : Type 0} (o : Option A) → (IsSome o → ⊥) → is_none o ≡ true
none_left None h = refl
none_left (Some x) h = absurd (h refl)

-- so where no task may take a turn, each is done
pub idle_done : (plan : Plan) (w : World) → IsPlan plan (length w.made) → IsReached (as_state w.core)
    → length w.made ≡ (as_state w.core).geometry.tasks → AreRunnableOf plan w (length w.made) [] → all_done plan w ≡ true
idle_done plan w is reached many idle =
    all_of_range (is_done plan w) 1 (length w.made) (λ t one within. each t one (omega (arith, within)))
  where
    each : (t : ℕ) → 1 ≤ t → t ≤ length w.made → is_done plan w t ≡ true
    each t one within =
        let idles = rests plan w t reached many idle in
        let none : is_none (next_call plan w.made t) ≡ true = none_left (next_call plan w.made t)
        (λ some. nobody.none_left plan w is (λ u low high. rests plan w u reached many idle)
        (λ u low high. none_can plan w (length w.made) u idle low high) t one within some) in
        λ i. not (idles i) && none i

-- and the run has come to its end
pub idle_ends : (plan : Plan) (w : World) → IsPlan plan (length w.made) → IsReached (as_state w.core) → IsOfConfig w.core
    → (config_of w.core).tasks ≡ length w.made
    → AreRunnableOf plan w (length w.made) [] → Finished ≡ idle_finish plan w
unfolding config_of
idle_ends plan w is reached sized many idle =
    let tasks : (as_state w.core).geometry.tasks ≡ w.core.sizes.tasks = ap (λ (g : Geometry). g.tasks) sized.0 in
    let done = idle_done plan w is reached (sym many ∙ sym tasks) idle in
    sym (ap (λ (b : Bool). if b then Finished else Stuck) done)

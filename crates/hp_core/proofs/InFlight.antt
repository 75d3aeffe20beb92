-- Where no call is counted none is in flight, and the other way round.
use Rattle.std.proofs.Common.{◌≡◌, ℕ, ◌+◌, Bool, true, false, Option, Some, None, IsSome, is_some, refl, ap, arith}
use Rattle.hp_base.specs.Numbers.{bit}
use Rattle.hp_base.proofs.Counting.{count_below_none}
use Rattle.hp_base.proofs.Totals.{count_below-total, total_has}
use Rattle.hp_machine.specs.declared.call.Call.{Call}
use Rattle.hp_laws.specs.Laws.{CallersLive}
use Rattle.hp_core.specs.Readers as readers
use Rattle.hp_core.specs.State.{CoreState, as_state}

-- the call that is there
pub some_of : (o : Option Call) → IsSome o → (c : Call) × (o ≡ Some c)
some_of None there = (let no : ◌≡◌ {A = Bool} false true = there in absurd (cc))
some_of (Some c) there = (c, refl)

-- a core with no call in flight has none of any task
pub none_in_flight : (s : CoreState) (t : ℕ) → CallersLive (as_state s) → readers.calls_of s ≡ 0 → IsSome ((as_state s).calls t) → ⊥
unfolding readers.calls_of
none_in_flight s t live none there =
    let call = some_of ((as_state s).calls t) there in
    let lives = live t call.0 call.1 in
    let tasks = (as_state s).geometry.tasks + 1 in
    let all = count_below-total (λ k. is_some ((as_state s).calls k)) tasks in
    let has = total_has tasks t (λ k. bit (is_some ((as_state s).calls k))) (omega (arith, lives.1)) in
    let one : bit (is_some ((as_state s).calls t)) ≡ 1 = ap bit there in
    omega (arith, all, has, one, none)

false_of : (b : Bool) → (b ≡ true → ⊥) → b ≡ false
false_of true never = absurd (never refl)
false_of false never = refl

-- and where no task has one, none is in flight
pub none_counts : (s : CoreState) → ((t : ℕ) → IsSome ((as_state s).calls t) → ⊥) → readers.calls_of s ≡ 0
unfolding readers.calls_of
none_counts s none =
    count_below_none (λ t. is_some ((as_state s).calls t)) ((as_state s).geometry.tasks + 1) (λ t within. false_of _ (none t))

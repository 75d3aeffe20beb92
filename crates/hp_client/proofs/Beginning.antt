-- Which calls are in flight where a round begins, and where none is.
use Rattle.std.proofs.Common.{◌≡◌, ◌≢◌, ℕ, zero, suc, ◌-◌, ◌<◌, Bool, true, false, Option, Some, None}
use Rattle.std.proofs.Common.{IsSome, is_some}
use Rattle.std.proofs.Common.{List, [], ◌∷◌, length, get_or, map, filter, All, AllPairs, Contains, ◌⊎◌, inl, inr}
use Rattle.std.proofs.Common.{refl, sym, ap, subst, ◌∙◌, arith}
use Rattle.std.specs.List.{range_with_len}
use Rattle.std.specs.Option.{option_map}
use Rattle.std.proofs.lemmas.List.{get_or-map, length-map}
use Rattle.std.proofs.lemmas.List.Elements.{filter_passes}
use Rattle.std.proofs.lemmas.List.FromFn.{get_or-range_with_len, length-range_with_len}
use Rattle.std.proofs.lemmas.List.Kept.{AllPairs-filter}
use Rattle.hp_base.proofs.Puts.{same_or_other}
use Rattle.hp_base.specs.declared.event.Op.{Op}
use Rattle.hp_base.specs.declared.event.Event.TheVariants.{Begin}
use Rattle.hp_machine.specs.State as machine
use Rattle.hp_machine.specs.Events.{word_of}
use Rattle.hp_machine.specs.declared.call.Call.{Call}
use Rattle.hp_machine.specs.declared.outcome.Outcome.TheVariants as outcome
use Rattle.hp_laws.specs.Laws.{BeginsBegin, CallersLive, OthersStay}
use Rattle.hp_core.specs.Readers as readers
use Rattle.hp_core.specs.Readers.{config_of, phase_of}
use Rattle.hp_core.specs.Runs.{Row, IsOfConfig}
use Rattle.hp_core.specs.State.{CoreState, as_state}
use Rattle.hp_core.proofs.InFlight.{none_in_flight}
use Rattle.hp_client.specs.Heard.{AreApart}
use Rattle.hp_client.specs.Rounds.{Begins, asked_of, in_flight, IsInFlight, AreInFlight, AreAll, AreOfDistinctTasks}
use Rattle.hp_client.specs.declared.rounds.Asked.{Asked}
use Rattle.hp_client.proofs.Standing.{some_of, waiting}

-- the laws on begins, of every state
abbrev AllBegin : Type 0
AllBegin = (s : machine.State) → BeginsBegin s

abbrev AllStay : Type 0
AllStay = (s : machine.State) → OthersStay s

-- a begin leaves the calls of other tasks
begin_leaves : AllStay → (s new : CoreState) (u t : ℕ) (op : Op) → Row s (Begin u op) outcome.Begun new → t ≢ u
    → (as_state new).calls t ≡ (as_state s).calls t
unfolding Row
begin_leaves law s new u t op row other = (law (as_state s) (Begin u op) outcome.Begun (as_state new) t row.0 other).0

-- and its own is in flight
begin_flies : AllBegin → (s new : CoreState) (t : ℕ) (op : Op) → Row s (Begin t op) outcome.Begun new → IsInFlight new t
unfolding Row
begin_flies law s new t op row = ap (λ (c : Option Call). is_some c) (law (as_state s) t op outcome.Begun (as_state new) row.0)

-- begins of other tasks leave a task's call
begins_leave : AllStay → (s new : CoreState) (calls : List (ℕ × Op)) (t : ℕ) → Begins s calls new
    → All (λ call. call.0 ≢ t) calls → (as_state new).calls t ≡ (as_state s).calls t
begins_leave law s new [] t begins others = ap (λ (x : CoreState). (as_state x).calls t) begins
begins_leave law s new (call ∷ calls) t (mid, row, rest) others =
    begins_leave law mid new calls t rest (λ k d there. others (suc k) d (omega (arith, there)))
    ∙ begin_leaves law s mid call.0 t call.1 row (λ same. others 0 call (omega arith) (sym same))

-- the calls behind the first are of distinct tasks too, and of others than the first
tail_apart : (call : ℕ × Op) (calls : List (ℕ × Op)) → AreApart (call ∷ calls) → AreApart calls
tail_apart call calls apart i j d before there = apart (suc i) (suc j) d (omega (arith, before)) (omega (arith, there))

head_apart : (call : ℕ × Op) (calls : List (ℕ × Op)) → AreApart (call ∷ calls) → All (λ other. other.0 ≢ call.0) calls
head_apart call calls apart k d there = λ same. apart 0 (suc k) d (omega arith) (omega (arith, there)) (sym same)

-- each call that began is in flight
begun_fly : AllBegin → AllStay → (s new : CoreState) (calls : List (ℕ × Op)) → Begins s calls new → AreApart calls
    → (k : ℕ) (d : ℕ × Op) → k < length calls → IsInFlight new (get_or calls k d).0
begun_fly begun stay s new [] begins apart k d there = absurd (omega (arith, there))
begun_fly begun stay s new (call ∷ calls) (mid, row, rest) apart zero d there =
    subst (λ (c : Option Call). IsSome c) (sym (begins_leave stay mid new calls call.0 rest (head_apart call calls apart)))
    (begin_flies begun s mid call.0 call.1 row)
begun_fly begun stay s new (call ∷ calls) (mid, row, rest) apart (suc k) d there =
    begun_fly begun stay mid new calls rest (tail_apart call calls apart) k d (omega (arith, there))

abbrev ask_one : ℕ × Op → Asked
ask_one call = waiting call.0

in_list : (calls : List (ℕ × Op)) (k : ℕ) → k < length (map ask_one calls) → k < length calls
in_list calls k there = let l = length-map calls ask_one in omega (arith, l, there)

task_in : (calls : List (ℕ × Op)) (k : ℕ) (e : Asked) (d : ℕ × Op) → k < length calls
    → (get_or (map ask_one calls) k e).task ≡ (get_or calls k d).0
task_in calls k e d there = ap (λ (c : Asked). c.task) (get_or-map ask_one calls k d e there)

pub asked_fly : AllBegin → AllStay → (s new : CoreState) (calls : List (ℕ × Op)) → Begins s calls new → AreApart calls
    → AreInFlight new (asked_of calls)
unfolding AreInFlight asked_of
asked_fly begun stay s new calls begins apart k e there none =
    let old = in_list calls k there in
    let some_call : ℕ × Op = (0, Rattle.hp_base.specs.declared.event.Op.TheVariants.Exit) in
    subst (λ (t : ℕ). IsInFlight new t) (sym (task_in calls k e some_call old)) (begun_fly begun stay s new calls begins
    apart k some_call old)

pub asked_apart : (calls : List (ℕ × Op)) → AreApart calls → AreOfDistinctTasks (asked_of calls)
unfolding asked_of
asked_apart calls apart i j e before there same =
    let some_call : ℕ × Op = (0, Rattle.hp_base.specs.declared.event.Op.TheVariants.Exit) in
    let last = in_list calls j there in
    apart i j some_call before last
    (sym (task_in calls i e some_call (omega (arith, before, last))) ∙ same ∙ task_in calls j e some_call last)

-- what is in flight then was in flight before, or is one of them
only_asked : AllStay → (s new : CoreState) (calls : List (ℕ × Op)) (t : ℕ) → Begins s calls new → IsInFlight new t
    → IsInFlight s t ⊎ Contains (map ask_one calls) (waiting t)
only_asked stay s new [] t begins there = inl (subst (λ (x : CoreState). IsInFlight x t) begins there)
only_asked stay s new (call ∷ calls) t (mid, row, rest) there = elim (only_asked stay mid new calls t rest there) [
  | inr found ↦ inr (suc found.0, (let l = found.1 in omega (arith, l)), found.2)
  | inl before ↦ elim (same_or_other t call.0) [
    | inl q ↦ inr (0, omega arith, ap waiting (sym q))
    | inr q ↦ inl (subst (λ (c : Option Call). IsSome c) (begin_leaves stay s mid call.0 t call.1 row q) before)
  ]
]

-- so after the begins from no call in flight every call in flight is one of them
pub asked_all : AllStay → (s new : CoreState) (calls : List (ℕ × Op)) → Begins s calls new → CallersLive (as_state s)
    → readers.calls_of s ≡ 0
    → AreAll new (asked_of calls)
unfolding AreAll asked_of
asked_all stay s new calls begins live none t there = elim (only_asked stay s new calls t begins there) [
  | inl before ↦ absurd (none_in_flight s t live none before)
  | inr found ↦ found
]

-- the tasks with a call in flight
abbrev flying : CoreState → List ℕ
flying s = filter (λ t. is_some (phase_of s t)) (range_with_len 1 (config_of s).tasks)

phase_tells : (c : Option Call) → is_some (option_map word_of c) ≡ is_some c
phase_tells None = refl
phase_tells (Some c) = refl

phase_flies : (s : CoreState) (t : ℕ) → is_some (phase_of s t) ≡ is_some ((as_state s).calls t)
unfolding phase_of
phase_flies s t = phase_tells ((as_state s).calls t)

-- they are distinct
rising : (n : ℕ) → AllPairs (λ a b. a ≢ b) (range_with_len 1 n)
rising n i j d before there same =
    let l = length-range_with_len 1 n in
    let a = get_or-range_with_len 1 n i d (omega (arith, l, before, there)) in
    let b = get_or-range_with_len 1 n j d (omega (arith, l, there)) in
    omega (arith, a, b, same, before)

waiting_at : (ts : List ℕ) (k : ℕ) (e : Asked) → k < length (map waiting ts)
    → (k < length ts) × ((get_or (map waiting ts) k e).task ≡ get_or ts k 0)
waiting_at ts k e there =
    let l = length-map ts waiting in
    let old : k < length ts = omega (arith, l, there) in
    (old, ap (λ (c : Asked). c.task) (get_or-map waiting ts k 0 e old))

pub flying_apart : (s : CoreState) → AreOfDistinctTasks (in_flight s)
unfolding in_flight
flying_apart s i j e before there same =
    let ts = flying s in
    let b = waiting_at ts j e there in
    let l = length-map ts waiting in
    let a = waiting_at ts i e (omega (arith, before, there)) in
    AllPairs-filter (λ (a b : ℕ). a ≢ b) (λ t. is_some (phase_of s t)) (range_with_len 1 (config_of s).tasks) (rising
    (config_of s).tasks)
    i j 0 before b.0 (sym a.1 ∙ same ∙ b.1)

-- each is in flight
pub flying_fly : (s : CoreState) → AreInFlight s (in_flight s)
unfolding AreInFlight in_flight
flying_fly s k e there none =
    let a = waiting_at (flying s) k e there in
    let passes = filter_passes (λ t. is_some (phase_of s t)) (range_with_len 1 (config_of s).tasks) k 0 a.0 in
    subst (λ (t : ℕ). IsInFlight s t) (sym a.1) (sym (phase_flies s (get_or (flying s) k 0)) ∙ passes)

-- what passes the test stays
kept_on : (p : ℕ → Bool) (u : ℕ) (ts : List ℕ) (t : ℕ) (b : Bool) → p u ≡ b → Contains (filter p ts) t
    → Contains (filter p (u ∷ ts)) t
kept_on p u ts t true e found = rw e (suc found.0, (let l = found.1 in omega (arith, l)), found.2)
kept_on p u ts t false e found = rw e found

kept : (p : ℕ → Bool) (ts : List ℕ) (t : ℕ) → p t ≡ true → Contains ts t → Contains (filter p ts) t
kept p [] t passes (k, there, is) = absurd (omega (arith, there))
kept p (u ∷ ts) t passes (zero, there, is) = rw (ap p is ∙ passes) (0, omega arith, is)
kept p (u ∷ ts) t passes (suc k, there, is) = kept_on p u ts t (p u) refl (kept p ts t passes (k, omega (arith, there), is))

-- and every call in flight is one of them
pub flying_all : (s : CoreState) → CallersLive (as_state s) → IsOfConfig s → AreAll s (in_flight s)
unfolding AreAll in_flight config_of
flying_all s live config t there =
    let call = some_of ((as_state s).calls t) there in
    let is = live t call.0 call.1 in
    let tasks : (as_state s).geometry.tasks ≡ s.sizes.tasks = ap (λ (g : machine.Geometry). g.tasks) config.0 in
    let ts = flying s in
    let within : t - 1 < s.sizes.tasks = (let a = is.0 in let b = is.1 in omega (arith, a, b, tasks)) in
    let in_range : Contains (range_with_len 1 s.sizes.tasks) t = (
      t - 1,
      (let l = length-range_with_len 1 s.sizes.tasks in omega (arith, l, within)),
      get_or-range_with_len 1 s.sizes.tasks (t - 1) t within ∙ (let a = is.0 in omega (arith, a)),
    ) in
    let found = kept (λ u. is_some (phase_of s u)) (range_with_len 1 s.sizes.tasks) t (phase_flies s t ∙ there) in_range in (
      found.0,
      (let l = length-map ts waiting in let a = found.1 in omega (arith, l, a)),
      get_or-map waiting ts found.0 t (waiting t) found.1 ∙ ap waiting found.2,
    )

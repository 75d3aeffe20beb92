-- Where no task may take a turn no call is left: the one on the first line waits for nothing that isn't over.
use Rattle.std.proofs.Common.{◌≡◌, ℕ, zero, suc, ◌+◌, ◌-◌, ◌<◌, ◌≤◌, true, false, List, [], ◌∷◌, length, take, map, filter, Option, Some}
use Rattle.std.proofs.Common.{None, refl, sym, ap, subst, ◌∙◌, arith, cond}
use Rattle.std.specs.Prelude.{Bool, ◌==◌, ◌&&◌, nat_le, if◌then◌else◌, is_some, slice_get, slice_index, slice_index_or, IfSome, MatchBool}
use Rattle.std.specs.List.{list_all}
use Rattle.std.proofs.lemmas.Bool.{and_parts, leb-true, leb-false}
use Rattle.std.proofs.lemmas.List.FromFn.{get_or-map-range_with_len}
use Rattle.hp_base.specs.declared.event.Op.{Op}
use Rattle.hp_core.specs.Waiting.{WaitsFor}
use Rattle.hp_text.specs.Scripts.{calls_of}
use Rattle.hp_base.specs.declared.event.Event.{Event}
use Rattle.hp_text.specs.declared.script.Script.{Script}
use Rattle.hp_text.specs.declared.script.Wait.{Wait}
use Rattle.std.proofs.lemmas.List.{length-replicate}
use Rattle.hp_explore.specs.declared.turned.Turned.{Turned}
use Rattle.hp_explore.proofs.Others.{long_after}
use Rattle.hp_text.specs.declared.needs.Need.{Need}
use Rattle.hp_explore.specs.Schedule.{Plan, World, IsPlan, CanTurn}
use Rattle.hp_text.specs.Needs.{places_from, is_wait_of, need_of, needs_at, task_needs, needs_of}
use Rattle.hp_explore.specs.Schedule.{queues_of, in_call, next_call, next_needs, ended, is_over, may_begin, IsStart, Turn, plan_of}

abbrev Call : Type 0
Call = ℕ × Op

-- the task's call of this number, from 0, stands on that line, which is before the m-th
record StandsBefore (n : ℕ) (lines : List Call) (t p m : ℕ) : Type 0 where
  line : ℕ
  before : line < n + m
  at : slice_get (places_from n lines t) p ≡ Some line
  call : is_some (slice_get (calls_of lines t) p) ≡ true

-- the calls and the places of a task, where the first line is its or isn't
abbrev queue : Call → List Call → (t : ℕ) → Bool → List Op
queue l lines t b = map (λ (c : Call). c.1) (cond b (l ∷ filter (λ (c : Call). c.0 == t) lines) (filter (λ (c : Call). c.0 == t) lines))

abbrev places : ℕ → List Call → (t : ℕ) → Bool → List ℕ
places n lines t b = if b then n ∷ places_from (n + 1) lines t else places_from (n + 1) lines t

abbrev Goes : ℕ → Call → List Call → (t m : ℕ) → Bool → ℕ → Type 0
Goes n l lines t m b p =
    (line : ℕ) × (line < n + m) × (slice_get (places n lines t b) p ≡ Some line) × (is_some (slice_get (queue l lines t b) p) ≡ true)

-- a call that stands on the first m lines, where the calls behind the first line do
goes : (n : ℕ) (l : Call) (lines : List Call) (t m : ℕ)
    → ((q : ℕ) → q < length (calls_of (take m lines) t) → StandsBefore (n + 1) lines t q m)
    → (b : Bool) (p : ℕ) → p < length (queue l (take m lines) t b) → Goes n l lines t (suc m) b p
goes n l lines t m behind true zero within = (n, omega arith, refl, refl)
goes n l lines t m behind true (suc q) within =
    let more = behind q (omega (arith, within)) in (more.line, omega (arith, more.before), more.at, more.call)
goes n l lines t m behind false p within =
    let more = behind p within in (more.line, omega (arith, more.before), more.at, more.call)

goes_by : (n : ℕ) (l : Call) (lines : List Call) (t m : ℕ)
    → ((q : ℕ) → q < length (calls_of (take m lines) t) → StandsBefore (n + 1) lines t q m)
    → (b : Bool) → (l.0 == t) ≡ b → (p : ℕ) → p < length (queue l (take m lines) t (l.0 == t)) → StandsBefore n (l ∷ lines) t p (suc m)
goes_by n l lines t m behind b e p within =
    let g = subst (λ (x : Bool). Goes n l lines t (suc m) x p) (sym e)
    (goes n l lines t m behind b p (subst (λ (x : Bool). p < length (queue l (take m lines) t x)) e within)) in
    record { line = g.0; before = g.1; at = g.2; call = g.3 }

-- a call that stands on the first m lines
stands : (n : ℕ) (lines : List Call) (t p m : ℕ) → p < length (calls_of (take m lines) t) → StandsBefore n lines t p m
stands n [] t p zero within = absurd (omega (arith, within))
stands n [] t p (suc m) within = absurd (omega (arith, within))
stands n (l ∷ lines) t p zero within = absurd (omega (arith, within))
stands n (l ∷ lines) t p (suc m) within =
    goes_by n l lines t m (λ q more. stands (n + 1) lines t q m more) (l.0 == t) refl p within

-- what a list maps to at a place
map_at : {A : Type 0} (f : ℕ → List A) (ks : List ℕ) (p k : ℕ) → slice_get ks p ≡ Some k → slice_index_or (map f ks) p [] ≡ f k
map_at f [] p k e = absurd (none_some e)
  where
    none_some : ◌≡◌ {A = Option ℕ} None (Some k) → ⊥
    none_some e = cc
map_at f (x ∷ ks) zero k e = ap f (the_same e)
  where
    the_same : Some x ≡ Some k → x ≡ k
    the_same e = cc
map_at f (x ∷ ks) (suc p) k e = map_at f ks p k e

-- all lines
take_all : (lines : List Call) → take (length lines) lines ≡ lines
take_all [] = refl
take_all (l ∷ lines) = ap (λ (ls : List Call). l ∷ ls) (take_all lines)

-- a call that is there has a number below the length
there : (ops : List Op) (p : ℕ) → is_some (slice_get ops p) ≡ true → p < length ops
there [] p e = absurd (differs e)
  where
    differs : false ≡ true → ⊥
    differs e = cc
there (x ∷ ops) zero e = omega arith
there (x ∷ ops) (suc p) e = omega (arith, there ops p e)

-- a test that all needs of a call pass
all_over : (test : Need → Bool) (need : Wait → Need) (of : Wait → Bool) (waits : List Wait)
    → ((wait : Wait) → of wait ≡ true → test (need wait) ≡ true) → list_all test (map need (filter of waits)) ≡ true
all_over test need of [] h = refl
all_over test need of (w ∷ waits) h = by (of w) refl (all_over test need of waits h)
  where
    by : (b : Bool) → of w ≡ b → list_all test (map need (filter of waits)) ≡ true
        → list_all test (map need (cond b (w ∷ filter of waits) (filter of waits))) ≡ true
    by true e more = (let here = h w e in λ i. here i && more i)
    by false e more = more

-- a run in which no call is in flight and no task may take a turn
module _ (plan : Plan) (w : World) (is : IsPlan plan (length w.made))
    (idle : (t : ℕ) → 1 ≤ t → t ≤ length w.made → in_call w t ≡ false)
    (cannot : (t : ℕ) → 1 ≤ t → t ≤ length w.made → CanTurn plan w t → ⊥) where
  calls_are : (t : ℕ) → 1 ≤ t → t ≤ length w.made → next_call plan w.made t ≡ slice_get (calls_of is.lines t) (slice_index w.made (t - 1))
  calls_are t one within =
      ap (λ (q : List Op). slice_get q (slice_index w.made (t - 1)))
      (ap (λ (qs : List (List Op)). slice_index_or qs (t - 1) []) is.queues
      ∙ get_or-map-range_with_len (calls_of is.lines) 1 (length w.made) (t - 1) t [] (omega (arith, one, within)) (omega (arith, one)))

  needs_are : (waits : List Wait) (t k : ℕ) → 1 ≤ t → t ≤ length w.made → plan.needs ≡ needs_of is.lines waits (length w.made)
      → slice_get (places_from 0 is.lines t) (slice_index w.made (t - 1)) ≡ Some k
      → list_all (is_over w) (needs_at is.lines waits (length w.made) k) ≡ true
      → list_all (is_over w) (next_needs plan w.made t) ≡ true
  needs_are [] t k one within of at over =
      ap (λ (ns : List (List (List Need))). list_all (is_over w) (slice_index_or (slice_index_or ns (t - 1) []) (slice_index w.made
      (t - 1)) [])) of
  needs_are (wait ∷ waits) t k one within of at over =
      let all = wait ∷ waits in
      ap (λ (ns : List Need). list_all (is_over w) ns)
      (ap (λ (ns : List (List (List Need))). slice_index_or (slice_index_or ns (t - 1) []) (slice_index w.made (t - 1)) []) of
      ∙ (ap (λ (ns : List (List Need)). slice_index_or ns (slice_index w.made (t - 1)) [])
      (get_or-map-range_with_len (task_needs is.lines all (length w.made)) 1 (length w.made) (t - 1) t [] (omega (arith, one, within))
      (omega (arith, one)))
      ∙ map_at (needs_at is.lines all (length w.made)) (places_from 0 is.lines t) (slice_index w.made (t - 1)) k at))
      ∙ over

  -- what a call waits for is over, where no task's next call stands before it
  was_over : (wait : Wait) (k : ℕ) → is_wait_of k (length w.made) wait ≡ true
      → ((j u : ℕ) → j < k → 1 ≤ u → u ≤ length w.made → slice_get (places_from 0 is.lines u) (slice_index w.made (u - 1)) ≡ Some j
      → is_some (next_call plan w.made u) ≡ true → ⊥)
      → is_over w (need_of is.lines k wait) ≡ true
  was_over wait k of none = by (is_over w (need_of is.lines k wait)) refl
    where
      less : (n : ℕ) → n - 0 ≡ n
      less n = omega arith

      by : (b : Bool) → is_over w (need_of is.lines k wait) ≡ b → is_over w (need_of is.lines k wait) ≡ true
      by true e = e
      by false e =
          let parts =
          and_parts (nat_le 1 wait.task) (nat_le wait.task (length w.made))
          (and_parts (wait.call == k) (nat_le 1 wait.task && nat_le wait.task (length w.made)) of).1 in
          let first = leb-true 1 wait.task parts.0 in
          let last = leb-true wait.task (length w.made) parts.1 in
          let place : wait.task - 1 + 1 ≡ wait.task = omega (arith, first) in
          let flight : in_call w (wait.task - 1 + 1) ≡ false = ap (in_call w) place ∙ idle wait.task first last in
          let all : ended w (wait.task - 1 + 1) ≡ slice_index w.made (wait.task - 1) =
          ap (λ (b : Bool). slice_index w.made (wait.task - 1 + 1 - 1) - (if b then 1 else 0)) flight
          ∙ (ap (λ (n : ℕ). slice_index w.made (n - 1) - 0) place ∙ less (slice_index w.made (wait.task - 1))) in
          let late = leb-false (length (calls_of (take k is.lines) wait.task)) (ended w (wait.task - 1 + 1)) e in
          let earlier = stands 0 is.lines wait.task (slice_index w.made (wait.task - 1)) k (omega (arith, late, all)) in
          absurd (none earlier.line wait.task (omega (arith, earlier.before)) first last earlier.at
          (ap (λ (o : Option Op). is_some o) (calls_are wait.task first last) ∙ earlier.call))

  -- no task's next call stands before any line
  none_before : (bound k t : ℕ) → k < bound → 1 ≤ t → t ≤ length w.made
      → slice_get (places_from 0 is.lines t) (slice_index w.made (t - 1)) ≡ Some k
      → is_some (next_call plan w.made t) ≡ true → ⊥
  none_before zero k t low one within at some = omega (arith, low)
  none_before (suc bound) k t low one within at some =
      let over : list_all (is_over w) (next_needs plan w.made t) ≡ true =
      needs_are is.waits t k one within is.needs at
      (all_over (is_over w) (need_of is.lines k) (is_wait_of k (length w.made)) is.waits
      (λ wait of. was_over wait k of (λ j u less first last there left. none_before bound j u (omega
      (arith, less, low)) first last there left)))
      in
      cannot t one within
      (subst (λ (b : Bool). MatchBool b (WaitsFor w.core t None) (may_begin plan w t ≡ true)) (sym (idle t one within))
      (λ i. some i && over i))

  -- so no task has a call left
  pub none_left : (t : ℕ) → 1 ≤ t → t ≤ length w.made → is_some (next_call plan w.made t) ≡ true → ⊥
  none_left t one within some =
      let here : slice_index w.made (t - 1) < length (calls_of is.lines t) =
      there (calls_of is.lines t) (slice_index w.made (t - 1)) (sym (ap (λ (o : Option Op). is_some o) (calls_are t one within)) ∙ some) in
      let all = ap (λ (ls : List Call). length (calls_of ls t)) (take_all is.lines) in
      let s = stands 0 is.lines t (slice_index w.made (t - 1)) (length is.lines) (omega (arith, here, all)) in
      none_before (suc s.line) s.line t (omega arith) one within s.at some

-- the plan of a script is one of its lines
pub is_planned : (plan : Plan) (script : Script) (tasks : ℕ) → plan ≡ plan_of script plan.deny plan.kill → tasks ≡ script.config.tasks
    → IsPlan plan tasks
is_planned plan script tasks of many = record {
  lines = script.calls.items;
  waits = script.waits.items;
  queues = ap (λ (p : Plan). p.queues) of ∙ ap (λ (n : ℕ). queues_of script.calls.items n) (sym many);
  needs = ap (λ (p : Plan). p.needs) of ∙ ap (λ (n : ℕ). needs_of script.calls.items script.waits.items n) (sym many);
}

-- as many tasks have calls before the first turn as the pool has, and behind each
pub start_long : (script : Script) (seed : ℕ) (w : World) → IsStart script seed w → length w.made ≡ script.config.tasks
start_long script seed w start = ap (λ (m : List ℕ). length m) start.made ∙ length-replicate {A = ℕ} script.config.tasks 0

pub turn_long : (plan : Plan) (w v : World) (e : Event) → Turn plan w e v → length v.made ≡ length w.made
turn_long plan w v e turn = ap (λ (m : List ℕ). length m) turn.made ∙ long_after plan _ _ w.made _ _

-- so a plan for as many tasks as there are stays one, if there is a turn or none
pub stays_planned : (plan : Plan) (w v : World) (o : Option Turned) → IsPlan plan (length w.made)
    → IfSome o (λ turned. Turn plan w turned.event v) → (o ≡ None → v ≡ w) → IsPlan plan (length v.made)
stays_planned plan w v None is turn same = subst (λ (x : World). IsPlan plan (length x.made)) (sym (same refl)) is
stays_planned plan w v (Some turned) is turn same =
    subst (λ (n : ℕ). IsPlan plan n) (sym (turn_long plan w v turned.event turn)) is

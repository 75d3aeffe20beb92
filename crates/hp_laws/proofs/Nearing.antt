-- Each step that moves or ends a call leaves fewer to go, and leaves other tasks' calls alone.
use Rattle.std.proofs.Common.{◌≡◌, ◌≢◌, ℕ, ◌+◌, ◌-◌, ◌≤◌, ◌<◌, Bool, true, Option, Some, None, IfSome, List, length, max, nat_lt}
use Rattle.std.proofs.Common.{refl, sym, ap, subst, ◌∙◌, ◌⊎◌, arith, inl, inr}
use Rattle.std.proofs.lemmas.Bool.Decides.{nat_tests}
use Rattle.hp_base.specs.Numbers.{put, total}
use Rattle.hp_base.specs.Pages.{IsPagesEnd}
use Rattle.hp_base.proofs.Puts.{put_same, put_other}
use Rattle.hp_base.proofs.Totals.{total_change}
use Rattle.hp_base.specs.declared.event.Event.{Event}
use Rattle.hp_base.specs.declared.event.Event.TheVariants.{Begin, Step, Kill, Resize}
use Rattle.hp_base.specs.declared.mapping.Mapping.{Mapping}
use Rattle.hp_machine.specs.State.{Geometry, Pool, State, pool_of, with_pool, is_killed}
use Rattle.hp_machine.specs.Events.{CallRow, IsReached, Row, first, left, lives_after}
use Rattle.hp_machine.specs.declared.call.Call.{Call}
use Rattle.hp_machine.specs.declared.call.Call.TheVariants as call
use Rattle.hp_machine.specs.declared.outcome.Life.{Life}
use Rattle.hp_machine.specs.declared.outcome.Life.TheVariants as life
use Rattle.hp_machine.specs.declared.outcome.Outcome.{Outcome}
use Rattle.hp_machine.specs.declared.outcome.Outcome.TheVariants as outcome
use Rattle.hp_machine.specs.declared.truncate.Size.{Size}
use Rattle.hp_machine.specs.declared.truncate.Want.{Want}
use Rattle.hp_machine.specs.declared.truncate.Truncation.{Truncation}
use Rattle.hp_machine.specs.declared.truncate.TruncatePhase.TheVariants as truncate
use Rattle.hp_laws.specs.Bounds.{sizes, times, IsTop}
use Rattle.hp_laws.specs.StepsLeft.{steps_left, left_to, left_to_all, goes_on}
use Rattle.hp_laws.specs.Laws.{IsOf}
use Rattle.hp_laws.proofs.Invariant.{page_within}
use Rattle.hp_laws.proofs.Reading.{begin_cases, step_cases, kill_cases, Gone, call_steps, same_state}
use Rattle.hp_laws.proofs.Resizing.{resize_cases}
use Rattle.hp_laws.proofs.Runs.{Always, always, call_keeps}
use Rattle.hp_laws.proofs.Shared.{by_test}

-- an outcome counts once at most
goes_few : (o : Outcome) → goes_on o ≤ 1
goes_few (outcome.Moved p) = omega arith
goes_few (outcome.Ended a) = omega arith
goes_few outcome.Begun = omega arith
goes_few outcome.Marked = omega arith
goes_few (outcome.Blocked u) = omega arith
goes_few (outcome.Resized n) = omega arith
goes_few (outcome.Refused why) = omega arith

-- fewer of something are less, by as much as each is
times_more : (i d k : ℕ) → i + 1 ≤ d → times i k + k ≤ times d k
unfolding times
times_more i d k h = grind arith

-- the test for less tells it
below : (a b : ℕ) → nat_lt a b ≡ true → a < b
below a b e = grind (arith, nat_tests)

-- fewer steps left to what a turn leaves than to the call, with as many mappings before as after
abbrev Fewer : Geometry → (before after top : ℕ) → Option Call → Call → Type 0
Fewer g before after top next c = steps_left g after top next + 1 ≤ steps_left g before top (Some c)

-- a row that sets the size and goes on to a want: the index is below the top, which is within the limit
wants_nearer : (g : Geometry) (before after new top limit : ℕ) (next : Option Call) (p : Size) (w : Want) → p.truncation.new ≡ new
    → w.truncation ≡ p.truncation → w.index ≡ top - 1 → new < top → top ≤ limit → next ≡ Some (call.Truncate (truncate.Want w))
    → Fewer g before after limit next (call.Truncate (truncate.Size p))
wants_nearer g before after new top limit next p w is_new is_same is_index more within leaves =
    let n : w.truncation.new ≡ p.truncation.new = ap (λ (x : Truncation). x.new) is_same in
    let z = times_more (w.index - w.truncation.new) (limit - p.truncation.new) (5 + g.tasks)
    (omega (arith, n, is_new, is_index, more, within)) in
    subst (λ (c : Option Call). Fewer g before after limit c (call.Truncate (truncate.Size p))) (sym leaves) (omega (arith, z))

-- the top of a file is within the limit
top_low : (s : State) (f end : ℕ) → Always s → IsPagesEnd (s.pages f) end → max (s.size f) end ≤ s.geometry.limit
top_low s f end h is_end =
    let low : end ≤ s.geometry.limit = is_end.1 s.geometry.limit (λ i l. none i l (s.pages f i) refl) in
    let size = h.inv.sizes f in
    omega (arith, low, size)
  where
    none : (i : ℕ) → s.geometry.limit ≤ i → (o : Option ℕ) → s.pages f i ≡ o → s.pages f i ≡ None
    none i l None e = e
    none i l (Some x) e = (let z = (page_within f i x h.inv.inside e).1 in absurd (omega arith))

-- the row that sets the size leaves fewer, whatever its top
size_nearer : (s : State) (t : ℕ) (killed grant : Bool) (p : Size) (o : Outcome) (pool : Pool) (next : Option Call) → Always s
    → CallRow (pool_of s) t killed grant (call.Truncate (truncate.Size p)) o pool next
    → Fewer s.geometry (length (s.mappings t)) (length (pool.mappings t)) s.geometry.limit next (call.Truncate (truncate.Size p))
unfolding CallRow
size_nearer s t killed grant p o pool next h (turn, (end, is_end, row), tells, leaves) =
    let f = p.truncation.file in
    let top : ℕ = max (s.size f) end in
    by_test (nat_lt p.truncation.new top) row
    (λ more r. wants_nearer s.geometry (length (s.mappings t)) (length (pool.mappings t)) p.truncation.new top
    s.geometry.limit next p (record { truncation = p.truncation; index = top - 1; evicted = 0 }) refl refl refl
    (below _ _ more) (top_low s f end h is_end) (leaves ∙ ap (left call.Truncate) r.0))
    (λ none r. subst (λ (c : Option Call). Fewer s.geometry (length (s.mappings t)) (length (pool.mappings t))
    s.geometry.limit c (call.Truncate (truncate.Size p))) (sym (leaves ∙ ap (left call.Truncate) r.0)) (omega arith))

-- what a step of a call in flight leaves to it
abbrev Nearer : State → ℕ → Call → Outcome → Pool → Option Call → Type 0
Nearer s t c o pool next =
    steps_left s.geometry (length (pool.mappings t)) s.geometry.limit next + goes_on o
    ≤ steps_left s.geometry (length (s.mappings t)) s.geometry.limit (Some c)

-- a step that isn't blocked leaves fewer, where its row sets no size
gone_nearer : (s : State) (t : ℕ) (c : Call) (o : Outcome) (pool : Pool) (next : Option Call)
    → IfSome (sizes (Some c)) (λ f. IsTop s f s.geometry.limit) → Gone s t s.geometry.limit c o pool next → Nearer s t c o pool next
gone_nearer s t c o pool next top w = let n = w.nearer top in let m = goes_few o in omega (arith, n, m)

-- so does each step that isn't blocked
call_nearer : (s : State) (t : ℕ) (killed grant : Bool) (c : Call) (o : Outcome) (pool : Pool) (next : Option Call) → Always s
    → Gone s t s.geometry.limit c o pool next → CallRow (pool_of s) t killed grant c o pool next → Nearer s t c o pool next
call_nearer s t killed grant (call.Truncate (truncate.Size p)) o pool next h w row =
    let n = size_nearer s t killed grant p o pool next h row in let m = goes_few o in omega (arith, n, m)
call_nearer s t killed grant (call.Truncate (truncate.Start p)) o pool next h w row = gone_nearer s t _ o pool next tt w
call_nearer s t killed grant (call.Truncate (truncate.Want p)) o pool next h w row = gone_nearer s t _ o pool next tt w
call_nearer s t killed grant (call.Truncate (truncate.Locked p)) o pool next h w row = gone_nearer s t _ o pool next tt w
call_nearer s t killed grant (call.Truncate (truncate.Unmap p)) o pool next h w row = gone_nearer s t _ o pool next tt w
call_nearer s t killed grant (call.Truncate (truncate.Evict p)) o pool next h w row = gone_nearer s t _ o pool next tt w
call_nearer s t killed grant (call.Truncate (truncate.Free p)) o pool next h w row = gone_nearer s t _ o pool next tt w
call_nearer s t killed grant (call.Truncate (truncate.Unslot p)) o pool next h w row = gone_nearer s t _ o pool next tt w
call_nearer s t killed grant (call.Truncate (truncate.Tail p)) o pool next h w row = gone_nearer s t _ o pool next tt w
call_nearer s t killed grant (call.Truncate (truncate.Settle p)) o pool next h w row = gone_nearer s t _ o pool next tt w
call_nearer s t killed grant (call.Truncate (truncate.Leave p)) o pool next h w row = gone_nearer s t _ o pool next tt w
call_nearer s t killed grant (call.Touch p) o pool next h w row = gone_nearer s t _ o pool next tt w
call_nearer s t killed grant (call.Map p) o pool next h w row = gone_nearer s t _ o pool next tt w
call_nearer s t killed grant (call.Alloc p) o pool next h w row = gone_nearer s t _ o pool next tt w
call_nearer s t killed grant (call.Punch p) o pool next h w row = gone_nearer s t _ o pool next tt w
call_nearer s t killed grant (call.Unmap p) o pool next h w row = gone_nearer s t _ o pool next tt w
call_nearer s t killed grant (call.Exit p) o pool next h w row = gone_nearer s t _ o pool next tt w

-- what is left to a task's call after a step of another's, or of its own
left_there : (s n : State) (t u : ℕ) (c : Call) (pool : Pool) (next : Option Call)
    → n ≡ record (with_pool s pool) { life = lives_after s.life t c next; calls = put s.calls t next }
    → pool.geometry ≡ s.geometry
    → left_to n u ≡ steps_left s.geometry (length (pool.mappings u)) s.geometry.limit (put s.calls t next u)
unfolding left_to
left_there s n t u c pool next d same =
    ap (λ (m : State). steps_left m.geometry (length (m.mappings u)) m.geometry.limit (m.calls u)) d
    ∙ ap (λ (g : Geometry). steps_left g (length (pool.mappings u)) g.limit (put s.calls t next u)) same

-- what is left to a call that is known
left_here : (s : State) (u : ℕ) (c : Option Call) → s.calls u ≡ c
    → left_to s u ≡ steps_left s.geometry (length (s.mappings u)) s.geometry.limit c
unfolding left_to
left_here s u c e = ap (steps_left s.geometry (length (s.mappings u)) s.geometry.limit) e

-- a step leaves its own call fewer steps where it goes on, and every other as many; the measures stay
abbrev Leaves : State → ℕ → Outcome → State → Type 0
Leaves s t o n =
    (n.geometry ≡ s.geometry) × (left_to n t + goes_on o ≤ left_to s t) × ((u : ℕ) → u ≢ t → left_to n u ≡ left_to s u)

-- a state that is the same has as much to go
same_leaves : (s n : State) (t : ℕ) (o : Outcome) → goes_on o ≡ 0 → n ≡ s → Leaves s t o n
same_leaves s n t o none d =
    let e : left_to n t ≡ left_to s t = ap (λ (m : State). left_to m t) d in
    (ap (λ (m : State). m.geometry) d, omega (arith, e, none), λ u other. ap (λ (m : State). left_to m u) d)

-- what each step leaves to each task
pub step_leaves : (s n : State) (t : ℕ) (grant : Bool) (o : Outcome) → IsReached s → Row s (Step t grant) o n → Leaves s t o n
step_leaves s n t grant o reached row = step_cases s t grant o n (Leaves s t o n) row
    (λ why e d. same_leaves s n t o (ap goes_on e) d)
    (λ c lives e pool next r d.
    let h = always s reached in
    let there = h.lives.there t lives in
    let in_range : t < s.geometry.tasks + 1 = omega (arith, there.1) in
    let k = call_keeps s t (is_killed (s.life t)) grant c o pool next h.inv there.0 in_range e r in
    elim (call_steps s t s.geometry.limit (is_killed (s.life t)) grant c o pool next h.inv there.0 in_range e r) [
      | inl w ↦ same_leaves s n t o (ap goes_on w.1) (d ∙ same_state s t c pool next e w.2 w.3)
      | inr w ↦ (
        ap (λ (m : State). m.geometry) d ∙ k.geometry,
        mine h c pool next e d k.geometry w r,
        λ u other. left_there s n t u c pool next d k.geometry
            ∙ ap (λ (m : List Mapping). steps_left s.geometry (length m) s.geometry.limit (put s.calls t next u)) (w.mappings u other)
            ∙ ap (steps_left s.geometry (length (s.mappings u)) s.geometry.limit) (put_other s.calls t next u other)
            ∙ sym (left_here s u (s.calls u) refl),
      )
    ])
  where
    mine : Always s → (c : Call) (pool : Pool) (next : Option Call) → s.calls t ≡ Some c
        → n ≡ record (with_pool s pool) { life = lives_after s.life t c next; calls = put s.calls t next }
        → pool.geometry ≡ s.geometry → Gone s t s.geometry.limit c o pool next
        → CallRow (pool_of s) t (is_killed (s.life t)) grant c o pool next → left_to n t + goes_on o ≤ left_to s t
    mine h c pool next e d same w r =
        let near = call_nearer s t (is_killed (s.life t)) grant c o pool next h w r in
        let a = left_there s n t t c pool next d same in
        let b : steps_left s.geometry (length (pool.mappings t)) s.geometry.limit (put s.calls t next t)
        ≡ steps_left s.geometry (length (pool.mappings t)) s.geometry.limit next =
        ap (steps_left s.geometry (length (pool.mappings t)) s.geometry.limit) (put_same s.calls t next) in
        let x = left_here s t (Some c) e in
        omega (arith, near, a, b, x)

-- a task that isn't there has no call, so no step of it goes on
step_there : (s n : State) (t : ℕ) (grant : Bool) (o : Outcome) → IsReached s → Row s (Step t grant) o n
    → ((goes_on o ≡ 0) × (n ≡ s)) ⊎ (t < s.geometry.tasks + 1)
step_there s n t grant o reached row =
    step_cases s t grant o n (((goes_on o ≡ 0) × (n ≡ s)) ⊎ (t < s.geometry.tasks + 1)) row
    (λ why e d. inl (ap goes_on e, d))
    (λ c lives e pool next r d. let there = (always s reached).lives.there t lives in inr (omega (arith, there.1)))

-- and to all of them
pub step_leaves_all : (s n : State) (t : ℕ) (grant : Bool) (o : Outcome) → IsReached s → Row s (Step t grant) o n
    → left_to_all n + goes_on o ≤ left_to_all s
unfolding left_to_all
step_leaves_all s n t grant o reached row = elim (step_there s n t grant o reached row) [
  | inl w ↦ (let e : left_to_all n ≡ left_to_all s = ap left_to_all w.1 in let a = w.0 in omega (arith, e, a))
  | inr within ↦
      (let w = step_leaves s n t grant o reached row in
      let e : total (n.geometry.tasks + 1) (left_to n) ≡ total (s.geometry.tasks + 1) (left_to n) =
      ap (λ (g : Geometry). total (g.tasks + 1) (left_to n)) w.0 in
      let z = total_change (s.geometry.tasks + 1) t (left_to s) (left_to n) within w.2 in
      let a = w.1 in
      omega (arith, e, z, a))
]

-- calls and lives of other tasks than this one are as they were
abbrev Apart : State → ℕ → State → Type 0
Apart s u n = (n.calls u ≡ s.calls u) × (n.life u ≡ s.life u)

same_apart : (s n : State) (u : ℕ) → n ≡ s → Apart s u n
same_apart s n u d = (ap (λ (m : State). m.calls u) d, ap (λ (m : State). m.life u) d)

-- a task dies by its own exit alone
lives_other : (lives : ℕ → Life) (t u : ℕ) (c : Call) (next : Option Call) → u ≢ t → lives_after lives t c next u ≡ lives u
lives_other lives t u (call.Exit p) None d = put_other lives t life.Dead u d
lives_other lives t u (call.Exit p) (Some next) d = refl
lives_other lives t u (call.Touch p) next d = refl
lives_other lives t u (call.Map p) next d = refl
lives_other lives t u (call.Alloc p) next d = refl
lives_other lives t u (call.Punch p) next d = refl
lives_other lives t u (call.Truncate p) next d = refl
lives_other lives t u (call.Unmap p) next d = refl

-- an event leaves the calls and the lives of the tasks that it isn't of
pub others_stay : (s n : State) (event : Event) (o : Outcome) (u : ℕ) → Row s event o n → ¬ IsOf u event → Apart s u n
others_stay s n (Begin t p) o u row other = begin_cases s t p o n (Apart s u n) row
    (λ why e d. same_apart s n u d)
    (λ lives none may e d. (
      ap (λ (m : State). m.calls u) d ∙ put_other s.calls t (Some (first p)) u other,
      ap (λ (m : State). m.life u) d,
    ))
others_stay s n (Step t grant) o u row other = step_cases s t grant o n (Apart s u n) row
    (λ why e d. same_apart s n u d)
    (λ c lives e pool next r d. (
      ap (λ (m : State). m.calls u) d ∙ put_other s.calls t next u other,
      ap (λ (m : State). m.life u) d ∙ lives_other s.life t u c next other,
    ))
others_stay s n (Kill t) o u row other = kill_cases s t o n (Apart s u n) row
    (λ why e d. same_apart s n u d)
    (λ alive e d. (
      ap (λ (m : State). m.calls u) d,
      ap (λ (m : State). m.life u) d ∙ put_other s.life t life.Killed u other,
    ))
others_stay s n (Resize size) o u row other = resize_cases s size o n (Apart s u n) row
    (λ why e d. same_apart s n u d)
    (λ told m frame e shifts _ d. (ap (λ (m : State). m.calls u) d, ap (λ (m : State). m.life u) d))

-- What is promised stays reserved and below the size, over every run.
use Rattle.std.proofs.Common.{◌≡◌, ◌≢◌, ℕ, ◌+◌, ◌<◌, refl, ap, sym, ◌∙◌, subst, arith, inl, inr}
use Rattle.std.specs.Prelude.{Bool, true, false, ◌==◌, Option, Some, None, List, [], ◌∷◌}
use Rattle.std.proofs.lemmas.Bool.Decides.{nat_tests}
use Rattle.hp_base.specs.Numbers.{put}
use Rattle.hp_base.specs.Indices.{is_within}
use Rattle.hp_base.specs.declared.answer.Answer.{Answer}
use Rattle.hp_base.specs.declared.answer.Answer.TheVariants as answer
use Rattle.hp_base.specs.declared.event.Op.{Op}
use Rattle.hp_base.specs.declared.event.Op.TheVariants as op
use Rattle.hp_base.specs.declared.event.Event.{Event}
use Rattle.hp_base.specs.declared.event.Event.TheVariants.{Begin, Step, Kill, Resize}
use Rattle.hp_base.proofs.Puts.{put_same, put_other, same_or_other}
use Rattle.hp_base.proofs.Searches.{true_or}
use Rattle.hp_machine.specs.State.{Geometry, Pool, State, pool_of, with_pool, is_killed}
use Rattle.hp_machine.specs.Events.{Row, CallRow, first, outcome_of, left, lives_after}
use Rattle.hp_machine.specs.declared.map.Leave.{Leave}
use Rattle.hp_machine.specs.declared.map.MapPhase.TheVariants as map
use Rattle.hp_machine.specs.declared.outcome.Outcome.{Outcome}
use Rattle.hp_machine.specs.declared.outcome.Outcome.TheVariants as outcome
use Rattle.hp_machine.specs.declared.outcome.Refusal.{Refusal}
use Rattle.hp_machine.specs.declared.call.Call.{Call}
use Rattle.hp_machine.specs.declared.call.Call.TheVariants as call
use Rattle.hp_laws.specs.Histories.{Moment, History}
use Rattle.hp_laws.specs.Promises.{in_map, can_promise, can_take_back, IsPromised}
use Rattle.hp_base.proofs.Spaces.{both_true}
use Rattle.hp_laws.proofs.Deciding.{same_of, never, clash}
use Rattle.hp_laws.proofs.Standing.{is_mapped}
use Rattle.hp_laws.proofs.Invariant.{Inv}
use Rattle.hp_laws.proofs.Passing.{locks_file, same_holder}
use Rattle.hp_laws.proofs.Shared.{stands_at}
use Rattle.hp_laws.proofs.Runs.{Always}
use Rattle.hp_laws.proofs.Reading.{begin_cases, step_cases, kill_cases, call_steps, same_state}
use Rattle.hp_laws.proofs.Resizing.{resize_cases}
use Rattle.hp_laws.proofs.Promising.{removes, removes_locked, removes_deleted, next_removes, size_set, KeptAt, Kept}
use Rattle.hp_laws.proofs.LastWords.{moment}
use Rattle.hp_laws.proofs.Histories.{history_well}

-- where a map ends, its range is kept
mapped_at : (s : State) (t : ℕ) (p : Leave) (base k j : ℕ) → Inv s.geometry s → s.calls t ≡ Some (call.Map (map.Leave p))
    → p.answer ≡ answer.Mapped base → p.map.reserve ≡ true → p.map.file ≡ k
    → is_within p.map.from (p.map.from + p.map.len) j ≡ true
    → (s.reserved k j ≡ true) × (j < s.size k) × ((u : ℕ) → u ≢ t → removes (s.calls u) k j ≡ false)
mapped_at s t p base k j h e mapped reserves file within =
    let y = stands_at s t _ h e in
    let o = y.facts.mapped (ap is_mapped mapped) in
    let held : s.locks k ≡ Some t = ap s.locks (sym file) ∙ y.lock in
    let b : j < p.map.from + p.map.len = below p.map.from (p.map.from + p.map.len) j within in (
      ap (λ (m : ℕ). s.reserved m j) (sym file) ∙ o.0 reserves j within,
      (let l = o.1 in let z : s.size k ≡ s.size p.map.file = ap s.size (sym file) in omega arith),
      λ u d. elim (true_or (removes (s.calls u) k j)) [
        | inr q ↦ q
        | inl q ↦ absurd (d (same_holder u t (s.locks k) (locks_file s.geometry s u k h (removes_locked (s.calls u) k j q)) held))
      ],
    )
  where
    below : (from to j : ℕ) → is_within from to j ≡ true → j < to
    below from to j e = grind (arith, nat_tests)

-- a map that leaves with Mapped keeps its range
mapped_call : (s : State) (t : ℕ) (killed grant : Bool) (p : Leave) (o : Outcome) (pool : Pool) (next : Option Call) (base k j : ℕ)
    → Inv s.geometry s → s.calls t ≡ Some (call.Map (map.Leave p)) → CallRow (pool_of s) t killed grant (call.Map (map.Leave p)) o pool next
    → o ≡ outcome.Ended (answer.Mapped base) → p.map.reserve ≡ true → in_map p.map k j ≡ true
    → (next ≡ None) × (pool.reserved k j ≡ true) × (j < pool.size k) × ((u : ℕ) → u ≢ t → removes (s.calls u) k j ≡ false)
unfolding CallRow
mapped_call s t killed grant p o pool next base k j h e (turn, row, tells, leaves) is reserves within =
    let mapped : p.answer ≡ answer.Mapped base = same (sym (tells ∙ ap (outcome_of call.Map) row.0) ∙ is) in
    let place = both_true (p.map.file == k) _ within in
    let x = mapped_at s t p base k j h e mapped reserves (same_of p.map.file k place.0) place.1 in (
      leaves ∙ ap (left call.Map) row.0,
      ap (λ (m : Pool). m.reserved k j) row.1 ∙ x.0,
      (let z : pool.size k ≡ s.size k = ap (λ (m : Pool). m.size k) row.1 in let y = x.1 in omega arith),
      x.2,
    )
  where
    same : {a b : Answer} → outcome.Ended a ≡ outcome.Ended b → a ≡ b
    same z = cc

-- a call that can promise an index is a map that reserves, at its leave
promising : (c : Call) (k j : ℕ) → can_promise (Some c) k j ≡ true → (p : Leave) × (c ≡ call.Map (map.Leave p)) × (p.map.reserve ≡ true)
    × (in_map p.map k j ≡ true)
promising (call.Map (map.Leave p)) k j e = let o = both_true p.map.reserve _ e in (p, refl, o.0, o.1)
promising c k j e = never e

-- one index is kept by a step
kept_step : (s : State) (t : ℕ) (grant : Bool) (c : Call) (o : Outcome) (pool : Pool) (next : Option Call) (ms : List Moment) (k j : ℕ)
    (after : State)
    → Always s → s.calls t ≡ Some c → CallRow (pool_of s) t (is_killed (s.life t)) grant c o pool next → Kept s ms
    → IsPromised k j (moment s (Step t grant) o after ∷ ms)
    → KeptAt (record (with_pool s pool) { life = lives_after s.life t c next; calls = put s.calls t next }) k j
kept_step s t grant c o pool next ms k j after h e row kept now = elim now [
  | inl m ↦ (let there : Some c ≡ s.calls m.0 = sym e ∙ ap s.calls (same_task m.3) in
      let p = promising c k j (ap (λ (d : Option Call). can_promise d k j) there ∙ m.5) in
      let leave = subst (λ (d : Call). CallRow (pool_of s) t (is_killed (s.life t)) grant d o pool next) p.1 row in
      let x = mapped_call s t (is_killed (s.life t)) grant p.0 o pool next m.2 k j h.inv
      (e ∙ ap (λ (d : Call). Some d) p.1) leave m.4 p.2 p.3 in (
        x.1,
        x.2,
        λ u. elim (same_or_other u t) [
          | inl q ↦ ap (λ (d : ℕ). removes (put s.calls t next d) k j) q
              ∙ ap (λ (d : Option Call). removes d k j) (put_same s.calls t next ∙ x.0)
          | inr q ↦ ap (λ (d : Option Call). removes d k j) (put_other s.calls t next u q) ∙ x.3 u q
        ],
      ))
  | inr still ↦ (let x = kept k j still.1 in
      let quiet : removes (Some c) k j ≡ false = ap (λ (d : Option Call). removes d k j) (sym e) ∙ x.2 t in
      let is = h.lives.there t (h.lives.busy t c e) in
      elim (call_steps s t 0 (is_killed (s.life t)) grant c o pool next h.inv is.0 (let z = is.1 in omega arith) e row) [
        | inl w ↦ subst (λ (n : State). KeptAt n k j) (sym (same_state s t c pool next e w.2 w.3)) x
        | inr w ↦ (
          (elim (w.keeps k j x.0) [ inl a ↦ a | inr a ↦ clash (removes (Some c) k j) (removes_deleted c k j a s t h.inv e) quiet ]),
          (elim (w.grows k) [
            | inl a ↦ (let z = x.1 in omega arith)
            | inr a ↦
                size_set s t (is_killed (s.life t)) grant c o pool next k j row a quiet
          ]),
          λ u. elim (same_or_other u t) [
            | inr q ↦ ap (λ (d : Option Call). removes d k j) (put_other s.calls t next u q) ∙ x.2 u
            | inl q ↦ ap (λ (d : ℕ). removes (put s.calls t next d) k j) q
                ∙ (ap (λ (d : Option Call). removes d k j) (put_same s.calls t next) ∙ elim (true_or (removes next k j)) [
                  | inr a ↦ a
                  | inl a ↦ elim (next_removes s t (is_killed (s.life t)) grant c o pool next k j row w.free a) [
                    | inl b ↦ clash (removes (Some c) k j) b quiet
                    | inr b ↦ absurd (still.0 (t, grant, b.0, refl, b.1, ap (λ (d : Option Call). can_take_back d k j) e ∙ b.2))
                  ]
                ])
          ],
        )
      ])
]
  where
    same_task : {u : ℕ} {b : Bool} → Step t grant ≡ Step u b → t ≡ u
    same_task z = cc

-- a call that has just begun removes nothing
begun_removes : (p : Op) (k j : ℕ) → removes (Some (first p)) k j ≡ false
begun_removes (op.Map f from len) k j = refl
begun_removes (op.MapNoReserve f from len) k j = refl
begun_removes (op.Unmap base) k j = refl
begun_removes (op.Load v) k j = refl
begun_removes (op.Store v w) k j = refl
begun_removes (op.Alloc f from len keep) k j = refl
begun_removes (op.Punch f from len) k j = refl
begun_removes (op.Truncate f new) k j = refl
begun_removes op.Exit k j = refl

-- what was promised before an event that is no step of a call still is, and the event promises nothing
still_promised : (s : State) (event : Event) (o : Outcome) (n : State) (ms : List Moment) (k j : ℕ)
    → ((base : ℕ) → o ≡ outcome.Ended (answer.Mapped base) → ⊥)
    → IsPromised k j (moment s event o n ∷ ms) → IsPromised k j ms
still_promised s event o n ms k j no_end now = elim now [ inl m ↦ absurd (no_end m.2 m.4) | inr still ↦ still.1 ]

-- what is refused ends no call
refused_ends : (o : Outcome) (why : Refusal) → o ≡ outcome.Refused why → (base : ℕ) → o ≡ outcome.Ended (answer.Mapped base) → ⊥
refused_ends o why e base d = (let z : outcome.Refused why ≡ outcome.Ended (answer.Mapped base) = sym e ∙ d in absurd (cc))

-- an event that changes no pool and takes no promise back keeps them
same_kept : (s : State) (event : Event) (o : Outcome) (n : State) (ms : List Moment) (why : Refusal) → Kept s ms → o ≡ outcome.Refused why
    → n ≡ s → Kept n (moment s event o n ∷ ms)
same_kept s event o n ms why kept e d k j now =
    subst (λ (m : State). KeptAt m k j) (sym d) (kept k j (still_promised s event o n ms k j (refused_ends o why e) now))

-- each event keeps what is promised after it
pub kept_row : (s : State) (event : Event) (o : Outcome) (n : State) (ms : List Moment) → Always s → Kept s ms → Row s event o n
    → Kept n (moment s event o n ∷ ms)
kept_row s (Begin t p) o n ms h kept row = begin_cases s t p o n (Kept n (moment s (Begin t p) o n ∷ ms)) row
    (λ why e d. same_kept s (Begin t p) o n ms why kept e d)
    (λ lives none may e d k j now. let x = kept k j (still_promised s (Begin t p) o n ms k j (λ base z. begun_ends (sym e ∙ z)) now) in
    subst (λ (m : State). KeptAt m k j) (sym d) (
      x.0,
      x.1,
      λ u. elim (same_or_other u t) [
        | inl q ↦ ap (λ (c : ℕ). removes (put s.calls t (Some (first p)) c) k j) q
            ∙ (ap (λ (c : Option Call). removes c k j) (put_same s.calls t (Some (first p))) ∙ begun_removes p k j)
        | inr q ↦ ap (λ (c : Option Call). removes c k j) (put_other s.calls t (Some (first p)) u q) ∙ x.2 u
      ],
    ))
  where
    begun_ends : {a : Answer} → outcome.Begun ≡ outcome.Ended a → ⊥
    begun_ends z = cc
kept_row s (Kill t) o n ms h kept row = kill_cases s t o n (Kept n (moment s (Kill t) o n ∷ ms)) row
    (λ why e d. same_kept s (Kill t) o n ms why kept e d)
    (λ alive e d k j now. subst (λ (m : State). KeptAt m k j) (sym d)
    (kept k j (still_promised s (Kill t) o n ms k j (λ base z. marked_ends (sym e ∙ z)) now)))
  where
    marked_ends : {a : Answer} → outcome.Marked ≡ outcome.Ended a → ⊥
    marked_ends z = cc
kept_row s (Resize size) o n ms h kept row = resize_cases s size o n (Kept n (moment s (Resize size) o n ∷ ms)) row
    (λ why e d. same_kept s (Resize size) o n ms why kept e d)
    (λ told m frame e shifts _ d k j now. subst (λ (m : State). KeptAt m k j) (sym d)
    (kept k j (still_promised s (Resize size) o n ms k j (λ base z. resized_ends (sym e ∙ z)) now)))
  where
    resized_ends : {told : ℕ} {a : Answer} → outcome.Resized told ≡ outcome.Ended a → ⊥
    resized_ends z = cc
kept_row s (Step t grant) o n ms h kept row = step_cases s t grant o n (Kept n (moment s (Step t grant) o n ∷ ms)) row
    (λ why e d. same_kept s (Step t grant) o n ms why kept e d)
    (λ c lives e pool next r d k j now. subst (λ (m : State). KeptAt m k j) (sym d)
    (kept_step s t grant c o pool next ms k j n h e r kept now))

-- what a history has promised is reserved, below the size, and nobody removes it
pub promised_kept : (g : Geometry) (frames : ℕ) (ms : List Moment) (s : State) → History g frames ms s → Kept s ms
promised_kept g frames [] s h = λ k j now. absurd now
promised_kept g frames (m ∷ ms) s h =
    let well = history_well g frames ms m.before h.2 in
    let now = kept_row m.before m.event m.outcome m.after ms well (promised_kept g frames ms m.before h.2) h.1 in
    subst (λ (n : State). Kept n (m ∷ ms)) h.0 now

-- what is promised is reserved and below the size
pub promised_reserved : (g : Geometry) (frames : ℕ) (ms : List Moment) (s : State) (f i : ℕ) → History g frames ms s → IsPromised f i ms
    → (s.reserved f i ≡ true) × (i < s.size f)
promised_reserved g frames ms s f i h is = let x = promised_kept g frames ms s h f i is in (x.0, x.1)

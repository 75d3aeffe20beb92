-- What is promised is reserved and below the size, and nobody removes it.
use Rattle.std.proofs.Common.{◌≡◌, ℕ, ◌+◌, ◌<◌, ◌≤◌, refl, ap, sym, ◌∙◌, subst, arith, inl, inr, ◌⊎◌}
use Rattle.std.specs.Prelude.{Bool, true, false, not, ◌==◌, ◌&&◌, ◌||◌, nat_lt, nat_le, max, is_some, Option, Some, None, List}
use Rattle.std.proofs.lemmas.Bool.Decides.{nat_tests}
use Rattle.hp_base.specs.Numbers.{put}
use Rattle.hp_base.specs.Indices.{is_within, splits}
use Rattle.hp_base.specs.declared.answer.Answer.{Answer}
use Rattle.hp_base.proofs.Puts.{put_same}
use Rattle.hp_machine.specs.State.{Pool, State, pool_of, slot_of}
use Rattle.hp_machine.specs.PunchRows.{PunchRow}
use Rattle.hp_machine.specs.TruncateRows.{TruncateRow}
use Rattle.hp_machine.specs.Events.{CallRow, outcome_of, left, word_of}
use Rattle.hp_machine.specs.Views.{locked_file}
use Rattle.hp_machine.specs.declared.punch.Hole.{Hole}
use Rattle.hp_machine.specs.declared.punch.PunchPhase.{PunchPhase}
use Rattle.hp_machine.specs.declared.punch.PunchPhase.TheVariants as punch
use Rattle.hp_machine.specs.declared.truncate.Truncation.{Truncation}
use Rattle.hp_machine.specs.declared.truncate.TruncatePhase.{TruncatePhase}
use Rattle.hp_machine.specs.declared.truncate.TruncatePhase.TheVariants as truncate
use Rattle.hp_machine.specs.declared.phase.Phase.{Phase}
use Rattle.hp_machine.specs.declared.outcome.Outcome.{Outcome}
use Rattle.hp_machine.specs.declared.outcome.Outcome.TheVariants as outcome
use Rattle.hp_machine.specs.declared.call.Call.{Call}
use Rattle.hp_machine.specs.declared.call.Call.TheVariants as call
use Rattle.hp_machine.specs.declared.call.Turn.{Turn}
use Rattle.hp_machine.specs.declared.call.Turn.TheVariants.{Moved, Blocked, Ended}
use Rattle.hp_laws.specs.Bounds.{sizes}
use Rattle.hp_laws.specs.Protocol.{truncation_of}
use Rattle.hp_laws.specs.Histories.{Moment}
use Rattle.hp_laws.specs.Promises.{in_hole, is_cut, can_take_back, IsPromised}
use Rattle.hp_base.proofs.Spaces.{both_true}
use Rattle.hp_laws.proofs.Deciding.{same_of, file_told, never, clash}
use Rattle.hp_laws.proofs.Invariant.{Inv}
use Rattle.hp_laws.proofs.Shared.{by_test, by_option, stands_at}
use Rattle.hp_laws.proofs.Deletes.{deletes}

-- the range of a punch, in each phase
abbrev pub hole_of : PunchPhase → Hole
hole_of (punch.Start p) = p.hole
hole_of (punch.Want p) = p.hole
hole_of (punch.Locked p) = p.hole
hole_of (punch.Unmap p) = p.hole
hole_of (punch.Evict p) = p.hole
hole_of (punch.Delete p) = p.hole
hole_of (punch.Free p) = p.hole
hole_of (punch.Unslot p) = p.hole
hole_of (punch.Leave p) = p.hole

-- the punch has taken the file's lock
abbrev pub past_punch : PunchPhase → Bool
past_punch (punch.Start p) = false
past_punch other = true

-- the truncation has taken the file's lock
abbrev pub past_truncate : TruncatePhase → Bool
past_truncate (truncate.Start p) = false
past_truncate other = true

-- the call takes that index out of the reserved ones, or did, or may
abbrev pub removes : Option Call → (file index : ℕ) → Bool
removes (Some (call.Punch phase)) f i = past_punch phase && in_hole (hole_of phase) f i
removes (Some (call.Truncate phase)) f i = past_truncate phase && is_cut (truncation_of phase) f i
removes other f i = false

-- what holds of a promised index: it is reserved, below the size, and nobody removes it
abbrev pub KeptAt : State → ℕ → ℕ → Type 0
KeptAt s k j = (s.reserved k j ≡ true) × (j < s.size k) × ((u : ℕ) → removes (s.calls u) k j ≡ false)

-- it holds of what these moments promised
abbrev pub Kept : State → List Moment → Type 0
Kept s ms = (k j : ℕ) → IsPromised k j ms → KeptAt s k j

-- a punch past its start holds the lock of its file
hole_locked : (phase : PunchPhase) → past_punch phase ≡ true → locked_file (Some (call.Punch phase)) ≡ Some (hole_of phase).file
hole_locked (punch.Start p) e = never e
hole_locked (punch.Want p) e = refl
hole_locked (punch.Locked p) e = refl
hole_locked (punch.Unmap p) e = refl
hole_locked (punch.Evict p) e = refl
hole_locked (punch.Delete p) e = refl
hole_locked (punch.Free p) e = refl
hole_locked (punch.Unslot p) e = refl
hole_locked (punch.Leave p) e = refl

-- so does a truncation
cut_locked : (phase : TruncatePhase) → past_truncate phase ≡ true
    → locked_file (Some (call.Truncate phase)) ≡ Some (truncation_of phase).file
cut_locked (truncate.Start p) e = never e
cut_locked (truncate.Size p) e = refl
cut_locked (truncate.Want p) e = refl
cut_locked (truncate.Locked p) e = refl
cut_locked (truncate.Unmap p) e = refl
cut_locked (truncate.Evict p) e = refl
cut_locked (truncate.Free p) e = refl
cut_locked (truncate.Unslot p) e = refl
cut_locked (truncate.Tail p) e = refl
cut_locked (truncate.Settle p) e = refl
cut_locked (truncate.Leave p) e = refl

-- who removes an index holds the file's lock
pub removes_locked : (c : Option Call) (k j : ℕ) → removes c k j ≡ true → locked_file c ≡ Some k
removes_locked (Some (call.Punch phase)) k j e =
    let o = both_true (past_punch phase) _ e in
    hole_locked phase o.0 ∙ file_told (hole_of phase).file k _ o.1
removes_locked (Some (call.Truncate phase)) k j e =
    let o = both_true (past_truncate phase) _ e in
    cut_locked phase o.0 ∙ file_told (truncation_of phase).file k _ o.1
removes_locked c k j e = never e

-- what the next step takes out is removed
pub removes_deleted : (c : Call) (k j : ℕ) → deletes (Some c) k j ≡ true → (s : State) (t : ℕ) → Inv s.geometry s
    → s.calls t ≡ Some c → removes (Some c) k j ≡ true
removes_deleted (call.Punch (punch.Delete p)) k j e s t h d =
    let y = stands_at s t _ h d in
    let o = both_true (p.hole.file == k) _ e in
    let same : p.index ≡ j = same_of p.index j o.1 in
    here p.hole.file p.hole.from p.hole.len k j (same_of p.hole.file k o.0) (let a = y.facts.aim.above in omega arith)
    (let a = y.facts.aim.below in omega arith)
  where
    here : (f from len k j : ℕ) → f ≡ k → from ≤ j → j < from + len → ((f == k) && is_within from (from + len) j) ≡ true
    here f from len k j a b c = grind (arith, nat_tests)
removes_deleted (call.Truncate (truncate.Tail p)) k j e s t h d = e
removes_deleted c k j e s t h d = never e

-- a turn that moved, moved to one phase
moved_is : {P : Type 0} {p q : P} {turn : Turn P} → turn ≡ Moved p → turn ≡ Moved q → q ≡ p
moved_is {P} {p} {q} e d = (let z : ◌≡◌ {A = Turn P} (Moved q) (Moved p) = sym d ∙ e in cc)

-- and has not ended
not_ended : {P Q : Type 0} {q : P} {a : Answer} {turn : Turn P} → turn ≡ Ended a → turn ≡ Moved q → Q
not_ended {P} {q = q} {a = a} e d = (let z : ◌≡◌ {A = Turn P} (Moved q) (Ended a) = sym d ∙ e in absurd (cc))

-- nor is it blocked
not_blocked : {P Q : Type 0} {p q : P} {u : ℕ} {turn : Turn P} → turn ≡ Blocked p u → turn ≡ Moved q → Q
not_blocked {P} {p = p} {q = q} {u = u} e d = (let z : ◌≡◌ {A = Turn P} (Moved q) (Blocked p u) = sym d ∙ e in absurd (cc))

-- a punch that moves works at the same hole
punch_hole : (s : State) (t : ℕ) (killed grant : Bool) (phase q : PunchPhase) (turn : Turn PunchPhase) (new : Pool)
    → PunchRow (pool_of s) t killed grant phase turn new → turn ≡ Moved q → hole_of q ≡ hole_of phase
punch_hole s t killed grant (punch.Start p) q turn new row d =
    by_test (nat_le s.geometry.files p.hole.file) row (λ _ r. not_ended r.0 d)
    (λ _ r. by_test ((p.hole.len == 0) || nat_lt s.geometry.limit (p.hole.from + p.hole.len)) r
    (λ _ r. not_ended r.0 d)
    (λ _ r. by_test killed r (λ _ r. not_ended r.0 d)
    (λ _ r. by_option (s.locks p.hole.file) r (λ _ r. ap hole_of (moved_is r.0 d)) (λ u _ r. not_blocked r.0 d))))
punch_hole s t killed grant (punch.Want p) q turn new row d =
    by_option (s.slots (slot_of s.geometry p.hole.file p.index)) row (λ _ r. ap hole_of (moved_is r.0 d))
    (λ u _ r. not_blocked r.0 d)
punch_hole s t killed grant (punch.Locked p) q turn new row d =
    by_test (is_some (s.pages p.hole.file p.index)) row (λ _ r. ap hole_of (moved_is r.0 d)) (λ _ r. ap hole_of (moved_is r.0 d))
punch_hole s t killed grant (punch.Unmap p) q turn new row d =
    by_test (nat_lt p.task s.geometry.tasks) row (λ _ r. ap hole_of (moved_is r.0 d)) (λ _ r. ap hole_of (moved_is r.0 d))
punch_hole s t killed grant (punch.Evict p) q turn new (x, page, row) d = ap hole_of (moved_is row.0 d)
punch_hole s t killed grant (punch.Delete p) q turn new row d =
    by_test (splits (s.reserved p.hole.file) p.index && nat_le (s.spare p.hole.file) (s.pending p.hole.file)
    && not grant) row (λ _ r. ap hole_of (moved_is r.0 d)) (λ _ r. ap hole_of (moved_is r.0 d))
punch_hole s t killed grant (punch.Free p) q turn new row d =
    by_test p.denied row (λ _ r. ap hole_of (moved_is r.0 d)) (λ _ r. ap hole_of (moved_is r.1.0 d))
punch_hole s t killed grant (punch.Unslot p) q turn new row d =
    by_test (nat_lt (p.index + 1) (p.hole.from + p.hole.len)) row (λ _ r. ap hole_of (moved_is r.0 d))
    (λ _ r. ap hole_of (moved_is r.0 d))
punch_hole s t killed grant (punch.Leave p) q turn new row d = not_ended row.0 d

-- a truncation that moves cuts at the same size
truncate_cut : (s : State) (t : ℕ) (killed grant : Bool) (phase q : TruncatePhase) (turn : Turn TruncatePhase) (new : Pool)
    → TruncateRow (pool_of s) t killed grant phase turn new → turn ≡ Moved q → truncation_of q ≡ truncation_of phase
truncate_cut s t killed grant (truncate.Start p) q turn new row d =
    by_test (nat_le s.geometry.files p.truncation.file) row (λ _ r. not_ended r.0 d)
    (λ _ r. by_test (nat_lt s.geometry.limit p.truncation.new) r (λ _ r. not_ended r.0 d)
    (λ _ r. by_test killed r (λ _ r. not_ended r.0 d)
    (λ _ r. by_option (s.locks p.truncation.file) r (λ _ r. ap truncation_of (moved_is r.0 d)) (λ u _ r. not_blocked r.0 d))))
truncate_cut s t killed grant (truncate.Size p) q turn new (end, is_end, row) d =
    by_test (nat_lt p.truncation.new (max (s.size p.truncation.file) end)) row
    (λ _ r. ap truncation_of (moved_is r.0 d)) (λ _ r. ap truncation_of (moved_is r.0 d))
truncate_cut s t killed grant (truncate.Want p) q turn new row d =
    by_option (s.slots (slot_of s.geometry p.truncation.file p.index)) row (λ _ r. ap truncation_of (moved_is r.0 d))
    (λ u _ r. not_blocked r.0 d)
truncate_cut s t killed grant (truncate.Locked p) q turn new row d =
    by_test (is_some (s.pages p.truncation.file p.index)) row (λ _ r. ap truncation_of (moved_is r.0 d))
    (λ _ r. ap truncation_of (moved_is r.0 d))
truncate_cut s t killed grant (truncate.Unmap p) q turn new row d =
    by_test (nat_lt p.task s.geometry.tasks) row (λ _ r. ap truncation_of (moved_is r.0 d))
    (λ _ r. ap truncation_of (moved_is r.0 d))
truncate_cut s t killed grant (truncate.Evict p) q turn new (x, page, row) d = ap truncation_of (moved_is row.0 d)
truncate_cut s t killed grant (truncate.Free p) q turn new row d = ap truncation_of (moved_is row.0 d)
truncate_cut s t killed grant (truncate.Unslot p) q turn new row d =
    by_test (nat_lt p.truncation.new p.index) row (λ _ r. ap truncation_of (moved_is r.0 d))
    (λ _ r. ap truncation_of (moved_is r.0 d))
truncate_cut s t killed grant (truncate.Tail p) q turn new row d = ap truncation_of (moved_is row.0 d)
truncate_cut s t killed grant (truncate.Settle p) q turn new (low, used, row) d = ap truncation_of (moved_is row.0 d)
truncate_cut s t killed grant (truncate.Leave p) q turn new row d = not_ended row.0 d

-- a call removes an index after a step only where it did before, or took the promise back just then
abbrev pub Removes : Call → Outcome → ℕ → ℕ → Type 0
Removes c o k j = (removes (Some c) k j ≡ true) ⊎ ((phase : Phase) × (o ≡ outcome.Moved phase) × (can_take_back (Some c) k j ≡ true))

-- a punch that removes an index after a move did so before, or has just taken its lock
punch_removes : (phase q : PunchPhase) (k j : ℕ) → hole_of q ≡ hole_of phase → removes (Some (call.Punch q)) k j ≡ true
    → Removes (call.Punch phase) (outcome.Moved (word_of (call.Punch q))) k j
punch_removes (punch.Start p) q k j same e =
    inr (word_of (call.Punch q), refl, ap (λ (m : Hole). in_hole m k j) (sym same) ∙ (both_true (past_punch q) _ e).1)
punch_removes (punch.Want p) q k j same e = inl (ap (λ (m : Hole). in_hole m k j) (sym same) ∙ (both_true (past_punch q) _ e).1)
punch_removes (punch.Locked p) q k j same e = inl (ap (λ (m : Hole). in_hole m k j) (sym same) ∙ (both_true (past_punch q) _ e).1)
punch_removes (punch.Unmap p) q k j same e = inl (ap (λ (m : Hole). in_hole m k j) (sym same) ∙ (both_true (past_punch q) _ e).1)
punch_removes (punch.Evict p) q k j same e = inl (ap (λ (m : Hole). in_hole m k j) (sym same) ∙ (both_true (past_punch q) _ e).1)
punch_removes (punch.Delete p) q k j same e = inl (ap (λ (m : Hole). in_hole m k j) (sym same) ∙ (both_true (past_punch q) _ e).1)
punch_removes (punch.Free p) q k j same e = inl (ap (λ (m : Hole). in_hole m k j) (sym same) ∙ (both_true (past_punch q) _ e).1)
punch_removes (punch.Unslot p) q k j same e = inl (ap (λ (m : Hole). in_hole m k j) (sym same) ∙ (both_true (past_punch q) _ e).1)
punch_removes (punch.Leave p) q k j same e = inl (ap (λ (m : Hole). in_hole m k j) (sym same) ∙ (both_true (past_punch q) _ e).1)

-- so with a truncation
truncate_removes : (phase q : TruncatePhase) (k j : ℕ) → truncation_of q ≡ truncation_of phase
    → removes (Some (call.Truncate q)) k j ≡ true → Removes (call.Truncate phase) (outcome.Moved (word_of (call.Truncate q))) k j
truncate_removes (truncate.Start p) q k j same e =
    inr (word_of (call.Truncate q), refl, ap (λ (m : Truncation). is_cut m k j) (sym same) ∙ (both_true (past_truncate q) _ e).1)
truncate_removes (truncate.Size p) q k j same e =
    inl (ap (λ (m : Truncation). is_cut m k j) (sym same) ∙ (both_true (past_truncate q) _ e).1)
truncate_removes (truncate.Want p) q k j same e =
    inl (ap (λ (m : Truncation). is_cut m k j) (sym same) ∙ (both_true (past_truncate q) _ e).1)
truncate_removes (truncate.Locked p) q k j same e =
    inl (ap (λ (m : Truncation). is_cut m k j) (sym same) ∙ (both_true (past_truncate q) _ e).1)
truncate_removes (truncate.Unmap p) q k j same e =
    inl (ap (λ (m : Truncation). is_cut m k j) (sym same) ∙ (both_true (past_truncate q) _ e).1)
truncate_removes (truncate.Evict p) q k j same e =
    inl (ap (λ (m : Truncation). is_cut m k j) (sym same) ∙ (both_true (past_truncate q) _ e).1)
truncate_removes (truncate.Free p) q k j same e =
    inl (ap (λ (m : Truncation). is_cut m k j) (sym same) ∙ (both_true (past_truncate q) _ e).1)
truncate_removes (truncate.Unslot p) q k j same e =
    inl (ap (λ (m : Truncation). is_cut m k j) (sym same) ∙ (both_true (past_truncate q) _ e).1)
truncate_removes (truncate.Tail p) q k j same e =
    inl (ap (λ (m : Truncation). is_cut m k j) (sym same) ∙ (both_true (past_truncate q) _ e).1)
truncate_removes (truncate.Settle p) q k j same e =
    inl (ap (λ (m : Truncation). is_cut m k j) (sym same) ∙ (both_true (past_truncate q) _ e).1)
truncate_removes (truncate.Leave p) q k j same e =
    inl (ap (λ (m : Truncation). is_cut m k j) (sym same) ∙ (both_true (past_truncate q) _ e).1)

-- so by the rows of a punch, where it isn't blocked
punch_next : (s : State) (t : ℕ) (killed grant : Bool) (phase : PunchPhase) (turn : Turn PunchPhase) (new : Pool) (k j : ℕ)
    → PunchRow (pool_of s) t killed grant phase turn new → ((u : ℕ) → outcome_of call.Punch turn ≡ outcome.Blocked u → ⊥)
    → removes (left call.Punch turn) k j ≡ true → Removes (call.Punch phase) (outcome_of call.Punch turn) k j
punch_next s t killed grant phase (Moved q) new k j row free e =
    punch_removes phase q k j (punch_hole s t killed grant phase q (Moved q) new row refl) e
punch_next s t killed grant phase (Blocked q u) new k j row free e = absurd (free u refl)
punch_next s t killed grant phase (Ended a) new k j row free e = never e

-- and by those of a truncation
truncate_next : (s : State) (t : ℕ) (killed grant : Bool) (phase : TruncatePhase) (turn : Turn TruncatePhase) (new : Pool) (k j : ℕ)
    → TruncateRow (pool_of s) t killed grant phase turn new → ((u : ℕ) → outcome_of call.Truncate turn ≡ outcome.Blocked u → ⊥)
    → removes (left call.Truncate turn) k j ≡ true → Removes (call.Truncate phase) (outcome_of call.Truncate turn) k j
truncate_next s t killed grant phase (Moved q) new k j row free e =
    truncate_removes phase q k j (truncate_cut s t killed grant phase q (Moved q) new row refl) e
truncate_next s t killed grant phase (Blocked q u) new k j row free e = absurd (free u refl)
truncate_next s t killed grant phase (Ended a) new k j row free e = never e

-- a call of another operation removes nothing after any turn
quiet_next : {P : Type 0} (call : P → Call) (turn : Turn P) (k j : ℕ) → ((p : P) → removes (Some (call p)) k j ≡ false)
    → removes (left call turn) k j ≡ false
quiet_next call (Moved p) k j h = h p
quiet_next call (Blocked p u) k j h = h p
quiet_next call (Ended a) k j h = refl

-- of the call that a step leaves
pub next_removes : (s : State) (t : ℕ) (killed grant : Bool) (c : Call) (o : Outcome) (new : Pool) (next : Option Call) (k j : ℕ)
    → CallRow (pool_of s) t killed grant c o new next → ((u : ℕ) → o ≡ outcome.Blocked u → ⊥) → removes next k j ≡ true
    → Removes c o k j
unfolding CallRow
next_removes s t killed grant (call.Punch p) o new next k j (turn, row, tells, leaves) free e =
    subst (λ (m : Outcome). Removes (call.Punch p) m k j) (sym tells)
    (punch_next s t killed grant p turn new k j row (λ u d. free u (tells ∙ d))
    (ap (λ (m : Option Call). removes m k j) (sym leaves) ∙ e))
next_removes s t killed grant (call.Truncate p) o new next k j (turn, row, tells, leaves) free e =
    subst (λ (m : Outcome). Removes (call.Truncate p) m k j) (sym tells)
    (truncate_next s t killed grant p turn new k j row (λ u d. free u (tells ∙ d))
    (ap (λ (m : Option Call). removes m k j) (sym leaves) ∙ e))
next_removes s t killed grant (call.Touch p) o new next k j (turn, row, tells, leaves) free e =
    clash (removes next k j) e (ap (λ (m : Option Call). removes m k j) leaves ∙ quiet_next call.Touch turn k j (λ q. refl))
next_removes s t killed grant (call.Map p) o new next k j (turn, row, tells, leaves) free e =
    clash (removes next k j) e (ap (λ (m : Option Call). removes m k j) leaves ∙ quiet_next call.Map turn k j (λ q. refl))
next_removes s t killed grant (call.Alloc p) o new next k j (turn, row, tells, leaves) free e =
    clash (removes next k j) e (ap (λ (m : Option Call). removes m k j) leaves ∙ quiet_next call.Alloc turn k j (λ q. refl))
next_removes s t killed grant (call.Unmap p) o new next k j (turn, row, tells, leaves) free e =
    clash (removes next k j) e (ap (λ (m : Option Call). removes m k j) leaves ∙ quiet_next call.Unmap turn k j (λ q. refl))
next_removes s t killed grant (call.Exit p) o new next k j (turn, row, tells, leaves) free e =
    clash (removes next k j) e (ap (λ (m : Option Call). removes m k j) leaves ∙ quiet_next call.Exit turn k j (λ q. refl))

-- where a call sets a size, what it doesn't remove stays below it
pub size_set : (s : State) (t : ℕ) (killed grant : Bool) (c : Call) (o : Outcome) (new : Pool) (next : Option Call) (k j : ℕ)
    → CallRow (pool_of s) t killed grant c o new next → sizes (Some c) ≡ Some k → removes (Some c) k j ≡ false → j < new.size k
unfolding CallRow
size_set s t killed grant (call.Truncate (truncate.Size p)) o new next k j (turn, (end, is_end, row), tells, leaves) e quiet =
    by_test (nat_lt p.truncation.new (max (s.size p.truncation.file) end)) row (λ _ r. low r.1) (λ _ r. low r.1)
  where
    same : {a b : ℕ} → Some a ≡ Some b → a ≡ b
    same z = cc

    below : (f k new j : ℕ) → f ≡ k → ((f == k) && nat_le new j) ≡ false → j < new
    below f k new j a b = grind (arith, nat_tests)

    low : new ≡ record (pool_of s) { size = put s.size p.truncation.file p.truncation.new } → j < new.size k
    low d =
        let z : new.size k ≡ p.truncation.new = ap (λ (m : Pool). m.size k) d
        ∙ (ap (put s.size p.truncation.file p.truncation.new) (sym (same e))
        ∙ put_same s.size p.truncation.file p.truncation.new) in
        let y = below p.truncation.file k p.truncation.new j (same e) quiet in omega arith
size_set s t killed grant c o new next k j row e quiet = (let d : ◌≡◌ {A = Option ℕ} None (Some k) = e in absurd (cc))

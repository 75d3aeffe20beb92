-- A touch that finds its index reserved gets its frame, and one whose index is promised all along is served.
use Rattle.std.proofs.Common.{◌≡◌, ◌≢◌, ℕ, ◌+◌, refl, ap, sym, ◌∙◌, subst, arith, inl, inr, ◌⊎◌}
use Rattle.std.specs.Prelude.{Bool, true, false, not, ◌&&◌, ◌==◌, nat_lt, nat_le, Option, Some, None}
use Rattle.std.proofs.lemmas.Bool.Decides.{nat_tests}
use Rattle.hp_base.specs.Numbers.{put, bit}
use Rattle.hp_base.specs.Indices.{missing}
use Rattle.hp_base.specs.declared.answer.Answer.{Answer}
use Rattle.hp_base.specs.declared.event.Op.{Op}
use Rattle.hp_base.specs.declared.event.Event.{Event}
use Rattle.hp_base.specs.declared.event.Event.TheVariants.{Begin, Step, Kill, Resize}
use Rattle.hp_base.proofs.Puts.{put_other, same_or_other}
use Rattle.hp_base.proofs.Sets.{missing_one}
use Rattle.hp_frames.specs.declared.frame.FrameState.TheVariants as state
use Rattle.hp_machine.specs.State.{Pool, State, pool_of, with_pool, is_killed}
use Rattle.hp_machine.specs.Parts.{CommitRow, TakeRow, answer_of}
use Rattle.hp_machine.specs.TouchRows.{TouchRow}
use Rattle.hp_machine.specs.Events.{Row, CallRow, first, outcome_of, left, word_of, lives_after}
use Rattle.hp_machine.specs.declared.touch.Access.{Access}
use Rattle.hp_machine.specs.declared.touch.Access.TheVariants.{Load, Store}
use Rattle.hp_machine.specs.declared.touch.Missing.{Missing}
use Rattle.hp_machine.specs.declared.touch.TouchPhase.{TouchPhase}
use Rattle.hp_machine.specs.declared.touch.TouchPhase.TheVariants as touch
use Rattle.hp_machine.specs.declared.outcome.Life.{Life}
use Rattle.hp_machine.specs.declared.outcome.Life.TheVariants as life
use Rattle.hp_machine.specs.declared.outcome.Outcome.{Outcome}
use Rattle.hp_machine.specs.declared.outcome.Outcome.TheVariants as outcome
use Rattle.hp_machine.specs.declared.outcome.Refusal.{Refusal}
use Rattle.hp_machine.specs.declared.call.Call.{Call}
use Rattle.hp_machine.specs.declared.call.Call.TheVariants as call
use Rattle.hp_machine.specs.declared.call.Turn.{Turn}
use Rattle.hp_machine.specs.declared.call.Turn.TheVariants.{Moved, Blocked, Ended}
use Rattle.hp_laws.specs.Promises.{TellsNoLack}
use Rattle.hp_laws.specs.Bounds.{is_begun}
use Rattle.hp_laws.proofs.Shared.{by_test}
use Rattle.hp_laws.proofs.Runs.{Always}
use Rattle.hp_laws.proofs.Reading.{begin_cases, step_cases, kill_cases, call_steps}
use Rattle.hp_laws.proofs.Resizing.{resize_cases}

-- a turn where a kill isn't noticed
abbrev pub TurnWell : (P : Type 0) → (P → Type 0) → (Answer → Type 0) → Turn P → Type 0
TurnWell P on ends (Moved p) = on p
TurnWell P on ends (Blocked p u) = on p
TurnWell P on ends (Ended a) = ends a

-- what holds of the turn that a row wants holds of the turn that it gives
pub at_leaf : {P : Type 0} (on : P → Type 0) (ends : Answer → Type 0) (wanted turn : Turn P) → turn ≡ wanted
    → TurnWell P on ends wanted → TurnWell P on ends turn
at_leaf {P} on ends wanted turn e h = subst (TurnWell P on ends) (sym e) h

-- where nothing was missing a frame is taken
pub takes : {P : Type 0} (on : P → Type 0) (ends : Answer → Type 0) (s : State) (m : ℕ) (refused : Answer → P) (taken : ℕ → P)
    (turn : Turn P) (new : Pool)
    → m ≡ 0 → TakeRow (pool_of s) m refused taken turn new → ((x : ℕ) → s.frame x ≡ state.Free → on (taken x))
    → TurnWell P on ends turn
takes on ends s m refused taken turn new none row h =
    by_test (m == 0) row
    (λ _ r. at_leaf on ends (Moved (taken r.0)) turn r.3.0 (h r.0 r.1))
    (λ some r. absurd (not_zero m none some))
  where
    not_zero : (m : ℕ) → m ≡ 0 → (m == 0) ≡ false → ⊥
    not_zero m e d = grind (arith, nat_tests)

-- a touch that stands there never answers that there is no frame, nor that the quota is used up
abbrev pub Sure : TouchPhase → Type 0
Sure (touch.Look p) = ⊥
Sure (touch.Want p) = ⊥
Sure (touch.Locked p) = ⊥
Sure (touch.Missing p) = ⊥
Sure (touch.Changed p) = p.pending.missing ≡ 0
Sure (touch.Abort p) = TellsNoLack p.answer
Sure (touch.Taken p) = Unit {0}
Sure (touch.Settle p) = Unit {0}
Sure (touch.Committed p) = Unit {0}
Sure (touch.Restore p) = TellsNoLack p.answer
Sure (touch.Found p) = Unit {0}
Sure (touch.Leave p) = TellsNoLack p.answer

-- an access that finds its page answers no want of a frame
pub answers : (a : Access) (w : ℕ) → TellsNoLack (answer_of a w)
answers Load w = (λ e. cc, λ e. cc)
answers (Store n) w = (λ e. cc, λ e. cc)

-- a commit leads to one of two phases, whatever is missing
pub sure_commit : {P : Type 0} (on : P → Type 0) (ends : Answer → Type 0) (s : State) (f from to m : ℕ)
    (settle next : P) (turn : Turn P) (new : Pool)
    → CommitRow (pool_of s) f (record { from = from; to = to; missing = m }) settle next turn new → on settle → on next
    → TurnWell P on ends turn
sure_commit on ends s f from to m settle next turn new row a b =
    by_test (nat_lt (missing (s.reserved f) from to) m) row (λ _ r. at_leaf on ends _ turn r.0 a)
    (λ _ r. at_leaf on ends _ turn r.0 b)

-- a sure touch goes on to be sure, or ends with any answer but the want of a frame
pub sure_turn : (s : State) (t : ℕ) (killed grant : Bool) (phase : TouchPhase) (turn : Turn TouchPhase) (new : Pool) → Sure phase
    → TouchRow (pool_of s) t killed grant phase turn new → TurnWell TouchPhase Sure TellsNoLack turn
sure_turn s t killed grant (touch.Look p) turn new h row = absurd h
sure_turn s t killed grant (touch.Want p) turn new h row = absurd h
sure_turn s t killed grant (touch.Locked p) turn new h row = absurd h
sure_turn s t killed grant (touch.Missing p) turn new h row = absurd h
sure_turn s t killed grant (touch.Changed p) turn new h row =
    by_test killed row (λ _ r. at_leaf Sure TellsNoLack _ turn r.0 (λ e. cc, λ e. cc))
    (λ _ r. takes Sure TellsNoLack s p.pending.missing (λ a. touch.Abort (record { touch = p.touch; pending = p.pending; answer = a }))
    (λ x. touch.Taken (record { touch = p.touch; pending = p.pending; held = x })) turn new h r (λ x d. tt))
sure_turn s t killed grant (touch.Abort p) turn new h row = at_leaf Sure TellsNoLack _ turn row.0 h
sure_turn s t killed grant (touch.Taken p) turn new h row =
    sure_commit Sure TellsNoLack s p.touch.file p.pending.from p.pending.to p.pending.missing _ _ turn new row tt tt
sure_turn s t killed grant (touch.Settle p) turn new h (low, used, row) = at_leaf Sure TellsNoLack _ turn row.0 tt
sure_turn s t killed grant (touch.Committed p) turn new h row =
    by_test (nat_le (s.size p.touch.file) p.touch.index) row (λ _ r. at_leaf Sure TellsNoLack _ turn r.0 (λ e. cc, λ e. cc))
    (λ _ r. by_test grant r (λ _ r. at_leaf Sure TellsNoLack _ turn r.0 tt) (λ _ r. at_leaf Sure TellsNoLack _ turn r.0 (λ e. cc, λ e. cc)))
sure_turn s t killed grant (touch.Restore p) turn new h row = at_leaf Sure TellsNoLack _ turn row.0 h
sure_turn s t killed grant (touch.Found p) turn new h row =
    by_test (nat_le (s.size p.touch.file) p.touch.index) row (λ _ r. at_leaf Sure TellsNoLack _ turn r.0 (λ e. cc, λ e. cc))
    (λ _ r. by_test grant r (λ _ r. at_leaf Sure TellsNoLack _ turn r.4.0 (answers p.touch.access r.1))
    (λ _ r. at_leaf Sure TellsNoLack _ turn r.0 (λ e. cc, λ e. cc)))
sure_turn s t killed grant (touch.Leave p) turn new h row = at_leaf Sure TellsNoLack _ turn row.0 h

-- nothing of a reserved index is missing
pub missing_none : (r : ℕ → Bool) (i : ℕ) → r i ≡ true → missing r i (i + 1) ≡ 0
missing_none r i e = missing_one r i ∙ ap (λ (b : Bool). bit (not b)) e

-- a touch whose index is reserved as it begins its change is sure from there on, denied or not
pub sure_missing : (s : State) (t : ℕ) (killed grant : Bool) (p : Missing) (turn : Turn TouchPhase) (new : Pool)
    → s.reserved p.touch.file p.touch.index ≡ true → TouchRow (pool_of s) t killed grant (touch.Missing p) turn new
    → TurnWell TouchPhase Sure TellsNoLack turn
sure_missing s t killed grant p turn new e row = by_test ((s.spare p.touch.file == s.pending p.touch.file) && not grant) row
    (λ _ r. at_leaf Sure TellsNoLack _ turn r.0 (λ e. cc, λ e. cc))
    (λ _ r. at_leaf Sure TellsNoLack _ turn r.0 (missing_none (s.reserved p.touch.file) p.touch.index e))

-- the touch goes on as it was seen, over a call that is in flight or over
abbrev pub CallWell : (TouchPhase → Type 0) → Option Call → Type 0
CallWell on None = Unit {0}
CallWell on (Some (call.Touch phase)) = on phase
CallWell on (Some other) = ⊥

-- what holds after a turn holds of the call that it leaves
next_well : (on : TouchPhase → Type 0) (ends : Answer → Type 0) (turn : Turn TouchPhase) → TurnWell TouchPhase on ends turn
    → CallWell on (left call.Touch turn)
next_well on ends (Moved p) h = h
next_well on ends (Blocked p u) h = h
next_well on ends (Ended a) h = tt

-- and of the answer that it tells
end_well : (on : TouchPhase → Type 0) (ends : Answer → Type 0) (turn : Turn TouchPhase) (b : Answer)
    → TurnWell TouchPhase on ends turn → outcome.Ended b ≡ outcome_of call.Touch turn → ends b
end_well on ends (Moved p) b h e = (let z : outcome.Ended b ≡ outcome.Moved (word_of (call.Touch p)) = e in absurd (cc))
end_well on ends (Blocked p u) b h e = (let z : outcome.Ended b ≡ outcome.Blocked u = e in absurd (cc))
end_well on ends (Ended a) b h e = subst ends (same (sym e)) h
  where
    same : {a b : Answer} → outcome.Ended a ≡ outcome.Ended b → a ≡ b
    same z = cc

-- a step of a touch, by its rows
pub touch_call : (s : State) (t : ℕ) (killed grant : Bool) (on from : TouchPhase → Type 0) (ends : Answer → Type 0)
    (c : Call) (o : Outcome) (pool : Pool) (next : Option Call)
    → ((phase : TouchPhase) (turn : Turn TouchPhase) → c ≡ call.Touch phase → from phase
    → TouchRow (pool_of s) t killed grant phase turn pool → TurnWell TouchPhase on ends turn)
    → CallWell from (Some c) → CallRow (pool_of s) t killed grant c o pool next
    → CallWell on next × ((b : Answer) → o ≡ outcome.Ended b → ends b)
unfolding CallRow
touch_call s t killed grant on from ends (call.Touch p) o pool next h w (turn, row, tells, leaves) =
    let y = h p turn refl w row in
    (subst (CallWell on) (sym leaves) (next_well on ends turn y), λ b e. end_well on ends turn b y (sym e ∙ tells))
touch_call s t killed grant on from ends (call.Map p) o pool next h w row = absurd w
touch_call s t killed grant on from ends (call.Alloc p) o pool next h w row = absurd w
touch_call s t killed grant on from ends (call.Punch p) o pool next h w row = absurd w
touch_call s t killed grant on from ends (call.Truncate p) o pool next h w row = absurd w
touch_call s t killed grant on from ends (call.Unmap p) o pool next h w row = absurd w
touch_call s t killed grant on from ends (call.Exit p) o pool next h w row = absurd w

-- an event that begins no call of a task isn't a begin of it
not_begun : {P : Type 0} (t u : ℕ) (p : Op) (o : Outcome) → is_begun t (Begin u p) o ≡ 0 → o ≡ outcome.Begun → u ≡ t → P
not_begun t u p o quiet e d =
    (let a : is_begun t (Begin u p) o ≡ 1 = ap (is_begun t (Begin u p)) e
    ∙ (ap (λ (m : ℕ). bit (m == t)) d ∙ one t) in absurd (omega arith))
  where
    one : (k : ℕ) → bit (k == k) ≡ 1
    one k = ap bit (same k)
      where
        same : (k : ℕ) → (k == k) ≡ true
        same k = grind (arith, nat_tests)

-- what task t's call is seen as, after an event that isn't a begin of it: it is as it was, or made a step
pub own_or_same : (s : State) (t : ℕ) (event : Event) (o : Outcome) (n : State) (P : Type 0) → Always s → is_begun t event o ≡ 0
    → Row s event o n
    → (n.calls t ≡ s.calls t → n.mappings t ≡ s.mappings t → ((n.life t ≡ s.life t) ⊎ (event ≡ Kill t))
    → ((grant : Bool) (a : Answer) → event ≡ Step t grant → o ≡ outcome.Ended a → ⊥) → P)
    → ((grant : Bool) (c : Call) (pool : Pool) (next : Option Call) → event ≡ Step t grant → s.calls t ≡ Some c
    → CallRow (pool_of s) t (is_killed (s.life t)) grant c o pool next
    → n ≡ record (with_pool s pool) { life = lives_after s.life t c next; calls = put s.calls t next } → P) → P
own_or_same s t (Begin u p) o n P h quiet row same own = begin_cases s u p o n P row
    (λ why e d. same (ap (λ (m : State). m.calls t) d) (ap (λ (m : State). m.mappings t) d)
    (inl (ap (λ (m : State). m.life t) d)) (λ grant a z. absurd (begin_step z)))
    (λ lives none may e d. elim (same_or_other u t) [
      | inl q ↦ not_begun t u p o quiet e q
      | inr q ↦ same (ap (λ (m : State). m.calls t) d ∙ put_other s.calls u (Some (first p)) t (λ z. q (sym z)))
          (ap (λ (m : State). m.mappings t) d) (inl (ap (λ (m : State). m.life t) d)) (λ grant a z. absurd (begin_step z))
    ])
  where
    begin_step : {grant : Bool} → Begin u p ≡ Step t grant → ⊥
    begin_step z = cc
own_or_same s t (Kill u) o n P h quiet row same own = kill_cases s u o n P row
    (λ why e d. same (ap (λ (m : State). m.calls t) d) (ap (λ (m : State). m.mappings t) d)
    (inl (ap (λ (m : State). m.life t) d)) (λ grant a z. absurd (kill_step z)))
    (λ alive e d. same (ap (λ (m : State). m.calls t) d) (ap (λ (m : State). m.mappings t) d) (elim (same_or_other u t) [
      | inl q ↦ inr (ap (λ (m : ℕ). Kill m) q)
      | inr q ↦ inl (ap (λ (m : State). m.life t) d ∙ put_other s.life u life.Killed t (λ z. q (sym z)))
    ]) (λ grant a z. absurd (kill_step z)))
  where
    kill_step : {grant : Bool} → Kill u ≡ Step t grant → ⊥
    kill_step z = cc
own_or_same s t (Resize size) o n P h quiet row same own = resize_cases s size o n P row
    (λ why e d. same (ap (λ (m : State). m.calls t) d) (ap (λ (m : State). m.mappings t) d)
    (inl (ap (λ (m : State). m.life t) d)) (λ grant a z. absurd (resize_step z)))
    (λ told m frame e shifts _ d. same (ap (λ (m : State). m.calls t) d) (ap (λ (m : State). m.mappings t) d)
    (inl (ap (λ (m : State). m.life t) d)) (λ grant a z. absurd (resize_step z)))
  where
    resize_step : {grant : Bool} → Resize size ≡ Step t grant → ⊥
    resize_step z = cc
own_or_same s t (Step u grant) o n P h quiet row same own = step_cases s u grant o n P row
    (λ why e d. same (ap (λ (m : State). m.calls t) d) (ap (λ (m : State). m.mappings t) d)
    (inl (ap (λ (m : State). m.life t) d)) (λ g a z y. refused_end why a (sym e ∙ y)))
    (λ c lives e pool next r d. elim (same_or_other u t) [
      | inl q ↦ at_own c pool next q e r d
      | inr q ↦ (let is = h.lives.there u lives in same
          (ap (λ (m : State). m.calls t) d ∙ put_other s.calls u next t (λ z. q (sym z)))
          (ap (λ (m : State). m.mappings t) d
          ∙ elim (call_steps s u 0 (is_killed (s.life u)) grant c o pool next h.inv is.0
          (let z = is.1 in omega arith) e r) [ inl w ↦ ap (λ (m : Pool). m.mappings t) w.2 | inr w ↦ w.mappings t (λ z. q (sym z)) ])
          (inl (ap (λ (m : State). m.life t) d ∙ other_life s.life u c next t (λ z. q (sym z))))
          (λ g a z. absurd (q (same_task z))))
    ])
  where
    refused_end : (why : Refusal) (a : Answer) → outcome.Refused why ≡ outcome.Ended a → ⊥
    refused_end why a z = cc

    same_task : {g : Bool} → Step u grant ≡ Step t g → u ≡ t
    same_task z = cc

    at_own : (c : Call) (pool : Pool) (next : Option Call) → u ≡ t → s.calls u ≡ Some c
        → CallRow (pool_of s) u (is_killed (s.life u)) grant c o pool next
        → n ≡ record (with_pool s pool) { life = lives_after s.life u c next; calls = put s.calls u next } → P
    at_own c pool next q e r d =
        own grant c pool next (ap (λ (m : ℕ). Step m grant) q) (ap s.calls (sym q) ∙ e)
        (subst (λ (m : ℕ). CallRow (pool_of s) m (is_killed (s.life m)) grant c o pool next) q r)
        (d ∙ ap (λ (m : ℕ). record (with_pool s pool) { life = lives_after s.life m c next; calls = put s.calls m next }) q)

    other_life : (lives : ℕ → Life) (u : ℕ) (c : Call) (next : Option Call) (t : ℕ) → t ≢ u → lives_after lives u c next t ≡ lives t
    other_life lives u (call.Exit p) None t d = put_other lives u life.Dead t d
    other_life lives u (call.Exit p) (Some m) t d = refl
    other_life lives u (call.Touch p) m t d = refl
    other_life lives u (call.Map p) m t d = refl
    other_life lives u (call.Alloc p) m t d = refl
    other_life lives u (call.Punch p) m t d = refl
    other_life lives u (call.Truncate p) m t d = refl
    other_life lives u (call.Unmap p) m t d = refl

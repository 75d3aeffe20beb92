-- A touch at a promised index, over a run.
use Rattle.std.proofs.Common.{◌≡◌, ◌≢◌, ℕ, ◌<◌, refl, ap, sym, ◌∙◌, subst, arith, inl, inr}
use Rattle.std.specs.Prelude.{Bool, true, false, not, ◌&&◌, ◌==◌, nat_le, is_some, Option, Some, None, List, [], ◌∷◌, ◌++◌}
use Rattle.std.proofs.lemmas.Bool.Decides.{nat_tests}
use Rattle.hp_base.specs.Numbers.{put}
use Rattle.hp_base.specs.Mappings.{find}
use Rattle.hp_base.specs.declared.answer.Answer.{Answer}
use Rattle.hp_base.specs.declared.event.Op.{Op}
use Rattle.hp_base.specs.declared.event.Event.{Event}
use Rattle.hp_base.specs.declared.event.Event.TheVariants.{Begin, Step, Kill}
use Rattle.hp_base.specs.declared.mapping.Mapping.{Mapping}
use Rattle.hp_base.proofs.Puts.{put_same}
use Rattle.hp_frames.specs.declared.frame.FrameState.TheVariants as state
use Rattle.hp_machine.specs.State.{Geometry, Pool, State, pool_of, with_pool, slot_of, is_killed}
use Rattle.hp_machine.specs.Parts.{answer_of}
use Rattle.hp_machine.specs.TouchRows.{TouchRow}
use Rattle.hp_machine.specs.Events.{Row, CallRow, Run, IsReached, first, outcome_of, left, lives_after}
use Rattle.hp_machine.specs.declared.touch.Access.{Access}
use Rattle.hp_machine.specs.declared.touch.Access.TheVariants.{Load, Store}
use Rattle.hp_machine.specs.declared.touch.Touch.{Touch}
use Rattle.hp_machine.specs.declared.touch.Look.{Look}
use Rattle.hp_machine.specs.declared.touch.Missing.{Missing}
use Rattle.hp_machine.specs.declared.touch.Changed
use Rattle.hp_machine.specs.declared.touch.TouchPhase.{TouchPhase}
use Rattle.hp_machine.specs.declared.touch.TouchPhase.TheVariants as touch
use Rattle.hp_machine.specs.declared.alloc.Changed as alloc_changed
use Rattle.hp_machine.specs.declared.alloc.AllocPhase.TheVariants as alloc
use Rattle.hp_machine.specs.declared.outcome.Life.{Life}
use Rattle.hp_machine.specs.declared.outcome.Life.TheVariants as life
use Rattle.hp_machine.specs.declared.outcome.Outcome.{Outcome}
use Rattle.hp_machine.specs.declared.outcome.Outcome.TheVariants as outcome
use Rattle.hp_machine.specs.declared.outcome.Refusal.{Refusal}
use Rattle.hp_machine.specs.declared.phase.Phase.TheVariants as word
use Rattle.hp_machine.specs.declared.call.Call.{Call}
use Rattle.hp_machine.specs.declared.call.Call.TheVariants as call
use Rattle.hp_machine.specs.declared.call.Turn.{Turn}
use Rattle.hp_machine.specs.declared.call.Turn.TheVariants.{Blocked}
use Rattle.hp_laws.specs.Promises.{TellsNoLack}
use Rattle.hp_laws.specs.Bounds.{is_begun, calls_begun}
use Rattle.hp_laws.specs.Histories.{Moment, History, in_order}
use Rattle.hp_laws.specs.Promises.{IsPromised, IsUndisturbed, IsServed}
use Rattle.hp_laws.proofs.Deciding.{nil_passes, clash}
use Rattle.hp_laws.proofs.Shared.{by_test, by_option}
use Rattle.hp_laws.proofs.Runs.{Always, always, row_keeps}
use Rattle.hp_laws.proofs.Reading.{begin_cases, step_cases, step_of}
use Rattle.hp_laws.proofs.Histories.{begun_more, history_well, later_run}
use Rattle.hp_laws.proofs.Keeping.{promised_kept}
use Rattle.hp_laws.proofs.Serving.{TurnWell, at_leaf, takes, Sure, sure_turn, sure_missing, missing_none, sure_commit}
use Rattle.hp_laws.proofs.Serving.{CallWell, touch_call, own_or_same}

-- a touch in flight is at one phase
same_touch : {a b : TouchPhase} → call.Touch a ≡ call.Touch b → a ≡ b
same_touch e = cc

-- a sure touch stays sure
sure_row : (s : State) (t : ℕ) (event : Event) (o : Outcome) (n : State) → Always s → is_begun t event o ≡ 0
    → CallWell Sure (s.calls t) → Row s event o n → CallWell Sure (n.calls t)
sure_row s t event o n h quiet w row = own_or_same s t event o n (CallWell Sure (n.calls t)) h quiet row
    (λ calls mappings lives no_end. subst (CallWell Sure) (sym calls) w)
    (λ grant c pool next is e r d. subst (λ (m : State). CallWell Sure (m.calls t)) (sym d)
    (subst (CallWell Sure) (sym (put_same s.calls t next))
    (touch_call s t (is_killed (s.life t)) grant Sure Sure TellsNoLack c o pool next
    (λ phase turn q k r. sure_turn s t (is_killed (s.life t)) grant phase turn pool k r) (subst (CallWell Sure) e w) r).0))

-- a sure touch stays sure over a run in which its task begins no call
sure_run : (t : ℕ) (s : State) (es : List (Event × Outcome)) (n : State) → Run s es n → Always s → calls_begun t es ≡ 0
    → CallWell Sure (s.calls t) → CallWell Sure (n.calls t) × Always n
sure_run t s [] n r h quiet w = (subst (λ (m : State). CallWell Sure (m.calls t)) (sym r) w, subst Always (sym r) h)
sure_run t s (e ∷ es) n r h quiet w =
    sure_run t r.0 es n r.2 (row_keeps s e.0 e.1 r.0 h r.1) (omega arith) (sure_row s t e.0 e.1 r.0 h (omega arith) w r.1)

-- what has ended wasn't refused
ends_not_refused : {P : Type 0} (b : Answer) (why : Refusal) → outcome.Ended b ≡ outcome.Refused why → P
ends_not_refused b why e = absurd (cc)

-- a sure touch doesn't end for want of a frame
sure_end : (s : State) (t : ℕ) (grant : Bool) (b : Answer) (n : State) → CallWell Sure (s.calls t)
    → Row s (Step t grant) (outcome.Ended b) n → TellsNoLack b
sure_end s t grant b n w row = step_cases s t grant (outcome.Ended b) n (TellsNoLack b) row
    (λ why e d. ends_not_refused b why e)
    (λ c lives e pool next r d.
    (touch_call s t (is_killed (s.life t)) grant Sure Sure TellsNoLack c (outcome.Ended b) pool next
    (λ phase turn q k r. sure_turn s t (is_killed (s.life t)) grant phase turn pool k r) (subst (CallWell Sure) e w) r).1 b refl)

-- the row of a moment that ends a call
end_row : (m : Moment) (t : ℕ) (grant : Bool) (b : Answer) → m.event ≡ Step t grant → m.outcome ≡ outcome.Ended b
    → Row m.before m.event m.outcome m.after → Row m.before (Step t grant) (outcome.Ended b) m.after
end_row m t grant b own ended row =
    subst (λ (o : Outcome). Row m.before (Step t grant) o m.after) ended (subst (λ (e : Event). Row m.before e m.outcome m.after) own row)

-- a touch whose change found nothing missing never answers that there is no frame
pub touch_never_lacks : (s : State) (t : ℕ) (p : Changed.Changed) (rest : List (Event × Outcome)) (n : State)
    (last : Bool) (b : Answer) (after : State)
    → IsReached s → s.calls t ≡ Some (call.Touch (touch.Changed p)) → p.pending.missing ≡ 0 → Run s rest n
    → calls_begun t rest ≡ 0 → Row n (Step t last) (outcome.Ended b) after → TellsNoLack b
touch_never_lacks s t p rest n last b after reached e none run quiet ended =
    sure_end n t last b after (sure_run t s rest n run (always s reached) quiet (subst (CallWell Sure) (sym e) none)).0 ended

-- a touch that asks what is missing of a reserved index is sure from there on
missing_sure : (s : State) (t : ℕ) (grant : Bool) (p : Missing) (o : Outcome) (n : State) → Always s
    → s.calls t ≡ Some (call.Touch (touch.Missing p)) → s.reserved p.touch.file p.touch.index ≡ true → Row s (Step t grant) o n
    → CallWell Sure (n.calls t)
missing_sure s t grant p o n h e marked row =
    let killed : Bool = is_killed (s.life t) in
    let step = step_of s t grant (call.Touch (touch.Missing p)) o n row (h.lives.busy t (call.Touch (touch.Missing p)) e) e in
    let now = touch_call s t killed grant Sure (λ (q : TouchPhase). q ≡ touch.Missing p) TellsNoLack (call.Touch (touch.Missing p)) o step.0 step.1
    (λ phase turn q k r. sure_missing s t killed grant p turn step.0 marked
    (subst (λ (m : TouchPhase). TouchRow (pool_of s) t killed grant m turn step.0) k r))
    refl step.2 in
    subst (λ (m : State). CallWell Sure (m.calls t)) (sym step.3) (subst (CallWell Sure) (sym (put_same s.calls t step.1)) now.0)

-- a touch whose index is promised where it asks what is missing never answers that there is no frame
pub promised_never_lacks : (g : Geometry) (frames : ℕ) (ends : Moment) (later : List Moment) (asks : Moment) (past : List Moment)
    (t : ℕ) (grant last : Bool) (p : Missing) (b : Answer)
    → History g frames (ends ∷ (later ++ (asks ∷ past))) ends.after → calls_begun t (in_order later) ≡ 0
    → asks.event ≡ Step t grant → asks.before.calls t ≡ Some (call.Touch (touch.Missing p)) → IsPromised p.touch.file p.touch.index past
    → ends.event ≡ Step t last → ends.outcome ≡ outcome.Ended b → TellsNoLack b
promised_never_lacks g frames ends later asks past t grant last p b h quiet asked e is own ended =
    let k = later_run g frames later (asks ∷ past) ends.before h.2 in
    let s : State = asks.before in
    let before = history_well g frames past s k.1.2 in
    let marked = (promised_kept g frames past s k.1.2 p.touch.file p.touch.index is).0 in
    let row : Row s (Step t grant) asks.outcome asks.after = subst (λ (m : Event). Row s m asks.outcome asks.after) asked k.1.1 in
    let w = missing_sure s t grant p asks.outcome asks.after before e marked row in
    let start : CallWell Sure (k.0.calls t) = subst (λ (m : State). CallWell Sure (m.calls t)) k.1.0 w in
    let sure = sure_run t k.0 (in_order later) ends.before k.2 (history_well g frames (asks ∷ past) k.0 k.1) quiet start in
    sure_end ends.before t last b ends.after sure.0 (end_row ends t last b own ended h.1)

-- the touch is of that index
abbrev At : Touch → (file index : ℕ) → Type 0
At p f i = (p.file ≡ f) × (p.index ≡ i)

-- a touch of a mapped page that nothing stood in the way of
abbrev Well : List Mapping → (file index : ℕ) → TouchPhase → Type 0
Well ms f i (touch.Look p) = find ms p.vpn ≡ Some (f, i)
Well ms f i (touch.Want p) = At p.touch f i
Well ms f i (touch.Locked p) = At p.touch f i
Well ms f i (touch.Missing p) = At p.touch f i
Well ms f i (touch.Changed p) = At p.touch f i × (p.pending.missing ≡ 0)
Well ms f i (touch.Abort p) = ⊥
Well ms f i (touch.Taken p) = At p.touch f i
Well ms f i (touch.Settle p) = At p.touch f i
Well ms f i (touch.Committed p) = At p.touch f i
Well ms f i (touch.Restore p) = ⊥
Well ms f i (touch.Found p) = At p.touch f i
Well ms f i (touch.Leave p) = IsServed p.answer

-- the answer of an access that finds its page serves it
served : (a : Access) (w : ℕ) → IsServed (answer_of a w)
served Load w = inl (w, refl)
served (Store n) w = inr refl

-- a touch of an index below the size isn't beyond it
not_beyond : {P : Type 0} (s : State) (p : Touch) (f i : ℕ) → At p f i → i < s.size f → nat_le (s.size p.file) p.index ≡ true → P
not_beyond s p f i at low e =
    let same : s.size p.file ≡ s.size f = ap s.size at.0 in
    let here : p.index ≡ i = at.1 in
    absurd (beyond (s.size p.file) p.index e (omega arith))
  where
    beyond : (size i : ℕ) → nat_le size i ≡ true → i < size → ⊥
    beyond size i e l = grind (arith, nat_tests)

-- equal places have one file and one index
same_place : (a b : ℕ × ℕ) → Some a ≡ Some b → (a.0 ≡ b.0) × (a.1 ≡ b.1)
same_place a b e = let o : a ≡ b = cc in (ap (λ (m : ℕ × ℕ). m.0) o, ap (λ (m : ℕ × ℕ). m.1) o)

-- a granted step isn't denied
not_denied : (b : Bool) → (b && not true) ≡ true → ⊥
not_denied true e = (let d : false ≡ true = e in absurd (cc))
not_denied false e = (let d : false ≡ true = e in absurd (cc))

-- a touch that goes well goes on so, or is served, where its index is reserved and nothing is denied or killed
touch_well : (s : State) (t : ℕ) (killed : Bool) (ms : List Mapping) (f i : ℕ) (phase : TouchPhase) (turn : Turn TouchPhase) (new : Pool)
    → killed ≡ false → s.reserved f i ≡ true → i < s.size f → Well (s.mappings t) f i phase
    → TouchRow (pool_of s) t killed true phase turn new → TurnWell TouchPhase (Well ms f i) IsServed turn
touch_well s t killed ms f i (touch.Look p) turn new alive marked low w row = by_option (find (s.mappings t) p.vpn) row
    (λ none r. (let z : ◌≡◌ {A = Option (ℕ × ℕ)} None (Some (f, i)) = sym none ∙ w in absurd (cc)))
    (λ place there r. by_option (s.entries t p.vpn) r
    (λ _ r. at_leaf (Well ms f i) IsServed _ turn r.0 (same_place place (f, i) (sym there ∙ w)))
    (λ x _ r. at_leaf (Well ms f i) IsServed _ turn r.2.0 (served p.access r.0)))
touch_well s t killed ms f i (touch.Want p) turn new alive marked low w row = by_test killed row
    (λ is r. clash killed is alive)
    (λ _ r. by_option (s.slots (slot_of s.geometry p.touch.file p.touch.index)) r
    (λ _ r. at_leaf (Well ms f i) IsServed _ turn r.0 w)
    (λ u _ r. at_leaf (Well ms f i) IsServed (Blocked (touch.Want p) u) turn r.0 w))
touch_well s t killed ms f i (touch.Locked p) turn new alive marked low w row = by_test (nat_le (s.size p.touch.file) p.touch.index) row
    (λ beyond r. not_beyond s p.touch f i w low beyond)
    (λ _ r. by_test (is_some (s.pages p.touch.file p.touch.index)) r
    (λ _ r. at_leaf (Well ms f i) IsServed _ turn r.0 w) (λ _ r. at_leaf (Well ms f i) IsServed _ turn r.0 w))
touch_well s t killed ms f i (touch.Missing p) turn new alive marked low w row =
    by_test ((s.spare p.touch.file == s.pending p.touch.file) && not true) row
    (λ denied r. absurd (not_denied _ denied))
    (λ _ r. at_leaf (Well ms f i) IsServed _ turn r.0 (
      w,
      missing_none (s.reserved p.touch.file) p.touch.index
          (ap (λ (m : ℕ). s.reserved m p.touch.index) w.0 ∙ (ap (s.reserved f) w.1 ∙ marked)),
    ))
touch_well s t killed ms f i (touch.Changed p) turn new alive marked low w row = by_test killed row
    (λ is r. clash killed is alive)
    (λ _ r. takes (Well ms f i) IsServed s p.pending.missing (λ a. touch.Abort (record { touch = p.touch; pending = p.pending; answer = a }))
    (λ x. touch.Taken (record { touch = p.touch; pending = p.pending; held = x })) turn new w.1 r (λ x d. w.0))
touch_well s t killed ms f i (touch.Abort p) turn new alive marked low w row = absurd w
touch_well s t killed ms f i (touch.Taken p) turn new alive marked low w row =
    sure_commit (Well ms f i) IsServed s p.touch.file p.pending.from p.pending.to p.pending.missing _ _ turn new row w w
touch_well s t killed ms f i (touch.Settle p) turn new alive marked low w (some, used, row) = at_leaf (Well ms f i) IsServed _ turn row.0 w
touch_well s t killed ms f i (touch.Committed p) turn new alive marked low w row = by_test (nat_le (s.size p.touch.file) p.touch.index) row
    (λ beyond r. not_beyond s p.touch f i w low beyond)
    (λ _ r. at_leaf (Well ms f i) IsServed _ turn r.0 w)
touch_well s t killed ms f i (touch.Restore p) turn new alive marked low w row = absurd w
touch_well s t killed ms f i (touch.Found p) turn new alive marked low w row = by_test (nat_le (s.size p.touch.file) p.touch.index) row
    (λ beyond r. not_beyond s p.touch f i w low beyond)
    (λ _ r. at_leaf (Well ms f i) IsServed _ turn r.4.0 (served p.touch.access r.1))
touch_well s t killed ms f i (touch.Leave p) turn new alive marked low w row = at_leaf (Well ms f i) IsServed _ turn row.0 w

-- a task that is alive isn't killed
alive_unkilled : (l : Life) → l ≡ life.Alive → is_killed l ≡ false
alive_unkilled l e = ap is_killed e

-- a touch in flight doesn't end its task
touch_lives : (on : TouchPhase → Type 0) (lives : ℕ → Life) (t : ℕ) (c : Call) (next : Option Call) → CallWell on (Some c)
    → lives_after lives t c next ≡ lives
touch_lives on lives t (call.Touch p) next w = refl
touch_lives on lives t (call.Map p) next w = absurd w
touch_lives on lives t (call.Alloc p) next w = absurd w
touch_lives on lives t (call.Punch p) next w = absurd w
touch_lives on lives t (call.Truncate p) next w = absurd w
touch_lives on lives t (call.Unmap p) next w = absurd w
touch_lives on lives t (call.Exit p) next w = absurd w

-- the task lives, and its touch goes well
abbrev Goes : State → (t f i : ℕ) → Type 0
Goes s t f i = CallWell (Well (s.mappings t) f i) (s.calls t) × (s.life t ≡ life.Alive)

-- so it goes on over each event but a denied step and a kill of the task
well_row : (s : State) (t f i : ℕ) (event : Event) (o : Outcome) (n : State) → Always s → is_begun t event o ≡ 0
    → event ≢ Step t false → event ≢ Kill t → s.reserved f i ≡ true → i < s.size f → Goes s t f i → Row s event o n → Goes n t f i
well_row s t f i event o n h quiet grants lives marked low w row = own_or_same s t event o n (Goes n t f i) h quiet row
    (λ calls mappings same no_end. (
      subst (CallWell (Well (n.mappings t) f i)) (sym calls)
          (subst (λ (m : List Mapping). CallWell (Well m f i) (s.calls t)) (sym mappings) w.0),
      elim same [ inl e ↦ e ∙ w.1 | inr e ↦ absurd (lives e) ],
    ))
    (λ grant c pool next is e r d. own grant c pool next is e r d)
  where
    own : (grant : Bool) (c : Call) (pool : Pool) (next : Option Call) → event ≡ Step t grant → s.calls t ≡ Some c
        → CallRow (pool_of s) t (is_killed (s.life t)) grant c o pool next
        → n ≡ record (with_pool s pool) { life = lives_after s.life t c next; calls = put s.calls t next } → Goes n t f i
    own false c pool next is e r d = absurd (grants is)
    own true c pool next is e r d =
        let there = subst (CallWell (Well (s.mappings t) f i)) e w.0 in
        let now = touch_call s t (is_killed (s.life t)) true (Well (n.mappings t) f i) (Well (s.mappings t) f i) IsServed c
        o pool next (λ phase turn q k r. touch_well s t (is_killed (s.life t)) (n.mappings t) f i phase turn pool
        (alive_unkilled (s.life t) w.1) marked low k r) there r in (
          subst (CallWell (Well (n.mappings t) f i)) (sym (ap (λ (m : State). m.calls t) d ∙ put_same s.calls t next)) now.0,
          ap (λ (m : State). m.life t) d ∙ (ap (λ (m : ℕ → Life). m t) (touch_lives (Well (s.mappings t) f i) s.life t c next there) ∙ w.1),
        )

-- what is undisturbed is promised at its end
promised_now : (t f i : ℕ) (later past : List Moment) → IsUndisturbed t f i later past → IsPromised f i (later ++ past)
promised_now t f i [] past calm = calm
promised_now t f i (m ∷ later) past calm = calm.0

-- a touch that goes well goes on so while it is undisturbed
well_later : (g : Geometry) (frames : ℕ) (t f i : ℕ) (past later : List Moment) (s : State) → History g frames (later ++ past) s
    → ((mid : State) → History g frames past mid → Goes mid t f i) → calls_begun t (in_order later) ≡ 0 → IsUndisturbed t f i later past
    → Goes s t f i
well_later g frames t f i past [] s h start quiet calm = start s h
well_later g frames t f i past (m ∷ later) s h start quiet calm =
    let more = begun_more t (in_order later) m.event m.outcome in
    let k = promised_kept g frames (later ++ past) m.before h.2 f i (promised_now t f i later past calm.3) in
    let w = well_later g frames t f i past later m.before h.2 start (omega arith) calm.3 in
    subst (λ (n : State). Goes n t f i) h.0
    (well_row m.before t f i m.event m.outcome m.after (history_well g frames (later ++ past) m.before h.2)
    (omega arith) calm.1 calm.2 k.0 k.1 w h.1)

-- a touch that goes well ends served
well_end : (s : State) (t f i : ℕ) (b : Answer) (n : State) → Goes s t f i → s.reserved f i ≡ true → i < s.size f
    → Row s (Step t true) (outcome.Ended b) n → IsServed b
well_end s t f i b n w marked low row = step_cases s t true (outcome.Ended b) n (IsServed b) row
    (λ why e d. ends_not_refused b why e)
    (λ c lives e pool next r d.
    (touch_call s t (is_killed (s.life t)) true (Well [] f i) (Well (s.mappings t) f i) IsServed c (outcome.Ended b)
    pool next (λ phase turn q k r. touch_well s t (is_killed (s.life t)) [] f i phase turn pool
    (alive_unkilled (s.life t) w.1) marked low k r) (subst (CallWell (Well (s.mappings t) f i)) e w.0) r).1 b refl)

-- a touch of a mapped page goes well where it begins
starts_well : (s : State) (t : ℕ) (p : Op) (look : Look) (f i : ℕ) (o : Outcome) (n : State)
    → first p ≡ call.Touch (touch.Look look) → find (s.mappings t) look.vpn ≡ Some (f, i) → s.life t ≡ life.Alive → o ≡ outcome.Begun
    → Row s (Begin t p) o n → Goes n t f i
starts_well s t p look f i o n e there alive begun row = begin_cases s t p o n (Goes n t f i) row
    (λ why z d. absurd (not_refused why (sym begun ∙ z)))
    (λ lives none may z d. (
      subst (λ (m : State). CallWell (Well (m.mappings t) f i) (m.calls t)) (sym d)
          (subst (CallWell (Well (s.mappings t) f i)) (sym (put_same s.calls t (Some (first p)) ∙ ap (λ (c : Call). Some c) e)) there),
      ap (λ (m : State). m.life t) d ∙ alive,
    ))
  where
    not_refused : (why : Refusal) → outcome.Begun ≡ outcome.Refused why → ⊥
    not_refused why z = cc

-- a load or store of a mapped page whose index is promised all along is served, where no step is denied and the
-- task isn't killed
pub promised_served : (g : Geometry) (frames : ℕ) (ends : Moment) (later : List Moment) (begins : Moment) (past : List Moment)
    (t : ℕ) (p : Op) (look : Look) (f i : ℕ) (b : Answer)
    → History g frames (ends ∷ (later ++ (begins ∷ past))) ends.after → calls_begun t (in_order later) ≡ 0
    → begins.event ≡ Begin t p → begins.outcome ≡ outcome.Begun → first p ≡ call.Touch (touch.Look look)
    → find (begins.before.mappings t) look.vpn ≡ Some (f, i) → begins.before.life t ≡ life.Alive → IsUndisturbed t f i later (begins ∷ past)
    → ends.event ≡ Step t true → ends.outcome ≡ outcome.Ended b → IsServed b
promised_served g frames ends later begins past t p look f i b h quiet is begun e there alive calm own ended =
    let w = well_later g frames t f i (begins ∷ past) later ends.before h.2 starts quiet calm in
    let k = promised_kept g frames (later ++ (begins ∷ past)) ends.before h.2 f i (promised_now t f i later (begins ∷ past) calm) in
    well_end ends.before t f i b ends.after w k.0 k.1 (end_row ends t true b own ended h.1)
  where
    row : Row begins.before begins.event begins.outcome begins.after → Row begins.before (Begin t p) begins.outcome begins.after
    row r = subst (λ (m : Event). Row begins.before m begins.outcome begins.after) is r

    starts : (mid : State) → History g frames (begins ∷ past) mid → Goes mid t f i
    starts mid at =
        let now = starts_well begins.before t p look f i begins.outcome begins.after e there alive begun (row at.1) in
        subst (λ (m : State). Goes m t f i) at.0 now

-- a touch whose change missed nothing takes a free frame in its next step, unless it notices a kill: by its row
touch_call_takes : (s : State) (t : ℕ) (killed grant : Bool) (p : Changed.Changed) (o : Outcome) (pool : Pool) (next : Option Call)
    → killed ≡ false → p.pending.missing ≡ 0 → CallRow (pool_of s) t killed grant (call.Touch (touch.Changed p)) o pool next
    → (x : ℕ) × (s.frame x ≡ state.Free) × (o ≡ outcome.Moved word.Taken)
    × (next ≡ Some (call.Touch (touch.Taken (record { touch = p.touch; pending = p.pending; held = x }))))
unfolding CallRow
touch_call_takes s t killed grant p o pool next alive none (turn, row, tells, leaves) = by_test killed row
    (λ is r. clash killed is alive)
    (λ _ r. by_test (p.pending.missing == 0) r
    (λ _ r. (r.0, r.1, tells ∙ ap (outcome_of call.Touch) r.3.0, leaves ∙ ap (left call.Touch) r.3.0))
    (λ some r. nil_passes p.pending.missing none some))

-- and so in every reached state
pub touch_takes : (s : State) (t : ℕ) (grant : Bool) (p : Changed.Changed) (o : Outcome) (n : State) → IsReached s
    → s.calls t ≡ Some (call.Touch (touch.Changed p)) → p.pending.missing ≡ 0 → is_killed (s.life t) ≡ false
    → Row s (Step t grant) o n
    → (x : ℕ) × (s.frame x ≡ state.Free) × (o ≡ outcome.Moved word.Taken)
    × (n.calls t ≡ Some (call.Touch (touch.Taken (record { touch = p.touch; pending = p.pending; held = x }))))
touch_takes s t grant p o n reached e none alive row =
    let step = step_of s t grant (call.Touch (touch.Changed p)) o n row
    ((always s reached).lives.busy t (call.Touch (touch.Changed p)) e) e in
    let x = touch_call_takes s t (is_killed (s.life t)) grant p o step.0 step.1 alive none step.2 in
    (x.0, x.1, x.2, ap (λ (m : State). m.calls t) step.3 ∙ (put_same s.calls t step.1 ∙ x.3))

-- the same of an allocation: by its row
alloc_call_takes : (s : State) (t : ℕ) (killed grant : Bool) (p : alloc_changed.Changed) (o : Outcome) (pool : Pool) (next : Option Call)
    → killed ≡ false → p.pending.missing ≡ 0 → CallRow (pool_of s) t killed grant (call.Alloc (alloc.Changed p)) o pool next
    → (x : ℕ) × (s.frame x ≡ state.Free) × (o ≡ outcome.Moved word.Taken)
    × (next ≡ Some (call.Alloc
    (alloc.Taken (record { allocation = p.allocation; index = p.index; pending = p.pending; held = x }))))
unfolding CallRow
alloc_call_takes s t killed grant p o pool next alive none (turn, row, tells, leaves) = by_test killed row
    (λ is r. clash killed is alive)
    (λ _ r. by_test (p.pending.missing == 0) r
    (λ _ r. (r.0, r.1, tells ∙ ap (outcome_of call.Alloc) r.3.0, leaves ∙ ap (left call.Alloc) r.3.0))
    (λ some r. nil_passes p.pending.missing none some))

-- and so in every reached state
pub alloc_takes : (s : State) (t : ℕ) (grant : Bool) (p : alloc_changed.Changed) (o : Outcome) (n : State) → IsReached s
    → s.calls t ≡ Some (call.Alloc (alloc.Changed p)) → p.pending.missing ≡ 0 → is_killed (s.life t) ≡ false
    → Row s (Step t grant) o n
    → (x : ℕ) × (s.frame x ≡ state.Free) × (o ≡ outcome.Moved word.Taken)
    × (n.calls t ≡ Some (call.Alloc
    (alloc.Taken (record { allocation = p.allocation; index = p.index; pending = p.pending; held = x }))))
alloc_takes s t grant p o n reached e none alive row =
    let step = step_of s t grant (call.Alloc (alloc.Changed p)) o n row
    ((always s reached).lives.busy t (call.Alloc (alloc.Changed p)) e) e in
    let x = alloc_call_takes s t (is_killed (s.life t)) grant p o step.0 step.1 alive none step.2 in
    (x.0, x.1, x.2, ap (λ (m : State). m.calls t) step.3 ∙ (put_same s.calls t step.1 ∙ x.3))

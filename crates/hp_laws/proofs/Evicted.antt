-- An index from which a truncation took the page stays reserved until that truncation cuts its tail off.
use Rattle.std.proofs.Common.{◌≡◌, ◌≢◌, ℕ, ◌≤◌, refl, ap, sym, ◌∙◌, subst, arith, inl, inr, ◌⊎◌}
use Rattle.std.specs.Prelude.{Bool, true, false, ◌&&◌, ◌==◌, nat_le, nat_lt, is_some, Option, Some, None, List, [], ◌∷◌}
use Rattle.std.proofs.lemmas.Bool.Decides.{nat_tests}
use Rattle.hp_base.specs.Indices.{count_within}
use Rattle.hp_base.specs.declared.answer.Answer.{Answer}
use Rattle.hp_base.specs.declared.event.Event.{Event}
use Rattle.hp_base.specs.declared.event.Event.TheVariants.{Step}
use Rattle.hp_base.proofs.Puts.{put_same}
use Rattle.hp_machine.specs.State.{Pool, State, pool_of, slot_of, is_killed}
use Rattle.hp_machine.specs.TruncateRows.{TruncateRow}
use Rattle.hp_machine.specs.Events.{Row, CallRow, Run, IsReached, left, word_of}
use Rattle.hp_machine.specs.declared.phase.Phase.{Phase}
use Rattle.hp_machine.specs.declared.phase.Phase.TheVariants as word
use Rattle.hp_machine.specs.declared.truncate.Truncation.{Truncation}
use Rattle.hp_machine.specs.declared.truncate.Evict.{Evict}
use Rattle.hp_machine.specs.declared.truncate.Tail.{Tail}
use Rattle.hp_machine.specs.declared.truncate.TruncatePhase.{TruncatePhase}
use Rattle.hp_machine.specs.declared.truncate.TruncatePhase.TheVariants as truncate
use Rattle.hp_machine.specs.declared.outcome.Outcome.{Outcome}
use Rattle.hp_machine.specs.declared.call.Call.{Call}
use Rattle.hp_machine.specs.declared.call.Call.TheVariants as call
use Rattle.hp_machine.specs.declared.call.Turn.{Turn}
use Rattle.hp_machine.specs.declared.call.Turn.TheVariants.{Moved, Blocked, Ended}
use Rattle.hp_machine.specs.Views.{locked_file}
use Rattle.hp_laws.specs.Bounds.{is_begun, calls_begun}
use Rattle.hp_laws.specs.Sweep.{gone}
use Rattle.hp_laws.proofs.Deciding.{clash}
use Rattle.hp_laws.proofs.Standing.{HasLock}
use Rattle.hp_laws.proofs.Passing.{same_holder, locks_file}
use Rattle.hp_laws.proofs.Shared.{by_test, by_option, stands_at}
use Rattle.hp_laws.proofs.Runs.{Always, always, row_keeps}
use Rattle.hp_laws.proofs.Apart.{pages_are_reserved}
use Rattle.hp_laws.proofs.Losing.{goes_under}
use Rattle.hp_laws.proofs.Reading.{step_cases}
use Rattle.hp_laws.proofs.Serving.{TurnWell, at_leaf, own_or_same}

-- where the call ends, any answer will do
abbrev Any : Answer → Type 0
Any a = Unit {0}

-- the truncation is the one, and has set the size; whether it cut its tail off
abbrev Cutting : Truncation → TruncatePhase → Type 0
Cutting cut (truncate.Start p) = ⊥
Cutting cut (truncate.Size p) = ⊥
Cutting cut (truncate.Want p) = p.truncation ≡ cut
Cutting cut (truncate.Locked p) = p.truncation ≡ cut
Cutting cut (truncate.Unmap p) = p.truncation ≡ cut
Cutting cut (truncate.Evict p) = p.truncation ≡ cut
Cutting cut (truncate.Free p) = p.truncation ≡ cut
Cutting cut (truncate.Unslot p) = p.truncation ≡ cut
Cutting cut (truncate.Tail p) = p.truncation ≡ cut
Cutting cut (truncate.Settle p) = p.truncation ≡ cut
Cutting cut (truncate.Leave p) = p.truncation ≡ cut

-- the truncation has taken its tail out
abbrev is_over : TruncatePhase → Bool
is_over (truncate.Start p) = false
is_over (truncate.Size p) = false
is_over (truncate.Want p) = false
is_over (truncate.Locked p) = false
is_over (truncate.Unmap p) = false
is_over (truncate.Evict p) = false
is_over (truncate.Free p) = false
is_over (truncate.Unslot p) = false
is_over (truncate.Tail p) = false
is_over (truncate.Settle p) = true
is_over (truncate.Leave p) = true

-- where it stands after a step: with its tail cut off, if it was or the step was the tail
abbrev After : Truncation → (is_cut : Bool) → TruncatePhase → Type 0
After cut is_cut phase = Cutting cut phase × (is_cut ≡ true → is_over phase ≡ true)

-- the phase whose step takes the tail out
abbrev is_tail : Phase → Bool
is_tail word.Tail = true
is_tail other = false

-- neither of two tests holds, so there is no such case
neither : {P : Type 0} → (false ≡ true) ⊎ (false ≡ true) → P
neither (inl e) = absurd (cc)
neither (inr e) = absurd (cc)

-- each row leaves it that truncation, and over if it was or the row was the tail
cut_turn : (s : State) (t : ℕ) (killed grant : Bool) (cut : Truncation) (b : Bool) (phase : TruncatePhase)
    (turn : Turn TruncatePhase) (new : Pool)
    → Cutting cut phase → (b ≡ true → (is_over phase ≡ true) ⊎ (is_tail (word_of (call.Truncate phase)) ≡ true))
    → TruncateRow (pool_of s) t killed grant phase turn new → TurnWell TruncatePhase (After cut b) Any turn
cut_turn s t killed grant cut b (truncate.Start p) turn new h was row = absurd h
cut_turn s t killed grant cut b (truncate.Size p) turn new h was row = absurd h
cut_turn s t killed grant cut b (truncate.Want p) turn new h was row =
    by_option (s.slots (slot_of s.geometry p.truncation.file p.index)) row
    (λ _ r. at_leaf (After cut b) Any _ turn r.0 (h, λ e. neither (was e)))
    (λ u _ r. at_leaf (After cut b) Any (Blocked (truncate.Want p) u) turn r.0 (h, λ e. neither (was e)))
cut_turn s t killed grant cut b (truncate.Locked p) turn new h was row = by_test (is_some (s.pages p.truncation.file p.index)) row
    (λ _ r. at_leaf (After cut b) Any _ turn r.0 (h, λ e. neither (was e)))
    (λ _ r. at_leaf (After cut b) Any _ turn r.0 (h, λ e. neither (was e)))
cut_turn s t killed grant cut b (truncate.Unmap p) turn new h was row = by_test (nat_lt p.task s.geometry.tasks) row
    (λ _ r. at_leaf (After cut b) Any _ turn r.0 (h, λ e. neither (was e)))
    (λ _ r. at_leaf (After cut b) Any _ turn r.0 (h, λ e. neither (was e)))
cut_turn s t killed grant cut b (truncate.Evict p) turn new h was (x, page, row) =
    at_leaf (After cut b) Any _ turn row.0 (h, λ e. neither (was e))
cut_turn s t killed grant cut b (truncate.Free p) turn new h was row = at_leaf (After cut b) Any _ turn row.0 (h, λ e. neither (was e))
cut_turn s t killed grant cut b (truncate.Unslot p) turn new h was row = by_test (nat_lt p.truncation.new p.index) row
    (λ _ r. at_leaf (After cut b) Any _ turn r.0 (h, λ e. neither (was e)))
    (λ _ r. at_leaf (After cut b) Any _ turn r.0 (h, λ e. neither (was e)))
cut_turn s t killed grant cut b (truncate.Tail p) turn new h was row = at_leaf (After cut b) Any _ turn row.0 (h, λ e. refl)
cut_turn s t killed grant cut b (truncate.Settle p) turn new h was (low, used, row) = at_leaf (After cut b) Any _ turn row.0 (h, λ e. refl)
cut_turn s t killed grant cut b (truncate.Leave p) turn new h was row = at_leaf (After cut b) Any _ turn row.0 tt

-- the call over a run in which its task begins none
abbrev CallCuts : Truncation → (is_cut : Bool) → Option Call → Type 0
CallCuts cut b None = Unit {0}
CallCuts cut b (Some (call.Truncate phase)) = After cut b phase
CallCuts cut b (Some other) = ⊥

-- so does the call that the turn leaves
next_cuts : (cut : Truncation) (b : Bool) (turn : Turn TruncatePhase) → TurnWell TruncatePhase (After cut b) Any turn
    → CallCuts cut b (left call.Truncate turn)
next_cuts cut b (Moved p) h = h
next_cuts cut b (Blocked p u) h = h
next_cuts cut b (Ended a) h = tt

-- where the call is to count as over, it was over or its next step is the tail
abbrev IsCutBy : Bool → Option Call → Type 0
IsCutBy b None = Unit {0}
IsCutBy b (Some (call.Truncate phase)) = b ≡ true → (is_over phase ≡ true) ⊎ (is_tail (word_of (call.Truncate phase)) ≡ true)
IsCutBy b (Some other) = Unit {0}

-- so does each step of the call
cut_call : (s : State) (t : ℕ) (killed grant : Bool) (cut : Truncation) (a b : Bool) (c : Call) (o : Outcome)
    (pool : Pool) (next : Option Call)
    → CallCuts cut a (Some c) → IsCutBy b (Some c) → CallRow (pool_of s) t killed grant c o pool next → CallCuts cut b next
unfolding CallRow
cut_call s t killed grant cut a b (call.Truncate p) o pool next w was (turn, row, tells, leaves) =
    subst (CallCuts cut b) (sym leaves) (next_cuts cut b turn (cut_turn s t killed grant cut b p turn pool w.0 was row))
cut_call s t killed grant cut a b (call.Touch p) o pool next w was row = absurd w
cut_call s t killed grant cut a b (call.Map p) o pool next w was row = absurd w
cut_call s t killed grant cut a b (call.Alloc p) o pool next w was row = absurd w
cut_call s t killed grant cut a b (call.Punch p) o pool next w was row = absurd w
cut_call s t killed grant cut a b (call.Unmap p) o pool next w was row = absurd w
cut_call s t killed grant cut a b (call.Exit p) o pool next w was row = absurd w

-- and each event that begins no call of the task
cut_row : (s : State) (t : ℕ) (cut : Truncation) (b : Bool) (event : Event) (o : Outcome) (n : State) → Always s
    → is_begun t event o ≡ 0 → CallCuts cut b (s.calls t) → Row s event o n → CallCuts cut b (n.calls t)
cut_row s t cut b event o n h quiet w row = own_or_same s t event o n (CallCuts cut b (n.calls t)) h quiet row
    (λ calls mappings lives no_end. subst (CallCuts cut b) (sym calls) w)
    (λ grant c pool next is e r d. subst (λ (m : State). CallCuts cut b (m.calls t)) (sym d)
    (subst (CallCuts cut b) (sym (put_same s.calls t next))
    (let was = subst (CallCuts cut b) e w in cut_call s t (is_killed (s.life t)) grant cut b b c o pool next was (still c was) r)))
  where
    still : (c : Call) → CallCuts cut b (Some c) → IsCutBy b (Some c)
    still (call.Truncate phase) h = λ e. inl (h.1 e)
    still (call.Touch p) h = tt
    still (call.Map p) h = tt
    still (call.Alloc p) h = tt
    still (call.Punch p) h = tt
    still (call.Unmap p) h = tt
    still (call.Exit p) h = tt

-- it holds the lock of its file until it is over
lock_at : (cut : Truncation) (phase : TruncatePhase) → Cutting cut phase → is_over phase ≡ false
    → locked_file (Some (call.Truncate phase)) ≡ Some cut.file
lock_at cut (truncate.Start p) h e = absurd h
lock_at cut (truncate.Size p) h e = absurd h
lock_at cut (truncate.Want p) h e = ap (λ (m : Truncation). Some m.file) h
lock_at cut (truncate.Locked p) h e = ap (λ (m : Truncation). Some m.file) h
lock_at cut (truncate.Unmap p) h e = ap (λ (m : Truncation). Some m.file) h
lock_at cut (truncate.Evict p) h e = ap (λ (m : Truncation). Some m.file) h
lock_at cut (truncate.Free p) h e = ap (λ (m : Truncation). Some m.file) h
lock_at cut (truncate.Unslot p) h e = ap (λ (m : Truncation). Some m.file) h
lock_at cut (truncate.Tail p) h e = ap (λ (m : Truncation). Some m.file) h
lock_at cut (truncate.Settle p) h e = (let d : true ≡ false = e in absurd (cc))
lock_at cut (truncate.Leave p) h e = (let d : true ≡ false = e in absurd (cc))

-- a truncation takes an index out of the reserve map at its tail alone
only_tail : (phase : TruncatePhase) → (word_of (call.Truncate phase) ≡ word.Delete) ⊎ (word_of (call.Truncate phase) ≡ word.Tail)
    → is_tail (word_of (call.Truncate phase)) ≡ true
only_tail phase (inl e) = absurd (no_delete phase e)
  where
    no_delete : (phase : TruncatePhase) → word_of (call.Truncate phase) ≡ word.Delete → ⊥
    no_delete (truncate.Start p) e = cc
    no_delete (truncate.Size p) e = cc
    no_delete (truncate.Want p) e = cc
    no_delete (truncate.Locked p) e = cc
    no_delete (truncate.Unmap p) e = cc
    no_delete (truncate.Evict p) e = cc
    no_delete (truncate.Free p) e = cc
    no_delete (truncate.Unslot p) e = cc
    no_delete (truncate.Tail p) e = cc
    no_delete (truncate.Settle p) e = cc
    no_delete (truncate.Leave p) e = cc
only_tail phase (inr e) = ap is_tail e

-- where the call stands: over, or in a phase before that
data CutStage (cut : Truncation) (c : Option Call) : Type 0 where
  Over : CallCuts cut true c → CutStage cut c
  Holds : (phase : TruncatePhase) → c ≡ Some (call.Truncate phase) → Cutting cut phase → is_over phase ≡ false → CutStage cut c

-- the truncation is on its way, or over
where_it_stands : (cut : Truncation) (c : Option Call) → CallCuts cut false c → CutStage cut c
where_it_stands cut None h = Over tt
where_it_stands cut (Some (call.Truncate phase)) h = by_end (is_over phase) refl
  where
    by_end : (b : Bool) → is_over phase ≡ b → CutStage cut (Some (call.Truncate phase))
    by_end true e = Over (h.0, λ _. e)
    by_end false e = Holds phase refl h.0 e
where_it_stands cut (Some (call.Touch p)) h = absurd h
where_it_stands cut (Some (call.Map p)) h = absurd h
where_it_stands cut (Some (call.Alloc p)) h = absurd h
where_it_stands cut (Some (call.Punch p)) h = absurd h
where_it_stands cut (Some (call.Unmap p)) h = absurd h
where_it_stands cut (Some (call.Exit p)) h = absurd h

-- at its tail it gets over
tail_step : (s : State) (t : ℕ) (cut : Truncation) (grant : Bool) (phase : TruncatePhase) (o : Outcome) (n : State) (i : ℕ)
    → s.calls t ≡ Some (call.Truncate phase) → Cutting cut phase → is_tail (word_of (call.Truncate phase)) ≡ true
    → Row s (Step t grant) o n → s.reserved cut.file i ≡ true → n.reserved cut.file i ≡ false → CallCuts cut true (n.calls t)
tail_step s t cut grant phase o n i e h tail row a b = step_cases s t grant o n (CallCuts cut true (n.calls t)) row
    (λ why _ d. clash (s.reserved cut.file i) a (ap (λ (m : State). m.reserved cut.file i) (sym d) ∙ b))
    (λ c lives some pool next r d. subst (λ (m : State). CallCuts cut true (m.calls t)) (sym d)
    (subst (CallCuts cut true) (sym (put_same s.calls t next))
    (cut_call s t (is_killed (s.life t)) grant cut false true (call.Truncate phase) o pool next
    (h, λ z. absurd (never z)) (λ _. inr tail)
    (subst (λ (m : Call). CallRow (pool_of s) t (is_killed (s.life t)) grant m o pool next) (same_call (sym some ∙ e)) r))))
  where
    never : false ≡ true → ⊥
    never z = cc

    same_call : {a b : Call} → Some a ≡ Some b → a ≡ b
    same_call z = cc

-- a reserved index of its file stays so, or it gets over
kept_row : (s : State) (t : ℕ) (cut : Truncation) (i : ℕ) (event : Event) (o : Outcome) (n : State) → Always s
    → is_begun t event o ≡ 0 → CallCuts cut false (s.calls t) → Row s event o n
    → s.reserved cut.file i ≡ true → (n.reserved cut.file i ≡ true) ⊎ CallCuts cut true (n.calls t)
kept_row s t cut i event o n h quiet w row a = by_mark (n.reserved cut.file i) refl
  where
    goes : n.reserved cut.file i ≡ false → CutStage cut (s.calls t) → CallCuts cut true (n.calls t)
    goes b (Over over) = cut_row s t cut true event o n h quiet over row
    goes b (Holds phase e cutting on) =
        let k = goes_under s event o n cut.file i h row a b in
        let lock : HasLock s t cut.file =
        subst (λ (m : ℕ). s.locks m ≡ Some t) refl
        (locks_file s.geometry s t cut.file h.inv (ap locked_file e ∙ lock_at cut phase cutting on)) in
        let d : k.0 ≡ t = same_holder k.0 t (s.locks cut.file) k.5 lock in
        let there : Some k.2 ≡ Some (call.Truncate phase) = sym (ap s.calls (sym d) ∙ k.4) ∙ e in
        tail_step s t cut k.1 phase o n i e cutting
        (only_tail phase (subst (λ (m : Call). (word_of m ≡ word.Delete) ⊎ (word_of m ≡ word.Tail))
        (same_call there) k.6)) (subst (λ (m : Event). Row s m o n) (k.3 ∙ ap (λ (m : ℕ). Step m k.1) d) row) a b
      where
        same_call : {a b : Call} → Some a ≡ Some b → a ≡ b
        same_call z = cc

    by_mark : (b : Bool) → n.reserved cut.file i ≡ b → (n.reserved cut.file i ≡ true) ⊎ CallCuts cut true (n.calls t)
    by_mark true e = inl e
    by_mark false e = inr (goes e (where_it_stands cut (s.calls t) w))

-- over a run that begins no call of the task, a reserved index stays so until the tail is out
kept_run : (t : ℕ) (cut : Truncation) (i : ℕ) (s : State) (es : List (Event × Outcome)) (n : State) → Run s es n → Always s
    → calls_begun t es ≡ 0 → CallCuts cut false (s.calls t)
    → (s.reserved cut.file i ≡ true) ⊎ CallCuts cut true (s.calls t)
    → CallCuts cut false (n.calls t) × ((n.reserved cut.file i ≡ true) ⊎ CallCuts cut true (n.calls t))
kept_run t cut i s [] n r h quiet w k =
    subst (λ (m : State). CallCuts cut false (m.calls t)
    × ((m.reserved cut.file i ≡ true) ⊎ CallCuts cut true (m.calls t))) (sym r) (w, k)
kept_run t cut i s (e ∷ es) n r h quiet w k =
    kept_run t cut i r.0 es n r.2 (row_keeps s e.0 e.1 r.0 h r.1) (omega arith)
    (cut_row s t cut false e.0 e.1 r.0 h (omega arith) w r.1) (elim k [
      | inl a ↦ kept_row s t cut i e.0 e.1 r.0 h (omega arith) w r.1 a
      | inr b ↦ inr (cut_row s t cut true e.0 e.1 r.0 h (omega arith) b r.1)
    ])

-- what is over has taken out what lies from the new size on
over_gone : (cut : Truncation) (i : ℕ) (phase : TruncatePhase) → Cutting cut phase → is_over phase ≡ true → cut.new ≤ i
    → gone (Some (call.Truncate phase)) cut.file i ≡ true
over_gone cut i (truncate.Settle p) h e l =
    subst (λ (m : Truncation). ((m.file == cut.file) && nat_le m.new i) ≡ true) (sym h) (from_on cut.file cut.new i l)
  where
    from_on : (f new j : ℕ) → new ≤ j → ((f == f) && nat_le new j) ≡ true
    from_on f new j l = grind (arith, nat_tests)
over_gone cut i (truncate.Leave p) h e l =
    subst (λ (m : Truncation). ((m.file == cut.file) && nat_le m.new i) ≡ true) (sym h) (from_on cut.file cut.new i l)
  where
    from_on : (f new j : ℕ) → new ≤ j → ((f == f) && nat_le new j) ≡ true
    from_on f new j l = grind (arith, nat_tests)
over_gone cut i phase h e l = (let d : false ≡ true = e in absurd (cc))

-- an index from which a truncation takes the page stays reserved until its tail is out
pub evicted_stays : (s : State) (t : ℕ) (p : Evict) (rest : List (Event × Outcome)) (n : State) (q : TruncatePhase)
    → IsReached s → s.calls t ≡ Some (call.Truncate (truncate.Evict p)) → Run s rest n → calls_begun t rest ≡ 0
    → n.calls t ≡ Some (call.Truncate q) → gone (n.calls t) p.truncation.file p.index ≡ false
    → n.reserved p.truncation.file p.index ≡ true
evicted_stays s t p rest n q reached e run quiet there not_gone =
    let h = always s reached in
    let y = stands_at s t (Some (call.Truncate (truncate.Evict p))) h.inv e in
    let marked : s.reserved p.truncation.file p.index ≡ true = has_mark (s.pages p.truncation.file p.index) refl y.facts.cached in
    let start : CallCuts p.truncation false (s.calls t) = subst (CallCuts p.truncation false) (sym e) (refl, λ z. absurd (never z)) in
    let k = kept_run t p.truncation p.index s rest n run h quiet start (inl marked) in
    elim k.1 [
      | inl a ↦ a
      | inr over ↦ (let o : After p.truncation true q = subst (CallCuts p.truncation true) there over in
          clash (gone (n.calls t) p.truncation.file p.index)
          (ap (λ (m : Option Call). gone m p.truncation.file p.index) there
          ∙ over_gone p.truncation p.index q o.0 (o.1 refl) y.facts.aim.index.0) not_gone)
    ]
  where
    never : false ≡ true → ⊥
    never z = cc

    has_mark : (o : Option ℕ) → s.pages p.truncation.file p.index ≡ o → o ≢ None → s.reserved p.truncation.file p.index ≡ true
    has_mark None d some = absurd (some refl)
    has_mark (Some x) d some = pages_are_reserved s reached p.truncation.file p.index x d

-- a truncation evicted no more pages than its tail takes indices out
pub evicted_few : (s : State) (t : ℕ) (p : Tail) → IsReached s → s.calls t ≡ Some (call.Truncate (truncate.Tail p))
    → p.evicted ≤ count_within (s.reserved p.truncation.file) p.truncation.new s.geometry.limit
evicted_few s t p reached e = (stands_at s t (Some (call.Truncate (truncate.Tail p))) (always s reached).inv e).facts.lost

-- A run of a schedule has one line: whatever frames its takes give.
use Rattle.std.proofs.Common.{◌≡◌, ℕ, zero, suc, ◌+◌, List, [], ◌∷◌, ◌++◌, length, refl, sym, ap}
use Rattle.std.proofs.Common.{◌∙◌, subst, arith, inl, inr}
use Rattle.std.specs.Prelude.{Bool, true, false, not, ◌&&◌, ◌-◌, is_none, is_some, nat_le, slice_index, MatchBool, if◌then◌else◌}
use Rattle.std.specs.List.{range_with_len, list_all, zip}
use Rattle.hp_base.specs.Text.{sizes}
use Rattle.hp_base.specs.declared.event.Event.{Event}
use Rattle.hp_audit.specs.declared.picture.Picture.{Picture}
use Rattle.hp_audit.specs.declared.finding.Finding.{Finding}
use Rattle.hp_audit.specs.declared.finding.Finding.TheVariants.{Shape, Agree, Place, Size, Count, Used}
use Rattle.hp_audit.specs.Findings.{IsRight}
use Rattle.hp_machine.specs.State.{State, free_frames, is_alive}
use Rattle.hp_machine.specs.Events as rows
use Rattle.hp_machine.specs.Events.{IsReached, word_of}
use Rattle.hp_machine.specs.declared.outcome.Life.{Life}
use Rattle.hp_machine.specs.declared.outcome.Outcome.{Outcome}
use Rattle.hp_core.specs.State.{CoreState, as_state}
use Rattle.hp_core.specs.Readers.{phase_of, life_of, free_of, resv_of}
use Rattle.hp_core.specs.Runs.{Row, Run, IsOpening, geometry}
use Rattle.hp_core.proofs.Audited.{right_of}
use Rattle.hp_explore.specs.declared.line.Finish.{Finish}
use Rattle.hp_explore.specs.declared.line.Finish.TheVariants.{Finished, Stuck}
use Rattle.hp_explore.specs.declared.line.RunLine.{RunLine}
use Rattle.hp_text.specs.declared.script.Script.{Script}
use Rattle.hp_explore.specs.Schedule.{Plan, World, IsStart, Turn, Choice, CanTurn, AreRunnable, AreRunnableOf, in_call, next_call}
use Rattle.hp_explore.specs.Schedule.{may_begin, next_needs}
use Rattle.hp_explore.specs.Schedule.{choice_of, task_choice, picked, drawn, plan_of}
use Rattle.hp_explore.specs.Explored.{Finds, IsFirst, IsRun, IsExplored, line_of, all_done, idle_finish, last_finish, turn_limit}
use Rattle.hp_alike.proofs.Twins.{Twins, opening_twins, told_same, still_some, same_busy, same_life, same_resv, same_free}
use Rattle.hp_alike.proofs.Twins.{waits_there, waits_here}

-- two runs between two turns that differ in the names of frames alone
pub record WorldTwins (v w : World) : Type 0 where
  pub cores : Twins (as_state v.core) (as_state w.core)
  pub made : w.made ≡ v.made
  pub rng : w.rng ≡ v.rng
  pub turns : w.turns ≡ v.turns

-- the same tasks have calls in flight, and are alive
same_in_call : (v w : World) → WorldTwins v w → (t : ℕ) → in_call w t ≡ in_call v t
unfolding phase_of
same_in_call v w h t =
    still_some word_of ((as_state w.core).calls t)
    ∙ (same_busy (as_state v.core) (as_state w.core) t h.cores ∙ sym (still_some word_of ((as_state v.core).calls t)))

same_alive : (v w : World) → WorldTwins v w → (t : ℕ) → is_alive (life_of w.core t) ≡ is_alive (life_of v.core t)
unfolding life_of
same_alive v w h t = ap (λ (l : Life). is_alive l) (same_life (as_state v.core) (as_state w.core) t h.cores)

-- the same tasks may begin a call
same_begin : (plan : Plan) (v w : World) → WorldTwins v w → (t : ℕ) → may_begin plan w t ≡ may_begin plan v t
same_begin plan v w h t =
    λ i. is_some (next_call plan (h.made i) t)
    && list_all (λ need. nat_le need.calls (slice_index (h.made i) (need.place + 1 - 1)
    - (if same_in_call v w h (need.place + 1) i then 1 else 0))) (next_needs plan (h.made i) t)

-- what follows from either side follows from a choice between them
match_same : {b c : Bool} {P Q R S : Type 0} → c ≡ b → (P → R) → (Q → S) → MatchBool b P Q → MatchBool c R S
match_same {b = true} {c = true} e f g h = f h
match_same {b = true} {c = false} e f g h = absurd (cc)
match_same {b = false} {c = true} e f g h = absurd (cc)
match_same {b = false} {c = false} e f g h = g h

-- the same tasks may take a turn
can_there : (plan : Plan) (v w : World) (t : ℕ) → WorldTwins v w → CanTurn plan v t → CanTurn plan w t
can_there plan v w t h can =
    match_same (same_in_call v w h t) (waits_there v.core w.core t h.cores) (λ may. same_begin plan v w h t ∙ may) can

can_here : (plan : Plan) (v w : World) (t : ℕ) → WorldTwins v w → CanTurn plan w t → CanTurn plan v t
can_here plan v w t h can =
    match_same (sym (same_in_call v w h t)) (waits_here v.core w.core t h.cores) (λ may. sym (same_begin plan v w h t) ∙ may) can

same_runnable : (plan : Plan) (v w : World) (n : ℕ) (ts us : List ℕ) → WorldTwins v w → AreRunnableOf plan v n ts
    → AreRunnableOf plan w n us → us ≡ ts
unfolding AreRunnableOf
same_runnable plan v w zero ts us h a b = b ∙ sym a
same_runnable plan v w (suc n) ts us h (front, before, inl a) (other, there, inl b) =
    let same = same_runnable plan v w n front other h before there in
    b.1 ∙ (ap (λ (xs : List ℕ). xs ++ suc n ∷ []) same ∙ sym a.1)
same_runnable plan v w (suc n) ts us h (front, before, inl a) (other, there, inr b) = absurd (b.0 (can_there plan v w (suc n) h a.0))
same_runnable plan v w (suc n) ts us h (front, before, inr a) (other, there, inl b) = absurd (a.0 (can_here plan v w (suc n) h b.0))
same_runnable plan v w (suc n) ts us h (front, before, inr a) (other, there, inr b) =
    b.1 ∙ (same_runnable plan v w n front other h before there ∙ sym a.1)

same_tasks : (plan : Plan) (v w : World) (ts us : List ℕ) → WorldTwins v w → AreRunnable plan v ts
    → AreRunnable plan w us → us ≡ ts
same_tasks plan v w ts us h a b =
    same_runnable plan v w (length v.made) ts us h a
    (subst (λ (made : List ℕ). AreRunnableOf plan w (length made) us) h.made b)

-- and a turn does the same
same_choice : (plan : Plan) (v w : World) (ts us : List ℕ) → WorldTwins v w → us ≡ ts
    → choice_of plan w us ≡ choice_of plan v ts
same_choice plan v w ts us h e =
    let pick : picked us w.rng ≡ picked ts v.rng = λ i. picked (e i) (h.rng i) in
    let busy : in_call w (picked us w.rng) ≡ in_call v (picked ts v.rng) =
    ap (λ (t : ℕ). in_call w t) pick ∙ same_in_call v w h (picked ts v.rng) in
    let alive : is_alive (life_of w.core (picked us w.rng)) ≡ is_alive (life_of v.core (picked ts v.rng)) =
    ap (λ (t : ℕ). is_alive (life_of w.core t)) pick ∙ same_alive v w h (picked ts v.rng) in
    λ i. task_choice plan (busy i) (alive i) (h.made i) (pick i) (drawn (h.rng i))

same_turn : (plan : Plan) (v w x y : World) (e f : Event) → WorldTwins v w → Turn plan v e x → Turn plan w f y
    → (f ≡ e) × WorldTwins x y
unfolding Row
same_turn plan v w x y e f h a b =
    let tasks = same_tasks plan v w a.tasks b.tasks h a.runnable b.runnable in
    let choice = same_choice plan v w a.tasks b.tasks h tasks in
    let event : f ≡ e = b.chosen ∙ (ap (λ (c : Choice). c.event) choice ∙ sym a.chosen) in
    let row = subst (λ (g : Event). rows.Row (as_state w.core) g b.outcome (as_state y.core)) event b.row.0 in
    let cores =
    told_same (as_state v.core) (as_state w.core) (as_state x.core) (as_state y.core) e a.outcome b.outcome h.cores a.row.0 row in (
      event,
      record {
        cores = cores.1;
        made = b.made ∙ (ap (λ (c : Choice). c.made) choice ∙ sym a.made);
        rng = b.rng ∙ (ap (λ (c : Choice). c.rng) choice ∙ sym a.rng);
        turns = b.turns ∙ (ap (λ (n : ℕ). n + 1) h.turns ∙ sym a.turns);
      },
    )

-- the same is told of both
same_line : (run : ℕ) (finish : Finish) (v w : World) → WorldTwins v w → line_of run finish w ≡ line_of run finish v
unfolding free_of resv_of
same_line run finish v w h =
    let free = same_free (as_state v.core) (as_state w.core) h.cores in
    let resv = same_resv (as_state v.core) (as_state w.core) h.cores in
    λ i. record { run = run; finish = finish; turns = h.turns i; free = free i; resv = resv i }

same_done : (plan : Plan) (v w : World) → WorldTwins v w → all_done plan w ≡ all_done plan v
same_done plan v w h =
    λ i. list_all (λ t. not (same_in_call v w h t i) && is_none (next_call plan (h.made i) t)) (range_with_len 1 (length (h.made i)))

same_idle : (plan : Plan) (v w : World) → WorldTwins v w → idle_finish plan w ≡ idle_finish plan v
same_idle plan v w h = ap (λ (b : Bool). if b then Finished else Stuck) (same_done plan v w h)

same_last : (plan : Plan) (v w : World) (ts : List ℕ) → WorldTwins v w → last_finish plan w ts ≡ last_finish plan v ts
same_last plan v w [] h = same_idle plan v w h
same_last plan v w (t ∷ ts) h = refl

same_end : (run : ℕ) (f g : Finish) (v w : World) (l m : RunLine) → WorldTwins v w → g ≡ f → l ≡ line_of run f v
    → m ≡ line_of run g w → m ≡ l
same_end run f g v w l m h e a b = b ∙ (ap (λ (x : Finish). line_of run x w) e ∙ (same_line run f v w h ∙ sym a))

-- an audit of a reached core finds nothing
pub never_finds : (core : CoreState) (found : Finding) → IsReached (as_state core) → Finds core found → ⊥
never_finds core found reached h = wrong found h.picture (right_of core h.picture reached h.is) h.first
  where
    wrong : (found : Finding) (p : Picture) → IsRight p → IsFirst found p → ⊥
    wrong Shape p right h = h right.0
    wrong Agree p right h = h.1 right.1
    wrong Place p right h = h.2 right.2
    wrong Size p right h = h.3 right.3
    wrong Count p right h = h.4 right.4
    wrong Used p right h = h.5 right.5

-- a turn isn't made where no task may take one
no_turn : (plan : Plan) (v w x : World) (e : Event) → WorldTwins v w → Turn plan v e x → AreRunnable plan w [] → ⊥
no_turn plan v w x e h turn idle =
    let same : [] ≡ turn.tasks = same_tasks plan v w turn.tasks [] h turn.runnable idle in
    let none : 0 ≡ length turn.tasks = ap (λ (xs : List ℕ). length xs) same in
    omega (arith, turn.some, none)

no_turn_there : (plan : Plan) (v w y : World) (f : Event) → WorldTwins v w → AreRunnable plan v [] → Turn plan w f y → ⊥
no_turn_there plan v w y f h idle turn =
    let same : turn.tasks ≡ [] = same_tasks plan v w [] turn.tasks h idle turn.runnable in
    let none : length turn.tasks ≡ 0 = ap (λ (xs : List ℕ). length xs) same in
    omega (arith, turn.some, none)

-- two runs from there make the same events and have the same line
one_run : (plan : Plan) (run left : ℕ) (v w : World) (es fs : List Event) (l m : RunLine) → WorldTwins v w
    → IsRun plan run left v es l → IsRun plan run left w fs m → (fs ≡ es) × (m ≡ l)
unfolding IsRun
one_run plan run zero v w es fs l m h (ts, idle, none, line) (us, there, nothing, other) =
    let tasks = same_tasks plan v w ts us h idle there in
    let finish = ap (λ (xs : List ℕ). last_finish plan w xs) tasks ∙ same_last plan v w ts h in
    (nothing ∙ sym none, same_end run (last_finish plan v ts) (last_finish plan w us) v w l m h finish line other)
one_run plan run (suc left) v w es fs l m h (inl (idle, none, line)) (inl (there, nothing, other)) =
    (nothing ∙ sym none, same_end run (idle_finish plan v) (idle_finish plan w) v w l m h (same_idle plan v w h) line other)
one_run plan run (suc left) v w es fs l m h (inl a) (inr b) = absurd (no_turn_there plan v w b.2 b.0 h a.0 b.4)
one_run plan run (suc left) v w es fs l m h (inr a) (inl b) = absurd (no_turn plan v w a.2 a.0 h a.4 b.0)
one_run plan run (suc left) v w es fs l m h (inr (e, xs, x, is, turn, inl on)) (inr (f, ys, y, there, other, inl after)) =
    let both = same_turn plan v w x y e f h turn other in
    let rest = one_run plan run left x y xs ys l m both.1 on.1 after.1 in
    (there ∙ ((λ i. both.0 i ∷ rest.0 i) ∙ sym is), rest.1)
one_run plan run (suc left) v w es fs l m h (inr (e, xs, x, is, turn, inr on)) (inr (f, ys, y, there, other, after)) =
    absurd (never_finds x.core on.0 (same_turn plan v w x y e f h turn other).1.cores.reached on.1)
one_run plan run (suc left) v w es fs l m h (inr (e, xs, x, is, turn, inl on)) (inr (f, ys, y, there, other, inr after)) =
    absurd (never_finds y.core after.0 (same_turn plan v w x y e f h turn other).1.cores.other after.1)

-- runs of one script and seed begin alike
same_start : (script : Script) (seed : ℕ) (v w : World) → IsStart script seed v → IsStart script seed w → WorldTwins v w
unfolding IsOpening
same_start script seed v w a b = record {
  cores = opening_twins (geometry (sizes script.config)) script.config.frames (as_state v.core) (as_state w.core) a.core.1 b.core.1;
  made = b.made ∙ sym a.made;
  rng = b.rng ∙ sym a.rng;
  turns = b.turns ∙ sym a.turns;
}

pub one_line : (script : Script) (seed deny kill run : ℕ) (es fs : List Event) (l m : RunLine)
    → IsExplored script seed deny kill run es l → IsExplored script seed deny kill run fs m → (fs ≡ es) × (m ≡ l)
unfolding IsExplored
one_line script seed deny kill run es fs l m (v, a, run_v) (w, b, run_w) =
    one_run (plan_of script deny kill) run turn_limit v w es fs l m (same_start script _ v w a b) run_v run_w

-- what a replay of the events comes to, from a twin of the run's core on
Tells : RunLine → ℕ → List Event → State → Type 0
Tells line turns es x =
    (line.free ≡ free_frames x.frame x.frames) × (line.resv ≡ x.resv) × (line.turns ≡ turns + length es)

ended : (run : ℕ) (f : Finish) (v : World) (n x : State) (line : RunLine) → Twins (as_state v.core) n
    → line ≡ line_of run f v → x ≡ n
    → Tells line v.turns [] x
unfolding free_of resv_of Tells
ended run f v n x line h e is = (
  ap (λ (l : RunLine). l.free) e ∙ (sym (same_free (as_state v.core) n h) ∙ ap (λ (m : State). free_frames m.frame m.frames) (sym is)),
  ap (λ (l : RunLine). l.resv) e ∙ (sym (same_resv (as_state v.core) n h) ∙ ap (λ (m : State). m.resv) (sym is)),
  ap (λ (l : RunLine). l.turns) e ∙ (omega arith),
)

replay_run : (plan : Plan) (run left : ℕ) (v : World) (n x : State) (es : List Event) (os : List Outcome) (line : RunLine)
    → Twins (as_state v.core) n → IsRun plan run left v es line → rows.Run n (zip es os) x → length os ≡ length es
    → Tells line v.turns es x
unfolding IsRun Row Tells
replay_run plan run zero v n x [] os line h (ts, idle, none, is) told long = ended run (last_finish plan v ts) v n x line h is told
replay_run plan run zero v n x (e ∷ es) os line h (ts, idle, none, is) told long = absurd (cc)
replay_run plan run (suc left) v n x [] os line h (inl (idle, none, is)) told long = ended run (idle_finish plan v) v n x line h is told
replay_run plan run (suc left) v n x (e ∷ es) os line h (inl (idle, none, is)) told long = absurd (cc)
replay_run plan run (suc left) v n x [] os line h (inr (f, rest, w, is, turn, after)) told long = absurd (cc)
replay_run plan run (suc left) v n x (e ∷ es) [] line h (inr (f, rest, w, is, turn, after)) told long = absurd (omega (arith, long))
replay_run plan run (suc left) v n x (e ∷ es) (o ∷ os) line h (inr (f, rest, w, is, turn, inl after)) (mid, row, told) long =
    let event : e ≡ f = (cc) in
    let events : rest ≡ es = (cc) in
    let both = told_same (as_state v.core) n (as_state w.core) mid f turn.outcome o h turn.row.0
    (subst (λ (g : Event). rows.Row n g o mid) event row) in
    let more =
    replay_run plan run left w mid x es os line both.1 (subst (λ (xs : List Event). IsRun plan run left w xs line) events after.1)
    told (omega (arith, long)) in
    (more.0, more.1, omega (arith, more.2, turn.turns))
replay_run plan run (suc left) v n x (e ∷ es) (o ∷ os) line h (inr (f, rest, w, is, turn, inr after)) (mid, row, told) long =
    let event : e ≡ f = (cc) in
    let both = told_same (as_state v.core) n (as_state w.core) mid f turn.outcome o h turn.row.0
    (subst (λ (g : Event). rows.Row n g o mid) event row) in
    absurd (never_finds w.core after.0 both.1.reached after.1)

pub replayed : (script : Script) (seed deny kill run : ℕ) (es : List Event) (line : RunLine) (first new : CoreState) (os : List Outcome)
    → IsExplored script seed deny kill run es line → IsOpening script.config first → Run first es os new
    → (line.free ≡ free_of new) × (line.resv ≡ resv_of new) × (line.turns ≡ length es)
unfolding IsExplored IsOpening Run free_of resv_of Tells
replayed script seed deny kill run es line first new os (v, start, explored) opens (told, long, same) =
    let twins = opening_twins (geometry (sizes script.config)) script.config.frames (as_state v.core) (as_state first)
    start.core.1 opens.1 in
    let tells =
    replay_run (plan_of script deny kill) run turn_limit v (as_state first) (as_state new) es os line twins explored told long in
    (tells.0, tells.1, omega (arith, tells.2, start.turns))

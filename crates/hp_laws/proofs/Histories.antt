-- What a load tells, over a history.
use Rattle.std.proofs.Common.{◌≡◌, ℕ, ◌+◌, refl, ap, sym, ◌∙◌, subst, arith, inl, inr, append_assoc, append-nil}
use Rattle.std.specs.Prelude.{Bool, nat_le, Option, Some, None, List, [], ◌∷◌, ◌++◌}
use Rattle.hp_base.specs.Mappings.{find}
use Rattle.hp_base.specs.declared.answer.Answer.{Answer}
use Rattle.hp_base.specs.declared.answer.Answer.TheVariants as answer
use Rattle.hp_base.specs.declared.event.Event.{Event}
use Rattle.hp_base.proofs.Puts.{put_same}
use Rattle.hp_frames.specs.declared.frame.FrameState.TheVariants as state
use Rattle.hp_machine.specs.State.{Geometry, Pool, State, pool_of, is_killed}
use Rattle.hp_machine.specs.Parts.{answer_of}
use Rattle.hp_machine.specs.Events.{Row, CallRow, Run, opening, outcome_of, left}
use Rattle.hp_machine.specs.declared.touch.Access.TheVariants.{Load}
use Rattle.hp_machine.specs.declared.touch.Access.{Access}
use Rattle.hp_machine.specs.declared.touch.Look.{Look}
use Rattle.hp_machine.specs.declared.touch.Found.{Found}
use Rattle.hp_machine.specs.declared.touch.Leave.{Leave}
use Rattle.hp_machine.specs.declared.touch.TouchPhase.TheVariants as touch
use Rattle.hp_machine.specs.declared.phase.Phase.{Phase}
use Rattle.hp_machine.specs.declared.outcome.Outcome.{Outcome}
use Rattle.hp_machine.specs.declared.outcome.Outcome.TheVariants as outcome
use Rattle.hp_machine.specs.declared.call.Call.{Call}
use Rattle.hp_machine.specs.declared.call.Call.TheVariants as call
use Rattle.hp_laws.specs.Bounds.{is_begun, calls_begun}
use Rattle.hp_laws.specs.Histories.{Moment, History, in_order}
use Rattle.hp_laws.specs.Words.{LastWord, Read}
use Rattle.hp_laws.proofs.Invariant.{Inv}
use Rattle.hp_laws.proofs.Shared.{by_test, by_option}
use Rattle.hp_laws.proofs.Runs.{Always, row_keeps, opens_well}
use Rattle.hp_laws.proofs.Reading.{step_of}
use Rattle.hp_laws.proofs.LastWords.{moment, Tells, row_tells}

-- the word is the last one that was made there, and no other is
abbrev pub IsLast : (file index : ℕ) → List Moment → (word : ℕ) → Type 0
IsLast f i ms w = LastWord f i ms w × ((v : ℕ) → LastWord f i ms v → v ≡ w)

-- each page holds its last word
abbrev pub Holds : List Moment → State → Type 0
Holds ms s = (f i x w : ℕ) → s.pages f i ≡ Some x → s.frame x ≡ state.Placed w → IsLast f i ms w

-- an event that tells each page's word keeps it the last one made there
holds_after : (s : State) (event : Event) (o : Outcome) (n : State) (ms : List Moment) → Tells s event o n → Holds ms s
    → Holds (moment s event o n ∷ ms) n
holds_after s event o n ms tells holds f i x w a b = elim (tells f i x w a b) [
  | inl k ↦ (inl k.0, λ v l. elim l [ inl z ↦ k.1 v z | inr z ↦ absurd (z.0 w k.0) ])
  | inr k ↦ (let o = holds f i x w k.1 k.2 in (inr (k.0, o.0), λ v l. elim l [ inl z ↦ absurd (k.0 v z) | inr z ↦ o.1 v z.1 ]))
]

-- an index without a page hasn't that page
no_page : {P : Type 0} (x : ℕ) → ◌≡◌ {A = Option ℕ} None (Some x) → P
no_page x e = absurd (cc)

-- so each page holds its last word after every history
pub history_holds : (g : Geometry) (frames : ℕ) (ms : List Moment) (s : State) → History g frames ms s → Always s × Holds ms s
history_holds g frames [] s h =
    (subst Always (sym h) (opens_well g frames), λ f i x w a b. no_page x (sym (ap (λ (m : State). m.pages f i) h) ∙ a))
history_holds g frames (m ∷ ms) s h =
    let k = history_holds g frames ms m.before h.2 in (
      subst Always h.0 (row_keeps m.before m.event m.outcome m.after k.0 h.1),
      subst (Holds (m ∷ ms)) h.0
          (holds_after m.before m.event m.outcome m.after ms (row_tells m.before m.event m.outcome m.after k.0 h.1) k.1),
    )

-- the page that a load read
abbrev Reads : State → (f i w : ℕ) → Type 0
Reads s f i w = (x : ℕ) × (s.pages f i ≡ Some x) × (s.frame x ≡ state.Placed w)

-- the answer of a load is its word
ended_word : {a w : ℕ} → outcome.Ended (answer.Word a) ≡ outcome.Ended (answer.Word w) → a ≡ w
ended_word e = cc

-- a load that ends as it looks read the page that its entry names
look_reads : (s : State) (t : ℕ) (killed grant : Bool) (p : Look) (o : Outcome) (pool : Pool) (next : Option Call) (f i w : ℕ)
    → Inv s.geometry s → CallRow (pool_of s) t killed grant (call.Touch (touch.Look p)) o pool next
    → p.access ≡ Load → find (s.mappings t) p.vpn ≡ Some (f, i) → o ≡ outcome.Ended (answer.Word w) → Reads s f i w
unfolding CallRow
look_reads s t killed grant p o pool next f i w h (turn, row, tells, leaves) loads there ends =
    by_option (find (s.mappings t) p.vpn) row
    (λ none r. (let z : ◌≡◌ {A = Option (ℕ × ℕ)} None (Some (f, i)) = sym none ∙ there in absurd (cc)))
    (λ place found r. by_option (s.entries t p.vpn) r
    (λ none r. absurd (not_moved (sym (tells ∙ ap (outcome_of call.Touch) r.0) ∙ ends)))
    (λ x entry r. let k = h.entries.agree t p.vpn x entry in
    let same : k.0 ≡ (f, i) = pair_of (sym k.1 ∙ there) in
    let word : r.0 ≡ w =
    ended_word (sym (tells ∙ (ap (outcome_of call.Touch) r.2.0 ∙ ap (λ (a : Access). outcome.Ended (answer_of a r.0)) loads)) ∙ ends) in
    (x, subst (λ (m : ℕ × ℕ). s.pages m.0 m.1 ≡ Some x) same k.2, r.1 ∙ ap (λ (m : ℕ). state.Placed m) word)))
  where
    not_moved : {q : Phase} {a : Answer} → outcome.Moved q ≡ outcome.Ended a → ⊥
    not_moved z = cc

    pair_of : {a b : ℕ × ℕ} → Some a ≡ Some b → a ≡ b
    pair_of z = cc

-- what a touch leaves with is what it carries
same_leave : {a b : Leave} → Some (call.Touch (touch.Leave a)) ≡ Some (call.Touch (touch.Leave b)) → a ≡ b
same_leave z = cc

-- an answer of a word tells that word
same_word : {a b : ℕ} → answer.Word a ≡ answer.Word b → a ≡ b
same_word z = cc

-- a load that found its page read it
found_reads : (s : State) (t : ℕ) (killed grant : Bool) (p : Found) (o : Outcome) (pool : Pool) (next : Option Call) (w : ℕ)
    → CallRow (pool_of s) t killed grant (call.Touch (touch.Found p)) o pool next
    → p.touch.access ≡ Load → next ≡ Some (call.Touch (touch.Leave (record { touch = p.touch; answer = answer.Word w })))
    → Reads s p.touch.file p.touch.index w
unfolding CallRow
found_reads s t killed grant p o pool next w (turn, row, tells, leaves) loads is =
    by_test (nat_le (s.size p.touch.file) p.touch.index) row
    (λ _ r. (let z : answer.Beyond ≡ answer.Word w = ap (λ (m : Leave). m.answer)
    (same_leave (sym (leaves ∙ ap (left call.Touch) r.0) ∙ is)) in absurd (cc)))
    (λ _ r. by_test grant r
    (λ _ r. let word : r.1 ≡ w = same_word
    (sym (ap (λ (a : Access). answer_of a r.1) loads)
    ∙ ap (λ (m : Leave). m.answer) (same_leave (sym (leaves ∙ ap (left call.Touch) r.4.0) ∙ is))) in
    (r.0, r.2, r.3 ∙ ap (λ (m : ℕ). state.Placed m) word))
    (λ _ r. (let z : answer.NoMemory ≡ answer.Word w = ap (λ (m : Leave). m.answer)
    (same_leave (sym (leaves ∙ ap (left call.Touch) r.0) ∙ is)) in absurd (cc))))

-- so each step that reads for a load read a page
read_page : (m : Moment) (f i w : ℕ) → Always m.before → Row m.before m.event m.outcome m.after → Read f i m w → Reads m.before f i w
read_page m f i w h row read = elim read [
  | inl r ↦ (let s : State = m.before in
      let step = step_of s r.0 r.1 (call.Touch (touch.Look r.2)) m.outcome m.after
      (subst (λ (e : Event). Row s e m.outcome m.after) r.3 row) (h.lives.busy r.0 (call.Touch (touch.Look r.2)) r.4) r.4 in
      look_reads s r.0 (is_killed (s.life r.0)) r.1 r.2 m.outcome step.0 step.1 f i w h.inv step.2 r.5 r.6 r.7)
  | inr r ↦ (let s : State = m.before in
      let step = step_of s r.0 r.1 (call.Touch (touch.Found r.2)) m.outcome m.after
      (subst (λ (e : Event). Row s e m.outcome m.after) r.3 row) (h.lives.busy r.0 (call.Touch (touch.Found r.2)) r.4) r.4 in
      let next : step.1 ≡ Some (call.Touch (touch.Leave (record { touch = r.2.touch; answer = answer.Word w }))) =
      sym (ap (λ (n : State). n.calls r.0) step.3 ∙ put_same s.calls r.0 step.1) ∙ r.8 in
      subst (λ (k : ℕ). Reads s k i w) r.6
      (subst (λ (k : ℕ). Reads s r.2.touch.file k w) r.7
      (found_reads s r.0 (is_killed (s.life r.0)) r.1 r.2 m.outcome step.0 step.1 w step.2 r.5 next)))
]

-- a load tells the last word of its page, and no other is the last one
pub last_words : (g : Geometry) (frames : ℕ) (past : List Moment) (m : Moment) (f i w : ℕ) → History g frames (m ∷ past) m.after
    → Read f i m w → LastWord f i past w × ((v : ℕ) → LastWord f i past v → v ≡ w)
last_words g frames past m f i w h read =
    let k = history_holds g frames past m.before h.2 in
    let x = read_page m f i w k.0 h.1 read in
    k.1 f i x.0 w x.1 x.2

-- a history goes on with a run
goes_on : (g : Geometry) (frames : ℕ) (ms : List Moment) (s : State) (es : List (Event × Outcome)) (n : State)
    → History g frames ms s → Run s es n → (ns : List Moment) × History g frames ns n × (in_order ns ≡ in_order ms ++ es)
goes_on g frames ms s [] n h r = (ms, subst (History g frames ms) (sym r) h, sym (append-nil (in_order ms)))
goes_on g frames ms s (e ∷ es) n h r =
    let k = goes_on g frames (moment s e.0 e.1 r.0 ∷ ms) r.0 es n (refl, r.1, h) r.2 in
    (k.0, k.1, k.2 ∙ append_assoc (in_order ms) (e ∷ []) es)

-- a run is a history: its events with the states around them
pub run_history : (g : Geometry) (frames : ℕ) (es : List (Event × Outcome)) (s : State) → Run (opening g frames) es s
    → (ms : List Moment) × History g frames ms s × (in_order ms ≡ es)
run_history g frames es s r = goes_on g frames [] (opening g frames) es s refl r

-- what holds in every reached state holds after a history
pub history_well : (g : Geometry) (frames : ℕ) (ms : List Moment) (s : State) → History g frames ms s → Always s
history_well g frames ms s h = (history_holds g frames ms s h).0

-- the calls that begin in a list with one more event at its end
pub begun_more : (t : ℕ) (es : List (Event × Outcome)) (e : Event) (o : Outcome)
    → calls_begun t (es ++ ((e, o) ∷ [])) ≡ calls_begun t es + is_begun t e o
begun_more t [] e o = omega arith
begun_more t (x ∷ es) e o = let k = begun_more t es e o in omega arith

-- a run with one more event at its end
run_more : (s : State) (es : List (Event × Outcome)) (mid : State) (e : Event) (o : Outcome) (n : State) → Run s es mid → Row mid e o n
    → Run s (es ++ ((e, o) ∷ [])) n
run_more s [] mid e o n r row = (n, subst (λ (m : State). Row m e o n) r row, refl)
run_more s (x ∷ es) mid e o n r row = (r.0, r.1, run_more r.0 es mid e o n r.2 row)

-- the later moments of a history are a run from where the earlier ones end
pub later_run : (g : Geometry) (frames : ℕ) (later past : List Moment) (s : State) → History g frames (later ++ past) s
    → (mid : State) × History g frames past mid × Run mid (in_order later) s
later_run g frames [] past s h = (s, h, refl)
later_run g frames (m ∷ later) past s h =
    let k = later_run g frames later past m.before h.2 in
    (k.0, k.1, run_more k.0 (in_order later) m.before m.event m.outcome s k.2 (subst (Row m.before m.event m.outcome) h.0 h.1))

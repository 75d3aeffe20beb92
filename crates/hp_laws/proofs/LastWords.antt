-- The word of each page is the last one that was made there.
use Rattle.std.proofs.Common.{◌≡◌, ◌≢◌, ℕ, refl, ap, sym, ◌∙◌, subst, arith, inl, inr, ◌⊎◌}
use Rattle.std.specs.Prelude.{Bool, true, false, nat_le, Option, Some, None}
use Rattle.hp_base.specs.Numbers.{put, put2}
use Rattle.hp_base.specs.Mappings.{find}
use Rattle.hp_base.specs.declared.answer.Answer.{Answer}
use Rattle.hp_base.specs.declared.answer.Answer.TheVariants as answer
use Rattle.hp_base.specs.declared.event.Event.{Event}
use Rattle.hp_base.specs.declared.event.Event.TheVariants.{Begin, Step, Kill, Resize}
use Rattle.hp_base.proofs.Puts.{put_same, put_other, put2_tells, same_or_other}
use Rattle.hp_frames.specs.declared.frame.FrameState.{FrameState}
use Rattle.hp_frames.specs.declared.frame.FrameState.TheVariants as state
use Rattle.hp_machine.specs.State.{Pool, State, pool_of, is_killed}
use Rattle.hp_machine.specs.Parts.{answer_of, frame_after}
use Rattle.hp_machine.specs.TouchRows.{TouchLookRow, TouchFoundRow}
use Rattle.hp_machine.specs.Events.{Row, CallRow, outcome_of, left}
use Rattle.hp_machine.specs.declared.touch.Access.{Access}
use Rattle.hp_machine.specs.declared.touch.Access.TheVariants.{Load, Store}
use Rattle.hp_machine.specs.declared.touch.Look.{Look}
use Rattle.hp_machine.specs.declared.touch.Found.{Found}
use Rattle.hp_machine.specs.declared.touch.Leave.{Leave}
use Rattle.hp_machine.specs.declared.touch.TouchPhase.{TouchPhase}
use Rattle.hp_machine.specs.declared.touch.TouchPhase.TheVariants as touch
use Rattle.hp_machine.specs.declared.outcome.Outcome.{Outcome}
use Rattle.hp_machine.specs.declared.outcome.Outcome.TheVariants as outcome
use Rattle.hp_machine.specs.declared.outcome.Refusal.{Refusal}
use Rattle.hp_machine.specs.declared.call.Call.{Call}
use Rattle.hp_machine.specs.declared.call.Call.TheVariants as call
use Rattle.hp_machine.specs.declared.call.Turn.{Turn}
use Rattle.hp_machine.specs.declared.call.Turn.TheVariants.{Moved, Ended}
use Rattle.hp_laws.specs.Histories.{Moment}
use Rattle.hp_laws.specs.Words.{Wrote, Sets}
use Rattle.hp_laws.proofs.Deciding.{some_same}
use Rattle.hp_laws.proofs.Invariant.{Inv}
use Rattle.hp_laws.proofs.Moves.{other_page}
use Rattle.hp_laws.proofs.Shared.{by_test, by_option}
use Rattle.hp_laws.proofs.Runs.{Always}
use Rattle.hp_laws.proofs.Reading.{begin_cases, step_cases, kill_cases}
use Rattle.hp_laws.proofs.Resizing.{reframed, resize_cases, on_page}
use Rattle.hp_laws.proofs.Fits.{reads}
use Rattle.hp_laws.proofs.ByWrite.{Shrinks, PlacesOne, pages_by}
use Rattle.hp_laws.proofs.Did.{Stepped}
use Rattle.hp_laws.proofs.Steps.{call_did}

-- an event with its outcome and the states around it
abbrev pub moment : State → Event → Outcome → State → Moment
moment s event o n = record { before = s; event = event; outcome = o; after = n }

-- a page holds the word that the event made there, or the one that it held
abbrev pub Tells : State → Event → Outcome → State → Type 0
Tells s event o n = (f i x w : ℕ) → n.pages f i ≡ Some x → n.frame x ≡ state.Placed w
    → (Sets f i (moment s event o n) w × ((v : ℕ) → Sets f i (moment s event o n) v → v ≡ w))
    ⊎ (((v : ℕ) → Sets f i (moment s event o n) v → ⊥) × (s.pages f i ≡ Some x) × (s.frame x ≡ state.Placed w))

-- no store wrote
abbrev Silent : State → Event → Outcome → State → Type 0
Silent s event o n = (f i v : ℕ) → Wrote f i (moment s event o n) v → ⊥

-- an option isn't both empty and not
none_some : {A P : Type 0} {x : A} (o : Option A) → o ≡ None → o ≡ Some x → P
none_some {A} {x = x} o e d = (let z : ◌≡◌ {A = Option A} None (Some x) = sym e ∙ d in absurd (cc))

-- where no store wrote, an index with a page has no new word
not_set : (s : State) (event : Event) (o : Outcome) (n : State) (f i x : ℕ) → Silent s event o n → s.pages f i ≡ Some x → (v : ℕ)
    → Sets f i (moment s event o n) v → ⊥
not_set s event o n f i x quiet page v sets = elim sets [ inl w ↦ quiet f i v w | inr p ↦ none_some (s.pages f i) p.0.0 page ]

-- pages only go, or one comes
shrinks_tell : (s : State) (event : Event) (o : Outcome) (n : State) (new : Pool) → n.pages ≡ new.pages → n.frame ≡ new.frame
    → Silent s event o n → Shrinks s new → Tells s event o n
shrinks_tell s event o n new pages frame quiet h f i x w a b =
    let k = h f i x w (sym (ap (λ (m : ℕ → ℕ → Option ℕ). m f i) pages) ∙ a) (sym (ap (λ (m : ℕ → FrameState). m x) frame) ∙ b) in
    inr (not_set s event o n f i x quiet k.0, k.0, k.1)

-- a frame has one word
same_word : {a b : ℕ} → state.Placed a ≡ state.Placed b → a ≡ b
same_word e = cc

-- an index has one page
same_frame : {a b : ℕ} → Some a ≡ Some b → a ≡ b
same_frame e = cc

-- where one page is placed and no store writes, its word is 0 and the others keep theirs
places_tell : (s : State) (event : Event) (o : Outcome) (n : State) (new : Pool) → Inv s.geometry s → n.pages ≡ new.pages
    → n.frame ≡ new.frame → Silent s event o n → PlacesOne s new → Tells s event o n
places_tell s event o n new h pages frame quiet (f, i, x, new_pages, new_frame, bare, held) k j y w a b =
    let page : put2 s.pages f i (Some x) k j ≡ Some y = sym (ap (λ (m : ℕ → ℕ → Option ℕ). m k j) (pages ∙ new_pages)) ∙ a in
    let word : put s.frame x (state.Placed 0) y ≡ state.Placed w = sym (ap (λ (m : ℕ → FrameState). m y) (frame ∙ new_frame)) ∙ b in
    elim (put2_tells s.pages f i (Some x) k j) [
      | inl q ↦ (let it : y ≡ x = same_frame (sym page ∙ q.2) in
          let zero : w ≡ 0 = same_word (sym word ∙ (ap (put s.frame x (state.Placed 0)) it ∙ put_same s.frame x (state.Placed 0))) in
          let none : s.pages k j ≡ None = ap (λ (m : ℕ). s.pages m j) q.0 ∙ (ap (s.pages f) q.1 ∙ bare) in
          inl (
            inr ((none, λ z. none_some (n.pages k j) z a), zero),
            λ v sets. elim sets [ inl z ↦ absurd (quiet k j v z) | inr z ↦ z.1 ∙ sym zero ],
          ))
      | inr q ↦ (let there : s.pages k j ≡ Some y = sym q.1 ∙ page in
          let other : y ≢ x = λ d.
          (let z = h.place.pages k j y there in
          let c : state.Hand ≡ state.Placed z.0 = sym held ∙ (ap s.frame (sym d) ∙ z.1) in absurd (cc)) in
          inr (not_set s event o n k j y quiet there, there, sym (put_other s.frame x (state.Placed 0) y other) ∙ word))
    ]

-- a store writes the page at an index
stores_tell : (s : State) (event : Event) (o : Outcome) (n : State) (f i x old word : ℕ) → Inv s.geometry s → s.pages f i ≡ Some x
    → s.frame x ≡ state.Placed old → n.pages ≡ s.pages → n.frame ≡ put s.frame x (state.Placed word)
    → Wrote f i (moment s event o n) word → ((k j v : ℕ) → Wrote k j (moment s event o n) v → (k ≡ f) × (j ≡ i) × (v ≡ word))
    → Tells s event o n
stores_tell s event o n f i x old word h page was pages frame wrote only k j y w a b =
    let there : s.pages k j ≡ Some y = sym (ap (λ (m : ℕ → ℕ → Option ℕ). m k j) pages) ∙ a in
    let new : put s.frame x (state.Placed word) y ≡ state.Placed w = sym (ap (λ (m : ℕ → FrameState). m y) frame) ∙ b in
    elim (same_or_other y x) [
      | inl d ↦ (let at = other_page s.frames s.frame _ s.pages f i k j x h.place page (there ∙ ap (λ (m : ℕ). Some m) d) in
          let is : w ≡ word = same_word (sym new ∙ (ap (put s.frame x (state.Placed word)) d ∙ put_same s.frame x (state.Placed word))) in
          inl (
            subst (λ (m : ℕ). Sets k j (moment s event o n) m) (sym is)
                (subst (λ (m : ℕ). Sets m j (moment s event o n) word) (sym at.0)
                (subst (λ (m : ℕ). Sets f m (moment s event o n) word) (sym at.1) (inl wrote))),
            λ v sets. elim sets [ inl z ↦ (only k j v z).2 ∙ sym is | inr z ↦ none_some (s.pages k j) z.0.0 there ],
          ))
      | inr d ↦ inr (
        (λ v sets. elim sets [
          | inl z ↦ (let at = only k j v z in
              d (same_frame (sym there ∙ (ap (λ (m : ℕ). s.pages m j) at.0 ∙ (ap (s.pages f) at.1 ∙ page)))))
          | inr z ↦ none_some (s.pages k j) z.0.0 there
        ]),
        there,
        sym (put_other s.frame x (state.Placed word) y d) ∙ new,
      )
    ]

-- a step is of one task
same_task : {t u : ℕ} {a b : Bool} → Step t a ≡ Step u b → u ≡ t
same_task e = cc

-- which call a store is written by
stored_by : (s : State) (t : ℕ) (grant : Bool) (c : Call) (o : Outcome) (n : State) → s.calls t ≡ Some c → (P : Type 0)
    → (f i v : ℕ) → Wrote f i (moment s (Step t grant) o n) v
    → ((p : Look) → c ≡ call.Touch (touch.Look p) → p.access ≡ Store v → find (s.mappings t) p.vpn ≡ Some (f, i)
    → o ≡ outcome.Ended answer.Done → P)
    → ((p : Found) → c ≡ call.Touch (touch.Found p) → p.touch.access ≡ Store v → p.touch.file ≡ f → p.touch.index ≡ i
    → n.calls t ≡ Some (call.Touch (touch.Leave (record { touch = p.touch; answer = answer.Done }))) → P)
    → P
stored_by s t grant c o n e P f i v wrote look found = elim wrote [
  | inl w ↦ (let d : w.0 ≡ t = same_task w.3 in
      look w.2 (some_same (sym e ∙ (ap s.calls (sym d) ∙ w.4))) w.5 (ap (λ (m : ℕ). find (s.mappings m) w.2.vpn) (sym d) ∙ w.6) w.7)
  | inr w ↦ (let d : w.0 ≡ t = same_task w.3 in
      found w.2 (some_same (sym e ∙ (ap s.calls (sym d) ∙ w.4))) w.5 w.6 w.7 (ap n.calls (sym d) ∙ w.8))
]

-- a call that isn't a touch at look or found writes no word
quiet_call : (s : State) (t : ℕ) (grant : Bool) (c : Call) (o : Outcome) (n : State) → s.calls t ≡ Some c → reads (Some c) ≡ false
    → Silent s (Step t grant) o n
quiet_call s t grant c o n e quiet f i v wrote = stored_by s t grant c o n e ⊥ f i v wrote
    (λ p d a b k. (let z : true ≡ false = sym (ap (λ k. reads (Some k)) d) ∙ quiet in cc))
    (λ p d a b k l. (let z : true ≡ false = sym (ap (λ k. reads (Some k)) d) ∙ quiet in cc))

-- what leaves the state as it was writes nothing
quiet_refused : (s : State) (event : Event) (why : Refusal) (o : Outcome) (n : State) → o ≡ outcome.Refused why → n ≡ s → Silent s event o n
quiet_refused s event why o n e d f i v wrote = elim wrote [
  | inl w ↦ (let z : outcome.Refused why ≡ outcome.Ended answer.Done = sym e ∙ w.7 in cc)
  | inr w ↦ (let z : call.Touch (touch.Found w.2) ≡ call.Touch
      (touch.Leave (record { touch = w.2.touch; answer = answer.Done })) = some_same
      (sym w.4 ∙ (ap (λ (m : State). m.calls w.0) (sym d) ∙ w.8)) in cc)
]

-- where pages and frames stay and no store writes, each page keeps its word
self_tells : (s : State) (event : Event) (o : Outcome) (n : State) → n.pages ≡ s.pages → n.frame ≡ s.frame → Silent s event o n
    → Tells s event o n
self_tells s event o n pages frame quiet = shrinks_tell s event o n (pool_of s) pages frame quiet (λ f i x w a b. (a, b))

-- a touch that looks
look_tells : (s : State) (t : ℕ) (killed grant : Bool) (p : Look) (turn : Turn TouchPhase) (pool : Pool) (o : Outcome) (n : State)
    → Inv s.geometry s → s.calls t ≡ Some (call.Touch (touch.Look p)) → TouchLookRow (pool_of s) t p turn pool
    → o ≡ outcome_of call.Touch turn
    → n.pages ≡ pool.pages → n.frame ≡ pool.frame → Tells s (Step t grant) o n
look_tells s t killed grant p turn pool o n h e row tells pages frame =
    by_option (find (s.mappings t) p.vpn) row
    (λ none r. self_tells s (Step t grant) o n (pages ∙ ap (λ (m : Pool). m.pages) r.1)
    (frame ∙ ap (λ (m : Pool). m.frame) r.1)
    (silent (λ d. (let z : outcome.Ended answer.Segv ≡ outcome.Ended answer.Done = sym
    (tells ∙ ap (outcome_of call.Touch) r.0) ∙ d in cc))))
    (λ place there r. by_option (s.entries t p.vpn) r
    (λ none r. self_tells s (Step t grant) o n (pages ∙ ap (λ (m : Pool). m.pages) r.1)
    (frame ∙ ap (λ (m : Pool). m.frame) r.1)
    (silent (λ d. (let z = sym (tells ∙ ap (outcome_of call.Touch) r.0) ∙ d in moved_not_done z))))
    (λ x entry r. reading x entry place there r.0 r.1 r.2 p.access refl))
  where
    moved_not_done : {q : _} → outcome.Moved q ≡ outcome.Ended answer.Done → ⊥
    moved_not_done z = cc

    same_look : (q : Look) → call.Touch (touch.Look p) ≡ call.Touch (touch.Look q) → p ≡ q
    same_look q d = cc

    not_found : (q : Found) → call.Touch (touch.Look p) ≡ call.Touch (touch.Found q) → ⊥
    not_found q d = cc

    silent : (o ≡ outcome.Ended answer.Done → ⊥) → Silent s (Step t grant) o n
    silent other f i v wrote =
        stored_by s t grant (call.Touch (touch.Look p)) o n e ⊥ f i v wrote (λ q d a b k. other k) (λ q d a b k l. not_found q d)

    reading : (x : ℕ) → s.entries t p.vpn ≡ Some x → (place : ℕ × ℕ) → find (s.mappings t) p.vpn ≡ Some place → (word : ℕ)
        → s.frame x ≡ state.Placed word
        → (turn ≡ Ended (answer_of p.access word)) × (pool ≡ record (pool_of s) { frame = frame_after p.access s.frame x })
        → (a : Access) → p.access ≡ a → Tells s (Step t grant) o n
    reading x entry place there word placed r Load is =
        self_tells s (Step t grant) o n (pages ∙ ap (λ (m : Pool). m.pages) r.1)
        (frame ∙ (ap (λ (m : Pool). m.frame) r.1 ∙ ap (λ (a : Access). frame_after a s.frame x) is))
        (silent (λ d. (let z : outcome.Ended (answer.Word word) ≡ outcome.Ended answer.Done = sym
        (tells ∙ (ap (outcome_of call.Touch) r.0 ∙ ap (λ (a : Access). outcome.Ended (answer_of a word)) is)) ∙ d in cc)))
    reading x entry place there word placed r (Store new) is =
        let k = h.entries.agree t p.vpn x entry in
        let same : k.0 ≡ place = pair_of (sym k.1 ∙ there) in
        stores_tell s (Step t grant) o n place.0 place.1 x word new h
        (ap (λ (m : ℕ × ℕ). s.pages m.0 m.1) (sym same) ∙ k.2) placed (pages ∙ ap (λ (m : Pool). m.pages) r.1)
        (frame ∙ (ap (λ (m : Pool). m.frame) r.1 ∙ ap (λ (a : Access). frame_after a s.frame x) is))
        (inl (
          t,
          grant,
          p,
          refl,
          e,
          is,
          there,
          tells ∙ (ap (outcome_of call.Touch) r.0 ∙ ap (λ (a : Access). outcome.Ended (answer_of a word)) is),
        ))
        (λ f i v wrote. stored_by s t grant (call.Touch (touch.Look p)) o n e ((f ≡ place.0) × (i ≡ place.1) × (v ≡ new)) f i v wrote
        (λ q d a b z. let same_p = same_look q d in
        let at : (f, i) ≡ place = pair_of (sym b ∙ (ap (λ (m : Look). find (s.mappings t) m.vpn) (sym same_p) ∙ there)) in
        (ap (λ (m : ℕ × ℕ). m.0) at, ap (λ (m : ℕ × ℕ). m.1) at, same_store (sym a ∙ (ap (λ (m : Look). m.access) (sym same_p) ∙ is))))
        (λ q d a b z l. absurd (not_found q d)))
      where
        pair_of : {a b : ℕ × ℕ} → Some a ≡ Some b → a ≡ b
        pair_of z = cc

        same_store : {a b : ℕ} → Store a ≡ Store b → a ≡ b
        same_store z = cc

-- a touch that found its page
found_tells : (s : State) (t : ℕ) (grant : Bool) (p : Found) (turn : Turn TouchPhase) (pool : Pool) (o : Outcome) (n : State)
    → Inv s.geometry s → s.calls t ≡ Some (call.Touch (touch.Found p)) → TouchFoundRow (pool_of s) t grant p turn pool
    → n.calls t ≡ left call.Touch turn → n.pages ≡ pool.pages → n.frame ≡ pool.frame → Tells s (Step t grant) o n
found_tells s t grant p turn pool o n h e row next pages frame =
    by_test (nat_le (s.size p.touch.file) p.touch.index) row
    (λ _ r. plain answer.Beyond r (λ d. cc))
    (λ _ r. by_test grant r
    (λ _ r. reading r.0 r.1 r.2 r.3 r.4 p.touch.access refl)
    (λ _ r. plain answer.NoMemory r (λ d. cc)))
  where
    not_look : (q : Look) → call.Touch (touch.Found p) ≡ call.Touch (touch.Look q) → ⊥
    not_look q d = cc

    same_found : (q : Found) → call.Touch (touch.Found p) ≡ call.Touch (touch.Found q) → p ≡ q
    same_found q d = cc

    same_leave : {a b : Leave} → Some (call.Touch (touch.Leave a)) ≡ Some (call.Touch (touch.Leave b)) → a ≡ b
    same_leave z = cc

    silent : (a : Answer) → n.calls t ≡ Some (call.Touch (touch.Leave (record { touch = p.touch; answer = a })))
        → (a ≡ answer.Done → ⊥) → Silent s (Step t grant) o n
    silent a now other f i v wrote =
        stored_by s t grant (call.Touch (touch.Found p)) o n e ⊥ f i v wrote (λ q d b c k. not_look q d)
        (λ q d b c k l. other (ap (λ (m : Leave). m.answer) (same_leave (sym now ∙ l))))

    plain : (a : Answer) → (turn ≡ Moved (touch.Leave (record { touch = p.touch; answer = a }))) × (pool ≡ pool_of s)
        → (a ≡ answer.Done → ⊥) → Tells s (Step t grant) o n
    plain a r other =
        self_tells s (Step t grant) o n (pages ∙ ap (λ (m : Pool). m.pages) r.1)
        (frame ∙ ap (λ (m : Pool). m.frame) r.1) (silent a (next ∙ ap (left call.Touch) r.0) other)

    reading : (x word : ℕ) → s.pages p.touch.file p.touch.index ≡ Some x → s.frame x ≡ state.Placed word
        → (turn ≡ Moved (touch.Leave (record { touch = p.touch; answer = answer_of p.touch.access word })))
        × (pool ≡ record (pool_of s) {
          entries = put2 s.entries t p.touch.vpn (Some x);
          frame = frame_after p.touch.access s.frame x;
        })
        → (a : Access) → p.touch.access ≡ a → Tells s (Step t grant) o n
    reading x word page placed r Load is =
        self_tells s (Step t grant) o n (pages ∙ ap (λ (m : Pool). m.pages) r.1)
        (frame ∙ (ap (λ (m : Pool). m.frame) r.1 ∙ ap (λ (a : Access). frame_after a s.frame x) is))
        (silent (answer_of p.touch.access word) (next ∙ ap (left call.Touch) r.0)
        (λ d. (let z : answer.Word word ≡ answer.Done = sym (ap (λ (a : Access). answer_of a word) is) ∙ d in cc)))
    reading x word page placed r (Store new) is =
        stores_tell s (Step t grant) o n p.touch.file p.touch.index x word new h page placed
        (pages ∙ ap (λ (m : Pool). m.pages) r.1)
        (frame ∙ (ap (λ (m : Pool). m.frame) r.1 ∙ ap (λ (a : Access). frame_after a s.frame x) is))
        (inr (
          t,
          grant,
          p,
          refl,
          e,
          is,
          refl,
          refl,
          next ∙ (ap (left call.Touch) r.0
              ∙ ap (λ (a : Access). Some (call.Touch (touch.Leave (record { touch = p.touch; answer = answer_of a word })))) is),
        ))
        (λ f i v wrote. stored_by s t grant (call.Touch (touch.Found p)) o n e
        ((f ≡ p.touch.file) × (i ≡ p.touch.index) × (v ≡ new)) f i v wrote
        (λ q d a b z. absurd (not_look q d))
        (λ q d a b c l. let same = same_found q d in (
          sym b ∙ ap (λ (m : Found). m.touch.file) (sym same),
          sym c ∙ ap (λ (m : Found). m.touch.index) (sym same),
          same_store (sym a ∙ (ap (λ (m : Found). m.touch.access) (sym same) ∙ is)),
        )))
      where
        same_store : {a b : ℕ} → Store a ≡ Store b → a ≡ b
        same_store z = cc

-- so of each call that doesn't read or write, by what its rows do to the pages
by_pages : (s : State) (t : ℕ) (grant : Bool) (c : Call) (o : Outcome) (pool : Pool) (next : Option Call) (n : State)
    → reads (Some c) ≡ false → Inv s.geometry s → s.calls t ≡ Some c → Stepped s t c o pool next
    → n.pages ≡ pool.pages → n.frame ≡ pool.frame → Tells s (Step t grant) o n
by_pages s t grant c o pool next n quiet h e did pages frame = elim (pages_by s t c o pool next h e quiet did) [
  | inl k ↦ shrinks_tell s (Step t grant) o n pool pages frame (quiet_call s t grant c o n e quiet) k
  | inr k ↦ places_tell s (Step t grant) o n pool h pages frame (quiet_call s t grant c o n e quiet) k
]

-- each step of a call makes the word of a page the last one made there
step_tells : (s : State) (t : ℕ) (killed grant : Bool) (c : Call) (o : Outcome) (pool : Pool) (next : Option Call) (n : State)
    → Inv s.geometry s → s.calls t ≡ Some c → CallRow (pool_of s) t killed grant c o pool next → Stepped s t c o pool next
    → n.calls t ≡ next → n.pages ≡ pool.pages → n.frame ≡ pool.frame → Tells s (Step t grant) o n
unfolding CallRow
step_tells s t killed grant (call.Touch (touch.Look p)) o pool next n h e (turn, row, tells, leaves) _ calls pages frame =
    look_tells s t killed grant p turn pool o n h e row tells pages frame
step_tells s t killed grant (call.Touch (touch.Found p)) o pool next n h e (turn, row, tells, leaves) _ calls pages frame =
    found_tells s t grant p turn pool o n h e row (calls ∙ leaves) pages frame
step_tells s t killed grant (call.Touch (touch.Want p)) o pool next n h e _ did calls pages frame =
    by_pages s t grant (call.Touch (touch.Want p)) o pool next n refl h e did pages frame
step_tells s t killed grant (call.Touch (touch.Locked p)) o pool next n h e _ did calls pages frame =
    by_pages s t grant (call.Touch (touch.Locked p)) o pool next n refl h e did pages frame
step_tells s t killed grant (call.Touch (touch.Missing p)) o pool next n h e _ did calls pages frame =
    by_pages s t grant (call.Touch (touch.Missing p)) o pool next n refl h e did pages frame
step_tells s t killed grant (call.Touch (touch.Changed p)) o pool next n h e _ did calls pages frame =
    by_pages s t grant (call.Touch (touch.Changed p)) o pool next n refl h e did pages frame
step_tells s t killed grant (call.Touch (touch.Abort p)) o pool next n h e _ did calls pages frame =
    by_pages s t grant (call.Touch (touch.Abort p)) o pool next n refl h e did pages frame
step_tells s t killed grant (call.Touch (touch.Taken p)) o pool next n h e _ did calls pages frame =
    by_pages s t grant (call.Touch (touch.Taken p)) o pool next n refl h e did pages frame
step_tells s t killed grant (call.Touch (touch.Settle p)) o pool next n h e _ did calls pages frame =
    by_pages s t grant (call.Touch (touch.Settle p)) o pool next n refl h e did pages frame
step_tells s t killed grant (call.Touch (touch.Committed p)) o pool next n h e _ did calls pages frame =
    by_pages s t grant (call.Touch (touch.Committed p)) o pool next n refl h e did pages frame
step_tells s t killed grant (call.Touch (touch.Restore p)) o pool next n h e _ did calls pages frame =
    by_pages s t grant (call.Touch (touch.Restore p)) o pool next n refl h e did pages frame
step_tells s t killed grant (call.Touch (touch.Leave p)) o pool next n h e _ did calls pages frame =
    by_pages s t grant (call.Touch (touch.Leave p)) o pool next n refl h e did pages frame
step_tells s t killed grant (call.Map p) o pool next n h e _ did calls pages frame =
    by_pages s t grant (call.Map p) o pool next n refl h e did pages frame
step_tells s t killed grant (call.Alloc p) o pool next n h e _ did calls pages frame =
    by_pages s t grant (call.Alloc p) o pool next n refl h e did pages frame
step_tells s t killed grant (call.Punch p) o pool next n h e _ did calls pages frame =
    by_pages s t grant (call.Punch p) o pool next n refl h e did pages frame
step_tells s t killed grant (call.Truncate p) o pool next n h e _ did calls pages frame =
    by_pages s t grant (call.Truncate p) o pool next n refl h e did pages frame
step_tells s t killed grant (call.Unmap p) o pool next n h e _ did calls pages frame =
    by_pages s t grant (call.Unmap p) o pool next n refl h e did pages frame
step_tells s t killed grant (call.Exit p) o pool next n h e _ did calls pages frame =
    by_pages s t grant (call.Exit p) o pool next n refl h e did pages frame

-- and so does each event
pub row_tells : (s : State) (event : Event) (o : Outcome) (n : State) → Always s → Row s event o n → Tells s event o n
row_tells s (Begin u p) o n h row = begin_cases s u p o n (Tells s (Begin u p) o n) row
    (λ why e d. self_tells s (Begin u p) o n (ap (λ (m : State). m.pages) d) (ap (λ (m : State). m.frame) d)
    (quiet_refused s (Begin u p) why o n e d))
    (λ lives none may e d. self_tells s (Begin u p) o n (ap (λ (m : State). m.pages) d)
    (ap (λ (m : State). m.frame) d) (λ f i v wrote. elim wrote [ inl w ↦ begin_step w.3 | inr w ↦ begin_step w.3 ]))
  where
    begin_step : {t : ℕ} {g : Bool} → Begin u p ≡ Step t g → ⊥
    begin_step z = cc
row_tells s (Kill u) o n h row = kill_cases s u o n (Tells s (Kill u) o n) row
    (λ why e d. self_tells s (Kill u) o n (ap (λ (m : State). m.pages) d) (ap (λ (m : State). m.frame) d)
    (quiet_refused s (Kill u) why o n e d))
    (λ alive e d. self_tells s (Kill u) o n (ap (λ (m : State). m.pages) d) (ap (λ (m : State). m.frame) d)
    (λ f i v wrote. elim wrote [ inl w ↦ kill_step w.3 | inr w ↦ kill_step w.3 ]))
  where
    kill_step : {t : ℕ} {g : Bool} → Kill u ≡ Step t g → ⊥
    kill_step z = cc
row_tells s (Resize size) o n h row = resize_cases s size o n (Tells s (Resize size) o n) row
    (λ why e d. self_tells s (Resize size) o n (ap (λ (m : State). m.pages) d) (ap (λ (m : State). m.frame) d)
    (quiet_refused s (Resize size) why o n e d))
    (λ told m frame _ shifts _ d. shrinks_tell s (Resize size) o n (pool_of (reframed s m frame)) (ap (λ (m : State). m.pages) d)
    (ap (λ (m : State). m.frame) d) (λ f i v wrote. elim wrote [ inl w ↦ resize_step w.3 | inr w ↦ resize_step w.3 ])
    (λ f i x w a b. (a, sym (on_page s.frames m s.frame frame _ s.pages f i x h.inv.place shifts a) ∙ b)))
  where
    resize_step : {t : ℕ} {g : Bool} → Resize size ≡ Step t g → ⊥
    resize_step z = cc
row_tells s (Step t grant) o n h row = step_cases s t grant o n (Tells s (Step t grant) o n) row
    (λ why e d. self_tells s (Step t grant) o n (ap (λ (m : State). m.pages) d) (ap (λ (m : State). m.frame) d)
    (quiet_refused s (Step t grant) why o n e d))
    (λ c lives e pool next r d. step_tells s t (is_killed (s.life t)) grant c o pool next n h.inv e r
    (call_did s t (is_killed (s.life t)) grant c o pool next h.inv (h.lives.there t lives).0
    (let z = (h.lives.there t lives).1 in omega arith) e r)
    (ap (λ (m : State). m.calls t) d ∙ put_same s.calls t next) (ap (λ (m : State). m.pages) d) (ap (λ (m : State). m.frame) d))

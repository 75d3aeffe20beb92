-- No call touches a retired frame, or brings one in: only a resize does.
use Rattle.std.proofs.Common.{◌≡◌, ◌≢◌, ℕ, ◌+◌, ◌-◌, ◌<◌, ◌≤◌, refl, ap, sym, ◌∙◌, subst, arith}
use Rattle.std.specs.Prelude.{Bool, true, false, not, nat_lt, List, [], ◌∷◌}
use Rattle.std.specs.Prelude.{if◌then◌else◌}
use Rattle.std.proofs.lemmas.Bool.Decides.{nat_tests}
use Rattle.hp_base.specs.declared.event.Event.{Event}
use Rattle.hp_base.specs.declared.event.Event.TheVariants.{Begin, Step, Kill, Resize}
use Rattle.hp_base.proofs.Counting.{count_below-ext, count_below_none, count_below_full}
use Rattle.hp_frames.specs.Bank.{is_active, is_retired}
use Rattle.hp_frames.specs.declared.frame.FrameState.{FrameState}
use Rattle.hp_frames.specs.declared.frame.FrameState.TheVariants as state
use Rattle.hp_machine.specs.Events.{Row, Run, IsReached, IsReachedFrom, opening}
use Rattle.hp_machine.specs.Resizes.{is_size, ResizeRow, surplus}
use Rattle.hp_machine.specs.State.{Geometry, Pool, State, pool_of, actives, active_frames}
use Rattle.hp_machine.specs.declared.outcome.Outcome.{Outcome}
use Rattle.hp_laws.specs.Protocol.{KeepsItsFrames}
use Rattle.hp_laws.proofs.Reading.{begin_cases, step_cases, kill_cases}
use Rattle.hp_laws.proofs.Runs.{Always, always, row_keeps, opens_well}
use Rattle.hp_laws.proofs.ByWrite.{frames_stay}
use Rattle.hp_laws.proofs.Steps.{call_did}
use Rattle.hp_laws.proofs.Shared.{by_test}

-- a pool in which the frames are alike
stay : {new there : Pool} (s : Pool) → new ≡ there → there.frames ≡ s.frames → there.frame ≡ s.frame → KeepsItsFrames s new
stay s e frames frame = (
  ap (λ (m : Pool). m.frames) e ∙ frames,
  λ x. ap (λ (m : Pool). is_retired (m.frame x)) e ∙ ap (λ (m : ℕ → FrameState). is_retired (m x)) frame,
)

-- each event that is no resize keeps the frames
row_keeps_frames : (s : State) (event : Event) (o : Outcome) (n : State) → Always s → Row s event o n
    → ((size : ℕ) → event ≢ Resize size) → KeepsItsFrames (pool_of s) (pool_of n)
row_keeps_frames s (Begin t p) o n h row no_resize = begin_cases s t p o n (KeepsItsFrames (pool_of s) (pool_of n)) row
    (λ why e d. stay (pool_of s) (ap pool_of d) refl refl)
    (λ lives none may e d. stay (pool_of s) (ap pool_of d) refl refl)
row_keeps_frames s (Kill t) o n h row no_resize = kill_cases s t o n (KeepsItsFrames (pool_of s) (pool_of n)) row
    (λ why e d. stay (pool_of s) (ap pool_of d) refl refl)
    (λ alive e d. stay (pool_of s) (ap pool_of d) refl refl)
row_keeps_frames s (Step t grant) o n h row no_resize = step_cases s t grant o n (KeepsItsFrames (pool_of s) (pool_of n)) row
    (λ why e d. stay (pool_of s) (ap pool_of d) refl refl)
    (λ c lives e pool next r d. subst (λ (m : Pool). KeepsItsFrames (pool_of s) m) (sym (ap pool_of d))
    (frames_stay s t c o pool next h.inv e (call_did s t _ grant c o pool next h.inv (h.lives.there t lives).0
    (let z = (h.lives.there t lives).1 in omega arith) e r)))
row_keeps_frames s (Resize size) o n h row no_resize = absurd (no_resize size refl)

-- so in every reached state
pub calls_keep_frames : (s : State) (event : Event) (o : Outcome) (n : State) → IsReached s → Row s event o n
    → ((size : ℕ) → event ≢ Resize size) → KeepsItsFrames (pool_of s) (pool_of n)
calls_keep_frames s event o n reached row no_resize = row_keeps_frames s event o n (always s reached) row no_resize

-- a pool that may be
abbrev Sized : Pool → Type 0
Sized s = (is_size (actives s) ≡ true) × (s.frames ≤ 4096)

-- as many frames as before are active
same_actives : (s new : Pool) → KeepsItsFrames s new → actives new ≡ actives s
unfolding active_frames
same_actives s new keeps =
    ap (λ (n : ℕ). active_frames new.frame n) keeps.0
    ∙ count_below-ext (λ x. is_active (new.frame x)) (λ x. is_active (s.frame x)) s.frames (λ x l. ap not (keeps.1 x))

-- so a pool that may be stays one
kept_sized : (s n : State) → Sized (pool_of s) → KeepsItsFrames (pool_of s) (pool_of n) → Sized (pool_of n)
kept_sized s n sized keeps =
    let all = sized.1 in
    let same = keeps.0 in
    (ap is_size (same_actives (pool_of s) (pool_of n) keeps) ∙ sized.0, omega arith)

-- a resize leaves a pool that may be
resize_sized : (s new : Pool) (size : ℕ) (o : Outcome) → Sized s → ResizeRow s size o new → Sized new
unfolding ResizeRow
resize_sized s new size o h row =
    by_test (is_size size) row
    (λ may r. by_test (nat_lt (actives s) size) r.1
    (λ more q. subst Sized (sym q.2) (ap is_size q.0.count ∙ may, (let l = h.1 in grind (arith, nat_tests, may))))
    (λ few q. subst Sized (sym q.2) (shrunk r.0 may few q.0.count, h.1)))
    (λ _ r. subst Sized (sym r.1) h)
  where
    shrunk : (frame : ℕ → FrameState) → is_size size ≡ true → nat_lt (actives s) size ≡ false
        → active_frames frame s.frames + surplus s size ≡ actives s → is_size (active_frames frame s.frames) ≡ true
    shrunk frame may few left = let low = h.0 in between (active_frames frame s.frames) (actives s) size (surplus s size) left may low
        (grind (arith, nat_tests)) (omega arith)
      where
        between : (a b c k : ℕ) → a + k ≡ b → is_size c ≡ true → is_size b ≡ true → c ≤ b → k ≤ b - c → is_size a ≡ true
        between a b c k all may most less few = grind (arith, nat_tests)

-- so does each event
event_sized : (s : State) (event : Event) (o : Outcome) (n : State) → Always s → Sized (pool_of s) → Row s event o n → Sized (pool_of n)
event_sized s (Resize size) o n h sized (pool, row, is) =
    subst Sized (sym (ap pool_of is)) (resize_sized (pool_of s) pool size o sized row)
event_sized s (Begin t p) o n h sized row = kept_sized s n sized (row_keeps_frames s (Begin t p) o n h row (λ size e. (cc)))
event_sized s (Kill t) o n h sized row = kept_sized s n sized (row_keeps_frames s (Kill t) o n h row (λ size e. (cc)))
event_sized s (Step t grant) o n h sized row = kept_sized s n sized (row_keeps_frames s (Step t grant) o n h row (λ size e. (cc)))

-- and each run
run_sized : (s : State) (es : List (Event × Outcome)) (n : State) → Always s → Sized (pool_of s) → Run s es n → Sized (pool_of n)
run_sized s [] n h sized r = subst (λ (m : State). Sized (pool_of m)) (sym r) sized
run_sized s (e ∷ es) n h sized r =
    run_sized r.0 es n (row_keeps s e.0 e.1 r.0 h r.1) (event_sized s e.0 e.1 r.0 h sized r.1) r.2

-- a pool that opens has the frames that it opens with
opens_sized : (g : Geometry) (frames : ℕ) → is_size frames ≡ true → Sized (pool_of (opening g frames))
unfolding active_frames
opens_sized g frames may =
    let full = count_below_full (λ x. is_active (if nat_lt x frames then state.Free else state.Hand)) 0 frames (omega arith)
    (λ k l m. ap (λ (b : Bool). is_active (if b then state.Free else state.Hand)) (low k frames m)) in
    let empty = count_below_none (λ x. is_active (if nat_lt x frames then state.Free else state.Hand)) 0 (λ k l. absurd (omega arith)) in
    let all : actives (pool_of (opening g frames)) ≡ frames = omega arith in
    (ap is_size all ∙ may, grind (arith, nat_tests))
  where
    low : (k n : ℕ) → k < n → nat_lt k n ≡ true
    low k n l = grind (arith, nat_tests)

-- so a pool that opens with a number of frames that it may have has such a number at every moment
pub frames_within : (frames : ℕ) (s : State) → IsReachedFrom frames s → is_size frames ≡ true
    → (is_size (actives (pool_of s)) ≡ true) × (s.frames ≤ 4096)
frames_within frames s reached may =
    run_sized (opening s.geometry frames) reached.0 s (opens_well s.geometry frames) (opens_sized s.geometry frames may) reached.1

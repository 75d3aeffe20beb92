-- What a step of a call may rely on in every reached state: what stands of its call (`Facts` in proofs/Standing.antt
-- lists it, phase by phase), and what follows from that wherever the call is in its phases.
use Rattle.std.proofs.Common.{◌≡◌, ◌≢◌, ℕ, ◌+◌, ◌*◌, ◌<◌, ◌≤◌, refl, ap, ◌∙◌, arith}
use Rattle.std.specs.Prelude.{Bool, true, false, not, Option, Some, None}
use Rattle.hp_base.specs.Numbers.{bit}
use Rattle.hp_base.specs.Indices.{count_below}
use Rattle.hp_base.proofs.Counting.{count_below_le}
use Rattle.hp_base.proofs.Totals.{total_few}
use Rattle.hp_frames.specs.declared.frame.FrameState.TheVariants as state
use Rattle.hp_machine.specs.State.{Geometry, State, free_frames, is_dead}
use Rattle.hp_machine.specs.Events.{IsReached}
use Rattle.hp_machine.specs.Headline.{Hand, Page}
use Rattle.hp_machine.specs.Views.{used_ahead, hand, change_in}
use Rattle.hp_machine.specs.declared.touch.TouchPhase.TheVariants as touch
use Rattle.hp_machine.specs.declared.map.Changed
use Rattle.hp_machine.specs.declared.map.MapPhase.TheVariants as map
use Rattle.hp_machine.specs.declared.alloc.AllocPhase.TheVariants as alloc
use Rattle.hp_machine.specs.declared.punch.PunchPhase.TheVariants as punch
use Rattle.hp_machine.specs.declared.truncate.TruncatePhase.TheVariants as truncate
use Rattle.hp_machine.specs.declared.unmap.UnmapPhase.TheVariants as unmap
use Rattle.hp_machine.specs.declared.exit.ExitPhase.TheVariants as exit
use Rattle.hp_machine.specs.declared.call.Call.{Call}
use Rattle.hp_machine.specs.declared.call.Call.TheVariants as call
use Rattle.hp_laws.specs.Enough.{CanSettle}
use Rattle.hp_laws.proofs.Standing.{Stands}
use Rattle.hp_laws.proofs.Invariant.{page_within}
use Rattle.hp_laws.proofs.Effects.{has_pending}
use Rattle.hp_laws.proofs.Shared.{stands_at}
use Rattle.hp_laws.proofs.Cover.{can_settle}
use Rattle.hp_laws.proofs.Runs.{always}

-- the frame is in a call's hand
abbrev pub IsHeld : State → (frame : ℕ) → Type 0
IsHeld s x = (x < s.frames) × (s.frame x ≡ state.Hand)

-- the frame is a page's, and has a word
abbrev pub IsPage : State → (frame : ℕ) → Type 0
IsPage s x = (x < s.frames) × ((word : ℕ) × (s.frame x ≡ state.Placed word))

-- the index has a page, whose frame has a word
abbrev pub HasPage : State → (file index : ℕ) → Type 0
HasPage s f i = (x : ℕ) × (s.pages f i ≡ Some x) × IsPage s x

-- a task that isn't dead is there
pub task_there : (s : State) (t : ℕ) → IsReached s → is_dead (s.life t) ≡ false → (1 ≤ t) × (t ≤ s.geometry.tasks)
task_there s t reached e = (always s reached).lives.there t e

-- a task with a call in flight isn't dead
pub busy_lives : (s : State) (t : ℕ) (c : Call) → IsReached s → s.calls t ≡ Some c → is_dead (s.life t) ≡ false
busy_lives s t c reached e = (always s reached).lives.busy t c e

-- so it is there
pub caller_there : (s : State) (t : ℕ) (c : Call) → IsReached s → s.calls t ≡ Some c → (1 ≤ t) × (t ≤ s.geometry.tasks)
caller_there s t c reached e = task_there s t reached (busy_lives s t c reached e)

-- what stands of a call in flight: its slot, its lock, and the facts of its phase
pub stands : (s : State) (t : ℕ) (c : Call) → IsReached s → s.calls t ≡ Some c → Stands s.geometry s t (Some c)
stands s t c reached e = stands_at s t (Some c) (always s reached).inv e

-- the reserve count is as high as the call's step needs it
pub settles : (s : State) (t : ℕ) (c : Call) → IsReached s → s.calls t ≡ Some c → CanSettle s (Some c)
settles s t c reached e =
    let o = (caller_there s t c reached e).1 in
    can_settle s.geometry s t (Some c) (always s reached).inv (omega arith) e (stands s t c reached e)

-- a file in whose map the call has a change open has a change in progress
pub pending_there : (s : State) (t : ℕ) (c : Call) (f : ℕ) → IsReached s → s.calls t ≡ Some c → change_in (Some c) ≡ Some f
    → 1 ≤ s.pending f
pending_there s t c f reached e some =
    let o = (caller_there s t c reached e).1 in
    has_pending s.geometry s t (Some c) f (always s reached).inv (omega arith) e some

-- the frame in the call's hand is where it says
pub held_there : (s : State) (t : ℕ) (c : Call) (x : ℕ) → IsReached s → s.calls t ≡ Some c → hand (Some c) ≡ Some x → IsHeld s x
held_there s t c x reached e d =
    let h = (always s reached).inv in
    let held : hand (s.calls t) ≡ Some x = ap hand e ∙ d in (h.place.one.real x (Hand t) held, h.place.hands t x held)

-- a page's frame has a word
pub page_placed : (s : State) (f i x : ℕ) → IsReached s → s.pages f i ≡ Some x → IsPage s x
page_placed s f i x reached e =
    let h = (always s reached).inv in
    let o = h.place.pages f i x e in
    (h.place.one.real x (Page f i) e, (o.0, o.1))

-- so does an entry's
pub entry_placed : (s : State) (t v x : ℕ) → IsReached s → s.entries t v ≡ Some x → IsPage s x
entry_placed s t v x reached e = let o = (always s reached).inv.entries.agree t v x e in page_placed s o.0.0 o.0.1 x reached o.2

-- an index that isn't bare has a page
pub has_page : (s : State) (f i : ℕ) → IsReached s → s.pages f i ≢ None → HasPage s f i
has_page s f i reached cached = by_page (s.pages f i) refl cached
  where
    by_page : (o : Option ℕ) → s.pages f i ≡ o → o ≢ None → HasPage s f i
    by_page None e d = absurd (d refl)
    by_page (Some x) e d = (x, e, page_placed s f i x reached e)

-- a page lies below the limit
pub page_inside : (s : State) (f i x : ℕ) → IsReached s → s.pages f i ≡ Some x → i < s.geometry.limit
page_inside s f i x reached e = (page_within f i x (always s reached).inv.inside e).1

-- each change in progress has a spare descriptor
pub pending_spared : (s : State) (f : ℕ) → IsReached s → s.pending f ≤ s.spare f
pending_spared s f reached = (always s reached).inv.spares f

-- there is a free frame for each reservation that is counted
pub resv_covered : (s : State) → IsReached s → s.resv ≤ free_frames s.frame s.frames
resv_covered s reached = (always s reached).inv.enough

-- no call owes more to the used count than a file has indices
owes_few : (g : Geometry) (s : State) (t : ℕ) (c : Option Call) → 1 ≤ g.limit → Stands g s t c → used_ahead c ≤ g.limit
owes_few g s t (Some (call.Touch (touch.Taken p))) some h = let a = h.facts.one.few in omega arith
owes_few g s t (Some (call.Touch (touch.Settle p))) some h = some
owes_few g s t (Some (call.Map (map.Accounted p))) some h =
    let a = h.facts.whole.few in let b = h.facts.range.limit in omega arith
owes_few g s t (Some (call.Map (map.Settle p))) some h = let a = h.facts.few in let b = h.facts.range.limit in omega arith
owes_few g s t (Some (call.Alloc (alloc.Taken p))) some h = let a = h.facts.one.few in omega arith
owes_few g s t (Some (call.Alloc (alloc.Settle p))) some h = some
owes_few g s t (Some (call.Punch (punch.Free p))) some h = let a = few p.denied in omega arith
  where
    few : (b : Bool) → bit (not b) ≤ 1
    few true = omega arith
    few false = omega arith
owes_few g s t (Some (call.Truncate (truncate.Settle p))) some h = h.facts.few
owes_few g s t (Some (call.Unmap (unmap.Start _))) some h = omega arith
owes_few g s t (Some (call.Exit exit.Start)) some h = omega arith
owes_few g s t c some h = omega arith

-- so no more pages are used than the files have indices, and the tasks' calls owe besides
pub used_few : (s : State) → IsReached s → 1 ≤ s.geometry.limit
    → s.used ≤ s.geometry.files * s.geometry.limit + (s.geometry.tasks + 1) * s.geometry.limit
used_few s reached some =
    let g : Geometry = s.geometry in
    let h = (always s reached).inv in
    let a = total_few g.files (λ f. count_below (s.reserved f) g.limit) g.limit (λ f. count_below_le (s.reserved f) g.limit) in
    let b = total_few (g.tasks + 1) (λ u. used_ahead (s.calls u)) g.limit (λ u. owes_few g s u (s.calls u) some (h.stands u)) in
    let c = h.used in
    omega arith

-- a change of a map misses no more than a file has indices
pub map_misses_few : (s : State) (t : ℕ) (p : Changed.Changed) → IsReached s → s.calls t ≡ Some (call.Map (map.Changed p))
    → p.pending.missing ≤ s.geometry.limit
map_misses_few s t p reached e =
    let h = stands s t _ reached e in
    let a = h.facts.whole.few in
    let b = h.facts.range.limit in
    omega arith

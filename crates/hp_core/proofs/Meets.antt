-- What a step takes for granted (`TouchFits` and its like, phase by phase) holds of every core: each of these facts
-- is one of every state that the machine reaches.
use Rattle.std.proofs.Common.{◌≡◌, ℕ, ◌+◌, ◌*◌, ◌<◌, ◌≤◌, ◌^◌, refl, ap, sym, ◌∙◌, true≢false, arith}
use Rattle.std.specs.Prelude.{Bool, false, Option, Some, None, IfSome, IsSome, is_some}
use Rattle.hp_base.specs.Indices.{count_within}
use Rattle.hp_base.specs.Mappings.{in_mapping}
use Rattle.hp_base.proofs.Counting.{count_within-missing}
use Rattle.hp_base.specs.declared.event.Event.{Event}
use Rattle.hp_base.specs.declared.event.Event.TheVariants.{Begin, Step, Kill, Resize}
use Rattle.hp_machine.specs.State.{State, pool_of}
use Rattle.hp_machine.specs.Events.{IsReached}
use Rattle.hp_machine.specs.declared.map.MapPhase.{MapPhase}
use Rattle.hp_machine.specs.declared.map.MapPhase.TheVariants as map
use Rattle.hp_machine.specs.declared.touch.TouchPhase.{TouchPhase}
use Rattle.hp_machine.specs.declared.touch.TouchPhase.TheVariants as touch
use Rattle.hp_machine.specs.declared.alloc.AllocPhase.{AllocPhase}
use Rattle.hp_machine.specs.declared.alloc.AllocPhase.TheVariants as alloc
use Rattle.hp_machine.specs.declared.punch.PunchPhase.{PunchPhase}
use Rattle.hp_machine.specs.declared.punch.PunchPhase.TheVariants as punch
use Rattle.hp_machine.specs.declared.truncate.TruncatePhase.{TruncatePhase}
use Rattle.hp_machine.specs.declared.truncate.TruncatePhase.TheVariants as truncate
use Rattle.hp_machine.specs.declared.unmap.UnmapPhase.{UnmapPhase}
use Rattle.hp_machine.specs.declared.unmap.UnmapPhase.TheVariants as unmap
use Rattle.hp_machine.specs.declared.exit.ExitPhase.{ExitPhase}
use Rattle.hp_machine.specs.declared.exit.ExitPhase.TheVariants as exit
use Rattle.hp_machine.specs.declared.call.Call.{Call}
use Rattle.hp_machine.specs.declared.call.Call.TheVariants as call
use Rattle.hp_laws.proofs.Meets.{caller_there, entry_placed, has_page, held_there, pending_spared, pending_there, settles}
use Rattle.hp_laws.proofs.Meets.{stands, used_few, map_misses_few}
use Rattle.hp_laws.proofs.Standing.{below_limit}
use Rattle.hp_parts.specs.Fits.{IsPage}
use Rattle.hp_fault.specs.Fits.{MapFits, TouchFits, AllocFits}
use Rattle.hp_remove.specs.Fits.{PunchFits, TruncateFits, UnmapFits, ExitFits, IsCleared}
use Rattle.hp_core.specs.State.{CoreState, task_state_at, calls_of, as_state}
use Rattle.hp_core.specs.Fits.{CallFits, EventFits}
use Rattle.hp_core.specs.Sound.{IsSound, IsKept}
use Rattle.hp_core.proofs.Reading.{few_tasks, few_files_of}

-- an entry's frame is a page's
entry_page : (s : State) (t v : ℕ) (o : Option ℕ) → IsReached s → s.entries t v ≡ o → IfSome o (λ x. IsPage (pool_of s) x)
entry_page s t v None reached e = tt
entry_page s t v (Some x) reached e = entry_placed s t v x reached e

-- what is found is there
is_found : {A : Type 0} (o : Option A) (x : A) → o ≡ Some x → IsSome o
is_found {A} o x e = ap (λ (c : Option A). is_some c) e

-- few pages are used, and few more are so with one more call
record FewUsed (s : State) : Type 0 where
  used : s.used ≤ 81 * 4096
  limit : s.geometry.limit ≡ 4096

-- a touch's step finds what it takes for granted
touch_fits : (s : State) (t : ℕ) (phase : TouchPhase) → IsReached s → FewUsed s
    → s.calls t ≡ Some (call.Touch phase) → TouchFits (pool_of s) t phase
touch_fits s t (touch.Look p) reached few e = (caller_there s t _ reached e, entry_page s t p.vpn (s.entries t p.vpn) reached refl)
touch_fits s t (touch.Want p) reached few e = tt
touch_fits s t (touch.Locked p) reached few e = (stands s t _ reached e).facts.aim.file
touch_fits s t (touch.Missing p) reached few e = let h = stands s t _ reached e in (h.facts.aim.file, h.facts.aim.index)
touch_fits s t (touch.Changed p) reached few e = (settles s t _ reached e, (let a = few.used in omega arith))
touch_fits s t (touch.Abort p) reached few e =
    let h = stands s t _ reached e in (h.facts.aim.file, pending_there s t _ p.touch.file reached e refl)
touch_fits s t (touch.Taken p) reached few e =
    let h = stands s t _ reached e in (h.facts.aim.file, pending_there s t _ p.touch.file reached e refl)
touch_fits s t (touch.Settle p) reached few e = settles s t _ reached e
touch_fits s t (touch.Committed p) reached few e =
    let h = stands s t _ reached e in
    record { file = h.facts.aim.file; in_limit = h.facts.aim.index; bare = h.facts.bare; held = held_there s t _ p.held reached e refl }
touch_fits s t (touch.Restore p) reached few e = held_there s t _ p.held reached e refl
touch_fits s t (touch.Found p) reached few e =
    let h = stands s t _ reached e in
    record {
      task = caller_there s t _ reached e;
      file = h.facts.aim.file;
      mapped = is_found _ _ h.facts.aim.found;
      untranslated = h.facts.aim.untranslated;
      page = has_page s p.touch.file p.touch.index reached h.facts.cached;
    }
touch_fits s t (touch.Leave p) reached few e = (stands s t _ reached e).slot

-- so does a map's
map_fits : (s : State) (t : ℕ) (phase : MapPhase) → IsReached s → FewUsed s → s.calls t ≡ Some (call.Map phase)
    → MapFits (pool_of s) t phase
map_fits s t (map.Start p) reached few e = tt
map_fits s t (map.Room p) reached few e = caller_there s t _ reached e
map_fits s t (map.Missing p) reached few e = let h = stands s t _ reached e in (h.facts.range.file, h.facts.range.some, h.facts.range.limit)
map_fits s t (map.Changed p) reached few e =
    let a = few.used in let b = few.limit in let c = map_misses_few s t p reached e in omega arith
map_fits s t (map.Abort p) reached few e =
    let h = stands s t _ reached e in (h.facts.range.file, pending_there s t _ p.map.file reached e refl)
map_fits s t (map.Accounted p) reached few e =
    let h = stands s t _ reached e in (h.facts.range.file, pending_there s t _ p.map.file reached e refl)
map_fits s t (map.Settle p) reached few e = settles s t _ reached e
map_fits s t (map.Enter p) reached few e =
    let h = stands s t _ reached e in
    record {
      task = caller_there s t _ reached e;
      file = h.facts.range.file;
      some = h.facts.range.some;
      in_limit = h.facts.range.limit;
      ready = h.facts.based.ready;
      fits = h.facts.based.fits;
    }
map_fits s t (map.Leave p) reached few e = (stands s t _ reached e).lock

-- an allocation's
alloc_fits : (s : State) (t : ℕ) (phase : AllocPhase) → IsReached s → FewUsed s
    → s.calls t ≡ Some (call.Alloc phase) → AllocFits (pool_of s) t phase
alloc_fits s t (alloc.Start p) reached few e = tt
alloc_fits s t (alloc.Head p) reached few e = tt
alloc_fits s t (alloc.Want p) reached few e = tt
alloc_fits s t (alloc.Locked p) reached few e = (stands s t _ reached e).facts.aim.file
alloc_fits s t (alloc.Missing p) reached few e =
    let h = stands s t _ reached e in (h.facts.aim.file, below_limit s.geometry _ h.facts.aim)
alloc_fits s t (alloc.Changed p) reached few e = (settles s t _ reached e, (let a = few.used in omega arith))
alloc_fits s t (alloc.Abort p) reached few e =
    let h = stands s t _ reached e in (h.facts.aim.file, pending_there s t _ p.allocation.file reached e refl)
alloc_fits s t (alloc.Taken p) reached few e =
    let h = stands s t _ reached e in (h.facts.aim.file, pending_there s t _ p.allocation.file reached e refl)
alloc_fits s t (alloc.Settle p) reached few e = settles s t _ reached e
alloc_fits s t (alloc.Committed p) reached few e =
    let h = stands s t _ reached e in
    record {
      file = h.facts.aim.file;
      in_limit = below_limit s.geometry _ h.facts.aim;
      bare = h.facts.bare;
      held = held_there s t _ p.held reached e refl;
    }
alloc_fits s t (alloc.Restore p) reached few e = held_there s t _ p.held reached e refl
alloc_fits s t (alloc.Unslot p) reached few e =
    let h = stands s t _ reached e in
    record { slot = h.slot; in_limit = h.facts.aim.limit; index = below_limit s.geometry _ h.facts.aim }
alloc_fits s t (alloc.Extend p) reached few e = let h = stands s t _ reached e in (h.facts.range.file, h.facts.range.limit)
alloc_fits s t (alloc.Leave p) reached few e = (stands s t _ reached e).lock

-- a punch's
punch_fits : (s : State) (t : ℕ) (phase : PunchPhase) → IsReached s → s.geometry.tasks < 2 ^ 32
    → s.calls t ≡ Some (call.Punch phase) → PunchFits (pool_of s) t phase
punch_fits s t (punch.Start p) reached few e = tt
punch_fits s t (punch.Want p) reached few e = tt
punch_fits s t (punch.Locked p) reached few e = (stands s t _ reached e).facts.aim.file
punch_fits s t (punch.Unmap p) reached few e = ((stands s t _ reached e).facts.task, few)
punch_fits s t (punch.Evict p) reached few e =
    let h = stands s t _ reached e in (h.facts.aim.file, has_page s p.hole.file p.index reached h.facts.cached)
punch_fits s t (punch.Delete p) reached few e = ((stands s t _ reached e).facts.aim.file, pending_spared s p.hole.file reached)
punch_fits s t (punch.Free p) reached few e = (held_there s t _ p.held reached e refl, settles s t _ reached e)
punch_fits s t (punch.Unslot p) reached few e =
    let h = stands s t _ reached e in
    record { slot = h.slot; in_limit = h.facts.aim.limit; index = below_limit s.geometry _ h.facts.aim }
punch_fits s t (punch.Leave p) reached few e = (stands s t _ reached e).lock

-- what was evicted fits in the limit
few_evicted : (r : ℕ → Bool) (from limit evicted : ℕ) → evicted ≤ count_within r from limit → evicted ≤ limit
few_evicted r from limit evicted l = let all = count_within-missing r from limit in omega (arith, all, l)

-- a truncation's
truncate_fits : (s : State) (t : ℕ) (phase : TruncatePhase) → IsReached s → s.geometry.tasks < 2 ^ 32
    → s.calls t ≡ Some (call.Truncate phase) → TruncateFits (pool_of s) t phase
truncate_fits s t (truncate.Start p) reached few e = tt
truncate_fits s t (truncate.Size p) reached few e = (stands s t _ reached e).facts.file
truncate_fits s t (truncate.Want p) reached few e = tt
truncate_fits s t (truncate.Locked p) reached few e = (stands s t _ reached e).facts.aim.file
truncate_fits s t (truncate.Unmap p) reached few e = ((stands s t _ reached e).facts.task, few)
truncate_fits s t (truncate.Evict p) reached few e =
    let h = stands s t _ reached e in (
      h.facts.aim.file,
      has_page s p.truncation.file p.index reached h.facts.cached,
      few_evicted (s.reserved p.truncation.file) (p.index + 1) s.geometry.limit p.evicted h.facts.aim.lost,
    )
truncate_fits s t (truncate.Free p) reached few e = held_there s t _ p.held reached e refl
truncate_fits s t (truncate.Unslot p) reached few e = (stands s t _ reached e).slot
truncate_fits s t (truncate.Tail p) reached few e = let h = stands s t _ reached e in (h.facts.file, h.facts.lost)
truncate_fits s t (truncate.Settle p) reached few e = settles s t _ reached e
truncate_fits s t (truncate.Leave p) reached few e = (stands s t _ reached e).lock

-- a mapping whose entries were cleared has none
cleared : (s : State) (t base : ℕ) → ((v x : ℕ) → s.entries t v ≡ Some x → in_mapping (s.mappings t) base v ≡ false)
    → IsCleared (pool_of s) t base
cleared s t base empty v within = by_entry (s.entries t v) refl
  where
    by_entry : (o : Option ℕ) → s.entries t v ≡ o → s.entries t v ≡ None
    by_entry None e = e
    by_entry (Some x) e = absurd (true≢false (sym within ∙ empty v x e))

-- an unmap's
unmap_fits : (s : State) (t : ℕ) (phase : UnmapPhase) → IsReached s → s.calls t ≡ Some (call.Unmap phase) → UnmapFits (pool_of s) t phase
unmap_fits s t (unmap.Start p) reached e = caller_there s t _ reached e
unmap_fits s t (unmap.Clear p) reached e = caller_there s t _ reached e
unmap_fits s t (unmap.Drop p) reached e = (caller_there s t _ reached e, cleared s t p.base (stands s t _ reached e).facts.empty)

-- and an exit's
exit_fits : (s : State) (t : ℕ) (phase : ExitPhase) → IsReached s → s.calls t ≡ Some (call.Exit phase) → ExitFits (pool_of s) t phase
exit_fits s t exit.Start reached e = caller_there s t _ reached e
exit_fits s t (exit.Clear p) reached e = caller_there s t _ reached e
exit_fits s t (exit.Drop p) reached e = (caller_there s t _ reached e, cleared s t p.base (stands s t _ reached e).facts.empty)
exit_fits s t exit.Leave reached e = tt

-- tasks are few
few_there : (s : CoreState) → IsKept s → (as_state s).geometry.tasks < 2 ^ 32
few_there s kept =
    let all = kept.spaces in
    let few = few_tasks s.sizes.frames s.sizes.files s.sizes.slots s.sizes.tasks kept.limits in
    omega (arith, all, few)

-- a file has 4,096 indices, and there are 16 files and 64 tasks at most
few_used : (s : CoreState) → IsReached (as_state s) → IsKept s → FewUsed (as_state s)
few_used s reached kept =
    let files = few_files_of s.sizes.frames s.sizes.files s.sizes.slots s.sizes.tasks kept.limits in
    let tasks = few_tasks s.sizes.frames s.sizes.files s.sizes.slots s.sizes.tasks kept.limits in
    let all = used_few (as_state s) reached (omega arith) in
    let a = kept.files in
    let b = kept.spaces in
    record { used = omega (arith, files, tasks, all, a, b); limit = refl }

-- so the step of each call in flight
call_fits : (s : CoreState) (t : ℕ) (c : Call) → IsReached (as_state s) → IsKept s → (as_state s).calls t ≡ Some c → CallFits s.parts t c
call_fits s t (call.Touch phase) reached kept e = touch_fits (as_state s) t phase reached (few_used s reached kept) e
call_fits s t (call.Map phase) reached kept e = (kept.locks, map_fits (as_state s) t phase reached (few_used s reached kept) e)
call_fits s t (call.Alloc phase) reached kept e = (kept.locks, alloc_fits (as_state s) t phase reached (few_used s reached kept) e)
call_fits s t (call.Punch phase) reached kept e = (kept.locks, punch_fits (as_state s) t phase reached (few_there s kept) e)
call_fits s t (call.Truncate phase) reached kept e = (kept.locks, truncate_fits (as_state s) t phase reached (few_there s kept) e)
call_fits s t (call.Unmap phase) reached kept e = unmap_fits (as_state s) t phase reached e
call_fits s t (call.Exit phase) reached kept e = exit_fits (as_state s) t phase reached e

-- of the call of a task, if it has one
step_fits : (s : CoreState) (t : ℕ) (o : Option Call) → IsReached (as_state s) → IsKept s → (as_state s).calls t ≡ o
    → IfSome o (λ c. CallFits s.parts t c)
step_fits s t None reached kept e = tt
step_fits s t (Some c) reached kept e = call_fits s t c reached kept e

-- and so each event of a sound core
pub fits_from_sound : (s : CoreState) (e : Event) → IsSound s → EventFits s.parts s.task_states e
unfolding IsSound calls_of
fits_from_sound s (Begin t op) h = tt
fits_from_sound s (Step t grant) h = step_fits s t (task_state_at s.task_states t).call (s.sizes.frames, h.0) h.1 refl
fits_from_sound s (Kill t) h = tt
fits_from_sound s (Resize frames) h = tt

-- Machines that promise or take what they may not. Of each, how a step of it is found.
use Rattle.std.proofs.Common.{◌≡◌, ℕ, refl, inl, inr}
use Rattle.hp_machine.specs.Events.{CallRow}
use Rattle.hp_machine.specs.declared.call.Call.TheVariants as call
use Rattle.std.specs.Prelude.{Bool, true, false, ◌&&◌, ◌==◌, ◌+◌, ◌-◌, nat_lt, Some}
use Rattle.hp_frames.specs.Bank.{is_free}
use Rattle.hp_frames.specs.declared.frame.FrameState.{FrameState}
use Rattle.hp_frames.specs.declared.frame.FrameState.TheVariants as state
use Rattle.hp_machine.specs.State.{Pool, active_frames, actives, frees}
use Rattle.hp_machine.specs.Resizes.{is_size, surplus}
use Rattle.hp_machine.specs.declared.touch.TouchPhase.TheVariants as touch
use Rattle.hp_machine.specs.declared.map.MapPhase.TheVariants as map
use Rattle.hp_counterexamples.specs.Promising.{RetiresAny, all_surplus, TakesAnyFrame, PromisesAnyFrame}
use Rattle.hp_counterexamples.specs.Promising.{AsksNoQuota, RetiresReserved}
use Rattle.hp_counterexamples.specs.Promising.{RetiresHands}
use Rattle.hp_counterexamples.proofs.Searching.{bind}
use Rattle.hp_counterexamples.proofs.Steps.{by, goes, test, try_call, try_map, try_touch}
use Rattle.hp_counterexamples.proofs.Resizing.{Shrunk, TriesResizes, as_many, pick_bool, retired, retires, try_resize}
use Rattle.hp_counterexamples.proofs.Running.{TriesCalls}

abbrev pub try_TakesAnyFrame : TriesCalls TakesAnyFrame
unfolding TakesAnyFrame CallRow
try_TakesAnyFrame s t killed grant (call.Touch (touch.Changed p)) h =
    by call.Touch _ (test (p.pending.missing == 0) (λ _. try_touch s t killed grant (touch.Changed p) h)
    (λ _. bind (try_touch (record s { resv = 0 }) t killed grant (touch.Changed p) h)
    (λ r. Some (r.0, record r.1 { resv = s.resv }, (r.1, r.2, refl), r.3))))
try_TakesAnyFrame s t killed grant c h = try_call s t killed grant c h

abbrev pub try_PromisesAnyFrame : TriesCalls PromisesAnyFrame
unfolding PromisesAnyFrame CallRow
try_PromisesAnyFrame s t killed grant (call.Map (map.Changed p)) h =
    by call.Map _ (bind (try_map (record s { resv = 0 }) t killed grant (map.Changed p) h)
    (λ r. Some (r.0, record r.1 { resv = s.resv + (r.1).resv }, (r.1, r.2, refl), r.3)))
try_PromisesAnyFrame s t killed grant c h = try_call s t killed grant c h

abbrev pub try_AsksNoQuota : TriesCalls AsksNoQuota
unfolding AsksNoQuota CallRow
try_AsksNoQuota s t killed grant (call.Map (map.Changed p)) h =
    by call.Map _ (test killed (λ _. goes _ s h)
    (λ _. test (nat_lt (frees s - s.resv) p.pending.missing) (λ _. goes _ s h) (λ _. goes _ _ h)))
try_AsksNoQuota s t killed grant c h = try_call s t killed grant c h

abbrev pub try_RetiresReserved : TriesResizes RetiresReserved
unfolding RetiresReserved
try_RetiresReserved s n h =
    pick_bool (is_size n && nat_lt n (actives s))
    (let new = retired is_free (all_surplus s n) s.frames s.frame in
    bind (as_many s (all_surplus s n) new.0) (λ e. Some (_, _, (new.0, retires s (all_surplus s n) new e, refl, refl), h)))
    (try_resize s n h)

abbrev pub is_in_hand : FrameState → Bool
is_in_hand state.Free = false
is_in_hand state.Hand = true
is_in_hand (state.Placed word) = false
is_in_hand state.Retired = false

hand_is : (frame : FrameState) → is_in_hand frame ≡ true → frame ≡ state.Hand
hand_is state.Free e = (let d : false ≡ true = e in absurd (cc))
hand_is state.Hand e = refl
hand_is (state.Placed word) e = (let d : false ≡ true = e in absurd (cc))
hand_is state.Retired e = (let d : false ≡ true = e in absurd (cc))

pub retires_any : (s : Pool) (k : ℕ) (new : Shrunk is_in_hand s.frames s.frame)
    → active_frames new.0 s.frames + k ≡ actives s
    → RetiresAny s k new.0
retires_any s k new e = record {
  count = e;
  each = λ x. elim (new.1 x) [ inl a ↦ inl a | inr b ↦ inr (b.0, inr (hand_is (s.frame x) b.1), b.2) ];
}

-- of those that may go, this takes the ones in hands
abbrev pub try_RetiresHands : TriesResizes RetiresHands
unfolding RetiresHands
try_RetiresHands s n h =
    pick_bool (is_size n && nat_lt n (actives s))
    (let new = retired is_in_hand (surplus s n) s.frames s.frame in
    bind (as_many s (surplus s n) new.0) (λ e. Some (_, _, (new.0, retires_any s (surplus s n) new e, refl, refl), h)))
    (try_resize s n h)

-- Machines that don't wait, or don't clear in time. Of each, how a step of it is found.
use Rattle.std.proofs.Common.{refl}
use Rattle.hp_machine.specs.Events.{CallRow}
use Rattle.hp_machine.specs.declared.call.Call.TheVariants as call
use Rattle.std.specs.Prelude.{Some}
use Rattle.hp_machine.specs.Parts.{unlocked, unslotted}
use Rattle.hp_machine.specs.declared.call.Turn.TheVariants.{Moved}
use Rattle.hp_machine.specs.declared.touch.TouchPhase.TheVariants as touch
use Rattle.hp_machine.specs.declared.map.MapPhase.TheVariants as map
use Rattle.hp_machine.specs.declared.punch.PunchPhase.TheVariants as punch
use Rattle.hp_machine.specs.declared.truncate.TruncatePhase.TheVariants as truncate
use Rattle.hp_counterexamples.specs.Locking.{PunchBreaksLock, TruncateBreaksLock, UnlocksEarly, BreaksLock, TouchBreaksSlot}
use Rattle.hp_counterexamples.specs.Locking.{PunchBreaksSlot, TruncateBreaksSlot}
use Rattle.hp_counterexamples.specs.Locking.{PunchesEarly, TruncatesEarly}
use Rattle.hp_counterexamples.proofs.Searching.{bind}
use Rattle.hp_counterexamples.proofs.Steps.{by, try_call, try_map, try_punch, try_touch, try_truncate}
use Rattle.hp_counterexamples.proofs.Running.{TriesCalls}

abbrev pub try_UnlocksEarly : TriesCalls UnlocksEarly
unfolding UnlocksEarly CallRow
try_UnlocksEarly s t killed grant (call.Truncate (truncate.Size p)) h =
    by call.Truncate _ (bind (try_truncate s t killed grant (truncate.Size p) h)
    (λ r. Some (r.0, unlocked r.1 p.truncation.file, (r.1, r.2, refl), r.3)))
try_UnlocksEarly s t killed grant c h = try_call s t killed grant c h

abbrev pub try_BreaksLock : TriesCalls BreaksLock
unfolding BreaksLock CallRow
try_BreaksLock s t killed grant (call.Map (map.Start p)) h =
    by call.Map _ (try_map (unlocked s p.map.file) t killed grant (map.Start p) h)
try_BreaksLock s t killed grant c h = try_call s t killed grant c h

abbrev pub try_PunchBreaksLock : TriesCalls PunchBreaksLock
unfolding PunchBreaksLock CallRow
try_PunchBreaksLock s t killed grant (call.Punch (punch.Start p)) h =
    by call.Punch _ (try_punch (unlocked s p.hole.file) t killed grant (punch.Start p) h)
try_PunchBreaksLock s t killed grant c h = try_call s t killed grant c h

abbrev pub try_TruncateBreaksLock : TriesCalls TruncateBreaksLock
unfolding TruncateBreaksLock CallRow
try_TruncateBreaksLock s t killed grant (call.Truncate (truncate.Start p)) h =
    by call.Truncate _ (try_truncate (unlocked s p.truncation.file) t killed grant (truncate.Start p) h)
try_TruncateBreaksLock s t killed grant c h = try_call s t killed grant c h

abbrev pub try_TouchBreaksSlot : TriesCalls TouchBreaksSlot
unfolding TouchBreaksSlot CallRow
try_TouchBreaksSlot s t killed grant (call.Touch (touch.Want p)) h =
    by call.Touch _ (try_touch (unslotted s p.touch.file p.touch.index) t killed grant (touch.Want p) h)
try_TouchBreaksSlot s t killed grant c h = try_call s t killed grant c h

abbrev pub try_PunchBreaksSlot : TriesCalls PunchBreaksSlot
unfolding PunchBreaksSlot CallRow
try_PunchBreaksSlot s t killed grant (call.Punch (punch.Want p)) h =
    by call.Punch _ (try_punch (unslotted s p.hole.file p.index) t killed grant (punch.Want p) h)
try_PunchBreaksSlot s t killed grant c h = try_call s t killed grant c h

abbrev pub try_TruncateBreaksSlot : TriesCalls TruncateBreaksSlot
unfolding TruncateBreaksSlot CallRow
try_TruncateBreaksSlot s t killed grant (call.Truncate (truncate.Want p)) h =
    by call.Truncate _ (try_truncate (unslotted s p.truncation.file p.index) t killed grant (truncate.Want p) h)
try_TruncateBreaksSlot s t killed grant c h = try_call s t killed grant c h

abbrev pub try_PunchesEarly : TriesCalls PunchesEarly
unfolding PunchesEarly CallRow
try_PunchesEarly s t killed grant (call.Punch (punch.Unmap p)) h =
    by call.Punch _ (bind (try_punch s t killed grant (punch.Unmap p) h) (λ r. Some (Moved _, r.1, (r.0, r.2, refl), r.3)))
try_PunchesEarly s t killed grant c h = try_call s t killed grant c h

abbrev pub try_TruncatesEarly : TriesCalls TruncatesEarly
unfolding TruncatesEarly CallRow
try_TruncatesEarly s t killed grant (call.Truncate (truncate.Unmap p)) h =
    by call.Truncate _
    (bind (try_truncate s t killed grant (truncate.Unmap p) h) (λ r. Some (Moved _, r.1, (r.0, r.2, refl), r.3)))
try_TruncatesEarly s t killed grant c h = try_call s t killed grant c h

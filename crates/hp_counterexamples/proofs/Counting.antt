-- Machines that count wrongly. Of each, how a step of it is found.
use Rattle.std.proofs.Common.{refl}
use Rattle.hp_machine.specs.Events.{CallRow}
use Rattle.hp_machine.specs.declared.call.Call.TheVariants as call
use Rattle.std.specs.Prelude.{◌-◌, ◌&&◌, false, nat_lt, Some}
use Rattle.hp_base.specs.Numbers.{put2}
use Rattle.hp_machine.specs.State.{Pool, frees}
use Rattle.hp_machine.specs.declared.call.Turn.{Turn}
use Rattle.hp_machine.specs.declared.touch.TouchPhase.TheVariants as touch
use Rattle.hp_machine.specs.declared.map.MapPhase.TheVariants as map
use Rattle.hp_machine.specs.declared.punch.PunchPhase.TheVariants as punch
use Rattle.hp_machine.specs.declared.truncate.TruncatePhase.TheVariants as truncate
use Rattle.hp_counterexamples.specs.Counting.{Uncounted, Unused, MapKeepsExcess, TouchKeepsExcess}
use Rattle.hp_counterexamples.specs.Counting.{MapKeepsUsed, TouchKeepsUsed, RestoresUncounted}
use Rattle.hp_counterexamples.specs.Counting.{RestoresUnmarked, ForgetsDenial, UnusesDenied, IgnoresRefusal}
use Rattle.hp_counterexamples.specs.Counting.{GivesNothingBack}
use Rattle.hp_counterexamples.specs.Counting.{GivesBackEvicted, KeepsEvictedUsed}
use Rattle.hp_counterexamples.proofs.Searching.{bind}
use Rattle.hp_counterexamples.proofs.Steps.{Tried, by, test, try_call, try_map, try_punch, try_touch, try_truncate}
use Rattle.hp_counterexamples.proofs.Running.{TriesCalls}

abbrev pub uncounted : {P : Type 0} (s : Pool) {row : Turn P → Pool → Type 0} → Tried row → Tried (Uncounted s row)
uncounted s o = bind o (λ r. Some (r.0, record r.1 { resv = s.resv }, (r.1, r.2, refl), r.3))

abbrev pub unused : {P : Type 0} (s : Pool) {row : Turn P → Pool → Type 0} → Tried row → Tried (Unused s row)
unused s o = bind o (λ r. Some (r.0, record r.1 { used = s.used }, (r.1, r.2, refl), r.3))

abbrev pub try_MapKeepsExcess : TriesCalls MapKeepsExcess
unfolding MapKeepsExcess CallRow
try_MapKeepsExcess s t killed grant (call.Map (map.Settle p)) h =
    by call.Map _ (uncounted s (try_map s t killed grant (map.Settle p) h))
try_MapKeepsExcess s t killed grant c h = try_call s t killed grant c h

abbrev pub try_TouchKeepsExcess : TriesCalls TouchKeepsExcess
unfolding TouchKeepsExcess CallRow
try_TouchKeepsExcess s t killed grant (call.Touch (touch.Settle p)) h =
    by call.Touch _ (uncounted s (try_touch s t killed grant (touch.Settle p) h))
try_TouchKeepsExcess s t killed grant c h = try_call s t killed grant c h

abbrev pub try_MapKeepsUsed : TriesCalls MapKeepsUsed
unfolding MapKeepsUsed CallRow
try_MapKeepsUsed s t killed grant (call.Map (map.Settle p)) h =
    by call.Map _ (unused s (try_map s t killed grant (map.Settle p) h))
try_MapKeepsUsed s t killed grant c h = try_call s t killed grant c h

abbrev pub try_TouchKeepsUsed : TriesCalls TouchKeepsUsed
unfolding TouchKeepsUsed CallRow
try_TouchKeepsUsed s t killed grant (call.Touch (touch.Settle p)) h =
    by call.Touch _ (unused s (try_touch s t killed grant (touch.Settle p) h))
try_TouchKeepsUsed s t killed grant c h = try_call s t killed grant c h

abbrev pub try_RestoresUncounted : TriesCalls RestoresUncounted
unfolding RestoresUncounted CallRow
try_RestoresUncounted s t killed grant (call.Touch (touch.Restore p)) h =
    by call.Touch _ (uncounted s (try_touch s t killed grant (touch.Restore p) h))
try_RestoresUncounted s t killed grant c h = try_call s t killed grant c h

abbrev pub try_RestoresUnmarked : TriesCalls RestoresUnmarked
unfolding RestoresUnmarked CallRow
try_RestoresUnmarked s t killed grant (call.Touch (touch.Restore p)) h =
    by call.Touch _ (bind (try_touch s t killed grant (touch.Restore p) h)
    (λ r. Some (r.0, record r.1 { reserved = put2 s.reserved p.touch.file p.touch.index false }, (r.1, r.2, refl), r.3)))
try_RestoresUnmarked s t killed grant c h = try_call s t killed grant c h

abbrev pub try_ForgetsDenial : TriesCalls ForgetsDenial
unfolding ForgetsDenial CallRow
try_ForgetsDenial s t killed grant (call.Punch (punch.Free p)) h =
    by call.Punch _ (uncounted s (try_punch s t killed grant (punch.Free p) h))
try_ForgetsDenial s t killed grant c h = try_call s t killed grant c h

abbrev pub try_UnusesDenied : TriesCalls UnusesDenied
unfolding UnusesDenied CallRow
try_UnusesDenied s t killed grant (call.Punch (punch.Free p)) h =
    by call.Punch _ (bind (try_punch s t killed grant (punch.Free p) h)
    (λ r. Some (r.0, record r.1 { used = s.used - 1 }, (r.1, r.2, refl), r.3)))
try_UnusesDenied s t killed grant c h = try_call s t killed grant c h

abbrev pub try_IgnoresRefusal : TriesCalls IgnoresRefusal
unfolding IgnoresRefusal CallRow
try_IgnoresRefusal s t killed grant (call.Punch (punch.Free p)) h =
    by call.Punch _ (test (p.denied && nat_lt (frees s - s.resv) 1)
    (λ _. uncounted s (try_punch s t killed grant (punch.Free p) h))
    (λ _. try_punch s t killed grant (punch.Free p) h))
try_IgnoresRefusal s t killed grant c h = try_call s t killed grant c h

abbrev pub try_GivesNothingBack : TriesCalls GivesNothingBack
unfolding GivesNothingBack CallRow
try_GivesNothingBack s t killed grant (call.Truncate (truncate.Settle p)) h =
    by call.Truncate _ (uncounted s (try_truncate s t killed grant (truncate.Settle p) h))
try_GivesNothingBack s t killed grant c h = try_call s t killed grant c h

abbrev pub try_GivesBackEvicted : TriesCalls GivesBackEvicted
unfolding GivesBackEvicted CallRow
try_GivesBackEvicted s t killed grant (call.Truncate (truncate.Tail p)) h =
    by call.Truncate _ (try_truncate s t killed grant (truncate.Tail (record { truncation = p.truncation; evicted = 0 })) h)
try_GivesBackEvicted s t killed grant c h = try_call s t killed grant c h

abbrev pub try_KeepsEvictedUsed : TriesCalls KeepsEvictedUsed
unfolding KeepsEvictedUsed CallRow
try_KeepsEvictedUsed s t killed grant (call.Truncate (truncate.Settle p)) h =
    by call.Truncate _ (bind (try_truncate s t killed grant (truncate.Settle p) h)
    (λ r. Some (r.0, record r.1 { used = s.used - p.excess }, (r.1, r.2, refl), r.3)))
try_KeepsEvictedUsed s t killed grant c h = try_call s t killed grant c h

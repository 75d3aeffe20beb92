-- Machines whose changes lack a descriptor or are left behind. Of each, how a step of it is found.
use Rattle.std.proofs.Common.{refl}
use Rattle.hp_machine.specs.Events.{CallRow}
use Rattle.hp_machine.specs.declared.call.Call.TheVariants as call
use Rattle.std.specs.Prelude.{◌==◌, ◌&&◌, not, Some}
use Rattle.hp_base.specs.Numbers.{put}
use Rattle.hp_machine.specs.declared.touch.TouchPhase.TheVariants as touch
use Rattle.hp_machine.specs.declared.map.MapPhase.TheVariants as map
use Rattle.hp_machine.specs.declared.punch.PunchPhase.TheVariants as punch
use Rattle.hp_counterexamples.specs.Changing.{TakesAnySpare, SharesSpare, DropsChange}
use Rattle.hp_counterexamples.proofs.Searching.{bind}
use Rattle.hp_counterexamples.proofs.Steps.{by, goes, test, try_call, try_map, try_punch}
use Rattle.hp_counterexamples.proofs.Running.{TriesCalls}

abbrev pub try_TakesAnySpare : TriesCalls TakesAnySpare
unfolding TakesAnySpare CallRow
try_TakesAnySpare s t killed grant (call.Punch (punch.Delete p)) h =
    by call.Punch _ (bind (try_punch (record s { pending = put s.pending p.hole.file 0 }) t killed grant (punch.Delete p) h)
    (λ r. Some (r.0, record r.1 { pending = s.pending }, (r.1, r.2, refl), r.3)))
try_TakesAnySpare s t killed grant c h = try_call s t killed grant c h

abbrev pub try_SharesSpare : TriesCalls SharesSpare
unfolding SharesSpare CallRow
try_SharesSpare s t killed grant (call.Touch (touch.Missing p)) h =
    by call.Touch _ (test ((s.spare p.touch.file == 0) && not grant) (λ _. goes _ s h) (λ _. goes _ _ h))
try_SharesSpare s t killed grant c h = try_call s t killed grant c h

abbrev pub try_DropsChange : TriesCalls DropsChange
unfolding DropsChange CallRow
try_DropsChange s t killed grant (call.Map (map.Changed p)) h =
    by call.Map _ (test killed (λ _. goes _ s h) (λ _. try_map s t killed grant (map.Changed p) h))
try_DropsChange s t killed grant c h = try_call s t killed grant c h

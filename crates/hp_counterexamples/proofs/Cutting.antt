-- Machines that cut a file short wrongly. Of each, how a step of it is found.
use Rattle.std.proofs.Common.{refl}
use Rattle.hp_machine.specs.Events.{CallRow}
use Rattle.hp_machine.specs.declared.call.Call.TheVariants as call
use Rattle.std.specs.Prelude.{nat_lt, is_some, Some}
use Rattle.hp_base.specs.Numbers.{put}
use Rattle.hp_machine.specs.declared.touch.TouchPhase.TheVariants as touch
use Rattle.hp_machine.specs.declared.truncate.TruncatePhase.TheVariants as truncate
use Rattle.hp_counterexamples.specs.Cutting.{VisitsPagesOnly, SweepsFromSize, LooksNoMore}
use Rattle.hp_counterexamples.specs.Cutting.{SizesLast}
use Rattle.hp_counterexamples.proofs.Searching.{bind}
use Rattle.hp_counterexamples.proofs.Steps.{by, goes, test, try_call, try_truncate, want}
use Rattle.hp_counterexamples.proofs.Running.{TriesCalls}

abbrev pub try_VisitsPagesOnly : TriesCalls VisitsPagesOnly
unfolding VisitsPagesOnly CallRow
try_VisitsPagesOnly s t killed grant (call.Truncate (truncate.Want p)) h =
    by call.Truncate _ (test (is_some (s.pages p.truncation.file p.index)) (λ _. want s t p.truncation.file p.index _ _ h)
    (λ _. test (nat_lt p.truncation.new p.index) (λ _. goes _ s h) (λ _. goes _ s h)))
try_VisitsPagesOnly s t killed grant c h = try_call s t killed grant c h

abbrev pub try_SweepsFromSize : TriesCalls SweepsFromSize
unfolding SweepsFromSize CallRow
try_SweepsFromSize s t killed grant (call.Truncate (truncate.Size p)) h =
    by call.Truncate _ (test (nat_lt p.truncation.new (s.size p.truncation.file)) (λ _. goes _ _ h) (λ _. goes _ _ h))
try_SweepsFromSize s t killed grant c h = try_call s t killed grant c h

abbrev pub try_LooksNoMore : TriesCalls LooksNoMore
unfolding LooksNoMore CallRow
try_LooksNoMore s t killed grant (call.Touch (touch.Locked p)) h =
    by call.Touch _ (test (is_some (s.pages p.touch.file p.touch.index)) (λ _. goes _ s h) (λ _. goes _ s h))
try_LooksNoMore s t killed grant c h = try_call s t killed grant c h

abbrev pub try_SizesLast : TriesCalls SizesLast
unfolding SizesLast CallRow
try_SizesLast s t killed grant (call.Truncate (truncate.Size p)) h =
    by call.Truncate _ (bind (try_truncate s t killed grant (truncate.Size p) h)
    (λ r. Some (r.0, record r.1 { size = s.size }, (r.1, r.2, refl), r.3)))
try_SizesLast s t killed grant (call.Truncate (truncate.Tail p)) h =
    by call.Truncate _ (bind (try_truncate s t killed grant (truncate.Tail p) h)
    (λ r. Some (r.0, record r.1 { size = put s.size p.truncation.file p.truncation.new }, (r.1, r.2, refl), r.3)))
try_SizesLast s t killed grant c h = try_call s t killed grant c h

-- There are as many reservations as calls count on.
use Rattle.std.proofs.Common.{◌≡◌, ℕ, ◌+◌, ◌-◌, ◌<◌, ◌≤◌, refl, ap, ◌∙◌, arith}
use Rattle.std.specs.Prelude.{Bool, true, false, not, Option, Some, ◌==◌, ◌&&◌, nat_le}
use Rattle.std.proofs.lemmas.Bool.Decides.{nat_tests}
use Rattle.hp_base.specs.Numbers.{total, bit, is_none}
use Rattle.hp_base.specs.Indices.{vacant, count_within}
use Rattle.hp_base.proofs.Totals.{total_same, total_le, total_add, total_has, exchange, at_most_one, count_below-total}
use Rattle.hp_machine.specs.State.{Geometry, State}
use Rattle.hp_base.specs.Mappings.{is_there}
use Rattle.hp_machine.specs.Views.{behind, ahead, used_ahead}
use Rattle.hp_machine.specs.declared.touch.TouchPhase.TheVariants as touch
use Rattle.hp_machine.specs.declared.map.MapPhase.TheVariants as map
use Rattle.hp_machine.specs.declared.alloc.AllocPhase.TheVariants as alloc
use Rattle.hp_machine.specs.declared.punch.PunchPhase.TheVariants as punch
use Rattle.hp_machine.specs.declared.truncate.TruncatePhase.TheVariants as truncate
use Rattle.hp_machine.specs.declared.unmap.UnmapPhase.TheVariants as unmap
use Rattle.hp_machine.specs.declared.exit.ExitPhase.TheVariants as exit
use Rattle.hp_machine.specs.declared.call.Call.{Call}
use Rattle.hp_machine.specs.declared.call.Call.TheVariants as call
use Rattle.hp_laws.specs.Enough.{CanSettle}
use Rattle.hp_laws.proofs.Standing.{below_limit, Stands}
use Rattle.hp_laws.proofs.Invariant.{Inv, vacant_of, sum_of}
use Rattle.hp_laws.proofs.Claims.{only_if, claim, claimed, once}

-- how many indices a call counts on
abbrev need : Geometry → State → Option Call → ℕ
need g s c = total g.files (λ f. total g.limit (λ j. bit (claim s.reserved c f j)))

-- since no index is claimed twice, all claims together are at most the reserved indices without a page
all_needs : (g : Geometry) (s : State) → Inv g s → total (g.tasks + 1) (λ t. need g s (s.calls t)) ≤ vacant_of g s.reserved s.pages
unfolding vacant
all_needs g s h =
    let a : total (g.tasks + 1) (λ t. need g s (s.calls t)) ≡ total g.files
    (λ f. total (g.tasks + 1) (λ t. total g.limit (λ j. bit (claim s.reserved (s.calls t) f j))))
    = exchange (g.tasks + 1) g.files (λ t f. total g.limit (λ j. bit (claim s.reserved (s.calls t) f j))) in
    let b = total_le g.files (λ f. vacant g.limit (s.reserved f) (s.pages f))
    (λ f. total (g.tasks + 1) (λ t. total g.limit (λ j. bit (claim s.reserved (s.calls t) f j)))) (λ f. each f) in
    omega arith
  where
    each : (f : ℕ)
        → total (g.tasks + 1) (λ t. total g.limit (λ j. bit (claim s.reserved (s.calls t) f j))) ≤ vacant g.limit (s.reserved f) (s.pages f)
    each f =
        let a : total (g.tasks + 1) (λ t. total g.limit (λ j. bit (claim s.reserved (s.calls t) f j))) ≡ total g.limit
        (λ j. total (g.tasks + 1) (λ t. bit (claim s.reserved (s.calls t) f j)))
        = exchange (g.tasks + 1) g.limit (λ t j. bit (claim s.reserved (s.calls t) f j)) in
        let b : total g.limit (λ j. total (g.tasks + 1) (λ t. bit (claim s.reserved (s.calls t) f j))) ≤ total g.limit
        (λ j. bit (s.reserved f j && is_none (s.pages f j)))
        =
        total_le g.limit (λ j. bit (s.reserved f j && is_none (s.pages f j)))
        (λ j. total (g.tasks + 1) (λ t. bit (claim s.reserved (s.calls t) f j))) (λ j.
        at_most_one (g.tasks + 1) (λ t. claim s.reserved (s.calls t) f j) (s.reserved f j && is_none (s.pages f j))
        (λ t p. let c = claimed g s t (s.calls t) f j h refl (h.stands t) p in
        ap (λ (m : Bool). m && is_none (s.pages f j)) c.marked ∙ ap is_none c.bare)
        (λ t u p q. once g s t u f j h (claimed g s t (s.calls t) f j h refl (h.stands t) p)
        (claimed g s u (s.calls u) f j h refl (h.stands u) q))) in
        let d = count_below-total (λ j. s.reserved f j && is_none (s.pages f j)) g.limit in
        omega arith

-- an index passes the test for itself
self : (f i : ℕ) → ((f == f) && (i == i)) ≡ true
self f i = grind (arith, nat_tests)

-- a call that claims an index needs one at least
one_claim : (g : Geometry) (s : State) (c : Option Call) (f i : ℕ) (b : Bool) → f < g.files → i < g.limit
    → (b ≡ true → claim s.reserved c f i ≡ true) → bit b ≤ need g s c
one_claim g s c f i false l m e = omega arith
one_claim g s c f i true l m e =
    let a : total g.limit (λ j. bit (claim s.reserved c f j)) ≤ need g s c =
    total_has g.files f (λ k. total g.limit (λ j. bit (claim s.reserved c k j))) l in
    let b : bit (claim s.reserved c f i) ≤ total g.limit (λ j. bit (claim s.reserved c f j)) =
    total_has g.limit i (λ j. bit (claim s.reserved c f j)) m in
    let d : bit (claim s.reserved c f i) ≡ 1 = ap bit (e refl) in
    omega arith

-- a truncation that claims a tail needs as many as are reserved there
tail_needs : (g : Geometry) (s : State) (c : Option Call) (f from n : ℕ) → f < g.files → n ≤ count_within (s.reserved f) from g.limit
    → ((j : ℕ) → claim s.reserved c f j ≡ ((f == f) && (nat_le from j && s.reserved f j))) → n ≤ need g s c
unfolding count_within
tail_needs g s c f from n l m e =
    let a : total g.limit (λ j. bit (claim s.reserved c f j)) ≤ need g s c =
    total_has g.files f (λ k. total g.limit (λ j. bit (claim s.reserved c k j))) l in
    let b : total g.limit (λ j. bit (claim s.reserved c f j)) ≡ total g.limit (λ j. bit (nat_le from j && s.reserved f j))
    =
    total_same g.limit (λ j. bit (nat_le from j && s.reserved f j)) (λ j. bit (claim s.reserved c f j))
    (λ j d. ap bit (e j) ∙ drop_same (nat_le from j && s.reserved f j)) in
    let d = count_below-total (λ j. nat_le from j && s.reserved f j) g.limit in
    omega arith
  where
    drop_same : (d : Bool) → bit ((f == f) && d) ≡ bit d
    drop_same true = grind (arith, nat_tests)
    drop_same false = grind (arith, nat_tests)

-- an index under a test is there where the test holds
when : (b : Bool) (f i : ℕ) → b ≡ true → is_there (only_if b (f, i)) f i ≡ true
when true f i e = self f i
when false f i e = (let d : false ≡ true = e in cc)

-- what a call owes is within what it counts on
behind_needs : (g : Geometry) (s : State) (t : ℕ) (c : Option Call) → Stands g s t c → behind c ≤ need g s c
behind_needs g s t (Some (call.Touch (touch.Taken p))) h =
    one_claim g s (Some (call.Touch (touch.Taken p))) p.touch.file p.touch.index (p.pending.missing == 0)
    h.facts.aim.file h.facts.aim.index (λ d. when (p.pending.missing == 0) p.touch.file p.touch.index d)
behind_needs g s t (Some (call.Touch (touch.Committed p))) h =
    one_claim g s (Some (call.Touch (touch.Committed p))) p.touch.file p.touch.index true h.facts.aim.file h.facts.aim.index
    (λ d. self p.touch.file p.touch.index)
behind_needs g s t (Some (call.Touch (touch.Restore p))) h =
    one_claim g s (Some (call.Touch (touch.Restore p))) p.touch.file p.touch.index true h.facts.aim.file h.facts.aim.index
    (λ d. self p.touch.file p.touch.index)
behind_needs g s t (Some (call.Alloc (alloc.Taken p))) h =
    one_claim g s (Some (call.Alloc (alloc.Taken p))) p.allocation.file p.index (p.pending.missing == 0)
    h.facts.aim.file (below_limit g _ h.facts.aim)
    (λ d. when (p.pending.missing == 0) p.allocation.file p.index d)
behind_needs g s t (Some (call.Alloc (alloc.Committed p))) h =
    one_claim g s (Some (call.Alloc (alloc.Committed p))) p.allocation.file p.index true h.facts.aim.file
    (below_limit g _ h.facts.aim) (λ d. self p.allocation.file p.index)
behind_needs g s t (Some (call.Alloc (alloc.Restore p))) h =
    one_claim g s (Some (call.Alloc (alloc.Restore p))) p.allocation.file p.index true h.facts.aim.file
    (below_limit g _ h.facts.aim) (λ d. self p.allocation.file p.index)
behind_needs g s t (Some (call.Punch (punch.Delete p))) h =
    one_claim g s (Some (call.Punch (punch.Delete p))) p.hole.file p.index true h.facts.aim.file
    (below_limit g _ h.facts.aim) (λ d. self p.hole.file p.index)
behind_needs g s t (Some (call.Punch (punch.Free p))) h =
    one_claim g s (Some (call.Punch (punch.Free p))) p.hole.file p.index p.denied h.facts.aim.file
    (below_limit g _ h.facts.aim) (λ d. when p.denied p.hole.file p.index d)
behind_needs g s t (Some (call.Truncate (truncate.Want p))) h =
    tail_needs g s (Some (call.Truncate (truncate.Want p))) p.truncation.file (p.index + 1) p.evicted h.facts.aim.file
    h.facts.aim.lost (λ j. refl)
behind_needs g s t (Some (call.Truncate (truncate.Locked p))) h =
    tail_needs g s (Some (call.Truncate (truncate.Locked p))) p.truncation.file (p.index + 1) p.evicted h.facts.aim.file
    h.facts.aim.lost (λ j. refl)
behind_needs g s t (Some (call.Truncate (truncate.Unmap p))) h =
    tail_needs g s (Some (call.Truncate (truncate.Unmap p))) p.truncation.file (p.index + 1) p.evicted h.facts.aim.file
    h.facts.aim.lost (λ j. refl)
behind_needs g s t (Some (call.Truncate (truncate.Evict p))) h =
    tail_needs g s (Some (call.Truncate (truncate.Evict p))) p.truncation.file (p.index + 1) p.evicted h.facts.aim.file
    h.facts.aim.lost (λ j. refl)
behind_needs g s t (Some (call.Truncate (truncate.Free p))) h =
    tail_needs g s (Some (call.Truncate (truncate.Free p))) p.truncation.file (p.index) p.evicted h.facts.aim.file
    h.facts.aim.lost (λ j. refl)
behind_needs g s t (Some (call.Truncate (truncate.Unslot p))) h =
    tail_needs g s (Some (call.Truncate (truncate.Unslot p))) p.truncation.file (p.index) p.evicted h.facts.aim.file
    h.facts.aim.lost (λ j. refl)
behind_needs g s t (Some (call.Truncate (truncate.Tail p))) h =
    tail_needs g s (Some (call.Truncate (truncate.Tail p))) p.truncation.file (p.truncation.new) p.evicted
    h.facts.file h.facts.lost (λ j. refl)
behind_needs g s t (Some (call.Map (map.Start _))) h = omega arith
behind_needs g s t (Some (call.Unmap (unmap.Start _))) h = omega arith
behind_needs g s t (Some (call.Exit exit.Start)) h = omega arith
behind_needs g s t c h = omega arith

-- there are enough reservations for what a call counted and what it counts on beyond what it owes
pub enough : (g : Geometry) (s : State) (t : ℕ) (c : Option Call) → Inv g s → t < g.tasks + 1 → s.calls t ≡ c
    → ahead c + need g s c ≤ s.resv + behind c
enough g s t c h l e =
    let n : ℕ = g.tasks + 1 in
    let a : total n (λ u. need g s (s.calls u)) ≤ vacant_of g s.reserved s.pages = all_needs g s h in
    let d : total n (λ u. need g s (s.calls u))
    ≡ total n (λ u. behind (s.calls u)) + total n (λ u. need g s (s.calls u) - behind (s.calls u))
    =
    total_add n (λ u. behind (s.calls u)) (λ u. need g s (s.calls u) - behind (s.calls u)) (λ u. need g s (s.calls u))
    (λ u. let y : behind (s.calls u) ≤ need g s (s.calls u) = behind_needs g s u (s.calls u) (h.stands u) in omega arith) in
    let p : need g s (s.calls t) - behind (s.calls t) ≤ total n (λ u. need g s (s.calls u) - behind (s.calls u)) =
    total_has n t (λ u. need g s (s.calls u) - behind (s.calls u)) l in
    let q : ahead (s.calls t) ≤ total n (λ u. ahead (s.calls u)) = total_has n t (λ u. ahead (s.calls u)) l in
    let x : need g s (s.calls t) ≡ need g s c = ap (need g s) e in
    let y : behind (s.calls t) ≡ behind c = ap behind e in
    let z : ahead (s.calls t) ≡ ahead c = ap ahead e in
    let w : s.resv + total n (λ u. behind (s.calls u)) ≡ vacant_of g s.reserved s.pages + total n (λ u. ahead (s.calls u)) = h.count in
    omega arith

-- what a call owes to the used count is counted in it
pub uses : (g : Geometry) (s : State) (t : ℕ) (c : Option Call) → Inv g s → t < g.tasks + 1 → s.calls t ≡ c → used_ahead c ≤ s.used
uses g s t c h l e =
    let a : used_ahead (s.calls t) ≤ sum_of g used_ahead s.calls = total_has (g.tasks + 1) t (λ u. used_ahead (s.calls u)) l in
    let b : used_ahead (s.calls t) ≡ used_ahead c = ap used_ahead e in
    let d = h.used in
    omega arith

-- a number that is 0 passes the test for it
is_zero : (m : ℕ) → m ≡ 0 → (m == 0) ≡ true
is_zero m e = grind (arith, nat_tests)

-- so the counts have what a call's next step takes from them, in each phase that lowers one
pub can_settle : (g : Geometry) (s : State) (t : ℕ) (c : Option Call) → Inv g s → t < g.tasks + 1 → s.calls t ≡ c → Stands g s t c
    → CanSettle s c
can_settle g s t (Some (call.Touch (touch.Changed p))) k l e h =
    λ z. let o : 1 ≤ need g s (Some (call.Touch (touch.Changed p))) = one_claim g s
    (Some (call.Touch (touch.Changed p))) p.touch.file p.touch.index true h.facts.aim.file h.facts.aim.index
    (λ d. when (p.pending.missing == 0) p.touch.file p.touch.index (is_zero p.pending.missing z)) in
    let q = enough g s t _ k l e in omega arith
can_settle g s t (Some (call.Touch (touch.Settle p))) k l e h =
    let o : 1 ≤ need g s (Some (call.Touch (touch.Settle p))) =
    one_claim g s (Some (call.Touch (touch.Settle p))) p.touch.file p.touch.index true h.facts.aim.file h.facts.aim.index
    (λ d. self p.touch.file p.touch.index) in
    let q = enough g s t _ k l e in
    (omega arith, uses g s t _ k l e)
can_settle g s t (Some (call.Alloc (alloc.Changed p))) k l e h =
    λ z. let o : 1 ≤ need g s (Some (call.Alloc (alloc.Changed p))) = one_claim g s
    (Some (call.Alloc (alloc.Changed p))) p.allocation.file p.index true h.facts.aim.file
    (below_limit g _ h.facts.aim)
    (λ d. when (p.pending.missing == 0) p.allocation.file p.index (is_zero p.pending.missing z)) in
    let q = enough g s t _ k l e in omega arith
can_settle g s t (Some (call.Alloc (alloc.Settle p))) k l e h = absurd h.facts
can_settle g s t (Some (call.Map (map.Settle p))) k l e h = let q = enough g s t _ k l e in (omega arith, uses g s t _ k l e)
can_settle g s t (Some (call.Punch (punch.Free p))) k l e h =
    λ done. let o : bit (not p.denied) ≡ 1 = ap (λ (b : Bool). bit (not b)) done in
    let q = uses g s t (Some (call.Punch (punch.Free p))) k l e in omega arith
can_settle g s t (Some (call.Truncate (truncate.Settle p))) k l e h = let q = enough g s t _ k l e in (omega arith, uses g s t _ k l e)
can_settle g s t (Some (call.Unmap (unmap.Start p))) k l e h = tt
can_settle g s t (Some (call.Unmap (unmap.Clear p))) k l e h = tt
can_settle g s t (Some (call.Unmap (unmap.Drop p))) k l e h = tt
can_settle g s t (Some (call.Exit exit.Start)) k l e h = tt
can_settle g s t (Some (call.Exit (exit.Clear p))) k l e h = tt
can_settle g s t (Some (call.Exit (exit.Drop p))) k l e h = tt
can_settle g s t (Some (call.Exit exit.Leave)) k l e h = tt
can_settle g s t c k l e h = tt

-- A run that is computed, and tests that tell of its end that a law doesn't hold there.
use Rattle.std.proofs.Common.{◌≡◌, ℕ, zero, suc, ◌+◌, ◌<◌, ◌≤◌, refl, ap, sym, ◌∙◌, arith, inl, inr}
use Rattle.std.specs.Prelude.{Bool, true, false, not, ◌&&◌, ◌||◌, ◌==◌, nat_le, nat_lt, is_some, Option, Some, None, List}
use Rattle.std.proofs.lemmas.Bool.Decides.{nat_tests, eqb_tells}
use Rattle.hp_base.specs.Indices.{touches}
use Rattle.hp_base.specs.Mappings.{find}
use Rattle.hp_base.specs.Numbers.{total}
use Rattle.hp_base.specs.declared.event.Event.{Event}
use Rattle.hp_frames.specs.Bank.{IsWithinQuota, is_retired}
use Rattle.hp_frames.specs.declared.frame.FrameState.{FrameState}
use Rattle.hp_frames.specs.declared.frame.FrameState.TheVariants as state
use Rattle.hp_machine.specs.State.{Geometry, State, free_frames}
use Rattle.hp_machine.specs.Events.{EventRows, opening}
use Rattle.hp_machine.specs.Headline.{Headline, Agrees, IsBelow, Place, Hand, Retired, vacant_in, all_behind, all_ahead}
use Rattle.hp_machine.specs.Headline.{reserved_in, all_used_ahead}
use Rattle.hp_machine.specs.Standings.{Progress, NoChange, Counts, GivesUp, standing_of}
use Rattle.hp_machine.specs.Views.{hand, opens}
use Rattle.hp_machine.specs.declared.truncate.TruncatePhase.TheVariants as truncate
use Rattle.hp_machine.specs.declared.call.Call.{Call}
use Rattle.hp_machine.specs.declared.call.Call.TheVariants as call
use Rattle.hp_laws.specs.Enough.{CanSettle}
use Rattle.hp_laws.specs.Laws.{NeverShort}
use Rattle.hp_laws.specs.Protocol.{ChangesAreCalls, SparesSuffice}
use Rattle.hp_counterexamples.specs.Runs.{Leads, Breaks, IsAtRest, Miscounts, Misuses, LacksDescriptor, Lacks, Strands}
use Rattle.hp_counterexamples.specs.Runs.{FramesAreInOnePlace, FreeFramesSuffice, QuotaSuffices}
use Rattle.hp_counterexamples.proofs.Running.{Ran, Tries, run}

-- ---- what tests say

pub never : {A : Type 0} → false ≡ true → A
never e = absurd (cc)

pub both : (a b : Bool) → (a && b) ≡ true → (a ≡ true) × (b ≡ true)
both true b e = (refl, e)
both false b e = never e

neither : (a b : Bool) → not (a || b) ≡ true → (not a ≡ true) × (not b ≡ true)
neither true b e = never e
neither false b e = (refl, e)

either : (a b : Bool) → (a || b) ≡ true → {A : Type 0} → (a ≡ true → A) → (b ≡ true → A) → A
either true b e f g = f refl
either false b e f g = g e

pub equal : (a b : ℕ) → (a == b) ≡ true → a ≡ b
equal a b e = grind (arith, nat_tests)

differ : (a b : ℕ) → not (a == b) ≡ true → a ≡ b → ⊥
differ a b e c = grind (arith, nat_tests)

pub above : (a b : ℕ) → nat_lt a b ≡ true → b ≤ a → ⊥
above a b e l = grind (arith, nat_tests)

not_below : (a b : ℕ) → nat_le a b ≡ true → b < a → ⊥
not_below a b e l = grind (arith, nat_tests)

-- some number below n passes the test
abbrev pub any_below : (n : ℕ) → (ℕ → Bool) → Bool
any_below zero p = false
any_below (suc n) p = p n || any_below n p

pub found_below : (n : ℕ) (p : ℕ → Bool) → any_below n p ≡ true → (k : ℕ) × (k < n) × (p k ≡ true)
found_below zero p e = never e
found_below (suc n) p e =
    either (p n) (any_below n p) e (λ d. (n, (omega arith), d))
    (λ d. let r = found_below n p d in (r.0, (let l = r.1 in omega arith), r.2))

none_found : (n : ℕ) (p : ℕ → Bool) → not (any_below n p) ≡ true → (k : ℕ) → k < n → not (p k) ≡ true
none_found zero p e k l = absurd (omega arith)
none_found (suc n) p e k l = elim (eqb_tells k n) [
  | inl d ↦ ap (λ (k : ℕ). not (p k)) d.1 ∙ (neither (p n) (any_below n p) e).0
  | inr d ↦ none_found n p (neither (p n) (any_below n p) e).1 k (let z = d.1 in omega arith)
]

-- ---- a run that ends where a test passes

abbrev pub ends : (rows : EventRows) (s : State) (events : List Event) (test : State → Bool) → Option (Ran rows s events)
    → Bool
ends rows s events test None = false
ends rows s events test (Some r) = test r.1

abbrev pub is_led : (rows : EventRows) → Tries rows → Geometry → (frames : ℕ) → List Event → (test : State → Bool) → Bool
is_led rows tries g frames events test =
    ends rows (opening g frames) events test (run rows tries (opening g frames) events (λ f i l. refl))

pub leads : (rows : EventRows) (tries : Tries rows) (g : Geometry) (frames : ℕ) (events : List Event) (test : State → Bool)
    (end : State → Type 0)
    → ((s : State) → test s ≡ true → end s) → is_led rows tries g frames events test ≡ true → Leads rows g frames events end
leads rows tries g frames events test end tells e = here (run rows tries (opening g frames) events (λ f i l. refl)) e
  where
    here : (o : Option (Ran rows (opening g frames) events)) → ends rows (opening g frames) events test o ≡ true
        → Leads rows g frames events end
    here None e = never e
    here (Some r) e = (r.0, r.1, r.2, r.3, tells r.1 e)

-- ---- the counts, where no call is in flight

abbrev pub rests : State → Bool
rests s = not (any_below (suc s.geometry.tasks) (λ t. is_some (s.calls t)))

pub at_rest : (s : State) → rests s ≡ true → IsAtRest s
at_rest s e t l = no_call (s.calls t) (none_found (suc s.geometry.tasks) (λ t. is_some (s.calls t)) e t (omega arith))
  where
    no_call : (c : Option Call) → not (is_some c) ≡ true → c ≡ None
    no_call None e = refl
    no_call (Some x) e = never e

abbrev pub miscounts : (counted waiting : ℕ) → State → Bool
miscounts counted waiting s =
    rests s && ((s.resv == counted) && ((vacant_in s == waiting) && not (s.resv + all_behind s == vacant_in s + all_ahead s)))

pub miscounts_so : (rows : EventRows) (tries : Tries rows) (g : Geometry) (frames : ℕ) (events : List Event)
    (counted waiting : ℕ)
    → is_led rows tries g frames events (miscounts counted waiting) ≡ true → Miscounts rows g frames events counted waiting
miscounts_so rows tries g frames events counted waiting = leads rows tries g frames events (miscounts counted waiting)
    (λ s. IsAtRest s × (s.resv ≡ counted) × (vacant_in s ≡ waiting) × (Headline s → ⊥))
    (λ s e. let a = both (rests s) _ e in let b = both (s.resv == counted) _ a.1 in let c = both (vacant_in s == waiting) _ b.1 in
    (at_rest s a.0, equal _ _ b.0, equal _ _ c.0, λ h. differ _ _ c.1 h.count))

abbrev pub misuses : (counted reserved : ℕ) → State → Bool
misuses counted reserved s =
    rests s && ((s.used == counted) && ((reserved_in s == reserved) && not (s.used == reserved_in s + all_used_ahead s)))

pub misuses_so : (rows : EventRows) (tries : Tries rows) (g : Geometry) (frames : ℕ) (events : List Event)
    (counted reserved : ℕ)
    → is_led rows tries g frames events (misuses counted reserved) ≡ true → Misuses rows g frames events counted reserved
misuses_so rows tries g frames events counted reserved = leads rows tries g frames events (misuses counted reserved)
    (λ s. IsAtRest s × (s.used ≡ counted) × (reserved_in s ≡ reserved) × (Headline s → ⊥))
    (λ s e. let a = both (rests s) _ e in let b = both (s.used == counted) _ a.1 in
    let c = both (reserved_in s == reserved) _ b.1 in
    (at_rest s a.0, equal _ _ b.0, equal _ _ c.0, λ h. differ _ _ c.1 h.used))

-- ---- clauses of the headline, each with the test that it fails

abbrev pub Fails : (law : State → Type 0) → (test : State → Bool) → Type 0
Fails law test = (s : State) → test s ≡ true → law s → ⊥

pub breaks : (rows : EventRows) (tries : Tries rows) (g : Geometry) (frames : ℕ) (events : List Event) (law : State → Type 0)
    (test : State → Bool) → Fails law test → is_led rows tries g frames events test ≡ true → Breaks rows g frames events law
breaks rows tries g frames events law test fails = leads rows tries g frames events test (λ s. law s → ⊥) fails

-- more is promised than is free
abbrev pub overdraws : State → Bool
overdraws s = nat_lt (free_frames s.frame s.frames) s.resv

pub overdrawn : Fails FreeFramesSuffice overdraws
overdrawn s e h = above _ _ e h

-- more is used than the quota allows
abbrev pub exceeds_at : (quota : Option ℕ) → (used : ℕ) → Bool
exceeds_at None used = false
exceeds_at (Some most) used = nat_lt most used

abbrev pub exceeds : State → Bool
exceeds s = exceeds_at s.geometry.quota s.used

pub exceeded : Fails QuotaSuffices exceeds
exceeded s e h = here s.geometry.quota e h
  where
    here : (quota : Option ℕ) → exceeds_at quota s.used ≡ true → IsWithinQuota quota s.used → ⊥
    here None e h = never e
    here (Some most) e h = above most s.used e h

-- some entry passes the test
abbrev pub any_entry : State → (test : (task vpn : ℕ) → Bool) → Bool
any_entry s test = any_below (suc s.geometry.tasks) (λ t. any_below s.geometry.space (λ v. test t v))

an_entry : (s : State) (test : ℕ → ℕ → Bool) → any_entry s test ≡ true → (t v : ℕ) × (test t v ≡ true)
an_entry s test e =
    let t = found_below (suc s.geometry.tasks) (λ t. any_below s.geometry.space (λ v. test t v)) e in
    let v = found_below s.geometry.space (λ v. test t.0 v) t.2 in
    (t.0, v.0, v.2)

-- the file isn't locked, and the index lies beyond its size
abbrev pub is_beyond : State → Option (ℕ × ℕ) → Bool
is_beyond s None = false
is_beyond s (Some place) = not (is_some (s.locks place.0)) && nat_le (s.size place.0) place.1

abbrev pub strays_at : State → (task vpn : ℕ) → Bool
strays_at s t v = is_some (s.entries t v) && is_beyond s (find (s.mappings t) v)

abbrev pub strays : State → Bool
strays s = any_entry s (strays_at s)

pub strayed : Fails IsBelow strays
strayed s e h = let a = an_entry s (strays_at s) e in at a.0 a.1 a.2
  where
    open_file : (t v x : ℕ) (place : ℕ × ℕ) (lock : Option ℕ) → s.entries t v ≡ Some x → find (s.mappings t) v ≡ Some place
        → s.locks place.0 ≡ lock → (not (is_some lock) && nat_le (s.size place.0) place.1) ≡ true → ⊥
    open_file t v x place None a b c d = not_below _ _ d (h t v x place.0 place.1 a b c)
    open_file t v x place (Some u) a b c d = never d

    here : (t v : ℕ) (entry : Option ℕ) (o : Option (ℕ × ℕ)) → s.entries t v ≡ entry → find (s.mappings t) v ≡ o
        → (is_some entry && is_beyond s o) ≡ true → ⊥
    here t v None o a b d = never d
    here t v (Some x) None a b d = never d
    here t v (Some x) (Some place) a b d = open_file t v x place (s.locks place.0) a b refl d

    at : (t v : ℕ) → strays_at s t v ≡ true → ⊥
    at t v d = here t v (s.entries t v) (find (s.mappings t) v) refl refl d

-- the index has another frame, or none
abbrev pub is_other : (frame : ℕ) → Option ℕ → Bool
is_other x None = true
is_other x (Some y) = not (x == y)

abbrev pub is_astray : State → (frame : ℕ) → Option (ℕ × ℕ) → Bool
is_astray s x None = true
is_astray s x (Some place) = is_other x (s.pages place.0 place.1)

abbrev pub disagrees_of : State → Option (ℕ × ℕ) → (entry : Option ℕ) → Bool
disagrees_of s place None = false
disagrees_of s place (Some x) = is_astray s x place

abbrev pub disagrees_at : State → (task vpn : ℕ) → Bool
disagrees_at s t v = disagrees_of s (find (s.mappings t) v) (s.entries t v)

abbrev pub disagrees : State → Bool
disagrees s = any_entry s (disagrees_at s)

pub disagreed : Fails Agrees disagrees
disagreed s e h = let a = an_entry s (disagrees_at s) e in here a.0 a.1 (s.entries a.0 a.1) refl a.2
  where
    same : (x : ℕ) → is_other x (Some x) ≡ true → ⊥
    same x e = grind (arith, nat_tests)

    here : (t v : ℕ) (entry : Option ℕ) → s.entries t v ≡ entry → disagrees_of s (find (s.mappings t) v) entry ≡ true → ⊥
    here t v None a d = never d
    here t v (Some x) a d =
        let o = h t v x a in
        let one : is_astray s x (Some o.0) ≡ true = ap (λ (p : Option (ℕ × ℕ)). is_astray s x p) (sym o.1) ∙ d in
        same x (ap (λ (p : Option ℕ). is_other x p) (sym o.2) ∙ one)

-- a frame in a hand is retired
abbrev pub is_torn : State → (in_hand : Option ℕ) → Bool
is_torn s None = false
is_torn s (Some x) = nat_lt x s.frames && is_retired (s.frame x)

abbrev pub tears : State → Bool
tears s = any_below (suc s.geometry.tasks) (λ t. is_torn s (hand (s.calls t)))

pub torn : Fails FramesAreInOnePlace tears
torn s e h =
    let t = found_below (suc s.geometry.tasks) (λ t. is_torn s (hand (s.calls t))) e in here t.0
    (hand (s.calls t.0)) refl t.2
  where
    below : (a b : ℕ) → nat_lt a b ≡ true → a < b
    below a b e = grind (arith, nat_tests)

    out : (f : FrameState) → is_retired f ≡ true → f ≡ state.Retired
    out state.Free e = never e
    out state.Hand e = never e
    out (state.Placed w) e = never e
    out state.Retired e = refl

    apart : (t : ℕ) → ◌≡◌ {A = Place} (Hand t) Retired → ⊥
    apart t e = absurd (cc)

    here : (t : ℕ) (o : Option ℕ) → hand (s.calls t) ≡ o → is_torn s o ≡ true → ⊥
    here t None a d = never d
    here t (Some x) a d =
        let b = both (nat_lt x s.frames) (is_retired (s.frame x)) d in
        let p = h.one x (below x s.frames b.0) in
        apart t (p.2 (Hand t) a ∙ sym (p.2 Retired (out (s.frame x) b.1)))

-- ---- the other laws

-- a truncation is to give back more than is counted
abbrev pub is_short : State → Option Call → Bool
is_short s (Some (call.Truncate (truncate.Settle p))) = nat_lt s.resv p.excess
is_short s other = false

abbrev pub shorts : State → Bool
shorts s = any_below (suc s.geometry.tasks) (λ t. is_short s (s.calls t))

pub shorted : Fails NeverShort shorts
shorted s e h =
    let t = found_below (suc s.geometry.tasks) (λ t. is_short s (s.calls t)) e in
    short (s.calls t.0) t.2 (h t.0 (let l = t.1 in omega arith))
  where
    short : (c : Option Call) → is_short s c ≡ true → CanSettle s c → ⊥
    short (Some (call.Truncate (truncate.Settle p))) e l = above s.resv p.excess e l.0
    short other e l = never e

-- the change that the call has to commit needs a descriptor, and none is spare; more changes are pending than are spare
abbrev pub needs_one : State → Progress → Bool
needs_one s NoChange = false
needs_one s (Counts f change) =
    not (touches (s.reserved f) change.from change.to) && ((s.spare f == 0) && nat_lt (s.spare f) (s.pending f))
needs_one s (GivesUp f) = false

abbrev pub lacks : (task : ℕ) → State → Bool
lacks t s = needs_one s (standing_of (s.calls t)).change

pub lacks_so : (rows : EventRows) (tries : Tries rows) (g : Geometry) (frames : ℕ) (events : List Event) (t : ℕ)
    → is_led rows tries g frames events (lacks t) ≡ true → Lacks rows g frames events t
lacks_so rows tries g frames events t =
    leads rows tries g frames events (lacks t) (λ s. LacksDescriptor s t × (SparesSuffice s → ⊥))
    (λ s e. here s (standing_of (s.calls t)).change refl e)
  where
    is_not : (b : Bool) → not b ≡ true → b ≡ false
    is_not true e = never e
    is_not false e = refl

    here : (s : State) (change : Progress) → (standing_of (s.calls t)).change ≡ change → needs_one s change ≡ true
        → LacksDescriptor s t × (SparesSuffice s → ⊥)
    here s NoChange a e = never e
    here s (Counts f change) a e =
        let b = both (not (touches (s.reserved f) change.from change.to)) _ e in
        let c = both (s.spare f == 0) _ b.1 in
        ((f, change, a, is_not _ b.0, equal _ _ c.0), λ h. above _ _ c.1 (h f))
    here s (GivesUp f) a e = never e

-- so many changes are pending, and the calls don't have as many open
abbrev pub strands : (file pending : ℕ) → State → Bool
strands f pending s =
    rests s && ((s.pending f == pending) && not (s.pending f == total (s.geometry.tasks + 1) (λ u. opens f (s.calls u))))

pub strands_so : (rows : EventRows) (tries : Tries rows) (g : Geometry) (frames : ℕ) (events : List Event) (f pending : ℕ)
    → is_led rows tries g frames events (strands f pending) ≡ true → Strands rows g frames events f pending
strands_so rows tries g frames events f pending = leads rows tries g frames events (strands f pending)
    (λ s. IsAtRest s × (s.pending f ≡ pending) × (ChangesAreCalls s → ⊥))
    (λ s e. let a = both (rests s) _ e in let b = both (s.pending f == pending) _ a.1 in
    (at_rest s a.0, equal _ _ b.0, λ h. differ _ _ b.1 (h f)))

-- Where a denied step does what a granted one does, and where it does something else.
use Rattle.std.proofs.Common.{◌≡◌, ◌≢◌, ◌↔◌, ℕ, ◌+◌, ◌<◌, ap, sym, refl, ◌∙◌, subst, arith}
use Rattle.std.specs.Prelude.{Bool, true, false, not, ◌&&◌, ◌==◌, nat_le, MatchBool, MatchOption, Option, Some, None, List}
use Rattle.std.proofs.lemmas.Bool.{ne_eqb, eq-eqb, le-leb, leb-true}
use Rattle.std.proofs.lemmas.Bool.Decides.{nat_tests}
use Rattle.hp_base.specs.Numbers.{put}
use Rattle.hp_base.specs.Indices.{splits}
use Rattle.hp_base.specs.Mappings.{IsRoom, fits}
use Rattle.hp_base.specs.declared.event.Event.TheVariants.{Step}
use Rattle.hp_base.specs.declared.answer.Answer.{Answer}
use Rattle.hp_base.specs.declared.answer.Answer.TheVariants as answer
use Rattle.hp_base.specs.declared.mapping.Mapping.{Mapping}
use Rattle.hp_base.proofs.Puts.{put_same}
use Rattle.hp_region.specs.Change.{Change}
use Rattle.hp_machine.specs.State.{Pool, State, pool_of, with_pool, is_dead, is_killed}
use Rattle.hp_machine.specs.Parts.{ChangeRow, answer_of}
use Rattle.hp_machine.specs.Events.{Row, StepRow, CallRow, TurnRow, left, lives_after}
use Rattle.hp_machine.specs.TouchRows.{TouchRow}
use Rattle.hp_machine.specs.MapRows.{MapRow, MapRoomRow}
use Rattle.hp_machine.specs.AllocRows.{AllocRow}
use Rattle.hp_machine.specs.PunchRows.{PunchRow}
use Rattle.hp_machine.specs.TruncateRows.{TruncateRow}
use Rattle.hp_machine.specs.UnmapRows.{UnmapRow}
use Rattle.hp_machine.specs.ExitRows.{ExitRow}
use Rattle.hp_machine.specs.Wants.{Wants, touch_wants, map_wants, alloc_wants, punch_wants}
use Rattle.hp_machine.specs.declared.touch.TouchPhase.{TouchPhase}
use Rattle.hp_machine.specs.declared.touch.TouchPhase.TheVariants as touch
use Rattle.hp_machine.specs.declared.touch.Access.{Access}
use Rattle.hp_machine.specs.declared.touch.Access.TheVariants.{Load, Store}
use Rattle.hp_machine.specs.declared.map.MapPhase.{MapPhase}
use Rattle.hp_machine.specs.declared.map.MapPhase.TheVariants as map
use Rattle.hp_machine.specs.declared.alloc.AllocPhase.{AllocPhase}
use Rattle.hp_machine.specs.declared.alloc.AllocPhase.TheVariants as alloc
use Rattle.hp_machine.specs.declared.punch.PunchPhase.{PunchPhase}
use Rattle.hp_machine.specs.declared.punch.PunchPhase.TheVariants as punch
use Rattle.hp_machine.specs.declared.truncate.TruncatePhase.{TruncatePhase}
use Rattle.hp_machine.specs.declared.truncate.TruncatePhase.TheVariants as truncate
use Rattle.hp_machine.specs.declared.unmap.UnmapPhase.{UnmapPhase}
use Rattle.hp_machine.specs.declared.unmap.UnmapPhase.TheVariants as unmap
use Rattle.hp_machine.specs.declared.exit.ExitPhase.{ExitPhase}
use Rattle.hp_machine.specs.declared.exit.ExitPhase.TheVariants as exit
use Rattle.hp_machine.specs.declared.call.Call.{Call}
use Rattle.hp_machine.specs.declared.call.Call.TheVariants as call
use Rattle.hp_machine.specs.declared.call.Turn.{Turn}
use Rattle.hp_machine.specs.declared.call.Turn.TheVariants.{Moved}
use Rattle.hp_machine.specs.declared.outcome.Outcome.{Outcome}
use Rattle.hp_laws.proofs.Deciding.{clash, some_same}
use Rattle.hp_laws.proofs.Reading.{step_of}
use Rattle.hp_laws.proofs.Shared.{by_test}

-- a statement is equivalent to itself
alike : {A : Type 0} → A ↔ A
alike = (λ a. a, λ a. a)

-- with a spare descriptor left a denied change is a granted one
change_same : {P : Type 0} (s : Pool) (f from to : ℕ) (denied : P) (changed : Change → P) (turn : Turn P) (new : Pool)
    → ¬ (s.spare f ≡ s.pending f)
    → ChangeRow s false f from to denied changed turn new ↔ ChangeRow s true f from to denied changed turn new
change_same s f from to denied changed turn new unwanted =
    let q : (s.spare f == s.pending f) ≡ false = ne_eqb (s.spare f) (s.pending f) unwanted in
    rw q alike

-- an index that isn't below the size is at or above it, as the row's test says
at_or_above : (i n : ℕ) → ¬ (i < n) → nat_le n i ≡ true
at_or_above i n unwanted = grind (arith, nat_tests, unwanted)

-- a touch's row that wants no growth is the same denied and granted
touch_same : (s : Pool) (t : ℕ) (killed : Bool) (p : TouchPhase) (turn : Turn TouchPhase) (new : Pool) → ¬ touch_wants s p
    → TouchRow s t killed false p turn new ↔ TouchRow s t killed true p turn new
touch_same s t killed (touch.Missing p) turn new unwanted =
    change_same s p.touch.file p.touch.index (p.touch.index + 1)
    (touch.Leave (record { touch = p.touch; answer = answer.NoMemory }))
    (λ change. touch.Changed (record { touch = p.touch; pending = change })) turn new unwanted
touch_same s t killed (touch.Committed p) turn new unwanted = let q = at_or_above p.touch.index (s.size p.touch.file) unwanted in rw q alike
touch_same s t killed (touch.Found p) turn new unwanted = let q = at_or_above p.touch.index (s.size p.touch.file) unwanted in rw q alike
touch_same s t killed p turn new unwanted = alike

-- room that is found is wanted, so there is none
by_room : {A : Type 0} {B C : ℕ → Type 0} (I : Option ℕ → Type 0) → ((base : ℕ) → ¬ I (Some base))
    → (found : Option ℕ) × I found × MatchOption found A B → (found : Option ℕ) × I found × MatchOption found A C
by_room I unwanted (None, is, row) = (None, is, row)
by_room I unwanted (Some base, is, row) = absurd (unwanted base is)

-- so is a map's
map_same : (s : Pool) (t : ℕ) (killed : Bool) (p : MapPhase) (turn : Turn MapPhase) (new : Pool) → ¬ map_wants s t p
    → MapRow s t killed false p turn new ↔ MapRow s t killed true p turn new
map_same s t killed (map.Room p) turn new unwanted =
    let I : Option ℕ → Type 0 = IsRoom s.geometry.space (s.mappings t) p.map.len in
    (λ r. by_room I (λ base is. unwanted (base, is)) r, λ r. by_room I (λ base is. unwanted (base, is)) r)
map_same s t killed (map.Missing p) turn new unwanted =
    change_same s p.map.file p.map.from (p.map.from + p.map.len)
    (map.Leave (record { map = p.map; answer = answer.NoMemory }))
    (λ change. map.Changed (record { map = p.map; base = p.base; pending = change })) turn new unwanted
map_same s t killed p turn new unwanted = alike

-- so is an allocation's
alloc_same : (s : Pool) (t : ℕ) (killed : Bool) (p : AllocPhase) (turn : Turn AllocPhase) (new : Pool) → ¬ alloc_wants s p
    → AllocRow s t killed false p turn new ↔ AllocRow s t killed true p turn new
alloc_same s t killed (alloc.Missing p) turn new unwanted =
    change_same s p.allocation.file p.index (p.index + 1)
    (alloc.Unslot (record { allocation = p.allocation; index = p.index; answer = Some answer.NoMemory }))
    (λ change. alloc.Changed (record { allocation = p.allocation; index = p.index; pending = change })) turn new unwanted
alloc_same s t killed (alloc.Committed p) turn new unwanted = absurd (unwanted tt)
alloc_same s t killed p turn new unwanted = alike

-- where the tests don't both hold nothing is denied
not_both : (a b grant : Bool) → ¬ ((a ≡ true) × (b ≡ true)) → (a && b && grant) ≡ false
not_both false b grant unwanted = refl
not_both true false grant unwanted = refl
not_both true true grant unwanted = absurd (unwanted (refl, refl))

-- two tests that both fail choose the same case
match_off : (P Q : Type 0) (x y : Bool) → x ≡ false → y ≡ false → MatchBool x P Q ↔ MatchBool y P Q
match_off P Q true y e d = absurd (cc)
match_off P Q false true e d = absurd (cc)
match_off P Q false false e d = alike

-- a punch's row that wants no growth is the same denied and granted
punch_same : (s : Pool) (t : ℕ) (killed : Bool) (p : PunchPhase) (turn : Turn PunchPhase) (new : Pool) → ¬ punch_wants s p
    → PunchRow s t killed false p turn new ↔ PunchRow s t killed true p turn new
punch_same s t killed (punch.Delete p) turn new unwanted =
    let f = p.hole.file in
    let a : Bool = splits (s.reserved f) p.index in
    let b : Bool = nat_le (s.spare f) (s.pending f) in
    let off : ¬ ((a ≡ true) × (b ≡ true)) = λ both. unwanted (both.0, leb-true (s.spare f) (s.pending f) both.1) in
    match_off _ _ (a && b && not false) (a && b && not true) (not_both a b true off) (not_both a b false off)
punch_same s t killed p turn new unwanted = alike

-- the rows of truncations, unmaps and exits never look at the grant: first of truncations
truncate_same : (s : Pool) (t : ℕ) (killed : Bool) (p : TruncatePhase) (turn : Turn TruncatePhase) (new : Pool)
    → TruncateRow s t killed false p turn new ↔ TruncateRow s t killed true p turn new
truncate_same s t killed (truncate.Start p) turn new = alike
truncate_same s t killed p turn new = alike

-- of unmaps
unmap_same : (s : Pool) (t : ℕ) (killed : Bool) (p : UnmapPhase) (turn : Turn UnmapPhase) (new : Pool)
    → UnmapRow s t killed false p turn new ↔ UnmapRow s t killed true p turn new
unmap_same s t killed (unmap.Start p) turn new = alike
unmap_same s t killed p turn new = alike

-- and of exits
exit_same : (s : Pool) (t : ℕ) (killed : Bool) (p : ExitPhase) (turn : Turn ExitPhase) (new : Pool)
    → ExitRow s t killed false p turn new ↔ ExitRow s t killed true p turn new
exit_same s t killed exit.Start turn new = alike
exit_same s t killed p turn new = alike

-- rows that are equivalent by turn are so as steps of the call
turn_same : {P : Type 0} (call : P → Call) (R Q : Turn P → Pool → Type 0) (o : Outcome) (new : Pool) (next : Option Call)
    → ((turn : Turn P) → R turn new ↔ Q turn new) → TurnRow call R o new next ↔ TurnRow call Q o new next
turn_same call R Q o new next same = (λ r. (r.0, (same r.0).0 r.1, r.2, r.3), λ r. (r.0, (same r.0).1 r.1, r.2, r.3))

-- so of each call that wants no growth
call_same : (s : Pool) (t : ℕ) (killed : Bool) (c : Call) (o : Outcome) (new : Pool) (next : Option Call) → ¬ Wants s t c
    → CallRow s t killed false c o new next ↔ CallRow s t killed true c o new next
unfolding CallRow
call_same s t killed (call.Touch p) o new next unwanted =
    turn_same call.Touch (TouchRow s t killed false p) (TouchRow s t killed true p) o new next
    (λ turn. touch_same s t killed p turn new unwanted)
call_same s t killed (call.Map p) o new next unwanted =
    turn_same call.Map (MapRow s t killed false p) (MapRow s t killed true p) o new next
    (λ turn. map_same s t killed p turn new unwanted)
call_same s t killed (call.Alloc p) o new next unwanted =
    turn_same call.Alloc (AllocRow s t killed false p) (AllocRow s t killed true p) o new next
    (λ turn. alloc_same s t killed p turn new unwanted)
call_same s t killed (call.Punch p) o new next unwanted =
    turn_same call.Punch (PunchRow s t killed false p) (PunchRow s t killed true p) o new next
    (λ turn. punch_same s t killed p turn new unwanted)
call_same s t killed (call.Truncate p) o new next unwanted =
    turn_same call.Truncate (TruncateRow s t killed false p) (TruncateRow s t killed true p) o new next
    (λ turn. truncate_same s t killed p turn new)
call_same s t killed (call.Unmap p) o new next unwanted =
    turn_same call.Unmap (UnmapRow s t killed false p) (UnmapRow s t killed true p) o new next
    (λ turn. unmap_same s t killed p turn new)
call_same s t killed (call.Exit p) o new next unwanted =
    turn_same call.Exit (ExitRow s t killed false p) (ExitRow s t killed true p) o new next
    (λ turn. exit_same s t killed p turn new)

-- the same said of the task's call in flight
in_call : (R Q : Call → Type 0) (I : Type 0) (m : Option Call) (c : Call) → m ≡ Some c → R c ↔ Q c → MatchOption m I R ↔ MatchOption m I Q
in_call R Q I None c is same = (let d : ◌≡◌ {A = Option Call} None (Some c) = is in absurd (cc))
in_call R Q I (Some b) c is same = subst (λ (z : Call). R z ↔ Q z) (sym (some_same is)) same

-- and of a task that isn't dead
in_life : (I P Q : Type 0) (dead : Bool) → P ↔ Q → MatchBool dead I P ↔ MatchBool dead I Q
in_life I P Q true same = alike
in_life I P Q false same = same

-- a denied step whose row wants no growth is a granted one
pub same_step : (s : State) (t : ℕ) (c : Call) (o : Outcome) (after : State) → s.calls t ≡ Some c → ¬ Wants (pool_of s) t c
    → Row s (Step t false) o after ↔ Row s (Step t true) o after
unfolding StepRow
same_step s t c o after some unwanted =
    let steps : (Bool → Call → Type 0) =
    λ grant call. (pool : Pool) × (next : Option Call)
    × CallRow (pool_of s) t (is_killed (s.life t)) grant call o pool next
    × (after ≡ record (with_pool s pool) { life = lives_after s.life t call next; calls = put s.calls t next }) in
    let same : (pool : Pool) (next : Option Call)
    → CallRow (pool_of s) t (is_killed (s.life t)) false c o pool next ↔ CallRow (pool_of s) t
    (is_killed (s.life t)) true c o pool next = λ pool next. call_same (pool_of s) t (is_killed (s.life t)) c o pool
    next unwanted in
    in_life _ _ _ (is_dead (s.life t))
    (in_call (steps false) (steps true) _ (s.calls t) c some
    (λ r. (r.0, r.1, (same r.0 r.1).0 r.2, r.3), λ r. (r.0, r.1, (same r.0 r.1).1 r.2, r.3)))

-- the two rows move to different phases
abbrev Parted : {P : Type 0} → (R Q : Turn P → Pool → Type 0) → Type 0
Parted {P} R Q =
    (turn others : Turn P) (new news : Pool) → R turn new → Q others news
    → (q : P) × (other : P) × (turn ≡ Moved q) × (others ≡ Moved other) × (q ≢ other)

-- a conjunction with false fails
never : (b : Bool) → (b && false) ≡ false
never true = refl
never false = refl

-- without a spare descriptor a denied change and a granted one move to different phases
change_other : {P : Type 0} (s : Pool) (f from to : ℕ) (denied : P) (changed : Change → P) → s.spare f ≡ s.pending f
    → ((change : Change) → denied ≢ changed change)
    → Parted (ChangeRow s false f from to denied changed) (ChangeRow s true f from to denied changed)
change_other s f from to denied changed e apart = λ turn others new news r q.
    let same : Bool = s.spare f == s.pending f in
    by_test (same && not false) r
    (λ _ a. by_test (same && not true) q
    (λ on _. absurd (clash (same && false) on (never same)))
    (λ _ b. (denied, changed _, a.0, b.0, apart _)))
    (λ off _. absurd (clash (same && true) (ap (λ (b : Bool). b && true) (eq-eqb (s.spare f) (s.pending f) e)) off))

-- an index below the size fails the test for at or above it
below_size : (i n : ℕ) → i < n → nat_le n i ≡ false
below_size i n l = grind (arith, nat_tests, l)

-- the answer that a touch carries as it leaves
abbrev answer_at : TouchPhase → Answer
answer_at (touch.Leave p) = p.answer
answer_at p = answer.Done

-- where a touch's row wants growth, denied and granted part
touch_other : (s : Pool) (t : ℕ) (killed : Bool) (p : TouchPhase) → touch_wants s p
    → Parted (TouchRow s t killed false p) (TouchRow s t killed true p)
touch_other s t killed (touch.Missing p) wants =
    change_other s p.touch.file p.touch.index (p.touch.index + 1)
    (touch.Leave (record { touch = p.touch; answer = answer.NoMemory }))
    (λ change. touch.Changed (record { touch = p.touch; pending = change })) wants (λ change e. cc)
touch_other s t killed (touch.Committed p) wants = λ turn others new news r q.
    let high : Bool = nat_le (s.size p.touch.file) p.touch.index in
    let low = below_size p.touch.index (s.size p.touch.file) wants in
    by_test high r (λ on _. absurd (clash high on low))
    (λ _ a. by_test high q (λ on _. absurd (clash high on low)) (λ _ b. (_, _, a.0, b.0, λ e. cc)))
touch_other s t killed (touch.Found p) wants = λ turn others new news r q.
    let high : Bool = nat_le (s.size p.touch.file) p.touch.index in
    let low = below_size p.touch.index (s.size p.touch.file) wants in
    by_test high r (λ on _. absurd (clash high on low))
    (λ _ a. by_test high q (λ on _. absurd (clash high on low)) (λ _ b. (_, _, a.0, b.4.0, λ e. told p.touch.access b.1 e)))
  where
    told : (access : Access) (word : ℕ)
        → touch.Leave (record { touch = p.touch; answer = answer.NoMemory }) ≡ touch.Leave
        (record { touch = p.touch; answer = answer_of access word })
        → ⊥
    told Load word e = (let d : answer.NoMemory ≡ answer.Word word = ap answer_at e in absurd (cc))
    told (Store new) word e = (let d : answer.NoMemory ≡ answer.Done = ap answer_at e in absurd (cc))
touch_other s t killed p wants = absurd wants

-- room can't be both there and not there
none_fits : (space len : ℕ) (mappings : List Mapping) → IsRoom space mappings len None
    → (base : ℕ) × IsRoom space mappings len (Some base) → ⊥
none_fits space len mappings none some = clash (fits space mappings some.0 len) some.1.0 (none some.0)

-- where a map's row wants growth, denied and granted part
map_other : (s : Pool) (t : ℕ) (killed : Bool) (p : MapPhase) → map_wants s t p
    → Parted (MapRow s t killed false p) (MapRow s t killed true p)
map_other s t killed (map.Room p) wants = λ turn others new news r q. by_found r q
  where
    by_found : {turn others : Turn MapPhase} {new news : Pool} → MapRoomRow s t false p turn new
        → MapRoomRow s t true p others news → (a : MapPhase) × (b : MapPhase) × (turn ≡ Moved a) × (others ≡ Moved b) × (a ≢ b)
    by_found (None, is, row) q = absurd (none_fits s.geometry.space p.map.len (s.mappings t) is wants)
    by_found (Some base, is, row) (None, same, next) = absurd (none_fits s.geometry.space p.map.len (s.mappings t) same wants)
    by_found (Some base, is, row) (Some other, same, next) =
        by_test p.map.reserve next (λ _ n. (_, _, row.0, n.0, λ e. cc)) (λ _ n. (_, _, row.0, n.0, λ e. cc))
map_other s t killed (map.Missing p) wants =
    change_other s p.map.file p.map.from (p.map.from + p.map.len)
    (map.Leave (record { map = p.map; answer = answer.NoMemory }))
    (λ change. map.Changed (record { map = p.map; base = p.base; pending = change })) wants (λ change e. cc)
map_other s t killed p wants = absurd wants

-- so with an allocation's
alloc_other : (s : Pool) (t : ℕ) (killed : Bool) (p : AllocPhase) → alloc_wants s p
    → Parted (AllocRow s t killed false p) (AllocRow s t killed true p)
alloc_other s t killed (alloc.Missing p) wants =
    change_other s p.allocation.file p.index (p.index + 1)
    (alloc.Unslot (record { allocation = p.allocation; index = p.index; answer = Some answer.NoMemory }))
    (λ change. alloc.Changed (record { allocation = p.allocation; index = p.index; pending = change })) wants (λ change e. cc)
alloc_other s t killed (alloc.Committed p) wants = λ turn others new news r q. (_, _, r.0, q.0, λ e. cc)
alloc_other s t killed p wants = absurd wants

-- where both tests hold a delete that isn't granted is denied
both : (a b : Bool) → a ≡ true → b ≡ true → (a && b && true) ≡ true
both true true e d = refl
both true false e d = absurd (cc)
both false b e d = absurd (cc)

-- and a granted one never is
never_both : (a b : Bool) → (a && b && false) ≡ false
never_both true b = never b
never_both false b = refl

-- whether the delete was denied
abbrev is_denied : PunchPhase → Bool
is_denied (punch.Free p) = p.denied
is_denied p = true

-- where a punch's delete wants growth, denied and granted part by what they carry on
punch_other : (s : Pool) (t : ℕ) (killed : Bool) (p : PunchPhase) → punch_wants s p
    → Parted (PunchRow s t killed false p) (PunchRow s t killed true p)
punch_other s t killed (punch.Delete p) wants = λ turn others new news r q.
    let f = p.hole.file in
    let a : Bool = splits (s.reserved f) p.index in
    let b : Bool = nat_le (s.spare f) (s.pending f) in
    by_test (a && b && not false) r
    (λ _ denied. by_test (a && b && not true) q
    (λ on _. absurd (clash (a && b && false) on (never_both a b)))
    (λ _ gone. (_, _, denied.0, gone.0, λ e. clash true refl (ap is_denied e))))
    (λ off _. absurd (clash (a && b && true) (both a b wants.0 (le-leb (s.spare f) (s.pending f) wants.1)) off))
punch_other s t killed p wants = absurd wants

-- turns to different phases leave different calls
turn_other : {P : Type 0} (call : P → Call) (R Q : Turn P → Pool → Type 0) (o told : Outcome) (new news : Pool) (next nexts : Option Call)
    → ((a b : P) → call a ≡ call b → a ≡ b) → Parted R Q → TurnRow call R o new next → TurnRow call Q told news nexts
    → next ≢ nexts
turn_other call R Q o told new news next nexts one parted r q = λ same.
    let w = parted r.0 q.0 new news r.1 q.1 in
    w.4 (one w.0 w.1 (some_same (sym (r.3 ∙ ap (left call) w.2) ∙ (same ∙ (q.3 ∙ ap (left call) w.3)))))

-- so each call that wants growth is left at another place by a denied step
call_other : (s : Pool) (t : ℕ) (killed : Bool) (c : Call) (o told : Outcome) (new news : Pool) (next nexts : Option Call)
    → Wants s t c → CallRow s t killed false c o new next → CallRow s t killed true c told news nexts → next ≢ nexts
unfolding CallRow
call_other s t killed (call.Touch p) o told new news next nexts wants r q =
    turn_other call.Touch (TouchRow s t killed false p) (TouchRow s t killed true p) o told new news next nexts
    (λ a b e. cc) (touch_other s t killed p wants) r q
call_other s t killed (call.Map p) o told new news next nexts wants r q =
    turn_other call.Map (MapRow s t killed false p) (MapRow s t killed true p) o told new news next nexts
    (λ a b e. cc) (map_other s t killed p wants) r q
call_other s t killed (call.Alloc p) o told new news next nexts wants r q =
    turn_other call.Alloc (AllocRow s t killed false p) (AllocRow s t killed true p) o told new news next nexts
    (λ a b e. cc) (alloc_other s t killed p wants) r q
call_other s t killed (call.Punch p) o told new news next nexts wants r q =
    turn_other call.Punch (PunchRow s t killed false p) (PunchRow s t killed true p) o told new news next nexts
    (λ a b e. cc) (punch_other s t killed p wants) r q
call_other s t killed c o told new news next nexts wants r q = absurd wants

-- a denied step whose row wants growth leaves another call than a granted one
pub other_step : (s : State) (t : ℕ) (c : Call) (o told : Outcome) (after others : State) → s.calls t ≡ Some c
    → is_dead (s.life t) ≡ false → Wants (pool_of s) t c → Row s (Step t false) o after → Row s (Step t true) told others
    → after.calls t ≢ others.calls t
other_step s t c o told after others some lives wants r q =
    let a = step_of s t false c o after r lives some in
    let b = step_of s t true c told others q lives some in
    λ same. call_other (pool_of s) t (is_killed (s.life t)) c o told a.0 b.0 a.1 b.1 wants a.2 b.2
    (sym (left_at a.1 after (ap (λ (z : State). z.calls) a.3)) ∙ (same ∙ left_at b.1 others (ap (λ (z : State). z.calls) b.3)))
  where
    left_at : (next : Option Call) (n : State) → n.calls ≡ put s.calls t next → n.calls t ≡ next
    left_at next n e = ap (λ (calls : ℕ → Option Call). calls t) e ∙ put_same s.calls t next

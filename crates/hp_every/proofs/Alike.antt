-- Names of frames don't show in what may be done.
use Rattle.std.proofs.Common.{◌≡◌, ℕ, refl, ap, sym, ◌∙◌, subst}
use Rattle.std.specs.Prelude.{Option, None, Some, IsSomeAnd}
use Rattle.std.specs.Option.{option_map}
use Rattle.hp_base.specs.declared.event.Event.{Event}
use Rattle.hp_machine.specs.State.{State}
use Rattle.hp_machine.specs.Events.{word_of}
use Rattle.hp_machine.specs.Wants.{Wants, touch_wants, map_wants, alloc_wants, punch_wants}
use Rattle.hp_machine.specs.declared.touch.TouchPhase.{TouchPhase}
use Rattle.hp_machine.specs.declared.touch.TouchPhase.TheVariants as touch
use Rattle.hp_machine.specs.declared.map.MapPhase.{MapPhase}
use Rattle.hp_machine.specs.declared.map.MapPhase.TheVariants as map
use Rattle.hp_machine.specs.declared.alloc.AllocPhase.{AllocPhase}
use Rattle.hp_machine.specs.declared.alloc.AllocPhase.TheVariants as alloc
use Rattle.hp_machine.specs.declared.punch.PunchPhase.{PunchPhase}
use Rattle.hp_machine.specs.declared.punch.PunchPhase.TheVariants as punch
use Rattle.hp_machine.specs.declared.call.Call.{Call}
use Rattle.hp_machine.specs.declared.call.Call.TheVariants as call
use Rattle.hp_machine.specs.declared.outcome.Outcome.{Outcome}
use Rattle.hp_sequential.specs.Renaming.{Alike, Renaming, alloc_renamed, call_renamed, punch_renamed, renamed, touch_renamed}
use Rattle.hp_alike.proofs.Twins.{Twins, same_busy, same_life, still_some, told_same, waits_there}
use Rattle.hp_core.specs.State.{CoreState, as_state, calls_of}
use Rattle.hp_core.specs.Readers.{phase_of, life_of}
use Rattle.hp_core.specs.Runs.{Row}
use Rattle.hp_text.specs.declared.script.Script.{Script}
use Rattle.hp_every.specs.Places.{AreAlike, IsPlaceOf}
use Rattle.hp_every.specs.Schedules.{AnyTurn, Place, plan_for}
use Rattle.hp_every.proofs.Futures.{StateWants, place_reached}
use Rattle.hp_every.specs.Private.{IsPrivate}
use Rattle.hp_every.proofs.Looks.{LooksAlike, turn_there}

-- whatever wants memory wants it where frames have other names: first of touches
touch_there : (s : State) (r : Renaming s.frames) (p : TouchPhase) → touch_wants s.pool p
    → touch_wants (renamed r s).pool (touch_renamed r.to p)
touch_there s r (touch.Missing p) h = h
touch_there s r p h = h

map_there : (s : State) (r : Renaming s.frames) (t : ℕ) (p : MapPhase) → map_wants s.pool t p → map_wants (renamed r s).pool t p
map_there s r t (map.Missing p) h = h
map_there s r t p h = h

alloc_there : (s : State) (r : Renaming s.frames) (p : AllocPhase) → alloc_wants s.pool p
    → alloc_wants (renamed r s).pool (alloc_renamed r.to p)
alloc_there s r (alloc.Missing p) h = h
alloc_there s r p h = h

punch_there : (s : State) (r : Renaming s.frames) (p : PunchPhase) → punch_wants s.pool p
    → punch_wants (renamed r s).pool (punch_renamed r.to p)
punch_there s r (punch.Delete p) h = h
punch_there s r p h = h

wants_there : (s : State) (r : Renaming s.frames) (t : ℕ) (c : Call) → Wants s.pool t c → Wants (renamed r s).pool t (call_renamed r.to c)
wants_there s r t (call.Touch p) h = touch_there s r p h
wants_there s r t (call.Map p) h = map_there s r t p h
wants_there s r t (call.Alloc p) h = alloc_there s r p h
wants_there s r t (call.Punch p) h = punch_there s r p h
wants_there s r t (call.Truncate p) h = h
wants_there s r t (call.Unmap p) h = h
wants_there s r t (call.Exit p) h = h

-- of a call that may be there
some_wants : (P Q : Call → Type 0) (f : Call → Call) (o : Option Call) → ((c : Call) → P c → Q (f c)) → IsSomeAnd o P
    → IsSomeAnd (option_map f o) Q
some_wants P Q f None on h = h
some_wants P Q f (Some c) on h = on c h

state_wants : (s n : State) (t : ℕ) → Alike s n → StateWants s t → StateWants n t
state_wants s n t h wants =
    subst (λ (m : State). StateWants m t) (sym h.1)
    (some_wants (λ c. Wants s.pool t c) (λ c. Wants (renamed h.0 s).pool t c) (call_renamed h.0.to) (s.calls t) (wants_there s h.0 t) wants)

-- and whatever step is private is private there
private_there : (s : State) (r : Renaming s.frames) (t : ℕ) (c : Call) → IsPrivate s.pool t c → IsPrivate (renamed r s).pool t (call_renamed r.to c)
private_there s r t (call.Touch (touch.Look p)) h = ap (option_map r.to) h
private_there s r t (call.Touch p) h = absurd h
private_there s r t (call.Map p) h = h
private_there s r t (call.Alloc (alloc.Head p)) h = h
private_there s r t (call.Alloc p) h = absurd h
private_there s r t (call.Punch p) h = h
private_there s r t (call.Truncate p) h = h
private_there s r t (call.Unmap p) h = h
private_there s r t (call.Exit p) h = h

abbrev StateSteps : State → (task : ℕ) → Type 0
StateSteps s t = IsSomeAnd (s.calls t) (λ c. IsPrivate s.pool t c)

state_private : (s n : State) (t : ℕ) → Alike s n → StateSteps s t → StateSteps n t
state_private s n t h steps =
    subst (λ (m : State). StateSteps m t) (sym h.1)
    (some_wants (λ c. IsPrivate s.pool t c) (λ c. IsPrivate (renamed h.0 s).pool t c) (call_renamed h.0.to) (s.calls t)
    (private_there s h.0 t) steps)

-- twins look alike
pub twins_look : (p q : Place) → Twins (as_state p.core) (as_state q.core) → AreAlike p q → LooksAlike p q
unfolding phase_of life_of calls_of
twins_look p q twins h = record {
  calls = λ t. still_some word_of ((as_state q.core).calls t)
      ∙ (same_busy (as_state p.core) (as_state q.core) t twins ∙ sym (still_some word_of ((as_state p.core).calls t)));
  lives = λ t. same_life (as_state p.core) (as_state q.core) t twins;
  waits = λ t none. waits_there p.core q.core t twins none;
  wants = λ t wants. state_wants (as_state p.core) (as_state q.core) t h.state wants;
  private = λ t steps. state_private (as_state p.core) (as_state q.core) t h.state steps;
  made = sym h.made;
  denials = sym h.denials;
  kills = sym h.kills;
}

-- a turn of the one, and what the other does by the same event
pub alike_turn : (script : Script) (p q r : Place) (event : Event) (outcome other : Outcome) (core : CoreState)
    → IsPlaceOf script p → IsPlaceOf script q → AreAlike p q → AnyTurn (plan_for script) p event outcome r → Row q.core event other core
    → AnyTurn (plan_for script) q event other (record r { core = core }) × (other ≡ outcome) × AreAlike r (record r { core = core })
unfolding Row
alike_turn script p q r event outcome other core here there h turn row =
    let twins : Twins (as_state p.core) (as_state q.core) = record {
      reached = (place_reached script p here).0;
      other = (place_reached script q there).0;
      alike = h.state;
    } in
    let both =
    told_same (as_state p.core) (as_state q.core) (as_state r.core) (as_state core) event outcome other twins turn.row.0 row.0 in
    let same : Row q.core event outcome core = subst (λ (o : Outcome). Row q.core event o core) both.0 row in
    let made = turn_there (plan_for script) p q (twins_look p q twins h) event outcome r core turn same in (
      subst (λ (o : Outcome). AnyTurn (plan_for script) q event o (record r { core = core })) (sym both.0) made,
      both.0,
      record {
        state = both.1.alike;
        sizes = turn.row.1 ∙ (h.sizes ∙ sym row.1);
        made = refl;
        denials = refl;
        kills = refl;
      },
    )

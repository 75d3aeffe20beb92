-- Two places in which the same turns may be made.
use Rattle.std.proofs.Common.{◌≡◌, ℕ, ◌+◌, ◌≤◌, length, ap, sym, ◌∙◌, subst, inl, inr, List}
use Rattle.std.specs.Prelude.{Bool, true, false, not, ◌&&◌, ◌-◌, nat_le, None, is_none, is_some, MatchBool}
use Rattle.std.specs.Prelude.{slice_index, slice_set, if◌then◌else◌}
use Rattle.std.specs.List.{list_all}
use Rattle.hp_base.specs.declared.event.Event.{Event}
use Rattle.hp_machine.specs.declared.outcome.Outcome.{Outcome}
use Rattle.hp_core.specs.State.{CoreState}
use Rattle.hp_core.specs.Readers.{life_of}
use Rattle.hp_core.specs.Runs.{Row, StepWants}
use Rattle.hp_core.specs.Waiting.{WaitsFor}
use Rattle.hp_explore.specs.Schedule.{Plan, CanTurn, in_call, may_begin, next_call, next_needs}
use Rattle.hp_explore.specs.Explored.{is_done}
use Rattle.hp_every.specs.Private.{StepIsPrivate}
use Rattle.hp_every.specs.Schedules.{Place, AnyTurn, Begins, Steps, Denied, Killed, world}

-- all that a turn looks at is the same: whatever may be done in the first place may be done in the second
pub record LooksAlike (p q : Place) : Type 0 where
  pub calls : (t : ℕ) → in_call (world q) t ≡ in_call (world p) t
  pub lives : (t : ℕ) → life_of q.core t ≡ life_of p.core t
  pub waits : (t : ℕ) → WaitsFor p.core t None → WaitsFor q.core t None
  pub wants : (t : ℕ) → StepWants p.core.parts p.core.task_states t → StepWants q.core.parts q.core.task_states t
  pub private : (t : ℕ) → StepIsPrivate p.core.parts p.core.task_states t → StepIsPrivate q.core.parts q.core.task_states t
  pub made : q.made ≡ p.made
  pub denials : q.denials ≡ p.denials
  pub kills : q.kills ≡ p.kills

-- what follows from either side follows from a choice between them
match_same : {b c : Bool} {P Q R S : Type 0} → c ≡ b → (P → R) → (Q → S) → MatchBool b P Q → MatchBool c R S
match_same {b = true} {c = true} e f g h = f h
match_same {b = true} {c = false} e f g h = absurd (cc)
match_same {b = false} {c = true} e f g h = absurd (cc)
match_same {b = false} {c = false} e f g h = g h

module _ (plan : Plan) (p q : Place) (h : LooksAlike p q) where
  -- the same tasks may begin a call
  same_begin : (t : ℕ) → may_begin plan (world q) t ≡ may_begin plan (world p) t
  same_begin t =
      λ i. is_some (next_call plan (h.made i) t)
      && list_all (λ need. nat_le need.calls (slice_index (h.made i) (need.place + 1 - 1)
      - (if h.calls (need.place + 1) i then 1 else 0))) (next_needs plan (h.made i) t)

  -- the same tasks may take a turn
  pub can_there : (t : ℕ) → CanTurn plan (world p) t → CanTurn plan (world q) t
  can_there t can = match_same (h.calls t) (h.waits t) (λ may. same_begin t ∙ may) can

  -- the same are done
  pub same_done : (t : ℕ) → is_done plan (world q) t ≡ is_done plan (world p) t
  same_done t = λ i. not (h.calls t i) && is_none (next_call plan (h.made i) t)

  -- a turn of the one place is one of the other, if its event has such a row there, too
  pub turn_there : (event : Event) (outcome : Outcome) (r : Place) (core : CoreState) → AnyTurn plan p event outcome r
      → Row q.core event outcome core → AnyTurn plan q event outcome (record r { core = core })
  turn_there event outcome r core turn row = record {
    task = turn.task;
    some = turn.some;
    there = subst (λ (made : List ℕ). turn.task ≤ length made) (sym h.made) turn.there;
    choice = elim turn.choice [
      | inl c ↦ inl (begins c)
      | inr (inl c) ↦ inr (inl (steps c))
      | inr (inr (inl c)) ↦ inr (inr (inl (denied c)))
      | inr (inr (inr c)) ↦ inr (inr (inr (killed c)))
    ];
    row = row;
  }
    where
      begins : Begins plan p turn.task event r → Begins plan q turn.task event (record r { core = core })
      begins c = record {
        idle = h.calls turn.task ∙ c.idle;
        can = can_there turn.task c.can;
        op = c.op;
        next = ap (λ (made : List ℕ). next_call plan made turn.task) h.made ∙ c.next;
        is = c.is;
        made = c.made ∙ ap (λ (made : List ℕ). slice_set made (turn.task - 1) (slice_index made (turn.task - 1) + 1)) (sym h.made);
        denials = c.denials ∙ sym h.denials;
        kills = c.kills ∙ sym h.kills;
      }

      steps : Steps plan p turn.task event r → Steps plan q turn.task event (record r { core = core })
      steps c = record {
        busy = h.calls turn.task ∙ c.busy;
        can = can_there turn.task c.can;
        is = c.is;
        made = c.made ∙ sym h.made;
        denials = c.denials ∙ sym h.denials;
        kills = c.kills ∙ sym h.kills;
      }

      denied : Denied plan p turn.task event r → Denied plan q turn.task event (record r { core = core })
      denied c = record {
        busy = h.calls turn.task ∙ c.busy;
        can = can_there turn.task c.can;
        wants = h.wants turn.task c.wants;
        is = c.is;
        made = c.made ∙ sym h.made;
        denials = h.denials ∙ c.denials;
        kills = c.kills ∙ sym h.kills;
      }

      killed : Killed plan p turn.task event r → Killed plan q turn.task event (record r { core = core })
      killed c = record {
        alive = h.lives turn.task ∙ c.alive;
        more = same_done turn.task ∙ c.more;
        is = c.is;
        made = c.made ∙ sym h.made;
        denials = c.denials ∙ sym h.denials;
        kills = h.kills ∙ c.kills;
      }

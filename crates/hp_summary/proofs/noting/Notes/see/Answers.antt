use Rattle.std.proofs.Common.{◌++◌, [], ◌∷◌, ◌∙◌, List, ap, sym}
use Rattle.std.proofs.lemmas.List.{append-nil}
use Rattle.hp_base.specs.Text.{Sizes}
use Rattle.hp_watch.specs.Calls.{ended_in}
use Rattle.hp_watch.specs.declared.calls.EndedCall.{EndedCall}
use Rattle.hp_summary.proofs.Noted.{held_more}
use Rattle.hp_summary.proofs.noting.Notes.see.Goals as goal

pub returns-in_ok-push-clause-knows : goal.returns-in_ok-push-clause-knows
returns-in_ok-push-clause-knows c = λ old before row notes.
    let sized = ap (λ (z : Sizes). z.tasks) c.config-tasks.ensures in
    record {
      reached = c.is_reached.ensures;
      phases = c.note_phase.ensures.phases;
      calls = c.in_ok-see.ensures.knows before c.args.core.now notes.calls;
      ended = c.in_ok-push.ensures.items ∙ ap (λ (xs : List EndedCall). xs ++ c.in-Some.ended ∷ []) notes.ended
          ∙ ap (λ (xs : List EndedCall). ended_in before ++ xs) (sym (c.in-Some.ensures.some before notes.calls));
      held = held_more old c.args.core.now c.args.event.now c.args.outcome.now c.args.self.now.phases.items c.args.self.now.held.items
          c.mark_waiting.new.held.items before c.config-tasks.result.tasks c.quiet_place-quiet.result notes.reached row notes.phases
          (c.requires.long.phases ∙ sym sized) c.quiet_place-quiet.ensures.there
          (rw c.as_slice.ensures.value at c.quiet_place-quiet.ensures.quiet)
          (c.requires.long.held ∙ sym sized) c.mark_waiting.ensures.long c.mark_waiting.ensures.marked notes.held;
      met = c.note_phase.ensures.met old before row notes.met;
    }

pub returns-in_default-clause-knows : goal.returns-in_default-clause-knows
returns-in_default-clause-knows c = λ old before row notes.
    let sized = ap (λ (z : Sizes). z.tasks) c.config-tasks.ensures in
    record {
      reached = c.is_reached.ensures;
      phases = c.note_phase.ensures.phases;
      calls = c.in_ok-see.ensures.knows before c.args.core.now notes.calls;
      ended = notes.ended ∙ sym (append-nil (ended_in before))
          ∙ ap (λ (xs : List EndedCall). ended_in before ++ xs) (sym (c.ended_by-ended.ensures.none c.in_default.is before));
      held = held_more old c.args.core.now c.args.event.now c.args.outcome.now c.args.self.now.phases.items c.args.self.now.held.items
          c.mark_waiting.new.held.items before c.config-tasks.result.tasks c.quiet_place-quiet.result notes.reached row notes.phases
          (c.requires.long.phases ∙ sym sized) c.quiet_place-quiet.ensures.there
          (rw c.as_slice.ensures.value at c.quiet_place-quiet.ensures.quiet)
          (c.requires.long.held ∙ sym sized) c.mark_waiting.ensures.long c.mark_waiting.ensures.marked notes.held;
      met = c.note_phase.ensures.met old before row notes.met;
    }

-- No call is in flight yet.
use Rattle.std.proofs.Common.{rules, ◌∙◌, ℕ, List, length, ap, sym}
use Rattle.std.specs.Prelude.{Option, None}
use Rattle.std.proofs.lemmas.List.{length-replicate}
use Rattle.hp_machine.specs.declared.phase.Phase.{Phase}
use Rattle.hp_watch.proofs.Phases.{no_phases}
use Rattle.hp_explore.proofs.walk.Walk.new.Goals as goal

pub invariant_of-result : goal.invariant_of-result
invariant_of-result c =
    let tasks = c.args.script.now.config.tasks in
    let none = c.in_ok-no_calls.ensures in
    let made = c.in_ok-vec.ensures.items_if_clones_equal (λ y h. h) in
    record {
      few = search rules;
      tasks = search rules;
      long = (ap (λ (v : List (Option Phase)). length v) none ∙ length-replicate {A = Option Phase} tasks None)
          ∙ sym (ap (λ (v : List ℕ). length v) made ∙ length-replicate {A = ℕ} tasks 0);
      phases = no_phases c.args.script.now.config c.in_ok-new.field-0 tasks c.in_ok-no_calls.field-0.items c.in_ok-new.ensures.opening none;
    }

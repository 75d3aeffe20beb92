use Rattle.std.proofs.Common.{◌≡◌, subst}
use Rattle.std.specs.Prelude.{None}
use Rattle.hp_base.specs.declared.event.Event.{Event}
use Rattle.hp_core.specs.Refusals.{refusal_of}
use Rattle.hp_core.proofs.Refusals.{begin_there, step_there, step_called, kill_there, resize_fits}
use Rattle.hp_core.proofs.events.step_admitted.Goals as goal

pub begin-requires : goal.begin-requires
begin-requires c =
    begin_there c.args.task_states.now.items c.in-Begin.task c.in-Begin.op
    (subst (λ (e : Event). refusal_of c.args.task_states.now.items e ≡ None) c.in-Begin.is c.requires.admitted)

pub step_task-requires-clause-there : goal.step_task-requires-clause-there
step_task-requires-clause-there c =
    step_there c.args.task_states.now.items c.in-Step.task c.in-Step.grant
    (subst (λ (e : Event). refusal_of c.args.task_states.now.items e ≡ None) c.in-Step.is c.requires.admitted)

pub step_task-requires-clause-called : goal.step_task-requires-clause-called
step_task-requires-clause-called c =
    step_called c.args.task_states.now.items c.in-Step.task c.in-Step.grant
    (subst (λ (e : Event). refusal_of c.args.task_states.now.items e ≡ None) c.in-Step.is c.requires.admitted)

pub kill-requires : goal.kill-requires
kill-requires c =
    kill_there c.args.task_states.now.items c.in-Kill.task
    (subst (λ (e : Event). refusal_of c.args.task_states.now.items e ≡ None) c.in-Kill.is c.requires.admitted)

pub resize-requires-clause-some : goal.resize-requires-clause-some
resize-requires-clause-some c =
    (resize_fits c.args.task_states.now.items c.in-Resize.frames
    (subst (λ (e : Event). refusal_of c.args.task_states.now.items e ≡ None) c.in-Resize.is c.requires.admitted)).0

pub resize-requires-clause-most : goal.resize-requires-clause-most
resize-requires-clause-most c =
    (resize_fits c.args.task_states.now.items c.in-Resize.frames
    (subst (λ (e : Event). refusal_of c.args.task_states.now.items e ≡ None) c.in-Resize.is c.requires.admitted)).1

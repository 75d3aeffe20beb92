use Rattle.std.proofs.Common.{arith, ◌∙◌, ap, sym}
use Rattle.std.specs.Prelude.{Option, Some}
use Rattle.std.specs.Option.{option_map}
use Rattle.hp_machine.specs.Events.{word_of}
use Rattle.hp_machine.specs.declared.call.Call.{Call}
use Rattle.hp_core.specs.declared.task_state.TaskState.{TaskState}
use Rattle.hp_core.specs.State.{calls_of}
use Rattle.hp_core.specs.Readers.{phase_of}
use Rattle.hp_core.proofs.Reading.{task_state_in, task_state_read}
use Rattle.hp_core.proofs.core_state.Core.phase.Goals as goal

pub index-requires : goal.index-requires
index-requires c =
    let l = task_state_in c.self.view_is c.self.invariant c.place.ensures c.requires.first c.requires.last in
    omega (arith, l)

pub returns-in-Some : goal.returns-in-Some
unfolding phase_of calls_of
returns-in-Some c =
    let read = task_state_read c.self.view_is c.self.invariant c.place.ensures c.requires.first c.requires.last c.index.ensures in
    ap Some c.phase_word.ensures
    ∙ (ap (λ (o : Option Call). option_map word_of o) (sym c.in-Some.is) ∙ ap (λ (y : TaskState). option_map word_of y.call) read)

pub returns-in-None : goal.returns-in-None
unfolding phase_of calls_of
returns-in-None c =
    let read = task_state_read c.self.view_is c.self.invariant c.place.ensures c.requires.first c.requires.last c.index.ensures in
    ap (λ (o : Option Call). option_map word_of o) (sym c.in-None.is) ∙ ap (λ (y : TaskState). option_map word_of y.call) read

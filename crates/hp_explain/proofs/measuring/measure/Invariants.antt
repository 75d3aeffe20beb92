use Rattle.std.proofs.Common.{◌≡◌, ◌+◌, length, take}
use Rattle.hp_base.specs.Text.{sizes}
use Rattle.hp_core.specs.Readers.{config_of}
use Rattle.hp_explain.specs.Views.{column_count}
use Rattle.hp_explain.specs.Widths.{HaveRoom}
use Rattle.hp_explain.proofs.measuring.measure.Given as goal

-- there is room for the events so far
abbrev pub invariant-loop-event : goal.invariant-loop-event
invariant-loop-event l =
    (length l.widths.items ≡ column_count l.view.compact (sizes l.fn.config).tasks) × (config_of l.core ≡ sizes l.fn.config)
    × HaveRoom l.view (sizes l.fn.config).tasks l.widths.items (take l.event-index l.events) × (l.line ≡ l.event-index + 2)

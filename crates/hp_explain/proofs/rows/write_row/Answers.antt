use Rattle.std.proofs.Common.{List, ap, length, sym, ◌∙◌}
use Rattle.std.specs.Prelude.{Option, ℕ}
use Rattle.hp_base.specs.Text.{Sizes}
use Rattle.hp_explain.specs.Rows.{shown_text}
use Rattle.hp_explain.proofs.Happenings.{event_told, event_stopped}
use Rattle.hp_explain.proofs.rows.write_row.Goals as goal

pub lay_shown-requires-clause-before : goal.lay_shown-requires-clause-before
lay_shown-requires-clause-before g c =
    let outcome = c.in_ok-outcome.ensures in
    ap (λ (x : List (Option ℕ)). length x) outcome.before ∙ c.requires ∙ ap (λ (s : Sizes). s.tasks) (sym outcome.config)

pub returns-clause-ok : goal.returns-clause-ok
returns-clause-ok g c =
    event_told c.write_text.result (shown_text c.args.view.now c.args.widths.now) c.args.line c.args.event c.in_ok-outcome.outcome c.args.run.now.core
    c.happen.new.self.core c.args.run.now.holders.items c.happen.new.self.holders.items c.happen.new.self.from _ _ _ _
    c.in_ok-outcome.ensures.row c.in_ok-outcome.ensures.holders c.in_ok-outcome.ensures.from c.as_bytes.ensures.value
    (c.in_ok-lay_shown.ensures
    ∙ ap (λ (w : List (Option ℕ)). shown_text c.args.view.now c.args.widths.now c.args.line w (record {
      event = c.args.event;
      outcome = c.in_ok-outcome.outcome;
      core = c.happen.new.self.core;
      holders = c.happen.new.self.holders.items;
      from = c.happen.new.self.from;
    })) c.in_ok-outcome.ensures.before)
    c.write_text.ensures.ok

pub returns-clause-err : goal.returns-clause-err
returns-clause-err g c =
    event_stopped c.write_text.result (shown_text c.args.view.now c.args.widths.now) c.args.line c.args.event c.in_ok-outcome.outcome c.args.run.now.core
    c.happen.new.self.core c.args.run.now.holders.items c.happen.new.self.holders.items c.happen.new.self.from _ _ _ _
    c.in_ok-outcome.ensures.row c.in_ok-outcome.ensures.holders c.in_ok-outcome.ensures.from c.as_bytes.ensures.value
    (c.in_ok-lay_shown.ensures
    ∙ ap (λ (w : List (Option ℕ)). shown_text c.args.view.now c.args.widths.now c.args.line w (record {
      event = c.args.event;
      outcome = c.in_ok-outcome.outcome;
      core = c.happen.new.self.core;
      holders = c.happen.new.self.holders.items;
      from = c.happen.new.self.from;
    })) c.in_ok-outcome.ensures.before)
    c.write_text.ensures.front

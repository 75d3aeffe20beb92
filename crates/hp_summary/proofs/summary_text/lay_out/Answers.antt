use Rattle.std.specs.List.{flat_map}
use Rattle.hp_summary.specs.SummaryText.{any_line, ending_line, held_text, met_text, other_line, runs_line, turns_line}
use Rattle.hp_summary.proofs.Laid.{joined}
use Rattle.hp_summary.proofs.summary_text.lay_out.Goals as goal

pub returns : goal.returns
returns c =
    let s = c.args.summary.now in
    joined (runs_line s) (turns_line s) (any_line s) (held_text s.held.items) (met_text s.met.items)
    (flat_map (ending_line c.args.seed) s.endings.items) (other_line s.other) _ _ _ _ _ _ _ _ c.new-text.ensures.bytes
    c.in_ok-push_runs.ensures c.in_ok-push_turns.ensures c.in_ok-push_any.ensures
    (rw c.as_slice.ensures.value at c.in_ok-push_held.ensures) (rw c.as_slice-2.ensures.value at c.in_ok-push_met.ensures)
    (rw c.as_slice-3.ensures.value at c.in_ok-push_endings.ensures) c.in_ok-push_other.ensures

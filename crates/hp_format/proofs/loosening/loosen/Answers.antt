use Rattle.std.proofs.Common.{arith, ◌≡◌, ◌+◌, ℕ, List, length, ap, inr, refl, sym, subst, ◌∙◌}
use Rattle.std.proofs.lemmas.Result.{err_from_is_err_and}
use Rattle.hp_base.specs.Text.{Sizes, sizes}
use Rattle.hp_base.specs.declared.event.Event.{Event}
use Rattle.hp_text.specs.TextLines.{lines_of}
use Rattle.hp_format.specs.Loose.{HasWrongLine, IsRun}
use Rattle.hp_format.proofs.Faults.{fault_by, numbered}
use Rattle.hp_format.proofs.loosening.loosen.Goals as goal

pub returns-in_err-add_lines-clause-bad : goal.returns-in_err-add_lines-clause-bad
returns-in_err-add_lines-clause-bad c =
    let p = err_from_is_err_and c.from_residual-in_err-add_lines.result c.from_residual-in_err-add_lines.ensures.1 in
    let found = c.in_ok-config.ensures.found in
    let lines = c.find_header.new.lines in
    let parts = ap lines_of (sym c.new-lines.ensures.rest) ∙ found.4 in
    let number : lines.number ≡ 0 + length found.0 + 1 =
    numbered 0 lines.number (lines_of c.new-lines.result.rest.now) found.0 found.1 (lines_of lines.rest.now) found.4
    (c.in_ok-config.ensures.counted ∙ ap (λ (n : ℕ). n + length (lines_of c.new-lines.result.rest.now)) c.new-lines.ensures.number) in
    let same : lines.number ≡ length found.0 + 1 = omega (arith, number) in
    rw (p.1, p.2) (fault_by _ _ (λ n why bad. inr (record {
      front = found.0;
      header = found.1;
      lines = lines_of lines.rest.now;
      parts = parts;
      blank = found.2;
      s = sizes c.in_ok-config.config;
      sizes_are = found.3;
      first = c.in_ok-draft.draft.core;
      opened = record { config = c.in_ok-config.config; sizes_are = refl; opening = c.in_ok-draft.ensures.opening };
      bad = subst (λ (before : ℕ). HasWrongLine c.in_ok-draft.draft.core before (lines_of lines.rest.now) n why) same bad;
    })) c.in_err-add_lines.field-0.0 c.in_err-add_lines.ensures.bad)

pub returns-clause-run : goal.returns-clause-run
returns-clause-run c =
    let found = c.in_ok-config.ensures.found in
    let lines = c.find_header.new.lines in
    let parts = ap lines_of (sym c.new-lines.ensures.rest) ∙ found.4 in
    let sizes_are = c.into_trace.ensures.sizes ∙ c.in_ok-add_lines.ensures.sizes ∙ c.in_ok-draft.ensures.sizes in
    subst (λ (z : Sizes). IsRun c.args.text.now z c.into_trace.result.events.items) (sym sizes_are)
    (subst (λ (events : List Event). IsRun c.args.text.now (sizes c.in_ok-config.config) events) (sym c.into_trace.ensures.events)
    (record {
      front = found.0;
      header = found.1;
      lines = lines_of lines.rest.now;
      parts = parts;
      blank = found.2;
      sizes_are = found.3;
      first = c.in_ok-draft.draft.core;
      opened = record { config = c.in_ok-config.config; sizes_are = refl; opening = c.in_ok-draft.ensures.opening };
      core = c.add_lines.new.draft.core;
      led = c.in_ok-add_lines.ensures.leads;
    }))

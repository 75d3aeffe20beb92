-- Each round is one more line; what is left at the end is nothing.
use Rattle.std.proofs.Common.{arith, ◌≡◌, ◌<◌, ◌∙◌, List, ℕ, ap, length, sym}
use Rattle.hp_text.specs.TextLines.{lines_of}
use Rattle.hp_conditions.specs.Lines.{said, with_lines}
use Rattle.hp_conditions.proofs.Gathering.{all_read, bad_read, lines_end, lines_full, lines_next, lines_stop, no_lines, none_read}
use Rattle.hp_conditions.proofs.lines.read_conditions.Goals as goal

pub returns-then-number-eq-MOST_LINES-clause-err : goal.returns-then-number-eq-MOST_LINES-clause-err
returns-then-number-eq-MOST_LINES-clause-err c =
    let n = c.loop-left.number in
    let s = said c.loop-left.draft in
    let line = c.split_line.result.0.now in
    let rest = lines_of c.split_line.result.1.now in
    bad_read c.args.text.now _
    (sym c.loop-left.invariant.reads ∙ ap (λ (lines : List (List ℕ)). with_lines n s lines) c.split_line.ensures.lines
    ∙ lines_full n s line rest c.if-number-eq-MOST_LINES.true)

pub returns-then-not-branch-clause-err : goal.returns-then-not-branch-clause-err
returns-then-not-branch-clause-err c =
    let n = c.loop-left.number in
    let s = said c.loop-left.draft in
    let line = c.split_line.result.0.now in
    let rest = lines_of c.split_line.result.1.now in
    let none = rw c.if-not-branch.true at c.in_ok-add_line.ensures in
    bad_read c.args.text.now _
    (sym c.loop-left.invariant.reads ∙ ap (λ (lines : List (List ℕ)). with_lines n s lines) c.split_line.ensures.lines
    ∙ lines_stop n s line rest c.if-number-eq-MOST_LINES.false none)

pub loop-left-preserved : goal.loop-left-preserved
loop-left-preserved c =
    let n = c.loop-left.number in
    let s = said c.loop-left.draft in
    let line = c.split_line.result.0.now in
    let rest = lines_of c.split_line.result.1.now in
    let is = rw c.if-not-branch.false at c.in_ok-add_line.ensures in
    record {
      few = omega (arith, c.loop-left.invariant.few, c.if-number-eq-MOST_LINES.false);
      reads =
          sym (lines_next n s (said c.add_line.new.self) line rest c.if-number-eq-MOST_LINES.false is)
          ∙ sym (ap (λ (lines : List (List ℕ)). with_lines n s lines) c.split_line.ensures.lines) ∙ c.loop-left.invariant.reads;
    }

pub returns-then-is_empty-clause-err : goal.returns-then-is_empty-clause-err
returns-then-is_empty-clause-err c =
    let n = c.loop-left.number in
    let s = said c.loop-left.draft in
    let left = c.loop-left.left.now in
    let end : length left ≡ 0 = grind (arith, c.loop-left-test.false, c.loop-left-test.ensures) in
    let none : length c.in_ok-conditions.conditions.items ≡ 0 = grind (arith, c.if-is_empty.true, c.if-is_empty.ensures) in
    none_read c.args.text.now s c.in_ok-conditions.conditions.items
    (sym c.loop-left.invariant.reads ∙ ap (λ (lines : List (List ℕ)). with_lines n s lines) (no_lines left end) ∙ lines_end n s)
    c.in_ok-conditions.ensures none

pub returns-clause-ok : goal.returns-clause-ok
returns-clause-ok c =
    let n = c.loop-left.number in
    let s = said c.loop-left.draft in
    let left = c.loop-left.left.now in
    let end : length left ≡ 0 = grind (arith, c.loop-left-test.false, c.loop-left-test.ensures) in
    let some : 0 < length c.in_ok-conditions.conditions.items = grind (arith, c.if-is_empty.false, c.if-is_empty.ensures) in
    all_read c.args.text.now s c.in_ok-conditions.conditions.items
    (sym c.loop-left.invariant.reads ∙ ap (λ (lines : List (List ℕ)). with_lines n s lines) (no_lines left end) ∙ lines_end n s)
    c.in_ok-conditions.ensures some

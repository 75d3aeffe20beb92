-- Each round adds the first of the alternatives that are left.
use Rattle.std.proofs.Common.{◌∙◌, ℕ, List, ap, sym}
use Rattle.hp_hunt.specs.declared.condition.Condition.{Condition}
use Rattle.hp_conditions.specs.Sought.{add_each}
use Rattle.hp_conditions.proofs.Adding.{add_all, add_next, add_none, pieces_left, pieces_next}
use Rattle.hp_conditions.proofs.alternatives.push_alternatives.Goals as goal

pub returns-in_default-condition_at : goal.returns-in_default-condition_at
returns-in_default-condition_at c =
    let kind = c.args.kind in
    let choice = c.next_choice-choice.result in
    let items = c.loop-left.conditions.items in
    let one = c.split_alternative.result.0.now in
    let behind = c.split_alternative.result.1 in
    let before = rw c.in-Some.is at c.loop-left.invariant in
    let pieces = pieces_next c.in-Some.text.now one behind c.split_alternative.ensures.one c.split_alternative.ensures.more in
    sym before ∙ ap (λ (texts : List (List ℕ)). add_each kind choice items texts) pieces
    ∙ add_none kind choice items one (pieces_left behind) c.in_default-condition_at.ensures

pub loop-left-preserved : goal.loop-left-preserved
loop-left-preserved c =
    let kind = c.args.kind in
    let choice = c.next_choice-choice.result in
    let items = c.loop-left.conditions.items in
    let one = c.split_alternative.result.0.now in
    let behind = c.split_alternative.result.1 in
    let before = rw c.in-Some.is at c.loop-left.invariant in
    let pieces = pieces_next c.in-Some.text.now one behind c.split_alternative.ensures.one c.split_alternative.ensures.more in
    ap (λ (cs : List Condition). add_each kind choice cs (pieces_left behind)) c.in_ok-push.ensures.items
    ∙ sym (add_next kind choice items one (pieces_left behind) c.in-Some-condition_at.condition c.in-Some-condition_at.ensures)
    ∙ sym (ap (λ (texts : List (List ℕ)). add_each kind choice items texts) pieces) ∙ before

pub returns : goal.returns
returns c =
    let before = rw c.in_default.is at c.loop-left.invariant in
    sym before ∙ add_all c.args.kind c.next_choice-choice.result c.loop-left.conditions.items

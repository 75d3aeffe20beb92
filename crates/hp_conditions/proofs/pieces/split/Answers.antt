-- The word stands at the first place at which the rest begins with it.
use Rattle.std.proofs.Common.{◌∙◌, List, ℕ, ap, sym}
use Rattle.std.proofs.lemmas.List.{take_rest}
use Rattle.hp_text.specs.Reading.{after_word}
use Rattle.hp_conditions.proofs.Splitting.{no_front, split_next, split_nowhere, split_there}
use Rattle.hp_conditions.proofs.pieces.split.Goals as goal

pub loop-place-init : goal.loop-place-init
loop-place-init c = no_front _

pub loop-place-preserved : goal.loop-place-preserved
loop-place-preserved c =
    let word = c.args.word.now in
    let text = c.args.text.now in
    let place = c.loop-place.place in
    let none = ap (λ (rest : List ℕ). after_word word rest) (sym (take_rest text place)) ∙ sym c.in_default.ensures in
    split_next word text place c.loop-place-test.true none c.loop-place.invariant

pub returns-in-Some : goal.returns-in-Some
returns-in-Some c =
    let word = c.args.word.now in
    let text = c.args.text.now in
    let place = c.loop-place.place in
    let there = ap (λ (rest : List ℕ). after_word word rest) (sym (take_rest text place)) ∙ sym c.in-Some.ensures in
    sym (split_there word text c.in-Some.rest.now place c.loop-place-test.true there c.loop-place.invariant)

pub returns : goal.returns
returns c = sym (split_nowhere c.args.word.now c.args.text.now c.loop-place.place c.loop-place-test.false c.loop-place.invariant)

use Rattle.std.proofs.Common.{[], refl}
use Rattle.hp_every.specs.Endings.{EndState, GoesBy, GoesOnBy}
use Rattle.hp_search.specs.Endings.{AreAllEndings, AreWithin}
use Rattle.hp_search.specs.Searching.{question}
use Rattle.hp_search.proofs.Bounded.{cut_at, cut_within, rows_few, whole_within}
use Rattle.hp_search.proofs.Table.{all_rows, states_right, whole_shortest, whole_told}
use Rattle.hp_search.proofs.exploring.explore_every.Goals as goal

pub rows_of-requires-clause-states : goal.rows_of-requires-clause-states
rows_of-requires-clause-states g c =
    let a = question c.args.script.now c.args.budget [] in
    let first = c.in_ok-first.first in
    let empty = c.in_ok-first.ensures.turns in
    let table = c.in_ok-counts.field-0 in
    let ending : EndState → _ = λ s. s.ending in
    let told = whole_told (λ u next t. GoesBy a u next t) ending first table c.in-Whole.counts c.in-Whole.is c.in_ok-counts.ensures.counted in
    states_right a first c.in_ok-first.ensures.state empty c.in-Whole.counts told.0 told.1
    (whole_shortest (GoesOnBy a) ending first table c.in-Whole.counts c.in-Whole.is c.in_ok-counts.ensures.right)

pub returns-in-Whole-clause-endings : goal.returns-in-Whole-clause-endings
unfolding AreAllEndings
returns-in-Whole-clause-endings g c =
    let a = question c.args.script.now c.args.budget [] in
    let first = c.in_ok-first.first in
    let empty = c.in_ok-first.ensures.turns in
    let table = c.in_ok-counts.field-0 in
    let ending : EndState → _ = λ s. s.ending in
    let told = whole_told (λ u next t. GoesBy a u next t) ending first table c.in-Whole.counts c.in-Whole.is c.in_ok-counts.ensures.counted in
    all_rows a refl first c.in_ok-first.ensures.state empty c.in-Whole.counts told.0 told.1 told.2
    (whole_shortest (GoesOnBy a) ending first table c.in-Whole.counts c.in-Whole.is c.in_ok-counts.ensures.right)
    c.in_ok-rows_of-in-Whole.field-0.items c.in_ok-rows_of-in-Whole.ensures

pub returns-in-Whole-clause-within : goal.returns-in-Whole-clause-within
unfolding AreWithin
returns-in-Whole-clause-within g c =
    let a = question c.args.script.now c.args.budget [] in
    let first = c.in_ok-first.first in
    let empty = c.in_ok-first.ensures.turns in
    let table = c.in_ok-counts.field-0 in
    let ending : EndState → _ = λ s. s.ending in
    rows_few a first c.in_ok-first.ensures.state empty c.in-Whole.counts c.args.limits.turns
    (whole_shortest (GoesOnBy a) ending first table c.in-Whole.counts c.in-Whole.is c.in_ok-counts.ensures.right)
    (whole_within _ _ (GoesOnBy a) _ first c.args.limits table c.in-Whole.counts c.in-Whole.is c.in_ok-counts.ensures.cut)
    c.in_ok-rows_of-in-Whole.field-0.items c.in_ok-rows_of-in-Whole.ensures

pub returns-clause-endings : goal.returns-clause-endings
unfolding AreAllEndings
returns-clause-endings g c = tt

pub returns-clause-within : goal.returns-clause-within
unfolding AreWithin
returns-clause-within g c =
    let a = question c.args.script.now c.args.budget [] in
    let first = c.in_ok-first.first in
    let empty = c.in_ok-first.ensures.turns in
    cut_at a c.args.limits first c.in_ok-first.ensures.state empty c.in-Cut.turns
    (cut_within _ _ (GoesOnBy a) _ first c.args.limits c.in_ok-counts.field-0 _ c.in-Cut.turns c.in-Cut.is c.in_ok-counts.ensures.cut)

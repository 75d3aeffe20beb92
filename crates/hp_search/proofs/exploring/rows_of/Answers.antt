use Rattle.std.proofs.Common.{◌∙◌, ◌<◌, List, ap, arith, length}
use Rattle.std.proofs.lemmas.Grind.{common_steps}
use Rattle.std.proofs.lemmas.List.{get_or_default, length_push}
use Rattle.hp_every.specs.Endings.{EndState}
use Rattle.hp_search.specs.Searching.{question_of}
use Rattle.hp_search.specs.declared.endings.EndingRow.{EndingRow}
use Rattle.hp_search.proofs.Table.{rows_more}
use Rattle.hp_search.proofs.exploring.rows_of.Goals as goal

pub loop-place-preserved : goal.loop-place-preserved
loop-place-preserved c =
    let a = question_of c.args.query in
    let states = c.args.counts.now.states.items in
    let ways = c.args.counts.now.ways.items in
    let k = c.loop-place.place in
    let was = c.loop-place.invariant in
    let rows = c.loop-place.rows.items in
    let within : k < length states = grind (arith, common_steps, c.loop-place-test.true, c.len-place-end.ensures) in
    let counted : k < length ways = omega (arith, within, c.requires.states.long) in
    let turns = c.deref.ensures.value ∙ ((λ i. (c.index-in-loop-place.view_is i).path.turns)
    ∙ (ap (λ (s : EndState). s.path.turns) c.behind-counts.view_is ∙ ap (λ (s : EndState). s.path.turns) c.index.ensures)) in
    let count = c.index-in-loop-place-2.ensures ∙ get_or_default ways k c.index-in-loop-place-2.result.now 0 counted in
    let long = ap (λ (l : List EndingRow). length l) c.in_ok-push.ensures.items ∙ length_push rows c.in_ok-row.row in
    record {
      long = omega (arith, long, was.long);
      each = rows_more a states ways rows c.push.new.self.items k c.in_ok-row.row c.deref.result.now c.index-in-loop-place-2.result.now
          c.in_ok-push.ensures.items was.long
          (λ s. turns ∙ ap (λ (t : EndState). t.path.turns) (get_or_default states k c.index.result.now s within)) count c.in_ok-row.ensures was.each;
    }

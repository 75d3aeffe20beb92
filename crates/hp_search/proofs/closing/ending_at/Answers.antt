use Rattle.std.proofs.Common.{◌≡◌, ◌<◌, arith, length}
use Rattle.std.proofs.lemmas.Grind.{common_steps}
use Rattle.hp_every.specs.declared.turn.Turn.TheVariants.{Next}
use Rattle.hp_search.specs.Searching.{place_of}
use Rattle.hp_search.proofs.Closed.{ends_with, none_ends, not_over, over_here}
use Rattle.hp_search.proofs.closing.ending_at.Goals as goal

pub returns-then-not-is_empty : goal.returns-then-not-is_empty
returns-then-not-is_empty c = λ moments answers. (
    let plan = c.args.query.plan.now in
    let p = place_of c.args.position.now in
    let turns = c.in_ok-turns.turns.items in
    let some : 0 < length turns = grind (arith, common_steps, c.if-not-is_empty.true, c.is_empty.ensures) in
    none_ends plan moments p (not_over plan p turns (Next 0) c.in_ok-turns.ensures.all some))

pub returns : goal.returns
returns c = λ moments answers. (
    let plan = c.args.query.plan.now in
    let p = place_of c.args.position.now in
    let turns = c.in_ok-turns.turns.items in
    let none : length turns ≡ 0 = grind (arith, common_steps, c.if-not-is_empty.false, c.is_empty.ensures) in
    ends_with plan moments c.args.position.now c.in_ok-key.key (over_here plan p turns c.in_ok-turns.ensures.all none) c.in_ok-key.ensures answers)

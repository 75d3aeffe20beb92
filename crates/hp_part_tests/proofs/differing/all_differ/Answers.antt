use Rattle.std.proofs.Common.{rules, ◌∙◌}
use Rattle.std.proofs.lemmas.Bool.{false≢true}
use Rattle.std.proofs.lemmas.List.{get_or_default}
use Rattle.hp_part_tests.proofs.differing.all_differ.Goals as goal

pub returns-then-eq-i : goal.returns-then-eq-i
returns-then-eq-i g c = (
  λ no. absurd (false≢true no),
  λ differ.
      let one = c.index-values-i in
      let other = c.index-values-j in
      let said = differ c.loop-i.i c.loop-j.j one.result c.loop-i-test.true c.loop-j-test.true in
      let there = other.is ∙ get_or_default c.args.values.now c.loop-j.j other.result one.result c.loop-j-test.true in
      search rules,
)

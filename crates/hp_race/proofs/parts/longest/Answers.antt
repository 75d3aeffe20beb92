use Rattle.std.proofs.Common.{◌≡◌, ◌+◌, ◌∙◌, ap, arith, length}
use Rattle.hp_text.specs.Scripts.{calls_of}
use Rattle.hp_race.proofs.Making.{few_calls}
use Rattle.hp_race.proofs.Parting.{most_of}
use Rattle.hp_race.proofs.parts.longest.Goals as goal

pub loop-number-preserved : goal.loop-number-preserved
loop-number-preserved c =
    let lines = c.args.script.now.calls.items in
    let many : c.len.result ≡ length c.in_ok-calls.calls.items = omega (arith, c.len.ensures, c.in_ok-calls.calls.ok) in
    let mine : c.len.result ≡ length (calls_of lines (c.loop-number.number + 1)) =
    many ∙ ap length c.in_ok-calls.ensures ∙ ap (λ t. length (calls_of lines t)) c.new.ensures in record {
      all =
          most_of lines c.loop-number.number c.loop-number.longest c.len.result c.max-longest.result c.loop-number.invariant.all mine
          c.max-longest.ensures;
      few = omega (arith, few_calls lines (c.loop-number.number + 1), c.loop-number.invariant.few, c.max-longest.ensures, mine);
    }

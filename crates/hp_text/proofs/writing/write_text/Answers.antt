use Rattle.std.proofs.Common.{refl, ◌∙◌}
use Rattle.hp_text.proofs.Writes.{starts, goes_on}
use Rattle.hp_text.proofs.writing.write_text.Goals as goal

pub loop-rest-init : goal.loop-rest-init
loop-rest-init g c = (starts (g.W.Sink.contents c.args.writer.now) c.args.text.now, refl)

pub loop-rest-preserved : goal.loop-rest-preserved
loop-rest-preserved g c = (
  rw (c.split_at.ensures.back) (goes_on _ _ _ c.args.text.now c.loop-rest.rest.now c.in_ok-taken.taken
      c.loop-rest.invariant.0 c.in_ok-taken.ensures.bytes),
  c.in_ok-taken.ensures.ok ∙ c.loop-rest.invariant.1,
)

pub returns-clause-writes : goal.returns-clause-writes
returns-clause-writes g c = c.loop-rest.invariant.1

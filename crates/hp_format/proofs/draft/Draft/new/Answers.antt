use Rattle.std.proofs.Common.{arith}
use Rattle.hp_format.proofs.Led.{led_none}
use Rattle.hp_format.proofs.draft.Draft.new.Goals as goal

pub invariant_of-result : goal.invariant_of-result
invariant_of-result c = record {
  led = led_none c.args.config c.in_ok-new.field-0 c.new-2.result.items c.in_ok-new.ensures.opening c.new-2.ensures.items;
  few = rw c.new-2.ensures.items (omega arith);
}

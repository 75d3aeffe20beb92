use Rattle.std.proofs.Common.{arith, ℕ, ◌==◌, ◌∙◌, ap}
use Rattle.std.proofs.Math.ListN.{drop_of_length-le}
use Rattle.hp_text.proofs.Feeding.{at_drop}
use Rattle.hp_format.proofs.Tidied.{at_end, ends_there, past_blank, past_byte}
use Rattle.hp_format.proofs.tidying.tidy.Goals as goal

pub returns-then-byte-eq35 : goal.returns-then-byte-eq35
returns-then-byte-eq35 c =
    ends_there c.args.line.now c.loop-byte.words.items _ c.loop-byte.is_behind _ _ c.loop-byte.invariant
    (at_drop c.args.line.now c.loop-byte.byte-index c.loop-byte-test.true) c.if-byte-eq35.true

pub loop-byte-preserved-then-is_blank : goal.loop-byte-preserved-then-is_blank
loop-byte-preserved-then-is_blank c =
    past_blank c.args.line.now c.loop-byte.words.items _ c.loop-byte.is_behind c.is_empty-is_behind.result _ _ c.loop-byte.invariant
    (at_drop c.args.line.now c.loop-byte.byte-index c.loop-byte-test.true) c.if-byte-eq35.false c.if-is_blank.ensures
    (c.is_empty-is_behind.ensures ∙ ap (λ (n : ℕ). n == 0) c.loop-byte.words.ok.0)

pub loop-byte-preserved : goal.loop-byte-preserved
loop-byte-preserved c =
    past_byte c.args.line.now c.loop-byte.words.items _ c.add_byte.new.words.items c.loop-byte.is_behind _ _ c.loop-byte.invariant
    (at_drop c.args.line.now c.loop-byte.byte-index c.loop-byte-test.true) c.if-byte-eq35.false c.if-is_blank.ensures c.in_ok-add_byte.ensures

pub returns : goal.returns
returns c = at_end c.args.line.now c.loop-byte.words.items _ c.loop-byte.is_behind c.loop-byte.invariant
    (drop_of_length-le c.args.line.now (omega (arith, c.loop-byte-test.false)))

use Rattle.std.proofs.Common.{◌<◌, length, ap, ◌∙◌, arith}
use Rattle.std.specs.Prelude.{sum_by}
use Rattle.std.proofs.lemmas.List.{take_all}
use Rattle.std.proofs.lemmas.List.Sums.{sum_by_more}
use Rattle.hp_audit.specs.Findings.{reserved_of}
use Rattle.hp_audit.proofs.check.reserved.Goals as goal

pub loop-file-preserved : goal.loop-file-preserved
loop-file-preserved c =
    let files = c.args.picture.now.files.items in
    let within : c.loop-file.file-index < length files = rw c.deref-file-items.ensures.value at c.loop-file-test.true in
    let more = sum_by_more reserved_of files c.loop-file.file-index c.file-item.result within in
    let here = ap reserved_of (rw c.deref-file-items.ensures.value at c.file-item.is) in (
      omega (arith, more, here, c.loop-file.invariant.0, c.reserved.ensures.counted, c.from-reserved.ensures),
      omega (arith, c.loop-file.invariant.1, c.reserved.ensures.in_limit, c.from-reserved.ensures),
    )

pub returns : goal.returns
returns c =
    let files = c.args.picture.now.files.items in
    let done = rw c.deref-file-items.ensures.value at c.loop-file-test.false in
    record {
      counted = c.loop-file.invariant.0 ∙ ap (sum_by reserved_of) (take_all c.loop-file.file-index files done);
      in_range = omega (arith, c.loop-file.invariant.1);
    }

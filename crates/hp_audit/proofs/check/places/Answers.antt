use Rattle.std.proofs.Common.{◌≡◌, ◌<◌, length, ap, ◌∙◌, arith}
use Rattle.std.proofs.lemmas.List.{take_all}
use Rattle.hp_audit.specs.Findings.{times_in}
use Rattle.hp_audit.proofs.Counts.{pages_of, count_in, count_in-none, count_in-more, count_in-all}
use Rattle.hp_audit.proofs.check.places.Goals as goal

pub loop-file-init : goal.loop-file-init
loop-file-init c =
    let none = count_in-none c.args.picture.now c.args.frame c.args.picture.now.files.items in
    let free : c.times_in-places.result ≡ times_in c.args.picture.now.free.items c.args.frame =
    rw c.deref.ensures.value at c.times_in-places.ensures in
    let retired : c.times_in.result ≡ times_in c.args.picture.now.retired.items c.args.frame =
    rw c.deref-2.ensures.value at c.times_in.ensures in
    let hands : c.times_in-2.result ≡ times_in c.args.picture.now.hands.items c.args.frame =
    rw c.deref-3.ensures.value at c.times_in-2.ensures in (
      omega (arith, none, free, retired, hands),
      omega (arith, c.times_in-places.type_inv, c.times_in.type_inv, c.times_in-2.type_inv),
    )

pub loop-file-preserved : goal.loop-file-preserved
loop-file-preserved c =
    let files = c.args.picture.now.files.items in
    let within : c.loop-file.file-index < length files = rw c.deref-file-items.ensures.value at c.loop-file-test.true in
    let is = rw c.deref-file-items.ensures.value at c.file-item.is in
    let more = count_in-more c.args.picture.now c.args.frame c.loop-file.file-index files c.file-item.result within is in
    let here : c.pages_in.result ≡ pages_of c.args.frame c.file-item.result = rw c.deref-in-loop-file.ensures.value at c.pages_in.ensures in
    (omega (arith, more, here, c.loop-file.invariant.0), omega (arith, c.pages_in.type_inv, c.loop-file.invariant.1))

pub returns : goal.returns
returns c =
    let files = c.args.picture.now.files.items in
    let done = rw c.deref-file-items.ensures.value at c.loop-file-test.false in
    c.loop-file.invariant.0
    ∙ (ap (count_in c.args.picture.now c.args.frame) (take_all c.loop-file.file-index files done)
    ∙ count_in-all c.args.picture.now c.args.frame)

use Rattle.std.proofs.Common.{◌≡◌, rules}
use Rattle.std.specs.Prelude.{string_bytes}
use Rattle.hp_picture.specs.declared.line.PictureLine.TheVariants as says
use Rattle.hp_picture.proofs.Laid.{laid_none, laid_more, laid_all}
use Rattle.hp_picture.proofs.writing.push_retired.Goals as goal

pub loop-frame-init : goal.loop-frame-init
loop-frame-init c = laid_none says.Retired c.args.places.now.retired (string_bytes c.args.text.now)

pub loop-frame-preserved : goal.loop-frame-preserved
loop-frame-preserved c =
    let same : c.deref-frame-items.result.now ≡ c.args.places.now.retired = search rules in
    laid_more says.Retired c.deref-frame-items.result.now c.args.places.now.retired c.loop-frame.frame-index
    0 (string_bytes c.args.text.now) (string_bytes c.loop-frame.text) (string_bytes c.push_line.new.text) same
    c.loop-frame-test.true c.loop-frame.invariant
    c.in_ok-push_line.ensures.text c.push_line.ensures.fits

pub returns-clause-text : goal.returns-clause-text
returns-clause-text c =
    let same : c.deref-frame-items.result.now ≡ c.args.places.now.retired = search rules in
    (laid_all says.Retired c.deref-frame-items.result.now c.args.places.now.retired c.loop-frame.frame-index
    (string_bytes c.args.text.now) (string_bytes c.loop-frame.text) same c.loop-frame-test.false c.loop-frame.invariant).text

pub returns-clause-fits : goal.returns-clause-fits
returns-clause-fits c =
    let same : c.deref-frame-items.result.now ≡ c.args.places.now.retired = search rules in
    (laid_all says.Retired c.deref-frame-items.result.now c.args.places.now.retired c.loop-frame.frame-index
    (string_bytes c.args.text.now) (string_bytes c.loop-frame.text) same c.loop-frame-test.false c.loop-frame.invariant).fits

use Rattle.std.proofs.Common.{◌≡◌, false, rules}
use Rattle.std.specs.Prelude.{string_bytes}
use Rattle.hp_picture.specs.Text.{file_line}
use Rattle.hp_picture.proofs.Laid.{laid_none, laid_more, laid_all}
use Rattle.hp_picture.proofs.writing.push_files.Goals as goal

pub loop-size-init : goal.loop-size-init
loop-size-init c = laid_none file_line c.args.places.now.files (string_bytes c.args.text.now)

pub loop-size-preserved : goal.loop-size-preserved
loop-size-preserved c =
    let same : c.deref-size-items.result.now ≡ c.args.places.now.files = search rules in
    laid_more file_line c.deref-size-items.result.now c.args.places.now.files c.loop-size.size-index
    (0, false) (string_bytes c.args.text.now) (string_bytes c.loop-size.text) (string_bytes c.push_line.new.text) same
    c.loop-size-test.true c.loop-size.invariant
    c.in_ok-push_line.ensures.text c.push_line.ensures.fits

pub returns-clause-text : goal.returns-clause-text
returns-clause-text c =
    let same : c.deref-size-items.result.now ≡ c.args.places.now.files = search rules in
    (laid_all file_line c.deref-size-items.result.now c.args.places.now.files c.loop-size.size-index
    (string_bytes c.args.text.now) (string_bytes c.loop-size.text) same c.loop-size-test.false c.loop-size.invariant).text

pub returns-clause-fits : goal.returns-clause-fits
returns-clause-fits c =
    let same : c.deref-size-items.result.now ≡ c.args.places.now.files = search rules in
    (laid_all file_line c.deref-size-items.result.now c.args.places.now.files c.loop-size.size-index
    (string_bytes c.args.text.now) (string_bytes c.loop-size.text) same c.loop-size-test.false c.loop-size.invariant).fits

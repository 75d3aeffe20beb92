use Rattle.std.proofs.Common.{◌≡◌, rules}
use Rattle.std.specs.Prelude.{string_bytes}
use Rattle.hp_picture.specs.Text.{region_line}
use Rattle.hp_picture.proofs.Laid.{laid_none, laid_more, laid_all}
use Rattle.hp_picture.proofs.writing.push_regions.Goals as goal

pub loop-file-init : goal.loop-file-init
loop-file-init c = laid_none region_line c.args.places.now.regions (string_bytes c.args.text.now)

pub loop-file-preserved : goal.loop-file-preserved
loop-file-preserved c =
    let same : c.deref-file-items.result.now ≡ c.args.places.now.regions = search rules in
    laid_more region_line c.deref-file-items.result.now c.args.places.now.regions c.loop-file.file-index
    (0, 0, 0) (string_bytes c.args.text.now) (string_bytes c.loop-file.text) (string_bytes c.push_line.new.text) same
    c.loop-file-test.true c.loop-file.invariant
    c.in_ok-push_line.ensures.text c.push_line.ensures.fits

pub returns-clause-text : goal.returns-clause-text
returns-clause-text c =
    let same : c.deref-file-items.result.now ≡ c.args.places.now.regions = search rules in
    (laid_all region_line c.deref-file-items.result.now c.args.places.now.regions c.loop-file.file-index
    (string_bytes c.args.text.now) (string_bytes c.loop-file.text) same c.loop-file-test.false c.loop-file.invariant).text

pub returns-clause-fits : goal.returns-clause-fits
returns-clause-fits c =
    let same : c.deref-file-items.result.now ≡ c.args.places.now.regions = search rules in
    (laid_all region_line c.deref-file-items.result.now c.args.places.now.regions c.loop-file.file-index
    (string_bytes c.args.text.now) (string_bytes c.loop-file.text) same c.loop-file-test.false c.loop-file.invariant).fits

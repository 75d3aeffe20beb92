use Rattle.std.proofs.Common.{◌≡◌, rules}
use Rattle.std.specs.Prelude.{string_bytes}
use Rattle.hp_picture.specs.Text.{translation_line}
use Rattle.hp_picture.proofs.Laid.{laid_none, laid_more, laid_all}
use Rattle.hp_picture.proofs.writing.push_translations.Goals as goal

pub loop-task-init : goal.loop-task-init
loop-task-init c = laid_none translation_line c.args.places.now.tables (string_bytes c.args.text.now)

pub loop-task-preserved : goal.loop-task-preserved
loop-task-preserved c =
    let same : c.deref-task-items.result.now ≡ c.args.places.now.tables = search rules in
    laid_more translation_line c.deref-task-items.result.now c.args.places.now.tables c.loop-task.task-index
    (0, 0, 0, 0) (string_bytes c.args.text.now) (string_bytes c.loop-task.text) (string_bytes c.push_line.new.text) same
    c.loop-task-test.true c.loop-task.invariant
    c.in_ok-push_line.ensures.text c.push_line.ensures.fits

pub returns-clause-text : goal.returns-clause-text
returns-clause-text c =
    let same : c.deref-task-items.result.now ≡ c.args.places.now.tables = search rules in
    (laid_all translation_line c.deref-task-items.result.now c.args.places.now.tables c.loop-task.task-index
    (string_bytes c.args.text.now) (string_bytes c.loop-task.text) same c.loop-task-test.false c.loop-task.invariant).text

pub returns-clause-fits : goal.returns-clause-fits
returns-clause-fits c =
    let same : c.deref-task-items.result.now ≡ c.args.places.now.tables = search rules in
    (laid_all translation_line c.deref-task-items.result.now c.args.places.now.tables c.loop-task.task-index
    (string_bytes c.args.text.now) (string_bytes c.loop-task.text) same c.loop-task-test.false c.loop-task.invariant).fits

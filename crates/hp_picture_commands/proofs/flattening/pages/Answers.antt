use Rattle.hp_picture_commands.proofs.Flattened.{numbered_all, numbered_more, numbered_none}
use Rattle.hp_picture_commands.proofs.flattening.pages.Goals as goal

pub loop-number-init : goal.loop-number-init
loop-number-init c = numbered_none (λ file. file.pages.items) c.new-pages.result.items c.new-pages.ensures.items

pub loop-number-preserved : goal.loop-number-preserved
loop-number-preserved c =
    numbered_more (λ file. file.pages.items) c.args.files.now c.loop-number.number c.index-files-number.result c.loop-number.pages.items
    c.add_pages.new.pages.items c.loop-number-test.true c.index-files-number.is c.loop-number.invariant c.in_ok-add_pages.ensures

pub returns : goal.returns
returns c =
    numbered_all (λ file. file.pages.items) c.args.files.now c.loop-number.number c.loop-number.pages.items c.loop-number-test.false
    c.loop-number.invariant

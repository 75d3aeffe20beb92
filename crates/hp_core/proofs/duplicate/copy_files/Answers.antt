use Rattle.std.proofs.Common.{arith}
use Rattle.std.proofs.lemmas.Grind.{common_steps}
use Rattle.hp_core.specs.Duplicates.{IsSameFile}
use Rattle.hp_core.proofs.Duplicates.{one_more}
use Rattle.hp_core.proofs.duplicate.copy_files.Goals as goal

pub loop-file-preserved : goal.loop-file-preserved
loop-file-preserved c =
    one_more IsSameFile c.args.files.now c.loop-file.copies.items c.push.new.self.items c.loop-file.file-index c.file-item.result _
    c.loop-file-test.true c.file-item.is c.loop-file.invariant (grind (arith, common_steps)) c.in_ok-push.ensures.items

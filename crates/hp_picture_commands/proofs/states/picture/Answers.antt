use Rattle.std.proofs.lemmas.Result.{IfOk-weaker}
use Rattle.hp_picture_commands.proofs.Written.{few_files}
use Rattle.hp_picture_commands.proofs.states.picture.Goals as goal

pub returns-clause-few : goal.returns-clause-few
returns-clause-few c =
    IfOk-weaker c.picture.result _ _ (λ p is. few_files c.args.core.now c.config-config.result p c.always.ensures.config
    c.config-config.ensures c.config-config.result.within_limits is) c.picture.ensures.picture

use Rattle.hp_sequential.proofs.PlainMeaning.{plain}
use Rattle.hp_sequential.proofs.a_call_alone_has_its_plain_meaning.Goals as goal

pub returns : goal.returns
returns c = λ s reached t op answer events n ready steps run. plain op s t answer events n reached ready steps run

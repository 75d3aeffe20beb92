use Rattle.hp_explore.proofs.OneLine.{one_line}
use Rattle.hp_explore.proofs.laws.a_line_is_one.Goals as goal

pub returns : goal.returns
returns c = record {
  line = λ script seed deny kill run l m a b. (one_line script seed deny kill run a.0 b.0 l m a.1 b.1).1;
  events = λ script seed deny kill run l m es fs a b. (one_line script seed deny kill run es fs l m a b).0;
}

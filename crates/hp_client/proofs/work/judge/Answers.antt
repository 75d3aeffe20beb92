use Rattle.std.proofs.Common.{rules, refl}
use Rattle.hp_client.proofs.Judging.{judges_past, judges_right, judges_wrong}
use Rattle.hp_client.proofs.work.judge.Goals as goal

pub returns-then-eq-clause-judges : goal.returns-then-eq-clause-judges
returns-then-eq-clause-judges c = λ tried judges. judges_right tried _ c.args.judged.now _ refl refl
    (search rules) judges

pub returns-then-is_none-clause-judges : goal.returns-then-is_none-clause-judges
returns-then-is_none-clause-judges c = λ tried judges. judges_wrong tried _ c.args.judged.now _ refl refl (search rules)
    (search rules) judges

pub returns-else-is_none-clause-judges : goal.returns-else-is_none-clause-judges
returns-else-is_none-clause-judges c = λ tried judges. judges_past tried _ c.args.judged.now _ refl refl (search rules) judges

use Rattle.hp_workers.proofs.Slots.{empty_own}
use Rattle.hp_workers.proofs.ahead.made_ahead.Goals as goal

pub returns-then-places-lt-FEW : goal.returns-then-places-lt-FEW
returns-then-places-lt-FEW g c = record { own = empty_own (g.W.Work.is_right c.args.work.now) 0 c.new.result.items c.new.ensures.items }

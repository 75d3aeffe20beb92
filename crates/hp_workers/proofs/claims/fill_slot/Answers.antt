use Rattle.std.proofs.Common.{Some}
use Rattle.std.proofs.lemmas.List.{length-set}
use Rattle.hp_workers.proofs.Slots.{slot_set}
use Rattle.hp_workers.proofs.claims.fill_slot.Goals as goal

pub returns : goal.returns
returns g c =
    let slots = c.args.slots.now.items in
    let its = c.requires.claimed in
    record {
      long = length-set slots c.args.claimed.place (Some c.args.claimed.made);
      own = slot_set (g.W.Work.is_right c.args.work.now) slots c.args.claimed.place (Some c.args.claimed.made) c.requires.own its.there its.made;
    }

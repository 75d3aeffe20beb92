use Rattle.std.proofs.Common.{◌≡◌, List, IfOk, sym, subst}
use Rattle.hp_base.specs.declared.config.Config.{Config}
use Rattle.hp_shared.specs.Seats.{AllSeated}
use Rattle.hp_shared.specs.States.{SeatState}
use Rattle.hp_client.specs.Crew.{members_of}
use Rattle.hp_client.proofs.Crewed.{are_new, are_all}
use Rattle.hp_client.proofs.crew.Crew.open.Goals as goal

pub new-requires-2 : goal.new-requires-2
new-requires-2 g c =
    let made = c.in_ok-shared.ensures in
    let seats = c.in_ok-shared.seats.items in
    subst (λ (config : Config). AllSeated config.tasks seats) (sym made.config) (are_all c.args.config.tasks seats made.count made.seats)

pub returns-clause-members : goal.returns-clause-members
returns-clause-members g c =
    let made = c.in_ok-shared.ensures in
    subst (λ (seats : List SeatState). IfOk c.new-2.result (λ crew. crew.members.items ≡ members_of seats))
    (are_new c.args.config.tasks c.in_ok-shared.seats.items made.count made.seats) c.new-2.ensures.members

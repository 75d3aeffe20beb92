use Rattle.std.proofs.lemmas.Result.{IfOk-weaker}
use Rattle.hp_race.specs.Calls.{is_mortal}
use Rattle.hp_race.proofs.Told.{kept_closed, kept_few, kept_none, none_few}
use Rattle.hp_race.proofs.telling.keep.Goals as goal

pub returns-in-Ok-clause-race : goal.returns-in-Ok-clause-race
returns-in-Ok-clause-race g c =
    IfOk-weaker c.kept_of.result _ _
    (kept_closed (is_mortal c.args.chances) c.args.script.now c.args.ran.found c.args.shared.config c.args.ran.seats.items
    c.in-Ok.closed.core c.in-Ok.closed.last.first c.in-Ok.closed.last.entries.items c.in-Ok.ensures.seated c.requires.config
    c.requires.count c.in-Ok.ensures.run c.requires.calls)
    c.kept_of.ensures

pub returns-in-Ok-clause-few : goal.returns-in-Ok-clause-few
returns-in-Ok-clause-few g c =
    IfOk-weaker c.kept_of.result _ _
    (kept_few c.args.script.now c.args.ran.found c.in-Ok.closed.core c.in-Ok.closed.last.first c.in-Ok.closed.last.entries.items)
    c.kept_of.ensures

pub returns-clause-race : goal.returns-clause-race
returns-clause-race g c =
    IfOk-weaker c.nothing_kept.result _ _
    (λ kept none.
    kept_none (is_mortal c.args.chances) c.args.script.now c.args.shared.config c.args.ran.seats.items c.in-Err.refused.fault kept
    c.requires.config
    c.in-Err.ensures.refused none.0 none.1)
    c.nothing_kept.ensures

pub returns-clause-few : goal.returns-clause-few
returns-clause-few g c = IfOk-weaker c.nothing_kept.result _ _ (λ kept none. none_few kept none.0) c.nothing_kept.ensures

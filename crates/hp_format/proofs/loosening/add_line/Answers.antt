use Rattle.std.proofs.Common.{◌++◌, ◌∷◌, [], List, Option, sym, subst}
use Rattle.std.specs.Option.{IfSome}
use Rattle.hp_base.specs.declared.event.Event.{Event}
use Rattle.hp_format.specs.Asked.{IsAsked}
use Rattle.hp_format.specs.Loose.{AreGiven, LinesLead}
use Rattle.hp_format.specs.declared.asked.Asked.{Asked}
use Rattle.hp_format.proofs.Given.{given_more}
use Rattle.hp_format.proofs.LedLines.{lines_more}
use Rattle.hp_format.proofs.loosening.add_line.Goals as goal

pub returns-in-Ok-clause-events : goal.returns-in-Ok-clause-events
returns-in-Ok-clause-events c = λ lines given.
    let added = c.in-Ok.ensures.events in
    let is : IsAsked c.args.line.now c.in-Some.asked =
    subst (λ (asked : Option Asked). IfSome asked (IsAsked c.args.line.now)) c.in-Some.is c.in_ok-asked.ensures.asked in
    subst (λ (events : List Event). AreGiven (lines ++ c.args.line.now ∷ []) events) (sym added.2)
    (given_more given c.args.line.now c.in-Some.asked added.0 is added.1)

pub returns-in-Ok-clause-leads : goal.returns-in-Ok-clause-leads
returns-in-Ok-clause-leads c = λ first lines led.
    let added = c.in-Ok.ensures.leads in
    let is : IsAsked c.args.line.now c.in-Some.asked =
    subst (λ (asked : Option Asked). IfSome asked (IsAsked c.args.line.now)) c.in-Some.is c.in_ok-asked.ensures.asked in
    subst (λ (events : List Event). LinesLead first (lines ++ c.args.line.now ∷ []) events c.add_asked.new.self.core) (sym added.2)
    (lines_more first lines c.args.draft.now.events c.args.draft.now.core c.args.line.now c.in-Some.asked added.0 c.add_asked.new.self.core
    led is added.1)

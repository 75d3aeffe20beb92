use Rattle.std.proofs.Common.{◌≡◌, ◌∙◌, ◌<◌, List, ap, refl, subst, sym}
use Rattle.std.specs.Prelude.{true}
use Rattle.hp_every.specs.declared.turn.Turn.{Turn}
use Rattle.hp_every.specs.Eager.{Tries}
use Rattle.hp_every.specs.Search.{GoesOn, HasTurns, PathState}
use Rattle.hp_every.proofs.Answers.{reached_path}
use Rattle.hp_every.proofs.Good.{run_of}
use Rattle.hp_every.proofs.Tried.{cut_means, met_means, never_means, reached_as, tries_go}
use Rattle.hp_search.specs.Searching.{HasEvents, IsAnswer, question_of}
use Rattle.hp_search.proofs.Kept.{at_limit, cut_as, right_cut, right_cut_at, right_met, right_never, right_within, within}
use Rattle.hp_search.proofs.finding.reachability_of.Goals as goal

pub returns-in-Never-clause-answer : goal.returns-in-Never-clause-answer
unfolding IsAnswer
returns-in-Never-clause-answer c =
    let a = question_of c.args.query in
    let eager = c.args.query.eager in
    let was = c.requires.searched.1 in
    let first = was.first in
    let none = was.none in
    never_means a eager first was.path none was.may
    (right_never (Tries a eager) (λ s. s.met ≡ true) first c.args.verdict c.in-Never.is was.right)

pub returns-in-Cut-clause-answer : goal.returns-in-Cut-clause-answer
unfolding IsAnswer
returns-in-Cut-clause-answer c =
    let a = question_of c.args.query in
    let eager = c.args.query.eager in
    let was = c.requires.searched.1 in
    let first = was.first in
    let none = was.none in
    cut_means a eager first was.path none was.may c.in-Cut.turns
    (right_cut (Tries a eager) (λ s. s.met ≡ true) first c.in-Cut.turns c.args.verdict c.in-Cut.is was.right)

pub returns-in-Cut-clause-within : goal.returns-in-Cut-clause-within
returns-in-Cut-clause-within c = λ limits searched.
    let a = question_of c.args.query in
    let eager = c.args.query.eager in
    let was = searched in
    let first = was.first in
    let none = was.none in
    at_limit a limits first was.path none c.in-Cut.turns
    (cut_as _ _ (Tries a eager) (GoesOn a) _ limits first c.in-Cut.turns (tries_go a eager)
    (right_cut_at _ _ (Tries a eager) _ limits first c.in-Cut.turns c.args.verdict c.in-Cut.is was.cut))

pub events_of-requires-clause-may : goal.events_of-requires-clause-may
events_of-requires-clause-may c =
    let a = question_of c.args.query in
    let eager = c.args.query.eager in
    let was = c.requires.searched.1 in
    let first = was.first in
    let none = was.none in
    let s = c.in-Met.state in
    let shortest = right_met (Tries a eager) (λ s. s.met ≡ true) first s c.in-Met.turns c.args.verdict c.in-Met.is
    was.right in
    let reached = reached_as (Tries a eager) (GoesOn a) (tries_go a eager) first c.in-Met.turns s shortest.reached in
    let path = (reached_path a first was.path none c.in-Met.turns s reached).0 in
    let here : c.deref.result.now ≡ c.in-Met.state.turns = c.deref.ensures.value ∙ ap (λ (s : PathState). s.turns) c.state.view_is in
    subst (HasTurns a) (sym here) (run_of a s path)

pub returns-in_ok-events-in-Met-clause-answer : goal.returns-in_ok-events-in-Met-clause-answer
unfolding IsAnswer
returns-in_ok-events-in-Met-clause-answer c =
    let a = question_of c.args.query in
    let eager = c.args.query.eager in
    let was = c.requires.searched.1 in
    let first = was.first in
    let none = was.none in
    let s = c.in-Met.state in
    let shortest = right_met (Tries a eager) (λ s. s.met ≡ true) first s c.in-Met.turns c.args.verdict c.in-Met.is
    was.right in
    let here : c.deref.result.now ≡ s.turns = c.deref.ensures.value ∙ ap (λ (s : PathState). s.turns) c.state.view_is in
    let events = subst (λ (xs : List Turn). HasEvents a xs c.in_ok-events-in-Met.events.items) here c.in_ok-events-in-Met.ensures in
    (met_means a eager first s c.in-Met.turns was.path none was.may shortest events.has c.in_ok-events-in-Met.events.items events.told, refl)

pub returns-in_ok-events-in-Met-clause-within : goal.returns-in_ok-events-in-Met-clause-within
returns-in_ok-events-in-Met-clause-within c = λ limits searched.
    let a = question_of c.args.query in
    let eager = c.args.query.eager in
    let was = searched in
    let first = was.first in
    let none = was.none in
    let s = c.in-Met.state in
    let shortest = right_met (Tries a eager) (λ s. s.met ≡ true) first s c.in-Met.turns c.args.verdict c.in-Met.is
    was.right in
    let here : c.deref.result.now ≡ s.turns = c.deref.ensures.value ∙ ap (λ (s : PathState). s.turns) c.state.view_is in
    let events = subst (λ (xs : List Turn). HasEvents a xs c.in_ok-events-in-Met.events.items) here c.in_ok-events-in-Met.ensures in
    let reached = reached_as (Tries a eager) (GoesOn a) (tries_go a eager) first c.in-Met.turns s shortest.reached in
    let long = (reached_path a first was.path none c.in-Met.turns s reached).1 in
    let few : c.in-Met.turns < limits.turns = right_within _ _ (Tries a eager) _ limits first s c.in-Met.turns c.args.verdict c.in-Met.is was.cut in
    within a s.turns c.in_ok-events-in-Met.events.items c.in-Met.turns limits.turns events long few

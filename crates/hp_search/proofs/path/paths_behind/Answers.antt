use Rattle.std.proofs.Common.{◌≡◌, ◌∙◌, ◌∷◌, ◌++◌, ◌≤◌, ◌+◌, [], ℕ, List, ap, arith, length, subst, sym, take}
use Rattle.std.specs.Prelude.{slice_index_or}
use Rattle.std.proofs.lemmas.List.{take_all}
use Rattle.hp_every.specs.declared.turn.Turn.{Turn}
use Rattle.hp_every.specs.declared.turn.Turn.TheVariants.{Next}
use Rattle.hp_every.specs.Search.{AreBehind, MayGoOn, PathState}
use Rattle.hp_search.specs.Searching.{question_of}
use Rattle.hp_search.proofs.Kept.{behind_one}
use Rattle.hp_search.proofs.path.paths_behind.Goals as goal

pub path_again-requires-clause-may : goal.path_again-requires-clause-may
path_again-requires-clause-may c =
    let here : c.deref.result.now ≡ c.args.path.now.turns = c.deref.ensures.value ∙ ap (λ (s : PathState). s.turns) c.path.view_is in
    subst (λ (xs : List Turn). MayGoOn (question_of c.args.query) xs (slice_index_or c.args.turns.now c.loop-place.place (Next 0))) (sym here)
    (c.requires.may c.loop-place.place (Next 0) (omega (arith, c.loop-place-test.true, c.in-Some.ensures.0, c.in-Some.ensures.1)))

pub loop-place-preserved : goal.loop-place-preserved
loop-place-preserved c =
    let a = question_of c.args.query in
    let turn = slice_index_or c.args.turns.now c.loop-place.place (Next 0) in
    let here : c.deref.result.now ≡ c.args.path.now.turns = c.deref.ensures.value ∙ ap (λ (s : PathState). s.turns) c.path.view_is in
    subst (λ (next : List PathState). AreBehind a c.args.path.now (take (c.loop-place.place + 1) c.args.turns.now) next)
    (sym c.in_ok-push.ensures.items)
    (behind_one a c.args.path.now c.in_ok-path.path c.args.turns.now c.loop-place.place (Next 0) c.loop-place.next.items
    (omega (arith, c.loop-place-test.true, c.in-Some.ensures.0, c.in-Some.ensures.1)) c.loop-place.invariant c.in_ok-path.ensures.path
    (c.in_ok-path.ensures.turns ∙ ap (λ (xs : List Turn). xs ++ turn ∷ []) here))

pub path_behind-requires-clause-may : goal.path_behind-requires-clause-may
path_behind-requires-clause-may c =
    let here : c.deref-2.result.now ≡ c.args.path.now.turns = c.deref-2.ensures.value ∙ ap (λ (s : PathState). s.turns) c.path.view_is in
    subst (λ (xs : List Turn). MayGoOn (question_of c.args.query) xs (slice_index_or c.args.turns.now c.in-Some.last (Next 0))) (sym here)
    (c.requires.may c.in-Some.last (Next 0) (omega (arith, c.in-Some.ensures.0, c.in-Some.ensures.1)))

pub returns : goal.returns
returns c =
    let a = question_of c.args.query in
    let turns = c.args.turns.now in
    let last = c.in-Some.last in
    let turn = slice_index_or turns last (Next 0) in
    let here : c.deref-2.result.now ≡ c.args.path.now.turns = c.deref-2.ensures.value ∙ ap (λ (s : PathState). s.turns) c.path.view_is in
    let is : c.loop-place.place ≡ last = omega (arith, c.loop-place-test.false, c.loop-place.auto.place-end) in
    let behind = subst (λ (k : ℕ). AreBehind a c.args.path.now (take k turns) c.loop-place.next.items) is c.loop-place.invariant in
    let more = behind_one a c.args.path.now c.in_ok-path-2.path turns last (Next 0) c.loop-place.next.items
    (omega (arith, c.in-Some.ensures.0, c.in-Some.ensures.1)) behind c.in_ok-path-2.ensures.path
    (c.in_ok-path-2.ensures.turns ∙ ap (λ (xs : List Turn). xs ++ turn ∷ []) here) in
    let all : length turns ≤ last + 1 = omega (arith, c.in-Some.ensures.0, c.in-Some.ensures.1) in
    subst (λ (next : List PathState). AreBehind a c.args.path.now turns next) (sym c.in_ok-push-2.ensures.items)
    (subst (λ (xs : List Turn). AreBehind a c.args.path.now xs (c.loop-place.next.items ++ c.in_ok-path-2.path ∷ []))
    (take_all (last + 1) turns all) more)

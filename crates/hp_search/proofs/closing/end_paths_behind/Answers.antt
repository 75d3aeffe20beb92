use Rattle.std.proofs.Common.{◌≡◌, ◌∙◌, ◌∷◌, ◌++◌, ◌+◌, [], ℕ, List, ap, arith, subst, sym, take}
use Rattle.std.specs.Prelude.{slice_index_or}
use Rattle.std.specs.List.{AllZip}
use Rattle.hp_every.specs.Endings.{EndState, GoesBy}
use Rattle.hp_every.specs.Search.{MayGoOn}
use Rattle.hp_every.specs.declared.turn.Turn.{Turn}
use Rattle.hp_every.specs.declared.turn.Turn.TheVariants.{Next}
use Rattle.hp_search.specs.Searching.{question_of}
use Rattle.hp_search.proofs.Closed.{zip_more, zip_whole}
use Rattle.hp_search.proofs.closing.end_paths_behind.Goals as goal

pub end_path_again-requires-clause-may : goal.end_path_again-requires-clause-may
end_path_again-requires-clause-may c =
    let here : c.deref.result.now ≡ c.args.from.now.path.turns =
    c.deref.ensures.value ∙ ((λ i. (c.from-inside.view_is i).path.turns) ∙ ap (λ (s : EndState). s.path.turns) c.from.view_is) in
    subst (λ (xs : List Turn). MayGoOn (question_of c.args.query) xs (slice_index_or c.args.turns.now c.loop-place.place (Next 0))) (sym here)
    (c.requires.may c.loop-place.place (Next 0) (omega (arith, c.loop-place-test.true, c.in-Some.ensures.0, c.in-Some.ensures.1)))

pub loop-place-preserved : goal.loop-place-preserved
loop-place-preserved c =
    let a = question_of c.args.query in
    let turn = slice_index_or c.args.turns.now c.loop-place.place (Next 0) in
    let here : c.deref.result.now ≡ c.args.from.now.path.turns =
    c.deref.ensures.value ∙ ((λ i. (c.from-inside.view_is i).path.turns) ∙ ap (λ (s : EndState). s.path.turns) c.from.view_is) in
    subst (λ (next : List EndState). AllZip (GoesBy a c.args.from.now) (take (c.loop-place.place + 1) c.args.turns.now) next)
    (sym c.in_ok-push.ensures.items)
    (zip_more a c.args.from.now c.in_ok-path.path c.args.turns.now c.loop-place.place (Next 0) c.loop-place.next.items
    (omega (arith, c.loop-place-test.true, c.in-Some.ensures.0, c.in-Some.ensures.1)) c.loop-place.invariant (record {
      turns = c.in_ok-path.ensures.turns ∙ ap (λ (xs : List Turn). xs ++ turn ∷ []) here;
      state = c.in_ok-path.ensures.state;
    }))

pub end_path_behind-requires-clause-may : goal.end_path_behind-requires-clause-may
end_path_behind-requires-clause-may c =
    let here : c.deref-2.result.now ≡ c.args.from.now.path.turns =
    c.deref-2.ensures.value ∙ ((λ i. (c.from-inside.view_is i).path.turns) ∙ ap (λ (s : EndState). s.path.turns) c.from.view_is) in
    subst (λ (xs : List Turn). MayGoOn (question_of c.args.query) xs (slice_index_or c.args.turns.now c.in-Some.last (Next 0))) (sym here)
    (c.requires.may c.in-Some.last (Next 0) (omega (arith, c.in-Some.ensures.0, c.in-Some.ensures.1)))

pub returns : goal.returns
returns c =
    let a = question_of c.args.query in
    let turns = c.args.turns.now in
    let last = c.in-Some.last in
    let turn = slice_index_or turns last (Next 0) in
    let here : c.deref-2.result.now ≡ c.args.from.now.path.turns =
    c.deref-2.ensures.value ∙ ((λ i. (c.from-inside.view_is i).path.turns) ∙ ap (λ (s : EndState). s.path.turns) c.from.view_is) in
    let is : c.loop-place.place ≡ last = omega (arith, c.loop-place-test.false, c.loop-place.auto.place-end) in
    let zip = subst (λ (k : ℕ). AllZip (GoesBy a c.args.from.now) (take k turns) c.loop-place.next.items) is c.loop-place.invariant in
    let more = zip_more a c.args.from.now c.in_ok-path-2.path turns last (Next 0) c.loop-place.next.items
    (omega (arith, c.in-Some.ensures.0, c.in-Some.ensures.1)) zip (record {
      turns = c.in_ok-path-2.ensures.turns ∙ ap (λ (xs : List Turn). xs ++ turn ∷ []) here;
      state = c.in_ok-path-2.ensures.state;
    }) in
    subst (λ (next : List EndState). AllZip (GoesBy a c.args.from.now) turns next) (sym c.in_ok-push-2.ensures.items)
    (zip_whole a c.args.from.now turns (last + 1) (c.loop-place.next.items ++ c.in_ok-path-2.path ∷ [])
    (omega (arith, c.in-Some.ensures.0, c.in-Some.ensures.1)) more)

use Rattle.std.proofs.Common.{◌≡◌, ◌∙◌, ◌<◌, ◌≤◌, ℕ, List, length, subst, sym}
use Rattle.std.specs.Prelude.{IfSome, Option, slice_index_or}
use Rattle.hp_watch.specs.declared.calls.EndedCall.{EndedCall}
use Rattle.hp_every.specs.Endings.{among}
use Rattle.hp_search.proofs.Listed.{put_among}
use Rattle.hp_search.proofs.answers.Answers.see.Goals as goal

pub returns-in_ok-insert-clause-some : goal.returns-in_ok-insert-clause-some
returns-in_ok-insert-clause-some c =
    let old = c.args.self.now.ended.items in
    let new = c.insert.new.self.items in
    let k = c.place_behind-place.result in
    let value = c.deref.ensures.value in
    let put : new ≡ among c.in-Some.call old = c.in_ok-insert.ensures.items ∙ put_among c.in-Some.call old k
    (subst (λ (l : List EndedCall). k ≤ length l) value c.place_behind-place.ensures.there)
    (subst (λ (l : List EndedCall). (j : ℕ) (d : EndedCall) → j < k → (slice_index_or l j d).task ≤ c.in-Some.call.task) value
    c.place_behind-place.ensures.before)
    (subst (λ (l : List EndedCall). (d : EndedCall) → k < length l → c.in-Some.call.task < (slice_index_or l k d).task) value
    c.place_behind-place.ensures.behind) in
    subst (λ (o : Option EndedCall). IfSome o (λ call. new ≡ among call old)) (sym c.in-Some.is) put

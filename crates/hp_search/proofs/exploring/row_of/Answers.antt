use Rattle.std.proofs.Common.{◌≡◌, ◌∙◌, ap, refl}
use Rattle.hp_core.specs.Readers.{free_of, resv_of, used_of}
use Rattle.hp_core.specs.State.{CoreState}
use Rattle.hp_search.specs.Searching.{question_of}
use Rattle.hp_search.proofs.Made.{has_at}
use Rattle.hp_search.proofs.exploring.row_of.Goals as goal

pub returns : goal.returns
returns c =
    let a = question_of c.args.query in
    let p = c.in_ok-walk.field-0 in
    let at = c.in_ok-walk.ensures in
    let core : c.core-core.result.now ≡ p.walk.core = c.core-core.ensures.core in
    let free = c.free.ensures ∙ ap (λ (s : CoreState). free_of s) core in
    let resv = c.resv.ensures ∙ ap (λ (s : CoreState). resv_of s) core in
    let used = c.used.ensures ∙ ap (λ (s : CoreState). used_of s) core in
    record {
      has = has_at a c.args.turns.now c.follow.new.events.items p at;
      made = at.told;
      ended = λ i. record { answers = at.answers i; free = free i; resv = resv i; used = used i };
      count = refl;
    }

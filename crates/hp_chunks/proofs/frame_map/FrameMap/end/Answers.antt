use Rattle.std.proofs.Common.{◌≡◌, ◌-◌, ◌+◌, ◌*◌, ◌<◌, None, Some, length, sym, ◌∙◌, arith}
use Rattle.std.specs.Prelude.{vec_capacity}
use Rattle.std.proofs.lemmas.List.{get_or_default}
use Rattle.hp_chunks.proofs.Slots.{slot_at, end_at, end_of_none}
use Rattle.hp_chunks.proofs.Views.{Shows, end_of}
use Rattle.hp_chunks.proofs.frame_map.FrameMap.end.Goals as goal

pub returns-in-Some-clause-end : goal.returns-in-Some-clause-end
returns-in-Some-clause-end g c =
    let chunks = c.self.inside.chunks.items in
    let shows : Shows g.row.CHUNKS chunks c.args.self.now =
    record { capacity = vec_capacity c.self.inside.chunks; is = c.self.view_is; few = c.self.invariant.few } in
    let at = c.loop-at.at - 1 in
    let within : at < length chunks = omega arith in
    let here : slot_at chunks at ≡ Some c.in-Some.chunk =
    get_or_default chunks at None c.index.result.now within ∙ (sym c.index.ensures ∙ c.in-Some.is) in
    end_of shows (at * 64 + c.highest.result + 1)
    (end_at chunks at c.highest.result c.highest.ensures.in_chunk (λ k above. c.loop-at.invariant k (omega arith))
    (rw (here, ← c.deref.ensures) c.highest.ensures.present) (rw (here, ← c.deref.ensures) c.highest.ensures.none_above))

pub returns-clause-end : goal.returns-clause-end
returns-clause-end g c =
    let shows : Shows g.row.CHUNKS c.self.inside.chunks.items c.args.self.now =
    record { capacity = vec_capacity c.self.inside.chunks; is = c.self.view_is; few = c.self.invariant.few } in
    end_of shows 0 (end_of_none c.self.inside.chunks.items (λ k. c.loop-at.invariant k (omega arith)))

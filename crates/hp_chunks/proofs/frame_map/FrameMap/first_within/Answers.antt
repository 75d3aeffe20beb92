use Rattle.std.proofs.Common.{◌≡◌, ◌*◌, ◌+◌, ◌/◌, None, Some, inl, inr, ◌∙◌, subst, arith}
use Rattle.std.proofs.lemmas.Bool.{cases_lt}
use Rattle.std.proofs.lemmas.List.{get_or_default, get_or_past}
use Rattle.std.specs.Bool.{then_some}
use Rattle.std.specs.Prelude.{vec_capacity, nat_lt}
use Rattle.hp_chunks.specs.Chunks.{Slot, frame_in}
use Rattle.hp_chunks.specs.Framed.{IsFirstWithin}
use Rattle.hp_chunks.proofs.Slots.{slot_at, frame_of_no_chunk, first_of_chunk, none_of_chunk}
use Rattle.hp_chunks.proofs.Views.{Shows, first_seen}
use Rattle.hp_chunks.proofs.frame_map.FrameMap.first_within.Goals as goal

pub returns-in-Some : goal.returns-in-Some
returns-in-Some g c =
    let chunks = c.self.inside.chunks.items in
    let shows : Shows g.row.CHUNKS chunks c.args.self.now =
    record { capacity = vec_capacity c.self.inside.chunks; is = c.self.view_is; few = c.self.invariant.few } in
    let at = c.loop-at.at in
    let i = c.loop-at.invariant in
    let here : c.index.result.now ≡ slot_at chunks at =
    c.index.ensures ∙ get_or_default chunks at c.index.result.now None (omega (arith, c.loop-at-test, c.min-listed.ensures, c.len.ensures)) in
    rw c.then_some.ensures
    (first_seen shows c.args.from c.args.to (then_some (nat_lt (at * 64 + c.in-Some.found.0) c.args.to) (at * 64 + c.in-Some.found.0, c.in-Some.found.1))
    (first_of_chunk chunks c.args.from at c.loop-at.place i.in_chunk i.before i.none c.args.to c.in-Some.found
    (subst (λ (s : Slot). IsFirstWithin (frame_in s) c.loop-at.place 64 (Some c.in-Some.found)) here c.in-Some.ensures)))

pub loop-at-preserved : goal.loop-at-preserved
loop-at-preserved g c =
    let chunks = c.self.inside.chunks.items in
    let at = c.loop-at.at in
    let i = c.loop-at.invariant in
    let here : c.index.result.now ≡ slot_at chunks at =
    c.index.ensures ∙ get_or_default chunks at c.index.result.now None (omega (arith, c.loop-at-test, c.min-listed.ensures, c.len.ensures)) in
    record {
      in_chunk = omega arith;
      before = omega (arith, i.before, i.in_chunk);
      none = λ k above below.
          none_of_chunk chunks c.args.from at c.loop-at.place i.in_chunk i.before i.none
          (subst (λ (s : Slot). IsFirstWithin (frame_in s) c.loop-at.place 64 None) here c.in_default.ensures) k above (omega arith);
    }

pub returns : goal.returns
returns g c =
    let chunks = c.self.inside.chunks.items in
    let shows : Shows g.row.CHUNKS chunks c.args.self.now =
    record { capacity = vec_capacity c.self.inside.chunks; is = c.self.view_is; few = c.self.invariant.few } in
    let at = c.loop-at.at in
    let i = c.loop-at.invariant in
    first_seen shows c.args.from c.args.to None (λ k above below.
    elim (cases_lt k (at * 64 + c.loop-at.place)) [
      | inl early ↦ i.none k above early
      | inr late ↦ frame_of_no_chunk chunks k (get_or_past chunks (k / 64) None (omega arith))
    ])

use Rattle.std.proofs.Common.{◌≡◌, ℕ, ◌+◌, ◌-◌, ◌≤◌, List, None, Some, length, ap, ◌∙◌, arith}
use Rattle.std.specs.Prelude.{[], ◌∷◌, ◌++◌}
use Rattle.std.proofs.lemmas.List.{length-append}
use Rattle.hp_chunks.specs.Chunks.{Slot}
use Rattle.hp_chunks.proofs.Lists.{longer, long, one_more, listed_kept, frames_listed}
use Rattle.hp_chunks.proofs.chunk_list.put_behind.Goals as goal

-- so many are listed at a turn of the loop
at_turn : (old now : List Slot) (turn : ℕ) → now ≡ longer old (turn - length old) → length old ≤ turn → length now ≡ turn
at_turn old now turn is behind = ap (λ (all : List Slot). length all) is ∙ long old (turn - length old) ∙ omega (arith, behind)

pub unwrap-requires : goal.unwrap-requires
unwrap-requires c =
    c.push.ensures.succeeds (omega (
      arith,
      at_turn c.args.chunks.now.items c.loop.chunks.items c.loop.counter c.loop.invariant.listed
          c.loop.invariant.behind,
      c.loop.invariant.capacity,
      c.loop-test.true,
    ))

pub loop-preserved : goal.loop-preserved
loop-preserved c =
    let old = c.args.chunks.now.items in
    let turn : (c.loop.counter - length old) + 1 ≡ c.loop.counter + 1 - length old = omega (arith, c.loop.invariant.behind) in
    record {
      listed =
          rw c.unwrap.ensures at c.push.ensures.items ∙ ap (λ (all : List Slot). all ++ None ∷ []) c.loop.invariant.listed
          ∙ (one_more old (c.loop.counter - length old) ∙ ap (longer old) turn);
      behind = omega (arith, c.loop.invariant.behind);
      capacity = omega (arith, c.loop.invariant.capacity, c.push.ensures.capacity);
    }

pub unwrap-requires-2 : goal.unwrap-requires-2
unwrap-requires-2 c =
    c.push-2.ensures.succeeds (omega (
      arith,
      at_turn c.args.chunks.now.items c.loop.chunks.items c.loop.counter c.loop.invariant.listed
          c.loop.invariant.behind,
      c.loop.invariant.capacity,
      c.len-counter.ensures,
      c.loop.auto,
    ))

-- all are listed
listed : (c : goal.After-unwrap-2)
    → c.push-2.new.self.items ≡ longer c.args.chunks.now.items (c.args.at - length c.args.chunks.now.items) ++ c.put_into.new.slot ∷ []
listed c =
    let old = c.args.chunks.now.items in
    let last : c.loop.counter ≡ c.args.at = omega (arith, c.loop.auto, c.loop-test.false) in
    rw c.unwrap-2.ensures at c.push-2.ensures.items
    ∙ ap (λ (all : List Slot). all ++ c.put_into.new.slot ∷ [])
    (c.loop.invariant.listed ∙ ap (λ (n : ℕ). longer old (n - length old)) last)

pub returns-clause-listed : goal.returns-clause-listed
returns-clause-listed c =
    let old = c.args.chunks.now.items in
    omega (
      arith,
      ap (λ (all : List Slot). length all) (listed c),
      length-append (longer old (c.args.at - length old)) (c.put_into.new.slot ∷ []),
      long old (c.args.at - length old),
    )

pub returns-clause-kept : goal.returns-clause-kept
returns-clause-kept c =
    let old = c.args.chunks.now.items in
    rw (listed c) (listed_kept old (c.args.at - length old) c.args.at c.put_into.new.slot (omega arith)
    (c.in_ok-put_into.ensures {u = tt}).kept)

pub returns-clause-frames : goal.returns-clause-frames
returns-clause-frames c =
    let old = c.args.chunks.now.items in
    rw (listed c) (frames_listed old (c.args.at - length old) c.args.at c.put_into.new.slot (omega arith) c.args.place (Some c.args.frame)
    c.requires.in_chunk (c.in_ok-put_into.ensures {u = tt}).ok)

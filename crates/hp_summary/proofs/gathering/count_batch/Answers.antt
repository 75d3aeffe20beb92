-- One run more is counted, by its own facts.
use Rattle.std.proofs.Common.{◌≡◌, ◌+◌, ◌∙◌, ℕ, sym, subst, arith}
use Rattle.hp_workers.proofs.Pieces.{made_long}
use Rattle.hp_summary.specs.Gathering.{AreCounted, AreFactsAt}
use Rattle.hp_summary.proofs.Gathered.{counted_more, counted_room, facts_held, facts_own}
use Rattle.hp_summary.proofs.gathering.count_batch.Goals as goal

pub all_made-requires-clause-each : goal.all_made-requires-clause-each
all_made-requires-clause-each g c κs live = λ place there. (c.requires.runs, there)

pub index-requires : goal.index-requires
index-requires g c =
    let b = c.args.batch in
    omega (
      arith,
      c.loop-place-test.true,
      made_long (λ (k : ℕ). AreFactsAt b (b.first + k)) 0 b.count c.in_ok-gathered.gathered.items c.in_ok-gathered.ensures,
    )

pub add-requires-clause-room : goal.add-requires-clause-room
add-requires-clause-room g c =
    let b = c.args.batch in
    counted_room b (b.first + c.loop-place.place) c.loop-place.tally c.loop-place.invariant
    (omega (arith, c.requires.runs.fits, c.loop-place-test.true))

pub add-requires-clause-tasks : goal.add-requires-clause-tasks
add-requires-clause-tasks g c =
    let b = c.args.batch in
    let its = facts_own b c.in_ok-gathered.gathered.items c.loop-place.place c.index.result.now c.in_ok-gathered.ensures
    c.loop-place-test.true c.index.ensures in
    (facts_held b (b.first + c.loop-place.place) c.index.result.now its).0 ∙ sym c.loop-place.invariant.sized.held

pub add-requires-clause-pairs : goal.add-requires-clause-pairs
add-requires-clause-pairs g c =
    let b = c.args.batch in
    let its = facts_own b c.in_ok-gathered.gathered.items c.loop-place.place c.index.result.now c.in_ok-gathered.ensures
    c.loop-place-test.true c.index.ensures in
    (facts_held b (b.first + c.loop-place.place) c.index.result.now its).1 ∙ sym c.loop-place.invariant.sized.met

pub loop-place-preserved : goal.loop-place-preserved
loop-place-preserved g c =
    let b = c.args.batch in
    let run = b.first + c.loop-place.place in
    let next : run + 1 ≡ b.first + (c.loop-place.place + 1) = omega arith in
    let its = facts_own b c.in_ok-gathered.gathered.items c.loop-place.place c.index.result.now c.in_ok-gathered.ensures
    c.loop-place-test.true c.index.ensures in
    subst (λ (runs : ℕ). AreCounted b runs c.add.new.self) next
    (counted_more b run c.loop-place.tally c.add.new.self c.index.result.now c.loop-place.invariant its c.in_ok-add.ensures.held
    c.in_ok-add.ensures.met c.in_ok-add.ensures.tally)

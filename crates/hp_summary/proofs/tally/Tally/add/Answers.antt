-- One run more is counted.
use Rattle.std.proofs.Common.{◌<◌, ◌++◌, [], ◌∷◌, ◌∙◌, ℕ, List, length, sym, ap, arith}
use Rattle.std.specs.Prelude.{false, slice_index_or}
use Rattle.std.proofs.lemmas.List.{get_or_default, length-map, map_push}
use Rattle.hp_summary.specs.Summaries.{IsFinished, IsSet, IsSomeHeld}
use Rattle.hp_summary.specs.declared.facts.RunFacts.{RunFacts}
use Rattle.hp_summary.proofs.Counted.{count_few, count_tested, tells}
use Rattle.hp_summary.proofs.tally.Tally.add.Goals as goal

pub count_marks-requires-clause-room : goal.count_marks-requires-clause-room
count_marks-requires-clause-room c = λ k d lt.
    let held = c.args.self.now.held.items in
    omega (
      arith,
      count_few (λ (f : RunFacts). IsSet k f.held.items) c.requires.room.facts (slice_index_or held k 0)
          (c.requires.room.is.held k lt),
      get_or_default held k d 0 lt,
      c.requires.room.few,
    )

pub count_marks-requires-2-clause-room : goal.count_marks-requires-2-clause-room
count_marks-requires-2-clause-room c = λ k d lt.
    let met = c.args.self.now.met.items in
    omega (
      arith,
      count_few (λ (f : RunFacts). IsSet k f.met.items) c.requires.room.facts (slice_index_or met k 0)
          (c.requires.room.is.met k lt),
      get_or_default met k d 0 lt,
      c.requires.room.few,
    )

pub counted-self-requires : goal.counted-self-requires
counted-self-requires c =
    omega (arith, count_few IsFinished c.requires.room.facts c.args.self.now.finished c.requires.room.is.finished, c.requires.room.few)

pub counted-self-requires-2 : goal.counted-self-requires-2
counted-self-requires-2 c =
    omega (arith, count_few IsSomeHeld c.requires.room.facts c.args.self.now.some_held c.requires.room.is.some_held, c.requires.room.few)

pub count_ending-requires : goal.count_ending-requires
count_ending-requires c = record { room = (c.requires.room.facts, c.requires.room.is.endings, c.requires.room.few) }

pub returns-clause-tally : goal.returns-clause-tally
returns-clause-tally c = λ before was.
    let x = c.args.facts.now in
    let self = c.args.self.now in
    let turns = λ (f : RunFacts). f.line.turns in
    let ended = tells (IsFinished x) c.is_finished.result c.is_finished.ensures in
    record {
      turns = c.in_ok-push.ensures.items ∙ ap (λ (xs : List ℕ). xs ++ x.line.turns ∷ []) was.turns ∙ sym (map_push turns before x);
      finished = count_tested IsFinished before x self.finished c.counted-self.result c.is_finished.result was.finished c.counted-self.ensures
          ended.0 ended.1;
      some_held = count_tested IsSomeHeld before x self.some_held c.counted-self-2.result c.is_some_held.result was.some_held
          c.counted-self-2.ensures (λ e. sym c.is_some_held.ensures ∙ e) (λ p. c.is_some_held.ensures ∙ p);
      held = λ k lt.
          let there : k < length self.held.items = omega (arith, lt, c.count_marks.ensures.long) in
          let each = rw c.as_slice.ensures.value at (c.count_marks.ensures.each k there) in
          count_tested (λ (f : RunFacts). IsSet k f.held.items) before x (slice_index_or self.held.items k 0) _
          (slice_index_or x.held.items k false) (was.held k there) each (λ e. e) (λ e. e);
      met = λ k lt.
          let there : k < length self.met.items = omega (arith, lt, c.count_marks-2.ensures.long) in
          let each = rw c.as_slice-2.ensures.value at (c.count_marks-2.ensures.each k there) in
          count_tested (λ (f : RunFacts). IsSet k f.met.items) before x (slice_index_or self.met.items k 0) _
          (slice_index_or x.met.items k false) (was.met k there) each (λ e. e) (λ e. e);
      endings = c.in_ok-count_ending.ensures before x
          (omega (arith, c.len-run.ensures, ap (λ (xs : List ℕ). length xs) was.turns, length-map before turns, self.turns.ok.0))
          (sym c.as_slice-3.ensures.value) was.endings;
    }

use Rattle.std.proofs.Common.{refl, ◌≡◌, ◌-◌, true, false, arith, inl, inr, length}
use Rattle.std.specs.Prelude.{Result, Ok, Err, OnErr}
use Rattle.std.proofs.lemmas.Bool.{cases_lt}
use Rattle.hp_frames.specs.Bank.{retired_frames}
use Rattle.hp_frames.proofs.Resizing.{active_and_retired}
use Rattle.hp_parts.specs.State.{state_of}
use Rattle.hp_core.proofs.Resizes.{grown_row, shrunk_row, sized}
use Rattle.hp_core.proofs.resizing.resize.Goals as goal

pub returns-in_err-grow-clause-growth : goal.returns-in_err-grow-clause-growth
returns-in_err-grow-clause-growth c =
    let all = active_and_retired c.args.parts.now.bank.frames in
    on_err c.from_residual.result (
      sized c.args.frames (omega arith) (omega arith),
      elim (cases_lt (retired_frames c.args.parts.now.bank.frames) (c.args.frames - c.frames-now.result)) [
        | inl l ↦ omega (arith, all, l)
        | inr l ↦ (let z : false ≡ true = (c.in_err-grow.ensures.capacity l).0 in absurd (cc))
      ],
    )
  where
    on_err : {A E Q : Type 0} (r : Result A E) → Q → OnErr r Q
    on_err (Ok a) q = tt
    on_err (Err e) q = q

pub returns-then-now-frames-clause-row : goal.returns-then-now-frames-clause-row
returns-then-now-frames-clause-row c =
    grown_row (state_of c.args.parts.now) c.grow.new.self c.args.frames (c.args.frames - c.frames-now.result)
    (sized c.args.frames (omega arith) (omega arith)) (omega arith) (omega arith)
    c.in_ok-grow.ensures.grown c.in_ok-grow.ensures.rest

pub returns-then-now-frames-clause-capacity : goal.returns-then-now-frames-clause-capacity
returns-then-now-frames-clause-capacity c = λ unwanted.
    let all = active_and_retired c.args.parts.now.bank.frames in
    record {
      bank = elim (cases_lt (length c.args.parts.now.bank.frames) c.args.frames) [
        | inl l ↦ absurd (unwanted (sized c.args.frames (omega arith) (omega arith), l))
        | inr l ↦ (c.in_ok-grow.ensures.capacity (omega (arith, all, l))).1
      ];
      maps = refl;
      caches = λ file. (omega arith, refl);
      spaces = λ task. record { mappings = refl; gaps = refl; entries = (omega arith, refl); places = omega arith };
      files = refl;
      tasks = refl;
    }

pub returns-clause-row : goal.returns-clause-row
returns-clause-row c =
    shrunk_row (state_of c.args.parts.now) c.retire.new.self c.args.frames c.frames-now.result c.min-surplus.result
    (sized c.args.frames (omega arith) (omega arith)) c.frames-now.ensures (omega arith) (omega arith)
    c.retire.ensures.shrunk c.retire.ensures.rest

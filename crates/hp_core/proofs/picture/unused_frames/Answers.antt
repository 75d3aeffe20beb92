use Rattle.std.proofs.Common.{◌≡◌, ℕ, refl, ap, ◌∙◌, sym, arith, length}
use Rattle.std.specs.Prelude.{Bool, cond, [], ◌∷◌, ◌++◌}
use Rattle.std.proofs.lemmas.Grind.{common_steps}
use Rattle.hp_base.specs.Indices.{count_below}
use Rattle.hp_frames.proofs.Frames.{free_is, retired_is}
use Rattle.hp_frames.specs.Bank.{count_of, frame_at, is_free, is_retired}
use Rattle.hp_frames.specs.declared.frame.FrameState.TheVariants.{Free, Retired}
use Rattle.hp_core.proofs.Copying.{state_test, found_next, found_all, long_next, count_more}
use Rattle.hp_core.proofs.picture.unused_frames.Goals as goal

pub loop-number-init : goal.loop-number-init
unfolding count_below
loop-number-init c = record {
  free = λ x. grind (arith, common_steps);
  count = grind (arith, common_steps);
  retired = λ x. grind (arith, common_steps);
}

pub loop-number-preserved : goal.loop-number-preserved
loop-number-preserved c =
    let n : ℕ = c.loop-number.number in
    let free : ℕ → Bool = λ x. is_free (frame_at c.args.bank.now.frames x) in
    let retired : ℕ → Bool = λ x. is_retired (frame_at c.args.bank.now.frames x) in
    let is_one : free n ≡ c.is_free.result = ap free (sym c.new-frame.ensures)
    ∙ state_test is_free Free free_is refl refl c.args.bank.now.frames c.new-frame.result c.is_free.result c.is_free.ensures in
    let is_other : retired n ≡ c.is_retired.result = ap retired (sym c.new-frame.ensures)
    ∙ state_test is_retired Retired retired_is refl refl c.args.bank.now.frames c.new-frame.result c.is_retired.result
    c.is_retired.ensures in
    let more : c.add_if.new.frames.items ≡ c.loop-number.free.items ++ cond c.is_free.result (n ∷ []) [] =
    c.in_ok-add_if.ensures ∙ ap (λ (m : ℕ). c.loop-number.free.items ++ cond c.is_free.result (m ∷ []) []) c.new-frame.ensures in
    let others : c.add_if-in-loop-number.new.frames.items ≡ c.loop-number.retired.items ++ cond c.is_retired.result (n ∷ []) [] =
    c.in_ok-add_if-2.ensures ∙ ap (λ (m : ℕ). c.loop-number.retired.items ++ cond c.is_retired.result (m ∷ []) []) c.new-frame.ensures in
    record {
      free = found_next free n c.loop-number.free.items c.add_if.new.frames.items c.is_free.result is_one more c.loop-number.invariant.free;
      count =
          count_more free n (length c.loop-number.free.items) _ c.is_free.result is_one c.loop-number.invariant.count
          (long_next c.loop-number.free.items c.add_if.new.frames.items n c.is_free.result more);
      retired =
          found_next retired n c.loop-number.retired.items c.add_if-in-loop-number.new.frames.items c.is_retired.result is_other others
          c.loop-number.invariant.retired;
    }

pub returns : goal.returns
unfolding count_of
returns c =
    let all : c.loop-number.number ≡ length c.args.bank.now.frames = omega arith in
    record {
      free =
          found_all is_free refl c.args.bank.now.frames c.loop-number.number c.loop-number.free.items (omega arith)
          c.loop-number.invariant.free;
      count = c.loop-number.invariant.count ∙ ap (λ (n : ℕ). count_below (λ x. is_free (frame_at c.args.bank.now.frames x)) n) all;
      retired =
          found_all is_retired refl c.args.bank.now.frames c.loop-number.number c.loop-number.retired.items (omega arith)
          c.loop-number.invariant.retired;
    }

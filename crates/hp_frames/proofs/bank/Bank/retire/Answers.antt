use Rattle.std.proofs.Common.{◌≡◌, ℕ, ap, arith, refl, subst}
use Rattle.hp_frames.specs.declared.frame.FrameState.TheVariants.{Retired}
use Rattle.hp_frames.specs.Bank.{BankState, HasShrunk}
use Rattle.hp_frames.proofs.Resizing.{more_shrunk, none_shrunk, one_retired, same_rest}
use Rattle.hp_frames.proofs.bank.Bank.retire.Goals as goal

pub loop-init : goal.loop-init
loop-init c = record { shrunk = none_shrunk _; free = omega arith; rest = refl }

pub retire_one-requires : goal.retire_one-requires
retire_one-requires c =
    let same : c.loop.self.resv ≡ c.args.self.now.resv = ap (λ (b : BankState). b.resv) c.loop.invariant.rest in
    omega (arith, same, c.requires, c.loop-test.true, c.loop.invariant.free)

pub loop-preserved : goal.loop-preserved
loop-preserved c =
    let after = c.retire_one.ensures.after in
    let one = one_retired c.loop.self.frames c.retire_one.new.self.frames c.retire_one.result
    (ap (λ (b : BankState). b.frames) after) c.retire_one.ensures.free in
    record {
      shrunk = more_shrunk _ _ _ _ c.loop.invariant.shrunk one.0;
      free = omega (arith, c.loop.invariant.free, one.1);
      rest = same_rest c.args.self.now c.loop.self _ c.retire_one.result Retired after c.loop.invariant.rest;
    }

pub returns-clause-shrunk : goal.returns-clause-shrunk
returns-clause-shrunk c = subst
    (λ (n : ℕ). HasShrunk c.args.self.now.frames c.loop.self.frames n)
    (omega (arith, c.loop-test.false, c.loop.auto.counter-end))
    c.loop.invariant.shrunk

pub returns-clause-free : goal.returns-clause-free
returns-clause-free c = omega (arith, c.loop.invariant.free, c.loop-test.false, c.loop.auto.counter-end)

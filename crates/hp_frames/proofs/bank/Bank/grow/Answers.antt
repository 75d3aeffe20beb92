use Rattle.std.proofs.Common.{◌≡◌, ◌∙◌, ◌-◌, ℕ, ap, arith, length, refl, subst, List}
use Rattle.hp_frames.specs.declared.frame.FrameState.{FrameState}
use Rattle.hp_frames.specs.declared.frame.FrameState.TheVariants.{Free}
use Rattle.hp_frames.specs.Bank.{BankState, retired_frames, is_retired, HasGrown}
use Rattle.hp_frames.specs.Records.{states}
use Rattle.hp_frames.proofs.States.{many}
use Rattle.hp_frames.proofs.Resizing.{active_and_retired, count_unlike, more_back, none_grown, one_back, same_rest, wider_grown}
use Rattle.hp_frames.proofs.bank.Bank.grow.Goals as goal

-- the retired frames that are listed are those of the state
listed : (c : goal.After-widen-arg-1) → c.count.result ≡ retired_frames c.args.self.now.frames
listed c =
    let same : retired_frames (states c.self.inside.records.items) ≡ retired_frames c.args.self.now.frames =
    ap (λ (b : BankState). retired_frames b.frames) c.self.view_is in
    omega (arith, c.count.ensures, c.self.invariant.kept.retired.counted, same)

pub widen-requires : goal.widen-requires
widen-requires c =
    let all = active_and_retired c.args.self.now.frames in
    let long : length (states c.self.inside.records.items) ≡ length c.args.self.now.frames = ap (λ (b : BankState). length b.frames) c.self.view_is in
    omega (arith, all, listed c, c.min-back.ensures, c.requires, long, c.self.invariant.kept.numbered, many c.self.inside.records.items)

pub loop-init : goal.loop-init
loop-init c = record { grown = none_grown _; retired = omega arith; rest = refl }

pub bring_back-requires : goal.bring_back-requires
bring_back-requires c =
    let wider : retired_frames c.widen.new.self.frames ≡ retired_frames c.args.self.now.frames =
    ap (λ (b : BankState). retired_frames b.frames) c.in_ok-widen.ensures.wider
    ∙ count_unlike is_retired c.args.self.now.frames (c.args.k - c.min-back.result) refl in
    let same : retired_frames (states c.self.inside.records.items) ≡ retired_frames c.args.self.now.frames =
    ap (λ (b : BankState). retired_frames b.frames) c.self.view_is in
    omega (
      arith,
      wider,
      same,
      c.count.ensures,
      c.self.invariant.kept.retired.counted,
      c.min-back.ensures,
      c.loop-test.true,
      c.loop.invariant.retired,
    )

pub loop-preserved : goal.loop-preserved
loop-preserved c =
    let after = c.bring_back.ensures.after in
    let one = one_back c.loop.self.frames c.bring_back.new.self.frames c.bring_back.result
    (ap (λ (b : BankState). b.frames) after) c.bring_back.ensures.retired in
    let was = c.loop.invariant.retired in
    record {
      grown = more_back _ _ _ _ c.loop.invariant.grown one.0 (omega (arith, was, one.1));
      retired = omega (arith, was, one.1);
      rest = same_rest c.widen.new.self c.loop.self _ c.bring_back.result Free after c.loop.invariant.rest;
    }

pub returns-clause-grown : goal.returns-clause-grown
returns-clause-grown c =
    let same : retired_frames (states c.self.inside.records.items) ≡ retired_frames c.args.self.now.frames =
    ap (λ (b : BankState). retired_frames b.frames) c.self.view_is in
    let grown : HasGrown c.widen.new.self.frames c.loop.self.frames c.min-back.result = subst
    (λ (n : ℕ). HasGrown c.widen.new.self.frames c.loop.self.frames n)
    (omega (arith, c.loop-test.false, c.loop.auto.counter-end))
    c.loop.invariant.grown in
    wider_grown c.args.self.now.frames c.loop.self.frames c.args.k c.min-back.result
    (omega (arith, same, c.count.ensures, c.self.invariant.kept.retired.counted, c.min-back.ensures))
    (subst
    (λ (fs : List FrameState). HasGrown fs c.loop.self.frames c.min-back.result)
    (ap (λ (b : BankState). b.frames) c.in_ok-widen.ensures.wider)
    grown)

pub returns-clause-rest : goal.returns-clause-rest
returns-clause-rest c =
    let wider = c.in_ok-widen.ensures.wider in
    let rest = c.loop.invariant.rest in grind (arith, wider, rest)

pub returns-clause-capacity : goal.returns-clause-capacity
returns-clause-capacity c enough =
    let same : retired_frames (states c.self.inside.records.items) ≡ retired_frames c.args.self.now.frames =
    ap (λ (b : BankState). retired_frames b.frames) c.self.view_is in
    let none : c.args.k - c.min-back.result ≡ 0 = omega (arith, same, enough, c.count.ensures, c.self.invariant.kept.retired.counted, c.min-back.ensures) in
    (refl, ap (λ (b : BankState). b.capacity) c.loop.invariant.rest ∙ (c.in_ok-widen.ensures.capacity none).1)

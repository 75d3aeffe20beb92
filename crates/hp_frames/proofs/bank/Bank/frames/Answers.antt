use Rattle.std.proofs.Common.{◌≡◌, ap, arith}
use Rattle.hp_frames.specs.Bank.{BankState, retired_frames}
use Rattle.hp_frames.specs.Records.{states}
use Rattle.hp_frames.proofs.Resizing.{active_and_retired}
use Rattle.hp_frames.proofs.bank.Bank.frames.Goals as goal

pub overflow_sub-result : goal.overflow_sub-result
overflow_sub-result c =
    let all = active_and_retired c.args.self.now.frames in
    let same : retired_frames (states c.self.inside.records.items) ≡ retired_frames c.args.self.now.frames =
    ap (λ (b : BankState). retired_frames b.frames) c.self.view_is in
    omega (arith, all, same, c.count.ensures, c.numbers.ensures, c.self.invariant.kept.retired.counted)

pub returns : goal.returns
returns c =
    let all = active_and_retired c.args.self.now.frames in
    let same : retired_frames (states c.self.inside.records.items) ≡ retired_frames c.args.self.now.frames =
    ap (λ (b : BankState). retired_frames b.frames) c.self.view_is in
    omega (arith, all, same, c.count.ensures, c.numbers.ensures, c.self.invariant.kept.retired.counted)

use Rattle.std.proofs.Common.{◌≡◌, ◌∙◌, Some, ap, arith, length}
use Rattle.hp_frames.specs.Bank.{BankState}
use Rattle.hp_frames.specs.Records.{states}
use Rattle.hp_frames.proofs.Kept.{added_kept, few}
use Rattle.hp_frames.proofs.States.{many}
use Rattle.hp_frames.proofs.bank.Bank.add_one.Goals as goal

pub put-next-requires : goal.put-next-requires
put-next-requires c =
    let long : length (states c.self.inside.records.items) ≡ length c.args.self.now.frames =
    ap (λ (b : BankState). length b.frames) c.self.view_is in
    let short = few c.self.inside.records.items _ c.self.invariant.kept.free in
    omega (arith, short, long, many c.self.inside.records.items, c.requires.few)

pub invariant_of-self : goal.invariant_of-self
invariant_of-self c =
    let long : length (states c.self.inside.records.items) ≡ length c.args.self.now.frames =
    ap (λ (b : BankState). length b.frames) c.self.view_is in
    let number : c.new.result ≡ length c.self.inside.records.items =
    omega (arith, long, many c.self.inside.records.items, c.new.ensures, c.numbers-number.ensures) in
    let put = c.put-next.ensures in
    record {
      kept = added_kept _ _ _ _ _ _ _ c.push_reserved.ensures.items put.next (put.first ∙ ap Some number) put.count
          (omega (arith, long, many c.self.inside.records.items, c.requires.few)) c.self.invariant.kept;
      reserved = omega (arith, put.count, c.self.invariant.reserved);
      within = c.self.invariant.within;
    }

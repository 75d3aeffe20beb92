use Rattle.std.proofs.Common.{◌≡◌, ◌∙◌, ap, arith, refl, sym}
use Rattle.hp_frames.specs.declared.frame.FrameState.TheVariants.{Free, Hand}
use Rattle.hp_frames.specs.Bank.{BankState, free_count, is_free}
use Rattle.hp_frames.proofs.Frames.{count_after, same_place}
use Rattle.hp_frames.proofs.Kept.{one_short}
use Rattle.hp_frames.proofs.bank.Bank.restore.Goals as goal

pub overflow_add-resv : goal.overflow_add-resv
overflow_add-resv c =
    let was = same_place _ _ c.args.held Hand c.self.view_is c.requires in
    let short = one_short is_free c.self.inside.records.items _ Hand was refl in
    let kept = c.self.invariant.kept in
    omega (arith, short, kept.free.counted, kept.numbered, c.self.invariant.reserved)

pub invariant_of-self : goal.invariant_of-self
invariant_of-self c =
    let more = count_after is_free c.args.self.now.frames c.args.held Hand Free c.requires in
    let before : free_count c.args.self.now ≡ c.self.inside.free.count =
    ap (λ (b : BankState). free_count b) (sym c.self.view_is) ∙ sym c.self.invariant.kept.free.counted in
    let after : c.self-2.inside.free.count ≡ free_count c.give.new.self =
    c.self-2.invariant.kept.free.counted ∙ ap (λ (b : BankState). free_count b) c.self-2.view_is in
    let given = ap (λ (b : BankState). free_count b) c.give.ensures in
    record {
      kept = c.self-2.invariant.kept;
      reserved = omega (arith, more, before, after, given, c.self.invariant.reserved);
      within = c.self-2.invariant.within;
    }

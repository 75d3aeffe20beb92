use Rattle.std.proofs.Common.{arith, refl}
use Rattle.hp_frames.specs.declared.frame.FrameState.TheVariants.{Placed}
use Rattle.hp_frames.specs.declared.record.Record.TheVariants as kept_as
use Rattle.hp_frames.specs.Bank.{is_in_hand}
use Rattle.hp_frames.proofs.Frames.{same_place}
use Rattle.hp_frames.proofs.Kept.{moved_kept, one_short}
use Rattle.hp_frames.proofs.bank.Bank.evict.Goals as goal

pub hold-requires-clause-few : goal.hold-requires-clause-few
hold-requires-clause-few c =
    let was = same_place _ _ c.args.frame (Placed c.requires.0) c.self.view_is c.requires.1 in
    let short = one_short is_in_hand c.self.inside.records.items _ (Placed c.requires.0) was refl in
    omega (arith, short, c.self.invariant.kept.in_hands, c.self.invariant.kept.numbered)

pub invariant_of-self : goal.invariant_of-self
invariant_of-self c =
    let was = same_place _ _ c.args.frame (Placed c.requires.0) c.self.view_is c.requires.1 in
    record {
      kept = moved_kept _ _ _ _ _ _ _ (Placed c.requires.0) kept_as.Hand c.hold.ensures.items was refl refl refl refl
          (omega (arith, c.hold.ensures.more)) c.self.invariant.kept;
      reserved = c.self.invariant.reserved;
      within = c.self.invariant.within;
    }

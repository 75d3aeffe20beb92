use Rattle.std.proofs.Common.{refl}
use Rattle.hp_frames.specs.declared.frame.FrameState.TheVariants.{Placed}
use Rattle.hp_frames.specs.declared.record.Record.TheVariants as kept_as
use Rattle.hp_frames.proofs.Frames.{same_place}
use Rattle.hp_frames.proofs.Kept.{moved_kept}
use Rattle.hp_frames.proofs.bank.Bank.store.Goals as goal

pub invariant_of-self : goal.invariant_of-self
invariant_of-self c =
    let was = same_place _ _ c.args.frame (Placed c.requires.0) c.self.view_is c.requires.1 in
    record {
      kept = moved_kept _ _ _ _ _ _ _ (Placed c.requires.0) (kept_as.Placed c.args.word) c.move_frame.ensures.items was refl refl
          refl refl refl c.self.invariant.kept;
      reserved = c.self.invariant.reserved;
      within = c.self.invariant.within;
    }

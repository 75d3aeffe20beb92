use Rattle.std.proofs.Common.{◌≡◌, ◌+◌, ◌-◌, arith, refl}
use Rattle.hp_frames.specs.declared.frame.FrameState.TheVariants.{Hand}
use Rattle.hp_frames.specs.declared.record.Record.TheVariants.{Placed}
use Rattle.hp_frames.proofs.Frames.{held_place}
use Rattle.hp_frames.proofs.Kept.{moved_kept, some_hand}
use Rattle.hp_frames.proofs.bank.Bank.place.Goals as goal

pub overflow_sub-self : goal.overflow_sub-self
overflow_sub-self c =
    let was = held_place _ _ _ _ c.self.view_is c.held.view_is c.requires in
    let some = some_hand c.self.inside.records.items _ was in
    omega (arith, some, c.self.invariant.kept.in_hands)

pub invariant_of-self : goal.invariant_of-self
invariant_of-self c =
    let was = held_place _ _ _ _ c.self.view_is c.held.view_is c.requires in
    let some = some_hand c.self.inside.records.items _ was in
    let fewer : c.self.inside.hands - 1 + 1 ≡ c.self.inside.hands + 0 = omega (arith, some, c.self.invariant.kept.in_hands) in
    record {
      kept = moved_kept _ _ _ _ _ _ _ Hand (Placed 0) c.move_frame.ensures.items was refl refl refl refl fewer c.self.invariant.kept;
      reserved = c.self.invariant.reserved;
      within = c.self.invariant.within;
    }

use Rattle.std.proofs.Common.{◌≡◌, ◌+◌, ◌-◌, arith, refl}
use Rattle.hp_frames.specs.declared.frame.FrameState.TheVariants.{Hand}
use Rattle.hp_frames.specs.Bank.{is_free}
use Rattle.hp_frames.proofs.Frames.{held_place}
use Rattle.hp_frames.proofs.Kept.{given_kept, one_short, some_hand}
use Rattle.hp_frames.proofs.bank.Bank.give.Goals as goal

pub put-next-requires : goal.put-next-requires
put-next-requires c =
    let was = held_place _ _ _ _ c.self.view_is c.held.view_is c.requires in
    let short = one_short is_free c.self.inside.records.items _ Hand was refl in
    omega (arith, short, c.self.invariant.kept.free.counted, c.self.invariant.kept.numbered)

pub overflow_sub-self : goal.overflow_sub-self
overflow_sub-self c =
    let was = held_place _ _ _ _ c.self.view_is c.held.view_is c.requires in
    let some = some_hand c.self.inside.records.items _ was in
    omega (arith, some, c.self.invariant.kept.in_hands)

pub invariant_of-self : goal.invariant_of-self
invariant_of-self c =
    let was = held_place _ _ _ _ c.self.view_is c.held.view_is c.requires in
    let some = some_hand c.self.inside.records.items _ was in
    let fewer : c.self.inside.hands - 1 + 1 ≡ c.self.inside.hands = omega (arith, some, c.self.invariant.kept.in_hands) in
    let put = c.put-next.ensures in
    record {
      kept = given_kept _ _ _ _ _ _ _ _ _ c.move_frame.ensures.items was put.next put.first put.count fewer c.self.invariant.kept;
      reserved = omega (arith, put.count, c.self.invariant.reserved);
      within = c.self.invariant.within;
    }

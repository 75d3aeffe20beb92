use Rattle.std.proofs.Common.{◌≡◌, ◌<◌, Some, arith, refl, slice_get, subst, sym}
use Rattle.hp_frames.specs.declared.frame.FrameState.TheVariants.{Free}
use Rattle.hp_frames.specs.Bank.{BankState, free_count, free_frames, is_free, is_retired}
use Rattle.hp_frames.specs.Records.{states}
use Rattle.hp_frames.proofs.Chains.{first_free, has_first}
use Rattle.hp_frames.proofs.Kept.{one_short, retired_kept}
use Rattle.hp_frames.proofs.States.{within}
use Rattle.hp_frames.proofs.bank.Bank.retire_one.Goals as goal

pub take-frame-requires : goal.take-frame-requires
take-frame-requires c =
    let some : c.self.inside.resv < free_frames (states c.self.inside.records.items) =
    subst (λ (b : BankState). b.resv < free_count b) (sym c.self.view_is) c.requires in
    has_first is_free _ _ _ c.deref.ensures.value (omega (arith, some, c.self.invariant.kept.free.counted)) c.self.invariant.kept.free

pub put-next-requires : goal.put-next-requires
put-next-requires c =
    let at = first_free _ _ _ c.take-frame.ensures.first c.self.invariant.kept.free in
    let short = one_short is_retired c.self.inside.records.items _ Free at refl in
    omega (arith, short, c.self.invariant.kept.retired.counted, c.self.invariant.kept.numbered)

pub move_frame-requires : goal.move_frame-requires
move_frame-requires c = within _ _ Free (first_free _ _ _ c.take-frame.ensures.first c.self.invariant.kept.free)

pub invariant_of-self : goal.invariant_of-self
invariant_of-self c =
    let some : c.self.inside.resv < free_frames (states c.self.inside.records.items) =
    subst (λ (b : BankState). b.resv < free_count b) (sym c.self.view_is) c.requires in
    let taken = c.take-frame.ensures in
    let put = c.put-next.ensures in
    record {
      kept = retired_kept _ _ _ _ _ _ _ _ _ _ c.deref.ensures.value c.move_frame.ensures.items taken.first taken.rest taken.count
          put.next put.first put.count c.self.invariant.kept;
      reserved = omega (arith, some, taken.count, c.self.invariant.kept.free.counted);
      within = c.self.invariant.within;
    }

pub returns-clause-free : goal.returns-clause-free
returns-clause-free c = subst
    (λ (b : BankState). slice_get b.frames c.take-frame.result ≡ Some Free)
    c.self.view_is
    (first_free _ _ _ c.take-frame.ensures.first c.self.invariant.kept.free)

use Rattle.std.proofs.Common.{◌≡◌, ◌≤◌, Some, arith, refl, slice_get, subst, sym}
use Rattle.hp_frames.specs.declared.frame.FrameState.TheVariants.{Retired}
use Rattle.hp_frames.specs.Bank.{BankState, is_free, is_retired, retired_frames}
use Rattle.hp_frames.specs.Records.{states}
use Rattle.hp_frames.proofs.Chains.{first_retired, has_first}
use Rattle.hp_frames.proofs.Kept.{one_short, returned_kept}
use Rattle.hp_frames.proofs.States.{within}
use Rattle.hp_frames.proofs.bank.Bank.bring_back.Goals as goal

pub take-frame-requires : goal.take-frame-requires
take-frame-requires c =
    let some : 1 ≤ retired_frames (states c.self.inside.records.items) =
    subst (λ (b : BankState). 1 ≤ retired_frames b.frames) (sym c.self.view_is) c.requires in
    has_first is_retired _ _ _ c.deref.ensures.value (omega (arith, some, c.self.invariant.kept.retired.counted))
    c.self.invariant.kept.retired

pub put-next-requires : goal.put-next-requires
put-next-requires c =
    let at = first_retired _ _ _ c.take-frame.ensures.first c.self.invariant.kept.retired in
    let short = one_short is_free c.self.inside.records.items _ Retired at refl in
    omega (arith, short, c.self.invariant.kept.free.counted, c.self.invariant.kept.numbered)

pub move_frame-requires : goal.move_frame-requires
move_frame-requires c = within _ _ Retired (first_retired _ _ _ c.take-frame.ensures.first c.self.invariant.kept.retired)

pub invariant_of-self : goal.invariant_of-self
invariant_of-self c =
    let taken = c.take-frame.ensures in
    let put = c.put-next.ensures in
    record {
      kept = returned_kept _ _ _ _ _ _ _ _ _ _ c.deref.ensures.value c.move_frame.ensures.items taken.first taken.rest taken.count
          put.next put.first put.count c.self.invariant.kept;
      reserved = omega (arith, put.count, c.self.invariant.reserved);
      within = c.self.invariant.within;
    }

pub returns-clause-retired : goal.returns-clause-retired
returns-clause-retired c = subst
    (λ (b : BankState). slice_get b.frames c.take-frame.result ≡ Some Retired)
    c.self.view_is
    (first_retired _ _ _ c.take-frame.ensures.first c.self.invariant.kept.retired)

use Rattle.std.proofs.Common.{◌≡◌, ◌<◌, Some, arith, refl, slice_get, subst, sym}
use Rattle.hp_frames.specs.declared.frame.FrameState.TheVariants.{Free, Hand}
use Rattle.hp_frames.specs.declared.record.Record.TheVariants as kept_as
use Rattle.hp_frames.specs.Bank.{BankState, free_count, free_frames, is_free, is_in_hand}
use Rattle.hp_frames.specs.Records.{states}
use Rattle.hp_frames.proofs.Chains.{first_free, has_first}
use Rattle.hp_frames.proofs.Frames.{set_same}
use Rattle.hp_frames.proofs.Kept.{one_short, taken_kept}
use Rattle.hp_frames.proofs.States.{states_set, within}
use Rattle.hp_frames.proofs.bank.Bank.take_free.Goals as goal

pub take-frame-requires : goal.take-frame-requires
take-frame-requires c =
    let some : c.self.inside.resv < free_frames (states c.self.inside.records.items) =
    subst (λ (b : BankState). b.resv < free_count b) (sym c.self.view_is) c.requires in
    has_first is_free _ _ _ c.deref.ensures.value (omega (arith, some, c.self.invariant.kept.free.counted)) c.self.invariant.kept.free

pub hold-requires-clause-there : goal.hold-requires-clause-there
hold-requires-clause-there c = within _ _ Free (first_free _ _ _ c.take-frame.ensures.first c.self.invariant.kept.free)

pub hold-requires-clause-few : goal.hold-requires-clause-few
hold-requires-clause-few c =
    let at = first_free _ _ _ c.take-frame.ensures.first c.self.invariant.kept.free in
    let short = one_short is_in_hand c.self.inside.records.items _ Free at refl in
    omega (arith, short, c.self.invariant.kept.in_hands, c.self.invariant.kept.numbered)

pub invariant_of-self : goal.invariant_of-self
invariant_of-self c =
    let some : c.self.inside.resv < free_frames (states c.self.inside.records.items) =
    subst (λ (b : BankState). b.resv < free_count b) (sym c.self.view_is) c.requires in
    let less = c.take-frame.ensures.count in
    record {
      kept = taken_kept _ _ _ _ _ _ _ _ _ c.deref.ensures.value c.hold.ensures.items c.take-frame.ensures.first
          c.take-frame.ensures.rest less c.hold.ensures.more c.self.invariant.kept;
      reserved = omega (arith, some, less, c.self.invariant.kept.free.counted);
      within = c.self.invariant.within;
    }

pub returns-clause-free : goal.returns-clause-free
returns-clause-free c =
    let at = first_free _ _ _ c.take-frame.ensures.first c.self.invariant.kept.free in
    rw c.hold.ensures.same (subst (λ (b : BankState). slice_get b.frames c.take-frame.result ≡ Some Free) c.self.view_is at)

pub returns-clause-held : goal.returns-clause-held
returns-clause-held c =
    let at = first_free _ _ _ c.take-frame.ensures.first c.self.invariant.kept.free in
    rw (c.hold.ensures.same, states_set _ _ _ kept_as.Hand c.hold.ensures.items) (set_same _ c.take-frame.result Free Hand at)

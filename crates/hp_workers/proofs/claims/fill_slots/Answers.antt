-- One more gets into its slot, and one less is left.
use Rattle.std.proofs.Common.{[], ◌∷◌, ◌∙◌, length, sym, subst, ℕ}
use Rattle.hp_workers.specs.Claims.{IsClaimed}
use Rattle.hp_workers.proofs.Slots.{all_before, last_of}
use Rattle.hp_workers.proofs.claims.fill_slots.Goals as goal

pub fill_slot-requires-clause-claimed : goal.fill_slot-requires-clause-claimed
fill_slot-requires-clause-claimed g c κs live =
    let right = g.W.Work.is_right c.args.work.now in
    let left = c.loop-one.invariant in
    subst (λ (n : ℕ). IsClaimed right n c.in-Some.one) (sym left.long)
    (last_of (IsClaimed right (length c.args.slots.now.items)) c.pop.new.self.items c.in-Some.one c.loop-one.claimed.items
    c.in-Some.ensures.items left.claimed)

pub loop-one-preserved : goal.loop-one-preserved
loop-one-preserved g c =
    let right = g.W.Work.is_right c.args.work.now in
    let left = c.loop-one.invariant in
    record {
      long = c.fill_slot.ensures.long ∙ left.long;
      own = c.fill_slot.ensures.own;
      claimed = all_before (IsClaimed right (length c.args.slots.now.items)) c.pop.new.self.items (c.in-Some.one ∷ [])
          c.loop-one.claimed.items c.in-Some.ensures.items left.claimed;
    }

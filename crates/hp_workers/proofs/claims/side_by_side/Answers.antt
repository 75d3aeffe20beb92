-- What one more worker claimed is in its slots, and that of one less is left.
use Rattle.std.proofs.Common.{[], ◌∷◌, ◌∙◌, ap, sym, subst, ℕ, length, List}
use Rattle.std.specs.Prelude.{None, Option}
use Rattle.std.proofs.lemmas.List.{length-replicate}
use Rattle.std.specs.Global.{Vec}
use Rattle.hp_workers.specs.declared.claims.Claimed.{Claimed}
use Rattle.hp_workers.specs.Claims.{AreClaimed}
use Rattle.hp_workers.proofs.Slots.{all_before, empty_own, last_of}
use Rattle.hp_workers.proofs.claims.side_by_side.Goals as goal

pub loop-claimed-init : goal.loop-claimed-init
loop-claimed-init g c =
    let slots = c.in_ok-slots.slots.items in
    record {
      long = ap (λ (l : List (Option g.row.W-Made.Denot)). length l) c.in_ok-slots.ensures ∙ length-replicate c.args.places None;
      own = empty_own (g.W.Work.is_right c.args.work.now) c.args.places slots c.in_ok-slots.ensures;
      found = c.in_ok-found.ensures;
    }

pub fill_slots-requires-clause-claimed : goal.fill_slots-requires-clause-claimed
fill_slots-requires-clause-claimed g c κs live =
    let right = g.W.Work.is_right c.args.work.now in
    let Are : Vec (Claimed g.row.W-Made.Denot) → Type 0 = λ claimed. AreClaimed right c.args.places claimed.items in
    let left = c.loop-claimed.invariant in
    subst (λ (n : ℕ). AreClaimed right n c.in-Some.claimed.items) (sym left.long)
    (last_of Are c.pop.new.self.items c.in-Some.claimed c.loop-claimed.found.items c.in-Some.ensures.items left.found)

pub loop-claimed-preserved : goal.loop-claimed-preserved
loop-claimed-preserved g c =
    let right = g.W.Work.is_right c.args.work.now in
    let Are : Vec (Claimed g.row.W-Made.Denot) → Type 0 = λ claimed. AreClaimed right c.args.places claimed.items in
    record {
      long = c.fill_slots.ensures.long ∙ c.loop-claimed.invariant.long;
      own = c.fill_slots.ensures.own;
      found = all_before Are c.pop.new.self.items (c.in-Some.claimed ∷ []) c.loop-claimed.found.items c.in-Some.ensures.items
          c.loop-claimed.invariant.found;
    }

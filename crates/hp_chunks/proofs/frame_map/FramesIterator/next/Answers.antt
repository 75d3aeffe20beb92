use Rattle.std.proofs.Common.{◌≡◌, ◌*◌, ◌-◌, ◌∙◌, [], sym, ap, arith, length}
use Rattle.std.specs.FinMap as map
use Rattle.hp_chunks.specs.Framed.{listed}
use Rattle.hp_chunks.proofs.Listing.{listed_first, listed_none}
use Rattle.hp_chunks.proofs.frame_map.FramesIterator.next.Goals as goal

pub returns-in_err-number-clause-steps : goal.returns-in_err-number-clause-steps
returns-in_err-number-clause-steps g c =
    let all = g.row.CHUNKS * 64 in
    let none : listed (map.get c.self.inside.frames.now.frames) c.self.inside.next (all - c.self.inside.next) ≡ [] =
    listed_none (map.get c.self.inside.frames.now.frames) c.self.inside.next (all - c.self.inside.next)
    (λ k above below. c.in_err-number.ensures k above (omega arith)) in
    let left : c.args.self.now ≡ [] = sym c.self.view_is ∙ none in
    rw c.from_residual.ensures (left, left)

pub returns-clause-steps : goal.returns-clause-steps
returns-clause-steps g c =
    sym c.self.view_is
    ∙ listed_first (map.get c.self.inside.frames.now.frames) c.self.inside.next (g.row.CHUNKS * 64)
    (c.in_ok-number.number, c.in_ok-number.frame) c.in_ok-number.ensures

pub returns-clause-goes : goal.returns-clause-goes
returns-clause-goes g c =
    let less = ap length (sym c.self.view_is
    ∙ listed_first (map.get c.self.inside.frames.now.frames) c.self.inside.next (g.row.CHUNKS * 64)
    (c.in_ok-number.number, c.in_ok-number.frame) c.in_ok-number.ensures) in
    record {
      on = λ _. (tt, tt, omega (arith, less));
      keeps = tt;
      rests = λ _. tt;
    }

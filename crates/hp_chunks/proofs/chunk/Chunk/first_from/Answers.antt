use Rattle.std.proofs.Common.{◌<◌, ◌^◌, arith}
use Rattle.hp_chunks.proofs.Present.{first_later, none_on}
use Rattle.hp_chunks.proofs.chunk.Chunk.first_from.Goals as goal

pub returns-then-later-eq0 : goal.returns-then-later-eq0
returns-then-later-eq0 c k above below =
    rw (← c.self.view_is) (none_on c.self.inside.present c.self.inside.frames c.args.place c.if-later-eq0.true k above)

pub listed : goal.listed
listed c =
    let small : c.self.inside.present < 2 ^ 64 = omega arith in
    let first = first_later c.self.inside.present c.self.inside.frames c.args.place 0 c.self.invariant small c.if-later-eq0.false in
    omega (arith, c.self.invariant, first.1)

pub bounds-self-inside-at : goal.bounds-self-inside-at
bounds-self-inside-at c =
    let small : c.self.inside.present < 2 ^ 64 = omega arith in
    (first_later c.self.inside.present c.self.inside.frames c.args.place 0 c.self.invariant small c.if-later-eq0.false).1

pub returns : goal.returns
returns c =
    let small : c.self.inside.present < 2 ^ 64 = omega arith in
    rw (← c.self.view_is) (first_later c.self.inside.present c.self.inside.frames c.args.place c.index-self-at.result c.self.invariant small
    c.if-later-eq0.false)

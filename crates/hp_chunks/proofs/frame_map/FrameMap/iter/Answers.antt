use Rattle.std.proofs.Common.{◌≡◌, ◌*◌, ◌-◌, arith}
use Rattle.std.specs.Prelude.{vec_capacity}
use Rattle.std.specs.FinMap as map
use Rattle.hp_chunks.proofs.Listing.{listed_under}
use Rattle.hp_chunks.proofs.Views.{Shows, entries_listed}
use Rattle.hp_chunks.proofs.frame_map.FrameMap.iter.Goals as goal

pub returns-clause-frames : goal.returns-clause-frames
returns-clause-frames g c =
    let shows : Shows g.row.CHUNKS c.self.inside.chunks.items c.args.self.now =
    record { capacity = vec_capacity c.self.inside.chunks; is = c.self.view_is; few = c.self.invariant.few } in
    let all : g.row.CHUNKS * 64 - 0 ≡ g.row.CHUNKS * 64 = omega arith in
    rw all (entries_listed shows)

pub returns-clause-within : goal.returns-clause-within
returns-clause-within g c =
    listed_under (map.get c.args.self.now.frames) (g.row.CHUNKS * 64) 0 (g.row.CHUNKS * 64 - 0) (omega arith)

pub invariant_of-result : goal.invariant_of-result
invariant_of-result g c = c.self.invariant.small

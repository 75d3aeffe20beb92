use Rattle.std.proofs.Common.{take, All}
use Rattle.hp_draw.specs.Places.{HaveRoom, IsLower, IsUpper}
use Rattle.hp_draw.proofs.layout.most_of.Given as goal

-- the counts so far have room, and no more than they need
abbrev pub invariant-loop-counts : goal.invariant-loop-counts
invariant-loop-counts l =
    record {
      room : All (HaveRoom l.most_free l.most_resv) (take l.counts-index l.numbers);
      upper : IsUpper (take l.counts-index l.numbers) l.most_free;
      lower : IsLower (take l.counts-index l.numbers) l.most_resv;
    }

use Rattle.std.proofs.Common.{◌≡◌, ◌+◌, ◌≤◌, ◌++◌, length, replicate}
use Rattle.hp_frames.specs.declared.frame.FrameState.TheVariants.{Free}
use Rattle.hp_frames.proofs.bank.Bank.widen.Given as goal

abbrev pub invariant-loop : goal.invariant-loop
invariant-loop l = record {
  wider : l.self ≡ record l.fn.self { frames = l.fn.self.frames ++ replicate l.counter Free; capacity = l.self.capacity };
  capacity : length l.fn.self.frames + l.more ≤ l.self.capacity;
}

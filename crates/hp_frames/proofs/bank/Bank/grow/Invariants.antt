use Rattle.std.proofs.Common.{◌≡◌, ◌+◌}
use Rattle.hp_frames.specs.Bank.{retired_frames, HasGrown}
use Rattle.hp_frames.proofs.bank.Bank.grow.Given as goal

abbrev pub invariant-loop : goal.invariant-loop
invariant-loop l = record {
  grown : HasGrown l.initial.self.frames l.self.frames l.counter;
  retired : retired_frames l.self.frames + l.counter ≡ retired_frames l.initial.self.frames;
  rest : l.self ≡ record l.initial.self { frames = l.self.frames };
}

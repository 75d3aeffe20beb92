use Rattle.std.proofs.Common.{◌≡◌, ◌+◌}
use Rattle.hp_frames.specs.Bank.{free_count, HasShrunk}
use Rattle.hp_frames.proofs.bank.Bank.retire.Given as goal

abbrev pub invariant-loop : goal.invariant-loop
invariant-loop l = record {
  shrunk : HasShrunk l.fn.self.frames l.self.frames l.counter;
  free : free_count l.self + l.counter ≡ free_count l.fn.self;
  rest : l.self ≡ record l.fn.self { frames = l.self.frames };
}

use Rattle.std.specs.Prelude.{take}
use Rattle.hp_judge.specs.Frames.{AddsTwice, HasSeen}
use Rattle.hp_judge.proofs.frames.add_twice.Given as goal

abbrev pub invariant-loop-frame : goal.invariant-loop-frame
invariant-loop-frame l =
    HasSeen l.seen (take l.frame-index l.frames) × AddsTwice (take l.frame-index l.frames) l.initial.findings.items l.findings.items

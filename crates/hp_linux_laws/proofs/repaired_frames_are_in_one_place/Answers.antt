use Rattle.std.specs.Prelude.{true}
use Rattle.hp_linux_laws.specs.Laws.{FramesAreInOnePlace}
use Rattle.hp_linux_laws.proofs.Claims.{placed_once, by_repaired}
use Rattle.hp_linux_laws.proofs.repaired_frames_are_in_one_place.Goals as goal

pub returns : goal.returns
returns c = by_repaired FramesAreInOnePlace (placed_once true true)

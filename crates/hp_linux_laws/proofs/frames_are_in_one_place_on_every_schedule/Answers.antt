use Rattle.std.specs.Prelude.{false}
use Rattle.hp_linux_laws.specs.Laws.{FramesAreInOnePlace}
use Rattle.hp_linux_laws.proofs.Claims.{placed_once, by_may}
use Rattle.hp_linux_laws.proofs.frames_are_in_one_place_on_every_schedule.Goals as goal

pub returns : goal.returns
returns c = by_may FramesAreInOnePlace (placed_once false false)

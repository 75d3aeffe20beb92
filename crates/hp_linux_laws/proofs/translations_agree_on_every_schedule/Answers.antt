use Rattle.std.specs.Prelude.{false}
use Rattle.hp_linux_laws.specs.Laws.{TranslationsAgree}
use Rattle.hp_linux_laws.proofs.Claims.{agrees, by_may}
use Rattle.hp_linux_laws.proofs.translations_agree_on_every_schedule.Goals as goal

pub returns : goal.returns
returns c = by_may TranslationsAgree (agrees false false)

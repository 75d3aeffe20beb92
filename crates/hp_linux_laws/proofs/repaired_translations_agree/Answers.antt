use Rattle.std.specs.Prelude.{true}
use Rattle.hp_linux_laws.specs.Laws.{TranslationsAgree}
use Rattle.hp_linux_laws.proofs.Claims.{agrees, by_repaired}
use Rattle.hp_linux_laws.proofs.repaired_translations_agree.Goals as goal

pub returns : goal.returns
returns c = by_repaired TranslationsAgree (agrees true true)

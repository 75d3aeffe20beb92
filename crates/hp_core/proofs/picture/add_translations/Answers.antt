use Rattle.std.proofs.Common.{arith}
use Rattle.std.proofs.lemmas.Grind.{common_steps}
use Rattle.std.proofs.lemmas.List.Elements.{filter_map-append}
use Rattle.hp_core.specs.Copies.{translations}
use Rattle.hp_core.proofs.picture.add_translations.Goals as goal

pub loop-vpn-preserved : goal.loop-vpn-preserved
loop-vpn-preserved c = grind (arith, common_steps, filter_map-append)

pub returns : goal.returns
unfolding translations
returns c = grind (arith, common_steps)

-- When words are coloured.
use Rattle.std.specs.Prelude.{◌&&◌, Bool, true, false, not}
use Rattle.hugepool.specs.declared.colouring.Surroundings.{Surroundings}
use Rattle.hp_command.specs.declared.request.When.{When}
use Rattle.hp_command.specs.declared.request.When.TheVariants.{Auto, Always, Never}

-- by itself at a terminal, unless the environment is against it
abbrev pub paints : When → Surroundings → Bool
paints Auto around = around.is_terminal && not around.no_color && not around.is_dumb
paints Always around = true
paints Never around = false

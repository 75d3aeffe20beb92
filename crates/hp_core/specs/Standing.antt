-- What a core's calls in flight owe, hold and want, as the table of standings says it.
use Rattle.hp_machine.specs.Standings as machine
use Rattle.hp_core.specs.Acquiring.{acquired_as}
use Rattle.hp_core.specs.declared.standing.Standing.{Standing}

-- the columns of a call's line that are kept in numbers
abbrev pub standing_as : machine.Standing → Standing
standing_as s = record {
  behind = s.behind;
  ahead = s.ahead;
  used_ahead = s.used_ahead;
  hand = s.hand;
  lock = s.lock;
  slot = s.slot;
  wants = acquired_as s.wants;
}

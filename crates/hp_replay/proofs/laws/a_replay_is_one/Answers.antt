use Rattle.hp_replay.proofs.OneText.{one_replay, one_run}
use Rattle.hp_replay.proofs.laws.a_replay_is_one.Goals as goal

pub returns : goal.returns
returns c = record {
  run = one_run;
  text = one_replay c.bytes_have_one_reading.ensures.trace;
}

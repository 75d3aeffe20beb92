use Rattle.std.proofs.Common.{◌≡◌}
use Rattle.hp_text.specs.ScriptTaking.{script_room}
use Rattle.hp_text.proofs.ScriptTakings.{Reading}
use Rattle.hp_text.proofs.waiting_script.read_any_script.Given as goal

abbrev pub invariant-loop-draft : goal.invariant-loop-draft
invariant-loop-draft g l = record {
  reading : Reading (g.R.Source.remaining l.fn.reader) (g.R.Source.remaining l.reader) l.draft;
  reads : g.R.Source.failures l.reader ≡ g.R.Source.failures l.fn.reader;
}

abbrev pub decreases-loop-draft : goal.decreases-loop-draft
decreases-loop-draft g l = script_room l.draft

-- What comes of `hugepool explore --summary`.
use Rattle.std.specs.Prelude.{◌≡◌, ◌==◌, ℕ, Bool, List, Option}
use Rattle.std.specs.Io.KnownBytes.{Appends}
use Rattle.hp_base.specs.Text.{sizes}
use Rattle.hp_summary.specs.Summaries.{Summarizes}
use Rattle.hp_summary.specs.SummaryText.{summary_text}
use Rattle.hp_summary.specs.declared.gathering.Survey.{Survey}
use Rattle.hp_summary.specs.declared.summary.Summary.{Summary}
use Rattle.hp_text.specs.ScriptLines.{ReadsScript}
use Rattle.hp_text.specs.Writing.{Wrote}
use Rattle.hp_text.specs.declared.script.Script.{Script}

-- A reader had the bytes `from` left, and now has `to`; an output held `before`, and now holds `after`.

-- a script was read, and the summary of its runs written; all came to their ends, or some didn't
pub record SumsUp (v : Survey) (finished : Bool) (from to before after : Option (List ℕ)) : Type 0 where
  pub script : Script
  pub summary : Summary
  pub reads : ReadsScript from to (sizes script.config) script.calls.items script.waits.items
  pub is : Summarizes script v summary
  pub wrote : Appends before after (summary_text v.seed summary)
  pub ends : finished ≡ (summary.finished == summary.runs)

-- a script was read, and a front of that summary written
pub record SumsUpPartly (v : Survey) (from to before after : Option (List ℕ)) : Type 0 where
  pub script : Script
  pub summary : Summary
  pub reads : ReadsScript from to (sizes script.config) script.calls.items script.waits.items
  pub is : Summarizes script v summary
  pub wrote : Wrote before after (summary_text v.seed summary)

-- The trace of a row of all endings, through a buffer.
use Rattle.std.proofs.Common.{◌≡◌, ◌≤◌, ℕ, List, Option, Bool, true, false, refl, subst, sym, inr, length}
use Rattle.std.specs.Prelude.{IfErr, IfOk, MatchBool, None, OnOk, Some, Result, Ok, Err, slice_get}
use Rattle.std.specs.Io.KnownBytes.{Appends, Keeps, append_known}
use Rattle.std.proofs.KnownBytes.{Appends-kept}
use Rattle.hp_base.specs.Text.{Sizes, sizes}
use Rattle.hp_command.specs.declared.request.EndingChoice.{EndingChoice}
use Rattle.hp_program.proofs.Answers.{HasFront, Passes}
use Rattle.hp_program.proofs.Buffered.{all_of, holds}
use Rattle.hp_program.specs.Answers.{NotDone, OfScript}
use Rattle.hp_search.specs.Endings.{AreAllRows}
use Rattle.hp_search.specs.declared.endings.EndingRow.{EndingRow}
use Rattle.hp_script_commands.specs.Choosing.{Chooses, ChoosesPartly, HasNoRow, IsRowText, MissesEnding, WritesRow, WritesRowPartly}
use Rattle.hp_script_commands.specs.Tabling.{schedules_of}
use Rattle.hp_text.specs.ScriptLines.{ReadsScript}
use Rattle.hp_text.specs.Streams.{TellsWrites}
use Rattle.hp_text.specs.Traces.{trace_text}
use Rattle.hp_text.specs.Writing.{IsWriteFault, Wrote}
use Rattle.hp_text.specs.declared.fault.ReplayFault.{ReplayFault}
use Rattle.hp_text.specs.declared.script.Script.{Script}

module _ (c : EndingChoice) (from to before mid after : Option (List ℕ)) (left : List ℕ) (kept : Keeps mid (append_known after left)) where
  row_front : (script : Script) (rows : List EndingRow) (row : EndingRow)
      → ReadsScript from to (sizes script.config) script.calls.items script.waits.items → AreAllRows (schedules_of c.bounds script) rows
      → slice_get rows c.run ≡ Some row → Wrote before mid (trace_text (sizes script.config) row.events.items)
      → HasFront (OfScript (IsRowText c)) from to before after
  row_front script rows row reads are is wrote =
      inr (record {
        text = trace_text (sizes script.config) row.events.items;
        is_front = record {
          script = script;
          reads = reads;
          is = record { rows = rows; are = are; row = row; is = is; spelt = refl };
        };
        holds = holds before mid after left (trace_text (sizes script.config) row.events.items) wrote kept;
      })

pub choice_passes : (c : EndingChoice) → Passes (Chooses c) (ChoosesPartly c) (OfScript (IsRowText c))
choice_passes c =
    record {
      kept = λ from to before mid after kept h. record {
        script = h.script;
        rows = h.rows;
        reads = h.reads;
        are = h.are;
        puts = record {
          row = h.puts.row;
          is = h.puts.is;
          wrote = Appends-kept before mid after (trace_text (sizes h.script.config) h.puts.row.events.items) h.puts.wrote kept;
        };
      };
      whole = λ from to before mid after left kept h. row_front c from to before mid after left kept h.script h.rows h.puts.row h.reads h.are
          h.puts.is (all_of before mid (trace_text (sizes h.script.config) h.puts.row.events.items) h.puts.wrote);
      part = λ from to before mid after left kept h. row_front c from to before mid after left kept h.script h.rows h.puts.row h.reads h.are
          h.puts.is h.puts.wrote;
    }

-- the trace of the row at that place was written
module _ (s : Sizes) (rows : List EndingRow) (place : ℕ) (before after : Option (List ℕ)) (row : EndingRow)
    (is : slice_get rows place ≡ Some row) where
  pub writes_row : (written : Result Bool ReplayFault) → OnOk written (Appends before after (trace_text s row.events.items))
      → IfOk written (λ done. done ≡ true)
      → IfOk written (λ done. MatchBool done (WritesRow s rows place before after) ((length rows ≤ place) × Keeps before after))
  writes_row (Err e) wrote done = tt
  writes_row (Ok x) wrote done =
      let it : WritesRow s rows place before after = record { row = row; is = is; wrote = wrote } in
      subst (λ (y : Bool). MatchBool y (WritesRow s rows place before after) ((length rows ≤ place) × Keeps before after)) (sym done) it

  pub writes_front : (written : Result Bool ReplayFault)
      → IfErr written (λ fault. IsWriteFault fault × Wrote before after (trace_text s row.events.items))
      → IfErr written (λ fault. IsWriteFault fault × WritesRowPartly s rows place before after)
  writes_front (Ok x) short = tt
  writes_front (Err fault) (write, wrote) = (write, record { row = row; is = is; wrote = wrote })

-- a script was read, and these are all endings of its schedules
module _ (c : EndingChoice) (from to before after : Option (List ℕ)) (script : Script) (rows : List EndingRow)
    (reads : ReadsScript from to (sizes script.config) script.calls.items script.waits.items)
    (are : AreAllRows (schedules_of c.bounds script) rows) where
  chosen_so : (done : Bool)
      → MatchBool done (WritesRow (sizes script.config) rows c.run before after) ((length rows ≤ c.run) × Keeps before after)
      → MatchBool done (Chooses c from to before after) (MissesEnding c None from to × Keeps before after)
  unfolding HasNoRow
  chosen_so true puts = record { script = script; rows = rows; reads = reads; are = are; puts = puts }
  chosen_so false (few, kept) = (record { script = script; reads = reads; none = (rows, are, few) }, kept)

  pub chooses : (written : Result Bool ReplayFault)
      → IfOk written (λ done. MatchBool done (WritesRow (sizes script.config) rows c.run before after) ((length rows ≤ c.run) × Keeps before after))
      → IfOk written (λ done. MatchBool done (Chooses c from to before after) (MissesEnding c None from to × Keeps before after))
  chooses (Err e) wrote = tt
  chooses (Ok done) wrote = chosen_so done wrote

  pub chooses_short : (written : Result Bool ReplayFault) (old new : ℕ)
      → IfErr written (λ fault. IsWriteFault fault × WritesRowPartly (sizes script.config) rows c.run before after) → TellsWrites written old new
      → IfErr written (λ fault. NotDone (ChoosesPartly c from to before after) fault old new before after)
  chooses_short (Ok done) old new short told = tt
  chooses_short (Err fault) old new (write, puts) told =
      inr (write, record { script = script; rows = rows; reads = reads; are = are; puts = puts }, told)

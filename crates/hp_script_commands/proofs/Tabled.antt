-- A table of endings, through a buffer.
use Rattle.std.proofs.Common.{◌≡◌, ◌<◌, ℕ, List, [], Option, Bool, true, length, refl, subst, sym, inr}
use Rattle.std.specs.Prelude.{◌⊎◌, All, IfErr, IfOk, MatchBool, OnOk, Result, Ok, Err, Some}
use Rattle.std.specs.Io.KnownBytes.{Appends, Keeps, append_known}
use Rattle.std.proofs.KnownBytes.{Appends-kept}
use Rattle.hp_base.specs.Text.{sizes}
use Rattle.hp_command.specs.declared.request.EveryBounds.{EveryBounds}
use Rattle.hp_program.proofs.Answers.{HasFront, Passes}
use Rattle.hp_program.proofs.Buffered.{all_of, holds}
use Rattle.hp_program.specs.Answers.{NotDone, OfScript}
use Rattle.hp_every.specs.Search.{Question}
use Rattle.hp_layers.specs.declared.limits.Limits.{Limits}
use Rattle.hp_search.specs.Endings.{AreAllEndings, AreAllRows, AreTooHeavy, AreTooMany, AreWithin}
use Rattle.hp_search.specs.Searching.{AreLong}
use Rattle.hp_search.specs.declared.endings.EndingRow.{EndingRow}
use Rattle.hp_search.specs.declared.endings.EndingRows.{EndingRows}
use Rattle.hp_search.specs.declared.endings.EndingRows.TheVariants.{Whole, Cut}
use Rattle.hp_script_commands.specs.Tabling.{IsCutShort, IsTableText, Tabulates, TabulatesPartly, schedules_of, table_text}
use Rattle.hp_text.specs.ScriptLines.{ReadsScript}
use Rattle.hp_text.specs.Streams.{TellsWrites}
use Rattle.hp_text.specs.Writing.{IsWriteFault, Wrote}
use Rattle.hp_text.specs.declared.fault.ReplayFault.{ReplayFault}
use Rattle.hp_text.specs.declared.script.Script.{Script}

module _ (b : EveryBounds) (from to before mid after : Option (List ℕ)) (left : List ℕ) (kept : Keeps mid (append_known after left)) where
  table_front : (script : Script) (rows : List EndingRow) → ReadsScript from to (sizes script.config) script.calls.items script.waits.items
      → AreAllRows (schedules_of b script) rows → Wrote before mid (table_text rows) → HasFront (OfScript (IsTableText b)) from to before after
  table_front script rows reads are wrote =
      inr (record {
        text = table_text rows;
        is_front = record { script = script; reads = reads; is = record { rows = rows; are = are; spelt = refl } };
        holds = holds before mid after left (table_text rows) wrote kept;
      })

pub table_passes : (b : EveryBounds) → Passes (Tabulates b) (TabulatesPartly b) (OfScript (IsTableText b))
table_passes b =
    record {
      kept = λ from to before mid after kept h. record {
        script = h.script;
        rows = h.rows;
        reads = h.reads;
        are = h.are;
        wrote = Appends-kept before mid after (table_text h.rows) h.wrote kept;
      };
      whole = λ from to before mid after left kept h. table_front b from to before mid after left kept h.script h.rows h.reads h.are
          (all_of before mid (table_text h.rows) h.wrote);
      part = λ from to before mid after left kept h. table_front b from to before mid after left kept h.script h.rows h.reads h.are h.wrote;
    }

-- what is said of all endings, as it was found
pub whole_rows : (a : Question) (every : EndingRows) (rows : _) → every ≡ Whole rows → AreAllEndings a every → AreAllRows a rows.items
unfolding AreAllEndings
whole_rows a every rows is h = subst (AreAllEndings a) is h

-- and of where it was cut
pub rows_within : (a : Question) (limits : Limits) (every : EndingRows) (rows : _) → every ≡ Whole rows → AreWithin a limits every
    → All (λ row. length row.events.items < limits.turns) rows.items
unfolding AreWithin
rows_within a limits every rows is h = subst (AreWithin a limits) is h

pub cut_within : (a : Question) (limits : Limits) (every : EndingRows) (turns : ℕ) → every ≡ Cut turns → AreWithin a limits every
    → ((turns ≡ limits.turns) × AreLong a turns) ⊎ AreTooMany a limits.states turns ⊎ AreTooHeavy a limits.bytes turns
unfolding AreWithin
cut_within a limits every turns is h = subst (AreWithin a limits) is h

-- a script was read, and these are all endings of its schedules
module _ (b : EveryBounds) (cut : Option ℕ) (from to before after : Option (List ℕ)) (script : Script) (rows : List EndingRow)
    (reads : ReadsScript from to (sizes script.config) script.calls.items script.waits.items) (are : AreAllRows (schedules_of b script) rows) where
  pub tabulates : (written : Result Bool ReplayFault) → OnOk written (Appends before after (table_text rows)) → IfOk written (λ done. done ≡ true)
      → IfOk written (λ done. MatchBool done (Tabulates b from to before after) (IsCutShort b cut from to × Keeps before after))
  tabulates (Err e) wrote done = tt
  tabulates (Ok x) wrote done =
      let it : Tabulates b from to before after = record { script = script; rows = rows; reads = reads; are = are; wrote = wrote } in
      subst (λ (y : Bool). MatchBool y (Tabulates b from to before after) (IsCutShort b cut from to × Keeps before after)) (sym done) it

  pub tabulates_short : (written : Result Bool ReplayFault) (old new : ℕ)
      → IfErr written (λ fault. IsWriteFault fault × Wrote before after (table_text rows)) → TellsWrites written old new
      → IfErr written (λ fault. NotDone (TabulatesPartly b from to before after) fault old new before after)
  tabulates_short (Ok x) old new short told = tt
  tabulates_short (Err fault) old new (write, wrote) told =
      let it : TabulatesPartly b from to before after = record { script = script; rows = rows; reads = reads; are = are; wrote = wrote } in
      inr (write, it, told)

-- What was written of a text where its writing or its flush failed, and of what a text is the trace.
use Rattle.std.proofs.Common.{◌≡◌, ℕ, List, Option, refl, sym, subst}
use Rattle.std.specs.Prelude.{OnOk, OnErr, IfErr, IfOk, Result, Ok, Err, string_bytes}
use Rattle.std.specs.Io.KnownBytes.{Appends, Keeps}
use Rattle.std.proofs.KnownBytes.{Appends-kept}
use Rattle.hp_base.specs.Text.{sizes}
use Rattle.hp_client.specs.Tables.{name_of}
use Rattle.hp_client.specs.declared.table.Workload.{Workload}
use Rattle.hp_client.specs.declared.work.Report.{Report}
use Rattle.hp_text.specs.Traces.{trace_text}
use Rattle.hp_text.specs.Writing.{Wrote}
use Rattle.hp_text.specs.declared.fault.ReplayFault.{ReplayFault}
use Rattle.hp_text.specs.declared.fault.ReplayFault.TheVariants.{Write}
use Rattle.hp_text.specs.declared.trace.Trace.{Trace}
use Rattle.hp_program.proofs.Buffered.{all_of}
use Rattle.hp_pool_commands.specs.Working.{IsTraced, TracesWork}
use Rattle.hp_pool_commands.specs.declared.working.WorkFault.{WorkFault}
use Rattle.hp_pool_commands.specs.declared.working.WorkWords.{WorkWords}

-- a front that was written stays where the bytes are kept
wrote_kept : (a b c : Option (List ℕ)) (text : List ℕ) → Wrote a b text → Keeps b c → Wrote a c text
wrote_kept a b c text w kept =
    record { front = w.front; back = w.back; parts = w.parts; appends = Appends-kept a b c w.front w.appends kept }

-- a front of the line was written, whatever came of it
front_written : (old new : Option (List ℕ)) (line : List ℕ) (written : Result (Unit {0}) ReplayFault)
    → OnOk written (Appends old new line) → IfErr written (λ fault. (fault ≡ Write) × Wrote old new line) → Wrote old new line
front_written old new line (Ok x) wrote failed = all_of old new line wrote
front_written old new line (Err fault) wrote failed = failed.1

-- a fault of the writing is one of writing
kind_kept : (P Q : Type 0) (written : Result (Unit {0}) ReplayFault) → IfErr written (λ fault. (fault ≡ Write) × P) → Q
    → IfErr written (λ fault. (fault ≡ Write) × Q)
kind_kept P Q (Ok x) failed q = tt
kind_kept P Q (Err fault) failed q = (failed.0, q)

-- so is what is answered once it is flushed
kind_told : {E : Type 0} (P Q : Type 0) (written answer : Result (Unit {0}) ReplayFault) (flushed : Result (Unit {0}) E)
    → IfErr written (λ fault. (fault ≡ Write) × P) → Q → OnOk flushed (answer ≡ written) → OnErr flushed (answer ≡ Err Write)
    → IfErr answer (λ fault. (fault ≡ Write) × Q)
kind_told P Q written answer (Err e) failed q is not =
    subst (λ (r : Result (Unit {0}) ReplayFault). IfErr r (λ fault. (fault ≡ Write) × Q)) (sym not) (refl, q)
kind_told P Q written answer (Ok x) failed q is not =
    subst (λ (r : Result (Unit {0}) ReplayFault). IfErr r (λ fault. (fault ≡ Write) × Q)) (sym is)
    (kind_kept P Q written failed q)

-- and a front of the line is there
pub line_cut : {E : Type 0} (start before mid after : Option (List ℕ)) (line : List ℕ)
    (written answer : Result (Unit {0}) ReplayFault) (flushed : Result (Unit {0}) E)
    → start ≡ before → Keeps mid after → OnOk written (Appends start mid line)
    → IfErr written (λ fault. (fault ≡ Write) × Wrote start mid line) → OnOk flushed (answer ≡ written)
    → OnErr flushed (answer ≡ Err Write) → IfErr answer (λ fault. (fault ≡ Write) × Wrote before after line)
line_cut start before mid after line written answer flushed same kept wrote failed is not =
    kind_told (Wrote start mid line) (Wrote before after line) written answer flushed failed
    (subst (λ (b : Option (List ℕ)). Wrote b after line) same
    (wrote_kept start mid after line (front_written start mid line written wrote failed) kept))
    is not

-- the text that is laid out is that of the trace of the workload that was run
pub traces_work : {V : Type 0} (items : V → List ℕ) (words : WorkWords) (workload : Workload) (report : Report) (trace : Trace)
    (result : Result (Report × V) WorkFault) → name_of workload ≡ string_bytes words.name → IsTraced workload report trace
    → IfOk result (λ laid. laid.0 ≡ report) → IfOk result (λ laid. items laid.1 ≡ trace_text (sizes trace.config) trace.events.items)
    → IfOk result (λ laid. TracesWork words laid.0 (items laid.1))
traces_work items words workload report trace (Ok laid) named traced same text = record {
  workload = workload;
  named = named;
  trace = trace;
  traced = subst (λ (r : Report). IsTraced workload r trace) (sym same) traced;
  is = text;
}
traces_work items words workload report trace (Err fault) named traced same text = tt

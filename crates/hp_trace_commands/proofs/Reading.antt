-- A text that is read from memory.
use Rattle.std.proofs.Common.{◌≡◌, ◌++◌, [], ℕ, List, Option, Some, None, sym, subst, ap, ◌∙◌}
use Rattle.std.proofs.lemmas.List.{append-nil}
use Rattle.std.specs.Prelude.{false}
use Rattle.std.specs.Io.KnownBytes.{Consumes, IsAtEnd}
use Rattle.hp_base.specs.Text.{Sizes}
use Rattle.hp_base.specs.declared.event.Event.{Event}
use Rattle.hp_format.specs.Loose.{IsFaultRead, IsLoose, IsRun, IsWrongAt, ReadsLoose, ReadsRun}
use Rattle.hp_format.specs.declared.fault.LooseFault.{LooseFault}
use Rattle.hp_format.specs.declared.fault.LooseFault.TheVariants.{Stream, Line}
use Rattle.hp_text.specs.Traces.{trace_text}
use Rattle.hp_trace_commands.specs.Strict.{IsFaultIn, IsTraceOf, is_script}

-- what was consumed up to the end is the whole text
whole : (text : List ℕ) (left : Option (List ℕ)) (read : List ℕ) → Consumes (Some text) left read → IsAtEnd left → read ≡ text
whole text None read consumed end = absurd consumed
whole text (Some rest) read consumed end = sym (consumed ∙ (ap (λ r. read ++ r) end ∙ append-nil read))

pub trace_of : (text strict : List ℕ) (left : Option (List ℕ)) (sizes : Sizes) (events : List Event)
    → ReadsLoose (Some text) left sizes events → ReadsRun (Some text) left sizes events → strict ≡ trace_text sizes events
    → IsTraceOf text strict
trace_of text strict left sizes events loose run is = record {
  sizes = sizes;
  events = events;
  loose = subst (λ (t : List ℕ). IsLoose t sizes events) (whole text left loose.text loose.reads loose.all) loose.loose;
  run = subst (λ (t : List ℕ). IsRun t sizes events) (whole text left run.text run.reads run.all) run.run;
  is = is;
}

pub fault_in : (text : List ℕ) (left : Option (List ℕ)) (fault : LooseFault) → is_script text ≡ false → IsFaultRead (Some text) left fault
    → IsFaultIn text fault
fault_in text left (Stream fault) plain read = tt
fault_in text left (Line number why) plain read =
    (plain, subst (λ (t : List ℕ). IsWrongAt t number why) (whole text left read.text read.reads read.all) read.wrong)

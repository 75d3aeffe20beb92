-- What is answered where a text in the loose form is written as a strict one.
use Rattle.std.proofs.Common.{◌≡◌, ℕ, List, Option, Some, sym, subst, inl, inr, ◌⊎◌}
use Rattle.std.specs.Prelude.{OnOk, OnErr, IfErr, Result, Ok, Err}
use Rattle.std.specs.Io.KnownBytes.{Keeps}
use Rattle.std.proofs.KnownBytes.{Appends-kept, Keeps-trans}
use Rattle.hp_format.specs.declared.fault.LooseFault.{LooseFault}
use Rattle.hp_format.specs.declared.fault.LooseFault.TheVariants.{Stream, Line}
use Rattle.hp_program.proofs.Buffered.{all_of}
use Rattle.hp_text.specs.Writing.{IsWriteFault}
use Rattle.hp_text.specs.declared.fault.ReplayFault.{ReplayFault}
use Rattle.hp_text.specs.declared.fault.ReplayFault.TheVariants.{Read, Write}
use Rattle.hp_trace_commands.specs.Formatting.{AnsweredFormat, Formats, FormatsPartly, NotFormatted, TellsFormat}

-- what was written stays where the bytes are kept
module _ (from to before mid after : Option (List ℕ)) (kept : Keeps mid after) where
  whole_kept : Formats from to before mid → Formats from to before after
  whole_kept h = record {
    strict = h.strict;
    reads = h.reads;
    wrote = Appends-kept before mid after h.strict h.wrote kept;
  }

  part_of : Formats from to before after → FormatsPartly from to before after
  part_of h = record {
    strict = h.strict;
    reads = h.reads;
    wrote = all_of before after h.strict h.wrote;
  }

  part_kept : FormatsPartly from to before mid → FormatsPartly from to before after
  part_kept h = record {
    strict = h.strict;
    reads = h.reads;
    wrote = record {
      front = h.wrote.front;
      back = h.wrote.back;
      parts = h.wrote.parts;
      appends = Appends-kept before mid after h.wrote.front h.wrote.appends kept;
    };
  }

  -- nothing was written, or a part
  some_kept : (fault : LooseFault) → NotFormatted fault from to before mid → Keeps before after ⊎ FormatsPartly from to before after
  some_kept (Stream fault) (inl (read, none)) = inl (Keeps-trans before mid after none kept)
  some_kept (Stream fault) (inr (is, part)) = inr (part_kept part)
  some_kept (Line number why) (wrong, none) = inl (Keeps-trans before mid after none kept)

  -- a fault of a stream is one of reading, of writing, or of memory
  of_stream : (fault : ReplayFault) → NotFormatted (Stream fault) from to before mid → (fault ≡ Read) ⊎ IsWriteFault fault
  of_stream fault (inl (inl is, none)) = inl is
  of_stream fault (inl (inr is, none)) = inr (subst IsWriteFault (sym is) tt)
  of_stream fault (inr (is, part)) = inr is

  held : (formatted : Result (Unit {0}) LooseFault) → OnOk formatted (Formats from to before mid)
      → IfErr formatted (λ fault. NotFormatted fault from to before mid) → Keeps before after ⊎ FormatsPartly from to before after
  held (Ok x) done stopped = inr (part_of (whole_kept done))
  held (Err fault) done stopped = some_kept fault stopped

  answered : {E : Type 0} (old new : ℕ) (formatted answer : Result (Unit {0}) LooseFault) (flushed : Result (Unit {0}) E)
      → OnOk formatted (Formats from to before mid)
      → IfErr formatted (λ fault. NotFormatted fault from to before mid) → TellsFormat formatted old new
      → OnOk flushed (answer ≡ formatted) → OnErr flushed (answer ≡ Err (Stream Write))
      → AnsweredFormat answer from to old new before (Some after)
  answered old new formatted answer (Err e) done stopped reads is not =
      subst (λ (r : Result (Unit {0}) LooseFault). AnsweredFormat r from to old new before (Some after)) (sym not)
      (tt, inr tt, held formatted done stopped)
  answered old new (Ok y) answer (Ok x) done stopped reads is not =
      subst (λ (r : Result (Unit {0}) LooseFault). AnsweredFormat r from to old new before (Some after)) (sym is)
      (reads, whole_kept done)
  answered old new (Err (Stream kind)) answer (Ok x) done stopped reads is not =
      subst (λ (r : Result (Unit {0}) LooseFault). AnsweredFormat r from to old new before (Some after)) (sym is)
      (reads, of_stream kind stopped, some_kept (Stream kind) stopped)
  answered old new (Err (Line number why)) answer (Ok x) done stopped reads is not =
      subst (λ (r : Result (Unit {0}) LooseFault). AnsweredFormat r from to old new before (Some after)) (sym is)
      (reads, stopped.0, Keeps-trans before mid after stopped.1 kept)

pub answered_format : {E : Type 0} (from to : Option (List ℕ)) (old new : ℕ) (start before mid after : Option (List ℕ))
    (formatted answer : Result (Unit {0}) LooseFault) (flushed : Result (Unit {0}) E) → start ≡ before
    → OnOk formatted (Formats from to start mid) → IfErr formatted (λ fault. NotFormatted fault from to start mid)
    → TellsFormat formatted old new → Keeps mid after → OnOk flushed (answer ≡ formatted) → OnErr flushed (answer ≡ Err (Stream Write))
    → AnsweredFormat answer from to old new before (Some after)
answered_format from to old new start before mid after formatted answer flushed same done stopped reads kept is not =
    subst (λ (b : Option (List ℕ)). AnsweredFormat answer from to old new b (Some after)) same
    (answered from to start mid after kept old new formatted answer flushed done stopped reads is not)

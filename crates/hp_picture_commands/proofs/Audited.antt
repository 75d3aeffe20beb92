-- What is answered where a picture is audited.
use Rattle.std.proofs.Common.{◌≡◌, ℕ, Bool, List, Option, Some, sym, subst, inl, inr, ◌⊎◌}
use Rattle.std.specs.Prelude.{OnOk, OnErr, IfOk, IfErr, Result, Ok, Err}
use Rattle.std.specs.Io.KnownBytes.{Keeps}
use Rattle.std.proofs.KnownBytes.{Appends-kept, Keeps-trans}
use Rattle.hp_judge.specs.Text.{findings_text}
use Rattle.hp_picture.specs.declared.fault.PictureFault.{PictureFault}
use Rattle.hp_picture.specs.declared.fault.PictureFault.TheVariants.{Stream, Line}
use Rattle.hp_program.proofs.Buffered.{all_of}
use Rattle.hp_text.specs.Writing.{IsWriteFault}
use Rattle.hp_text.specs.declared.fault.ReplayFault.{ReplayFault}
use Rattle.hp_text.specs.declared.fault.ReplayFault.TheVariants.{Read, Write}
use Rattle.hp_picture_commands.specs.Auditing.{AnsweredAudit, Audits, AuditsPartly, NotAudited, TellsAudit}

-- what was written stays where the bytes are kept
module _ (from to before mid after : Option (List ℕ)) (kept : Keeps mid after) where
  whole_kept : (right : Bool) → Audits right from to before mid → Audits right from to before after
  whole_kept right h = record {
    counts = h.counts;
    places = h.places;
    reads = h.reads;
    found = h.found;
    are = h.are;
    wrote = Appends-kept before mid after (findings_text h.found) h.wrote kept;
    says = h.says;
  }

  part_of : (right : Bool) → Audits right from to before after → AuditsPartly from to before after
  part_of right h = record {
    counts = h.counts;
    places = h.places;
    reads = h.reads;
    found = h.found;
    are = h.are;
    wrote = all_of before after (findings_text h.found) h.wrote;
  }

  part_kept : AuditsPartly from to before mid → AuditsPartly from to before after
  part_kept h = record {
    counts = h.counts;
    places = h.places;
    reads = h.reads;
    found = h.found;
    are = h.are;
    wrote = record {
      front = h.wrote.front;
      back = h.wrote.back;
      parts = h.wrote.parts;
      appends = Appends-kept before mid after h.wrote.front h.wrote.appends kept;
    };
  }

  -- nothing was written, or a part
  some_kept : (fault : PictureFault) → NotAudited fault from to before mid → Keeps before after ⊎ AuditsPartly from to before after
  some_kept (Stream fault) (inl (read, none)) = inl (Keeps-trans before mid after none kept)
  some_kept (Stream fault) (inr (is, part)) = inr (part_kept part)
  some_kept (Line number) (read, none) = inl (Keeps-trans before mid after none kept)

  -- a fault of a stream is one of reading, of writing, or of memory
  of_stream : (fault : ReplayFault) → NotAudited (Stream fault) from to before mid → (fault ≡ Read) ⊎ IsWriteFault fault
  of_stream fault (inl (inl is, none)) = inl is
  of_stream fault (inl (inr is, none)) = inr (subst IsWriteFault (sym is) tt)
  of_stream fault (inr (is, part)) = inr is

  held : (audited : Result Bool PictureFault) → IfOk audited (λ right. Audits right from to before mid)
      → IfErr audited (λ fault. NotAudited fault from to before mid) → Keeps before after ⊎ AuditsPartly from to before after
  held (Ok right) done stopped = inr (part_of right (whole_kept right done))
  held (Err fault) done stopped = some_kept fault stopped

  answered : {E : Type 0} (old new : ℕ) (audited answer : Result Bool PictureFault) (flushed : Result (Unit {0}) E)
      → IfOk audited (λ right. Audits right from to before mid)
      → IfErr audited (λ fault. NotAudited fault from to before mid) → TellsAudit audited old new
      → OnOk flushed (answer ≡ audited) → OnErr flushed (answer ≡ Err (Stream Write))
      → AnsweredAudit answer from to old new before (Some after)
  answered old new audited answer (Err e) done stopped reads is not =
      subst (λ (r : Result Bool PictureFault). AnsweredAudit r from to old new before (Some after)) (sym not)
      (tt, inr tt, held audited done stopped)
  answered old new (Ok right) answer (Ok x) done stopped reads is not =
      subst (λ (r : Result Bool PictureFault). AnsweredAudit r from to old new before (Some after)) (sym is)
      (reads, whole_kept right done)
  answered old new (Err (Stream kind)) answer (Ok x) done stopped reads is not =
      subst (λ (r : Result Bool PictureFault). AnsweredAudit r from to old new before (Some after)) (sym is)
      (reads, of_stream kind stopped, some_kept (Stream kind) stopped)
  answered old new (Err (Line number)) answer (Ok x) done stopped reads is not =
      subst (λ (r : Result Bool PictureFault). AnsweredAudit r from to old new before (Some after)) (sym is)
      (reads, stopped.0, Keeps-trans before mid after stopped.1 kept)

pub answered_audit : {E : Type 0} (from to : Option (List ℕ)) (old new : ℕ) (start before mid after : Option (List ℕ))
    (audited answer : Result Bool PictureFault) (flushed : Result (Unit {0}) E) → start ≡ before
    → IfOk audited (λ right. Audits right from to start mid) → IfErr audited (λ fault. NotAudited fault from to start mid)
    → TellsAudit audited old new → Keeps mid after → OnOk flushed (answer ≡ audited) → OnErr flushed (answer ≡ Err (Stream Write))
    → AnsweredAudit answer from to old new before (Some after)
answered_audit from to old new start before mid after audited answer flushed same done stopped reads kept is not =
    subst (λ (b : Option (List ℕ)). AnsweredAudit answer from to old new b (Some after)) same
    (answered from to start mid after kept old new audited answer flushed done stopped reads is not)

-- A replay to a buffered output: what reaches the output.
use Rattle.std.proofs.Common.{◌≡◌, ℕ, List, [], ◌++◌, Option, Some, None, false, refl, sym, ap, subst, ◌∙◌, append_assoc}
use Rattle.std.specs.Prelude.{OnOk, OnErr, IfErr, Result, Ok, Err, nat_lt}
use Rattle.std.specs.Io.Buffered.{writer_buffer, writer_contents, writer_inner}
use Rattle.std.specs.Io.KnownBytes.{Appends, Keeps, append_known}
use Rattle.std.specs.declared.io.buffered.BufWriter.{BufWriter}
use Rattle.std.proofs.KnownBytes.{Appends-kept, Keeps-trans}
use Rattle.std.proofs.lemmas.List.{append-nil}
use Rattle.hp_text.specs.declared.fault.ReplayFault.{ReplayFault}
use Rattle.hp_text.specs.declared.fault.ReplayFault.TheVariants.{BadLine, BadHeader, Read, Write, Memory}
use Rattle.hp_replay.specs.Outcomes.{outcomes_text, state_text}
use Rattle.hp_replay.specs.Replaying.{Replayed, Stopped, StoppedEarly}
use Rattle.hp_replay.specs.Replaying.{AllRunWrites, RunWrites, nothing, so_far, to_the_end, no_line, each_line}
use Rattle.hp_text.specs.Streams.{TellsReads, TellsWrites}
use Rattle.hp_text.specs.Traces.{trace_text}
use Rattle.hp_text.specs.Writing.{Wrote}
use Rattle.hp_program.specs.Endings.{HoldsFront, CutShort, DidReplay}
use Rattle.hp_program.specs.Output.{Flushed}

-- an empty buffer adds nothing
pub unbuffered : (known : Option (List ℕ)) → append_known known [] ≡ known
unbuffered None = refl
unbuffered (Some xs) = ap Some (append-nil xs)

pub opens : {W A : Type 0} (contents : W → Option (List ℕ)) (now new : BufWriter W A) (out : W) → now ≡ new
    → writer_inner new ≡ out → writer_buffer new ≡ [] → writer_contents contents now ≡ contents out
opens contents now new out same inner empty =
    ap (λ x. writer_contents contents x) same
    ∙ ap (λ (x : List ℕ). append_known (contents (writer_inner new)) x) empty
    ∙ unbuffered (contents (writer_inner new)) ∙ ap contents inner

-- all of a text was written
pub all_of : (old new : Option (List ℕ)) (text : List ℕ) → Appends old new text → Wrote old new text
all_of old new text wrote = record { front = text; back = []; parts = sym (append-nil text); appends = wrote }

pub none_of : (old new : Option (List ℕ)) → Keeps old new → Wrote old new []
none_of None new kept = record { front = []; back = []; parts = refl; appends = tt }
none_of (Some xs) None kept = absurd kept
none_of (Some xs) (Some ys) kept = record { front = []; back = []; parts = refl; appends = kept ∙ sym (append-nil xs) }

-- whatever a replay answers, a front of what a run of the lines read writes was written
early_ok : (from to before after : Option (List ℕ)) → Replayed from to before after → StoppedEarly from to before after
early_ok from to before after r =
    record {
      bytes = trace_text r.sizes r.events;
      text = outcomes_text r.outcomes ++ state_text r.core;
      reads = r.reads;
      run =
          to_the_end (outcomes_text r.outcomes) r.core
          (record {
            sizes = r.sizes;
            events = r.events;
            outcomes = r.outcomes;
            trace = r.trace;
            parts = sym (append-nil (trace_text r.sizes r.events));
            run = r.run;
            text_is = refl;
          }) r.all refl;
      wrote = all_of before after (outcomes_text r.outcomes ++ state_text r.core) r.wrote;
    }

some_lines : (to : Option (List ℕ)) (bytes text : List ℕ) → AllRunWrites bytes text → RunWrites to bytes text
some_lines to bytes text (no_line none empty) = nothing empty
some_lines to bytes text (each_line rest core run none) = so_far rest core run

early_err : (fault : ReplayFault) (from to before after : Option (List ℕ)) → Stopped fault from to before after
    → StoppedEarly from to before after
early_err BadHeader from to before after s =
    record { bytes = s.bytes; text = []; reads = s.reads; run = nothing refl; wrote = none_of before after s.wrote }
early_err (BadLine n) from to before after s =
    record {
      bytes = trace_text s.sizes s.events ++ s.rest;
      text = outcomes_text s.outcomes;
      reads = s.reads;
      run =
          so_far s.rest s.core
          (record {
            sizes = s.sizes;
            events = s.events;
            outcomes = s.outcomes;
            trace = s.trace;
            parts = refl;
            run = s.run;
            text_is = refl;
          });
      wrote = all_of before after (outcomes_text s.outcomes) s.wrote;
    }
early_err Read from to before after s =
    record {
      bytes = s.bytes;
      text = s.text;
      reads = s.reads;
      run = some_lines to s.bytes s.text s.run;
      wrote = all_of before after s.text s.wrote;
    }
early_err Write from to before after s = s
early_err Memory from to before after s = s

-- what was left in the buffer is cut off
pub holds : (before mid after : Option (List ℕ)) (left text : List ℕ) → Wrote before mid text → Keeps mid (append_known after left)
    → HoldsFront before after text
holds None mid after left text w kept = tt
holds (Some xs) None after left text w kept = absurd w.appends
holds (Some xs) (Some ys) None left text w kept = absurd kept
holds (Some xs) (Some ys) (Some zs) left text w kept = (
  left ++ w.back,
  ap (λ (x : List ℕ). xs ++ x) w.parts ∙ sym (append_assoc xs w.front w.back)
      ∙ ap (λ (x : List ℕ). x ++ w.back) (sym w.appends ∙ sym kept) ∙ append_assoc zs left w.back,
)

cut : (from to before mid after : Option (List ℕ)) (left : List ℕ) → StoppedEarly from to before mid
    → Keeps mid (append_known after left) → CutShort from to before after
cut from to before mid after left s kept =
    record { bytes = s.bytes; text = s.text; reads = s.reads; run = s.run; holds = holds before mid after left s.text s.wrote kept }

-- all of the buffer was written
flushed_ok : (from to : Option (List ℕ)) (old new : ℕ) (before mid after : Option (List ℕ)) (r : Result (Unit {0}) ReplayFault)
    → OnOk r (Replayed from to before mid) → IfErr r (λ fault. Stopped fault from to before mid) → TellsReads r old new
    → Keeps mid after → Keeps mid (append_known after []) → DidReplay r from to old new before (Some after)
flushed_ok from to old new before mid after (Ok x) ok err reads kept same = (
  reads,
  record {
    sizes = ok.sizes;
    events = ok.events;
    outcomes = ok.outcomes;
    core = ok.core;
    trace = ok.trace;
    reads = ok.reads;
    all = ok.all;
    run = ok.run;
    wrote = Appends-kept before mid after (outcomes_text ok.outcomes ++ state_text ok.core) ok.wrote kept;
  },
)
flushed_ok from to old new before mid after (Err BadHeader) ok err reads kept same = (
  reads,
  record { bytes = err.bytes; reads = err.reads; bad = err.bad; wrote = Keeps-trans before mid after err.wrote kept },
)
flushed_ok from to old new before mid after (Err (BadLine n)) ok err reads kept same = (
  reads,
  record {
    sizes = err.sizes;
    events = err.events;
    rest = err.rest;
    outcomes = err.outcomes;
    core = err.core;
    trace = err.trace;
    reads = err.reads;
    number = err.number;
    bad = err.bad;
    run = err.run;
    wrote = Appends-kept before mid after (outcomes_text err.outcomes) err.wrote kept;
  },
)
flushed_ok from to old new before mid after (Err Read) ok err reads kept same = (
  reads,
  record {
    bytes = err.bytes;
    text = err.text;
    reads = err.reads;
    run = err.run;
    wrote = Appends-kept before mid after err.text err.wrote kept;
  },
)
flushed_ok from to old new before mid after (Err Write) ok err reads kept same = (tt, cut from to before mid after [] err same)
flushed_ok from to old new before mid after (Err Memory) ok err reads kept same = (
  reads,
  record {
    bytes = err.bytes;
    text = err.text;
    reads = err.reads;
    run = err.run;
    wrote =
        record {
          front = err.wrote.front;
          back = err.wrote.back;
          parts = err.wrote.parts;
          appends = Appends-kept before mid after err.wrote.front err.wrote.appends kept;
        };
  },
)

early : (from to before after : Option (List ℕ)) (r : Result (Unit {0}) ReplayFault) → OnOk r (Replayed from to before after)
    → IfErr r (λ fault. Stopped fault from to before after) → StoppedEarly from to before after
early from to before after (Ok x) ok err = early_ok from to before after ok
early from to before after (Err fault) ok err = early_err fault from to before after err

-- all of it was, unless a write failed
unless_failed : (from to : Option (List ℕ)) (old new failures : ℕ) (before mid after : Option (List ℕ)) (left : List ℕ)
    (r : Result (Unit {0}) ReplayFault) → OnOk r (Replayed from to before mid) → IfErr r (λ fault. Stopped fault from to before mid)
    → TellsReads r old new → TellsWrites r 0 failures → Keeps mid (append_known after left) → (nat_lt 0 failures ≡ false → left ≡ [])
    → DidReplay r from to old new before (Some after)
unless_failed from to old new failures before mid after left r ok err reads writes kept empty =
    by_answer r ok err reads writes
  where
    emptied : (s : Result (Unit {0}) ReplayFault)
        → OnOk s (Replayed from to before mid) → IfErr s (λ fault. Stopped fault from to before mid)
        → TellsReads s old new → failures ≡ 0 → DidReplay s from to old new before (Some after)
    emptied s ok err reads good =
        let whole : Keeps mid (append_known after []) =
        subst (λ (x : List ℕ). Keeps mid (append_known after x)) (empty (ap (λ (n : ℕ). nat_lt 0 n) good)) kept in
        flushed_ok from to old new before mid after s ok err reads
        (subst (λ (x : Option (List ℕ)). Keeps mid x) (unbuffered after) whole) whole

    by_answer : (s : Result (Unit {0}) ReplayFault)
        → OnOk s (Replayed from to before mid) → IfErr s (λ fault. Stopped fault from to before mid)
        → TellsReads s old new → TellsWrites s 0 failures → DidReplay s from to old new before (Some after)
    by_answer (Ok x) ok err reads writes = emptied (Ok x) ok err reads writes
    by_answer (Err BadHeader) ok err reads writes = emptied (Err BadHeader) ok err reads writes
    by_answer (Err (BadLine n)) ok err reads writes = emptied (Err (BadLine n)) ok err reads writes
    by_answer (Err Read) ok err reads writes = emptied (Err Read) ok err reads writes
    by_answer (Err Write) ok err reads writes = (tt, cut from to before mid after left err kept)
    by_answer (Err Memory) ok err reads writes = emptied (Err Memory) ok err reads writes

-- and where the flush may have failed
pub did_replay : {E : Type 0} (from to : Option (List ℕ)) (old new failures : ℕ) (start before mid after : Option (List ℕ))
    (replayed : Result (Unit {0}) ReplayFault) (flushed : Result (Unit {0}) E) (answer : Result (Unit {0}) ReplayFault)
    → start ≡ before → OnOk replayed (Replayed from to start mid) → IfErr replayed (λ fault. Stopped fault from to start mid)
    → TellsReads replayed old new → TellsWrites replayed 0 failures → Flushed (nat_lt 0 failures) flushed mid after
    → OnOk flushed (answer ≡ replayed) → OnErr flushed (answer ≡ Err Write)
    → DidReplay answer from to old new before (Some after)
did_replay from to old new failures start before mid after replayed (Ok x) answer same ok err reads writes f is not =
    subst (λ (r : Result (Unit {0}) ReplayFault). DidReplay r from to old new before (Some after)) (sym is)
    (subst (λ (x : Option (List ℕ)). DidReplay replayed from to old new x (Some after)) same
    (unless_failed from to old new failures start mid after f.left replayed ok err reads writes f.kept f.all))
did_replay from to old new failures start before mid after replayed (Err e) answer same ok err reads writes f is not =
    subst (λ (r : Result (Unit {0}) ReplayFault). DidReplay r from to old new before (Some after)) (sym not) (
      tt,
      subst (λ (x : Option (List ℕ)). CutShort from to x after) same
          (cut from to start mid after f.left (early from to start mid replayed ok err) f.kept),
    )

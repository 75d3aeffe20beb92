-- A replay as a whole: what was read is a trace or has a fault, and what was written is its run.
use Rattle.std.proofs.Common.{◌≡◌, ℕ, suc, ◌+◌, ◌<◌, List, [], ◌∷◌, ◌++◌, length, Option, Some, None, refl, sym, ap}
use Rattle.std.proofs.Common.{subst, ◌∙◌, length-append, arith, inl, inr, ◌⊎◌}
use Rattle.std.specs.Prelude.{map, IfSome, IfErr, OnOk, Result, Ok, Err}
use Rattle.std.specs.Io.KnownBytes.{Appends, Consumes, Keeps, IsAtEnd}
use Rattle.std.proofs.KnownBytes.{Appends-nil, Appends-trans, Consumes-nil, Consumes-trans, Consumes-kept}
use Rattle.std.proofs.lemmas.List.{append-nil}
use Rattle.hp_base.specs.Text.{Sizes}
use Rattle.hp_base.specs.declared.event.Event.{Event}
use Rattle.hp_machine.specs.declared.outcome.Outcome.{Outcome}
use Rattle.hp_core.specs.State.{CoreState}
use Rattle.hp_text.specs.declared.fault.ReplayFault.{ReplayFault}
use Rattle.hp_text.specs.declared.fault.ReplayFault.TheVariants.{BadLine, BadHeader, Read, Write, Memory}
use Rattle.hp_text.specs.Lines.{FeedState, opening_feed, Line, header, event, fault_at, feed_after, lines_after, end_of}
use Rattle.hp_text.specs.Traces.{IsTrace, HasNoEnd, IsLineFault, trace_text}
use Rattle.hp_replay.specs.Outcomes.{Run, RunOf, outcomes_text, outcome_line, state_text}
use Rattle.hp_text.specs.Writing.{Wrote, IsWriteFault}
use Rattle.hp_replay.specs.Running.{LinesRun, PieceRan, PieceRanPartly, PieceStopped, IsOpened}
use Rattle.hp_replay.specs.Replaying.{Replayed, StoppedEarly, StoppedAtRead, RunWrites, nothing, so_far, to_the_end, AllRunWrites}
use Rattle.hp_replay.specs.Replaying.{no_line, each_line, Stopped}
use Rattle.hp_text.proofs.Writes.{Wrote-behind, Wrote-more}
use Rattle.hp_text.proofs.Bytes.{IsHeld, room}
use Rattle.hp_text.proofs.BadLines.{NoLine, stops, cut}
use Rattle.hp_replay.proofs.Running.{PieceRan-append, PieceRanPartly-behind}
use Rattle.hp_text.proofs.Whole.{opening_is, holds, taken, TraceLines, TakenTrace}
use Rattle.hp_text.proofs.LastLines.{for_some, good, with_error, err_is, err_ok, ok_err, end_cases, cut_at_end}
use Rattle.hp_text.proofs.Fronts.{Front, unbegun, begun, front_of, no_header, bad_rest}

-- ---- the run of a trace

-- the outcomes of lines that are events
record EventsRan (old : CoreState) (events : List Event) (core : Option CoreState) (text : List ℕ) : Type 0 where
  pub new : CoreState
  pub outcomes : List Outcome
  pub is : core ≡ Some new
  pub run : Run old events outcomes new
  pub text_is : text ≡ outcomes_text outcomes

events_ran : (old : CoreState) (events : List Event) (core : Option CoreState) (text : List ℕ)
    → LinesRun (Some old) (map event events) core text → EventsRan old events core text
events_ran old [] core text runs = record { new = old; outcomes = []; is = runs.0; run = refl; text_is = runs.1 }
events_ran old (e ∷ events) core text (None, first, others, one, more, parts) = absurd one
events_ran old (e ∷ events) core text (Some mid, first, others, (outcome, row, line), more, parts) =
    let later = events_ran mid events core others more in
    record {
      new = later.new;
      outcomes = outcome ∷ later.outcomes;
      is = later.is;
      run = (mid, row, later.run);
      text_is = parts ∙ ap (λ (x : List ℕ). x ++ others) line ∙ ap (λ (x : List ℕ). outcome_line outcome ++ x) later.text_is;
    }

-- and behind a header
pub record TraceRan (s : Sizes) (events : List Event) (core : Option CoreState) (text : List ℕ) : Type 0 where
  pub new : CoreState
  pub outcomes : List Outcome
  pub is : core ≡ Some new
  pub run : RunOf s events outcomes new
  pub text_is : text ≡ outcomes_text outcomes

header_ran : (s : Sizes) (events : List Event) (core : Option CoreState) (text : List ℕ)
    → LinesRun None (header s ∷ map event events) core text → TraceRan s events core text
header_ran s events core text (None, first, others, one, more, parts) = absurd one
header_ran s events core text (Some mid, first, others, (config, is, opening, none), more, parts) =
    let later = events_ran mid events core others more in
    record {
      new = later.new;
      outcomes = later.outcomes;
      is = later.is;
      run = record { config = config; sizes_are = is; first = mid; opening = opening; run = later.run };
      text_is = parts ∙ ap (λ (x : List ℕ). x ++ others) none ∙ later.text_is;
    }

trace_ran : (lines : List Line) (t : TraceLines lines) (core : Option CoreState) (text : List ℕ)
    → LinesRun None lines core text → TraceRan t.sizes t.events core text
trace_ran lines t core text runs = header_ran t.sizes t.events core text (subst (λ (x : List Line). LinesRun None x core text) t.is runs)

no_lines_ran : (lines : List Line) (core : Option CoreState) (text : List ℕ) → length lines ≡ 0 → LinesRun None lines core text → text ≡ []
no_lines_ran [] core text none runs = runs.1
no_lines_ran (l ∷ lines) core text none runs = absurd (omega arith)

-- what ran of the bytes before some point: nothing yet, or the run of a trace
pub data Ran (front back text : List ℕ) (core : Option CoreState) : Type 0 where
  before : (feed_after opening_feed front).lines ≡ 0 → text ≡ [] → (feed_after opening_feed front).rest ≡ front → Ran front back text core
  behind : (t : TakenTrace front (lines_after opening_feed front) (feed_after opening_feed front).rest)
      → (feed_after opening_feed front).lines ≡ length t.trace.events + 1
      → front ++ back ≡ trace_text t.trace.sizes t.trace.events ++ ((feed_after opening_feed front).rest ++ back)
      → TraceRan t.trace.sizes t.trace.events core text → Ran front back text core

ran : (front back text : List ℕ) (core : Option CoreState) → (feed_after opening_feed front).fault ≡ None
    → LinesRun None (lines_after opening_feed front) core text → Ran front back text core
ran front back text core ok runs = by (front_of front back ok)
  where
    by : Front front back → Ran front back text core
    by (unbegun none is) =
        let lines = (taken front ok).lines in
        let no_lines : length (lines_after opening_feed front) ≡ 0 = omega arith in
        before none (no_lines_ran (lines_after opening_feed front) core text no_lines runs) is
    by (begun t count parts) = behind t count parts (trace_ran (lines_after opening_feed front) t.trace core text runs)

-- ---- where a replay stops

Keeps-from : (a b : Option (List ℕ)) → Appends a b [] → Keeps a b
Keeps-from None b e = tt
Keeps-from (Some a) None e = absurd e
Keeps-from (Some a) (Some b) e = e ∙ append-nil a

-- no line stands behind those that ran
line_stopped : (from to o o' : Option (List ℕ)) (front back text : List ℕ) (core : Option CoreState)
    → Consumes from to (front ++ back) → (feed_after opening_feed front).fault ≡ None
    → LinesRun None (lines_after opening_feed front) core text → Appends o o' text
    → (0 < (feed_after opening_feed front).lines → 0 < length ((feed_after opening_feed front).rest ++ back))
    → IfSome to (λ left. NoLine (feed_after opening_feed front).lines
    ((feed_after opening_feed front).rest ++ (back ++ left))) → Stopped (fault_at (feed_after opening_feed front).lines) from to o o'
line_stopped from to o o' front back text core reads ok runs wrote some bad = by (ran front back text core ok runs)
  where
    by : Ran front back text core → Stopped (fault_at (feed_after opening_feed front).lines) from to o o'
    by (before none empty is) =
        subst (λ (k : ℕ). Stopped (fault_at k) from to o o') (sym none)
        (record {
          bytes = front ++ back;
          reads = reads;
          bad = no_header front back (feed_after opening_feed front).rest (feed_after opening_feed front).lines to none is bad;
          wrote = Keeps-from o o' (subst (λ (x : List ℕ). Appends o o' x) empty wrote);
        })
    by (behind t count parts run) =
        let add : (feed_after opening_feed front).lines ≡ suc (length t.trace.events) = omega arith in
        subst (λ (k : ℕ). Stopped (fault_at k) from to o o') (sym add)
        (record {
          sizes = t.trace.sizes;
          events = t.trace.events;
          rest = (feed_after opening_feed front).rest ++ back;
          outcomes = run.outcomes;
          core = run.new;
          trace = t.trace.trace;
          reads = subst (λ (x : List ℕ). Consumes from to x) parts reads;
          number = refl;
          bad =
              bad_rest (feed_after opening_feed front).lines (length t.trace.events)
              (feed_after opening_feed front).rest back to count (some (omega arith)) bad;
          run = run.run;
          wrote = subst (λ (x : List ℕ). Appends o o' x) run.text_is wrote;
        })

early : (fault : ReplayFault) (from to o o' : Option (List ℕ)) → IsWriteFault fault → StoppedEarly from to o o' → Stopped fault from to o o'
early BadHeader from to o o' is stopped = absurd is
early (BadLine n) from to o o' is stopped = absurd is
early Read from to o o' is stopped = absurd is
early Write from to o o' is stopped = stopped
early Memory from to o o' is stopped = stopped

-- ---- between two reads

pub record Going (from to : Option (List ℕ)) (h : FeedState) (core : Option CoreState) (o o' : Option (List ℕ)) : Type 0 where
  pub bytes : List ℕ
  pub reads : Consumes from to bytes
  pub piece : PieceRan opening_feed bytes h None core o o'
  pub no_fault : h.fault ≡ None
  pub opened : IsOpened h core

pub begins : (from o : Option (List ℕ)) → Going from from opening_feed None o o
unfolding feed_after lines_after
begins from o =
    record {
      bytes = [];
      reads = Consumes-nil from;
      piece = record { text = []; taken = refl; runs = (refl, refl); wrote = Appends-nil o };
      no_fault = refl;
      opened = λ (some : 0 < 0). absurd (omega arith);
    }

pub goes_on : (from mid to : Option (List ℕ)) (h h' : FeedState) (core core' : Option CoreState)
    (o o' o'' : Option (List ℕ)) (piece : List ℕ) → Going from mid h core o o' → Consumes mid to piece
    → PieceRan h piece h' core core' o' o'' → h'.fault ≡ None → IsOpened h' core' → Going from to h' core' o o''
goes_on from mid to h h' core core' o o' o'' piece g read more ok opened =
    record {
      bytes = g.bytes ++ piece;
      reads = Consumes-trans from mid to g.bytes piece g.reads read;
      piece = PieceRan-append opening_feed h h' g.bytes piece None core core' o o' o'' g.piece more;
      no_fault = ok;
      opened = opened;
    }

-- each byte takes room
pub smaller : (from mid : Option (List ℕ)) (h h' : FeedState) (core core' : Option CoreState) (o o' o'' : Option (List ℕ))
    (piece : List ℕ) → Going from mid h core o o' → PieceRan h piece h' core core' o' o'' → h'.fault ≡ None
    → 0 < length piece → room h' < room h
smaller from mid h h' core core' o o' o'' piece g more ok some =
    let is : IsHeld h = subst (λ (x : FeedState). IsHeld x) (sym g.piece.taken)
    (holds opening_feed g.bytes opening_is (ap (λ (x : FeedState). x.fault) (sym g.piece.taken) ∙ g.no_fault)).held in
    let later = holds h piece is (ap (λ (x : FeedState). x.fault) (sym more.taken) ∙ ok) in
    let less = later.room in
    let same : room h' ≡ room (feed_after h piece) = ap room more.taken in
    omega arith

-- what ran before some point writes some of the run's text
ran_writes : {to : Option (List ℕ)} {front back text : List ℕ} {core : Option CoreState}
    → Ran front back text core → RunWrites to (front ++ back) text
ran_writes (before none empty is) = nothing empty
ran_writes {to} {front} {back} (behind t count parts run) =
    so_far ((feed_after opening_feed front).rest ++ back) run.new
    (record {
      sizes = t.trace.sizes;
      events = t.trace.events;
      outcomes = run.outcomes;
      trace = t.trace.trace;
      parts = parts;
      run = run.run;
      text_is = run.text_is;
    })

-- a piece of which a front ran, and a front of what that writes was written
piece_partly : (from mid to : Option (List ℕ)) (h : FeedState) (core : Option CoreState) (o o' o'' : Option (List ℕ))
    (piece : List ℕ) → Going from mid h core o o' → Consumes mid to piece → PieceRanPartly h piece core o' o''
    → StoppedEarly from to o o''
piece_partly from mid to h core o o' o'' piece g read part =
    let all = PieceRanPartly-behind opening_feed h g.bytes piece None core o o' o'' g.piece part in
    record {
      bytes = g.bytes ++ piece;
      text = all.ran.text;
      reads = Consumes-trans from mid to g.bytes piece g.reads read;
      run =
          subst (λ (x : List ℕ). RunWrites to x all.ran.text) (sym all.parts)
          (ran_writes (ran all.front all.back all.ran.text all.ran.new all.ok all.ran.runs));
      wrote = all.ran.wrote;
    }

pub piece_stopped : (from mid to : Option (List ℕ)) (h h' : FeedState) (core core' : Option CoreState)
    (o o' o'' : Option (List ℕ)) (piece : List ℕ) (fault : ReplayFault) → Going from mid h core o o'
    → Consumes mid to piece → PieceStopped fault h piece h' core core' o' o'' → Stopped fault from to o o''
piece_stopped from mid to h h' core core' o o' o'' piece fault g read (inl (failed, is, more)) =
    let all = PieceRan-append opening_feed h h' g.bytes piece None core core' o o' o'' g.piece more in
    let s = stops opening_feed (g.bytes ++ piece) fault refl opening_is (ap (λ (x : FeedState). x.fault) (sym all.taken) ∙ failed) in
    let reads : Consumes from to (s.front ++ s.back) =
    subst (λ (x : List ℕ). Consumes from to x) s.parts (Consumes-trans from mid to g.bytes piece g.reads read) in
    let some = s.some in
    subst (λ (f : ReplayFault). Stopped f from to o o'') (sym s.fault_is)
    (line_stopped from to o o'' s.front s.back all.text core' reads s.ok
    (subst (λ (x : List Line). LinesRun None x core' all.text) s.lines all.runs) all.wrote
    (λ _. simp (length-append) (omega arith))
    (for_some to _ s.bad))
piece_stopped from mid to h h' core core' o o' o'' piece fault g read (inr (is, part)) =
    subst (λ (f : ReplayFault). Stopped f from to o o'') (sym is) (piece_partly from mid to h core o o' o'' piece g read part)

-- ---- lines that are collected, and then written

-- the text that was collected is that of the run, where none was before
collected : (l t text : List ℕ) → l ≡ [] → Appends (Some l) (Some t) text → t ≡ text
collected l t text none e = e ∙ ap (λ (x : List ℕ). x ++ text) none

-- a piece whose lines were collected ran to the writer once all of them are written
pub ran_written : (h h' : FeedState) (piece : List ℕ) (core core' : Option CoreState) (o o' : Option (List ℕ)) (l t : List ℕ)
    → l ≡ [] → PieceRan h piece h' core core' (Some l) (Some t) → Appends o o' t → PieceRan h piece h' core core' o o'
ran_written h h' piece core core' o o' l t none p all =
    record {
      text = p.text;
      taken = p.taken;
      runs = p.runs;
      wrote = subst (λ (x : List ℕ). Appends o o' x) (collected l t p.text none p.wrote) all;
    }

-- so did one that stopped
pub stopped_written : (fault : ReplayFault) (h h' : FeedState) (piece : List ℕ) (core core' : Option CoreState)
    (o o' : Option (List ℕ)) (l t : List ℕ) → l ≡ [] → PieceStopped fault h piece h' core core' (Some l) (Some t)
    → Appends o o' t → PieceStopped fault h piece h' core core' o o'
stopped_written fault h h' piece core core' o o' l t none (inl (failed, is, p)) all =
    inl (failed, is, ran_written h h' piece core core' o o' l t none p all)
stopped_written fault h h' piece core core' o o' l t none (inr (is, p)) all =
    inr (
      is,
      record {
        front = p.front;
        back = p.back;
        parts = p.parts;
        ok = p.ok;
        ran = record {
          new = p.ran.new;
          text = p.ran.text;
          runs = p.ran.runs;
          wrote = record {
            front = p.ran.wrote.front;
            back = p.ran.wrote.back;
            parts = p.ran.wrote.parts;
            appends = subst (λ (x : List ℕ). Appends o o' x) (collected l t p.ran.wrote.front none p.ran.wrote.appends) all;
          };
        };
      },
    )

-- what a piece came to whose lines were collected
abbrev pub PieceCame : Result (Unit {0}) ReplayFault → FeedState → List ℕ → FeedState → Option CoreState → Option CoreState
    → List ℕ → List ℕ → Type 0
PieceCame (Ok x) h piece h' core core' l t = PieceRan h piece h' core core' (Some l) (Some t) × (h'.fault ≡ None)
PieceCame (Err fault) h piece h' core core' l t = PieceStopped fault h piece h' core core' (Some l) (Some t)

pub came : (r : Result (Unit {0}) ReplayFault) (h h' : FeedState) (piece : List ℕ) (core core' : Option CoreState) (l t : List ℕ)
    → OnOk r (PieceRan h piece h' core core' (Some l) (Some t)) → OnOk r (h'.fault ≡ None)
    → IfErr r (λ fault. PieceStopped fault h piece h' core core' (Some l) (Some t)) → PieceCame r h piece h' core core' l t
came (Ok x) h h' piece core core' l t p ok stopped = (p, ok)
came (Err fault) h h' piece core core' l t p ok stopped = stopped

-- where not all of its lines could be written, a front of the run's text was
pub unwritten : (from mid to : Option (List ℕ)) (h h' : FeedState) (core core' : Option CoreState)
    (o o' o'' : Option (List ℕ)) (piece l t : List ℕ) (r : Result (Unit {0}) ReplayFault) → Going from mid h core o o'
    → Consumes mid to piece → l ≡ [] → PieceCame r h piece h' core core' l t → Wrote o' o'' t → StoppedEarly from to o o''
unwritten from mid to h h' core core' o o' o'' piece l t (Ok x) g read none (p, ok) some =
    piece_partly from mid to h core o o' o'' piece g read
    (record {
      front = piece;
      back = [];
      parts = sym (append-nil piece);
      ok = ap (λ (y : FeedState). y.fault) (sym p.taken) ∙ ok;
      ran = record {
        new = core';
        text = p.text;
        runs = p.runs;
        wrote = subst (λ (y : List ℕ). Wrote o' o'' y) (collected l t p.text none p.wrote) some;
      };
    })
unwritten from mid to h h' core core' o o' o'' piece l t (Err fault) g read none (inr (is, p)) some =
    piece_partly from mid to h core o o' o'' piece g read
    (record {
      front = p.front;
      back = p.back;
      parts = p.parts;
      ok = p.ok;
      ran = record {
        new = p.ran.new;
        text = p.ran.text;
        runs = p.ran.runs;
        wrote =
            subst (λ (y : List ℕ). Wrote o' o'' y) (sym p.ran.wrote.parts)
            (Wrote-more o' o'' p.ran.wrote.front p.ran.wrote.back
            (subst (λ (y : List ℕ). Wrote o' o'' y) (collected l t p.ran.wrote.front none p.ran.wrote.appends) some));
      };
    })
unwritten from mid to h h' core core' o o' o'' piece l t (Err fault) g read none (inl (failed, is, p)) some =
    let both = g.piece.text ++ p.text in
    let first : PieceRan opening_feed g.bytes h None core (Some []) (Some g.piece.text) =
    record { text = g.piece.text; taken = g.piece.taken; runs = g.piece.runs; wrote = refl } in
    let more : PieceRan h piece h' core core' (Some g.piece.text) (Some both) =
    record { text = p.text; taken = p.taken; runs = p.runs; wrote = refl } in
    let all = PieceRan-append opening_feed h h' g.bytes piece None core core' (Some []) (Some g.piece.text) (Some both) first more in
    let s = stops opening_feed (g.bytes ++ piece) fault refl opening_is (ap (λ (x : FeedState). x.fault) (sym all.taken) ∙ failed) in
    record {
      bytes = g.bytes ++ piece;
      text = all.text;
      reads = Consumes-trans from mid to g.bytes piece g.reads read;
      run =
          subst (λ (x : List ℕ). RunWrites to x all.text) (sym s.parts)
          (ran_writes (ran s.front s.back all.text core' s.ok
          (subst (λ (x : List Line). LinesRun None x core' all.text) s.lines all.runs)));
      wrote =
          subst (λ (y : List ℕ). Wrote o o'' y) (collected [] both all.text refl all.wrote)
          (Wrote-behind o o' o'' g.piece.text p.text g.piece.wrote
          (subst (λ (y : List ℕ). Wrote o' o'' y) (collected l t p.text none p.wrote) some));
    }

-- what the feed holds
held_is : (from mid : Option (List ℕ)) (h : FeedState) (core : Option CoreState) (o o' : Option (List ℕ))
    (g : Going from mid h core o o') → (feed_after opening_feed g.bytes).fault ≡ None
held_is from mid h core o o' g = ap (λ (x : FeedState). x.fault) (sym g.piece.taken) ∙ g.no_fault

pub read_failed : (from mid to : Option (List ℕ)) (h : FeedState) (core : Option CoreState) (o o' : Option (List ℕ))
    → Going from mid h core o o' → Keeps mid to → StoppedAtRead from to o o'
read_failed from mid to h core o o' g kept =
    record {
      bytes = g.bytes;
      text = g.piece.text;
      reads = Consumes-kept from mid to g.bytes g.reads kept;
      run = writes (ran g.bytes [] g.piece.text core (held_is from mid h core o o' g) g.piece.runs);
      wrote = g.piece.wrote;
    }
  where
    no_end : HasNoEnd (feed_after opening_feed g.bytes).rest
    no_end = (taken g.bytes (held_is from mid h core o o' g)).held.no_end

    writes : Ran g.bytes [] g.piece.text core → AllRunWrites g.bytes g.piece.text
    writes (before none empty is) = no_line (subst (λ (x : List ℕ). HasNoEnd x) is no_end) empty
    writes (behind t count parts run) =
        each_line (feed_after opening_feed g.bytes).rest run.new
        (record {
          sizes = t.trace.sizes;
          events = t.trace.events;
          outcomes = run.outcomes;
          trace = t.trace.trace;
          parts = sym t.text;
          run = run.run;
          text_is = run.text_is;
        }) no_end

-- ---- the end of the bytes

-- the trace that was read
pub record EndRan (from to : Option (List ℕ)) (core : Option CoreState) (o o' : Option (List ℕ)) : Type 0 where
  pub sizes : Sizes
  pub events : List Event
  pub outcomes : List Outcome
  pub new : CoreState
  pub is : core ≡ Some new
  pub trace : IsTrace sizes events
  pub reads : Consumes from to (trace_text sizes events)
  pub run : RunOf sizes events outcomes new
  pub wrote : Appends o o' (outcomes_text outcomes)

end_ran : (from mid to : Option (List ℕ)) (h : FeedState) (core : Option CoreState) (o o' : Option (List ℕ))
    → Going from mid h core o o' → Consumes mid to [] → end_of h ≡ Ok tt → EndRan from to core o o'
end_ran from mid to h core o o' g read e = by (end_cases h (Ok tt) g.no_fault e)
  where
    by_ran : h.rest ≡ [] → 0 < h.lines → Ran g.bytes [] g.piece.text core → EndRan from to core o o'
    by_ran none some (before zero_is empty is) =
        absurd (let same : h.lines ≡ (feed_after opening_feed g.bytes).lines = ap (λ (x : FeedState). x.lines)
        g.piece.taken in omega arith)
    by_ran none some (behind t count parts run) =
        let rest : (feed_after opening_feed g.bytes).rest ≡ [] = ap (λ (x : FeedState). x.rest) (sym g.piece.taken) ∙ none in
        let whole : g.bytes ≡ trace_text t.trace.sizes t.trace.events =
        sym t.text ∙ ap (λ (x : List ℕ). trace_text t.trace.sizes t.trace.events ++ x) rest
        ∙ append-nil (trace_text t.trace.sizes t.trace.events) in
        record {
          sizes = t.trace.sizes;
          events = t.trace.events;
          outcomes = run.outcomes;
          new = run.new;
          is = run.is;
          trace = t.trace.trace;
          reads =
              subst (λ (x : List ℕ). Consumes from to x) (append-nil g.bytes ∙ whole)
              (Consumes-trans from mid to g.bytes [] g.reads read);
          run = run.run;
          wrote = subst (λ (x : List ℕ). Appends o o' x) run.text_is g.piece.wrote;
        }

    by : ((good ≡ Ok tt) × (h.rest ≡ []) × (0 < h.lines))
        ⊎ ((good ≡ Err (fault_at h.lines)) × (0 < h.lines → 0 < length h.rest)) → EndRan from to core o o'
    by (inl (is, none, some)) = by_ran none some (ran g.bytes [] g.piece.text core (held_is from mid h core o o' g) g.piece.runs)
    by (inr (is, some)) = absurd (ok_err _ is)

pub finished : (from mid to : Option (List ℕ)) (h : FeedState) (core : Option CoreState) (o o' o'' : Option (List ℕ))
    (r : Result (Unit {0}) ReplayFault) → Going from mid h core o o' → Consumes mid to [] → IsAtEnd to
    → OnOk r (end_of h ≡ Ok tt) → OnOk r (IfSome core (λ c. Appends o' o'' (state_text c))) → OnOk r (Replayed from to o o'')
finished from mid to h core o o' o'' (Err f) g read all ended wrote = tt
finished from mid to h core o o' o'' (Ok x) g read all ended wrote =
    let e = end_ran from mid to h core o o' g read ended in
    record {
      sizes = e.sizes;
      events = e.events;
      outcomes = e.outcomes;
      core = e.new;
      trace = e.trace;
      reads = e.reads;
      all = all;
      run = e.run;
      wrote =
          Appends-trans o o' o'' (outcomes_text e.outcomes) (state_text e.new) e.wrote
          (subst (λ (c : Option CoreState). IfSome c (λ c. Appends o' o'' (state_text c))) e.is wrote);
    }

-- what `finish` says of a fault
abbrev pub NotFinished : ReplayFault → FeedState → Option CoreState → Option (List ℕ) → Option (List ℕ) → Type 0
NotFinished fault h core o o' =
    ((end_of h ≡ Err fault) × IsLineFault fault × Keeps o o')
    ⊎ (IsWriteFault fault × (end_of h ≡ Ok tt) × IfSome core (λ c. Wrote o o' (state_text c)))

not_finished : (from mid to : Option (List ℕ)) (h : FeedState) (core : Option CoreState) (o o' o'' : Option (List ℕ))
    (fault : ReplayFault) → Going from mid h core o o' → Consumes mid to [] → IsAtEnd to
    → NotFinished fault h core o' o'' → Stopped fault from to o o''
not_finished from mid to h core o o' o'' fault g read all (inl (ended, line, kept)) = by (end_cases h (Err fault) g.no_fault ended)
  where
    kept_writes : (a b c : Option (List ℕ)) (text : List ℕ) → Appends a b text → Keeps b c → Appends a c text
    kept_writes None b c text p k = tt
    kept_writes (Some a) None c text p k = absurd p
    kept_writes (Some a) (Some b) None text p k = absurd k
    kept_writes (Some a) (Some b) (Some c) text p k = k ∙ p

    by : (((with_error fault) ≡ Ok tt) × (h.rest ≡ []) × (0 < h.lines))
        ⊎ (((with_error fault) ≡ Err (fault_at h.lines)) × (0 < h.lines → 0 < length h.rest)) → Stopped fault from to o o''
    by (inl (is, none, some)) = absurd (err_ok fault is)
    by (inr (is, some)) =
        let held = g.piece.taken in
        let now = feed_after opening_feed g.bytes in
        let no_end = (taken g.bytes (held_is from mid h core o o' g)).held.no_end in
        subst (λ (f : ReplayFault). Stopped f from to o o'')
        (ap (λ (x : FeedState). fault_at x.lines) (sym held) ∙ sym (err_is fault (fault_at h.lines) is))
        (line_stopped from to o o'' g.bytes [] g.piece.text core (Consumes-trans from mid to g.bytes [] g.reads read)
        (held_is from mid h core o o' g) g.piece.runs (kept_writes o o' o'' g.piece.text g.piece.wrote kept)
        (λ more. subst (λ (x : List ℕ). 0 < length x) (sym (append-nil now.rest))
        (subst (λ (x : FeedState). 0 < x.lines → 0 < length x.rest) held some more))
        (cut_at_end to now.lines now.rest all (cut now.lines now.rest no_end)))
not_finished from mid to h core o o' o'' fault g read all (inr (is, ended, wrote)) =
    let e = end_ran from mid to h core o o' g read ended in
    early fault from to o o'' is
    (record {
      bytes = trace_text e.sizes e.events;
      text = outcomes_text e.outcomes ++ state_text e.new;
      reads = e.reads;
      run =
          to_the_end (outcomes_text e.outcomes) e.new
          (record {
            sizes = e.sizes;
            events = e.events;
            outcomes = e.outcomes;
            trace = e.trace;
            parts = sym (append-nil (trace_text e.sizes e.events));
            run = e.run;
            text_is = refl;
          }) all refl;
      wrote =
          Wrote-behind o o' o'' (outcomes_text e.outcomes) (state_text e.new) e.wrote
          (subst (λ (c : Option CoreState). IfSome c (λ c. Wrote o' o'' (state_text c))) e.is wrote);
    })

pub finish_stopped : (from mid to : Option (List ℕ)) (h : FeedState) (core : Option CoreState) (o o' o'' : Option (List ℕ))
    (r : Result (Unit {0}) ReplayFault) → Going from mid h core o o' → Consumes mid to [] → IsAtEnd to
    → IfErr r (λ fault. NotFinished fault h core o' o'') → IfErr r (λ fault. Stopped fault from to o o'')
finish_stopped from mid to h core o o' o'' (Ok x) g read all not = tt
finish_stopped from mid to h core o o' o'' (Err fault) g read all not = not_finished from mid to h core o o' o'' fault g read all not

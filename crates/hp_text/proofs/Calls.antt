-- A script that is kept while it is read, and a trace of which nothing is kept.
use Rattle.std.proofs.Common.{◌≡◌, ℕ, ◌-◌, ◌<◌, List, [], ◌∷◌, ◌++◌, length, drop, map, Option}
use Rattle.std.proofs.Common.{Some, None, refl, sym, ap}
use Rattle.std.proofs.Common.{subst, ◌∙◌, append_assoc, arith, inl, inr, ◌⊎◌}
use Rattle.std.specs.Prelude.{All, IfSome, IsSomeAnd, Ok, Err}
use Rattle.std.specs.Io.BufRead.{take_through}
use Rattle.std.specs.Io.KnownBytes.{Consumes, IsAtEnd}
use Rattle.std.proofs.KnownBytes.{Consumes-trans}
use Rattle.std.proofs.lemmas.List.{append-nil}
use Rattle.hp_base.specs.Text.{Sizes}
use Rattle.hp_base.specs.declared.event.Op.{Op}
use Rattle.hp_base.specs.declared.event.Event.{Event}
use Rattle.hp_text.specs.declared.fault.ReplayFault.{ReplayFault}
use Rattle.hp_text.specs.declared.fault.ReplayFault.TheVariants.{BadLine, BadHeader, Read, Write, Memory}
use Rattle.hp_text.specs.Lines.{FeedState, Line, header, event, opening_feed, feed_after, lines_after, listed, fault_at, end_of}
use Rattle.hp_text.specs.Traces.{HasFault, IsLineFault}
use Rattle.hp_text.specs.Collecting.{ReadsTrace}
use Rattle.hp_text.specs.Checking.{ReadsEvents}
use Rattle.hp_text.specs.Scripts.{begin_of, IsCall, IsCallLine, AreCalls, HasScriptFault, PieceNotCalls, SpellsSomeScript}
use Rattle.hp_text.specs.Scripts.{no_line, no_call, no_memory}
use Rattle.hp_text.specs.Streams.{source_at, IsReadFault}
use Rattle.hp_text.proofs.Feeding.{feed_after-append, lines_after-append, stays}
use Rattle.hp_text.proofs.FirstLines.{TookLine, through_parts}
use Rattle.hp_text.proofs.StreamFaults.{line_no_read}
use Rattle.hp_text.proofs.Drafts.{Adding, Drafting, held_ok, trace_read}
use Rattle.hp_text.proofs.LastLines.{for_some, end_cases, with_error, err_is, err_ok}
use Rattle.hp_text.proofs.Whole.{fault_of, end_fault, end_trace, taken}
use Rattle.hp_text.proofs.ScriptFaults.{calls_both, all_calls, fed_fault, over_fault, other_fault, no_script_fault}

-- lines that came so far, and one more, begin calls
pub one_more : (mid new : List Line) (line : Option Line) → AreCalls mid → IfSome line IsCallLine
    → new ≡ mid ++ listed line [] → AreCalls new
one_more mid new None calls one is = subst (λ (ls : List Line). AreCalls ls) (sym (is ∙ append-nil mid)) calls
one_more mid new (Some l) calls one is =
    subst (λ (ls : List Line). AreCalls ls) (sym is) (calls_both mid (l ∷ []) calls (one, tt))

-- a line that is none of a trace ends the piece
pub bad_line : (held h next : FeedState) (old mid : List Line) (piece rest : List ℕ) (fault : ReplayFault)
    → Adding held h old mid piece rest
    → AreCalls mid → next ≡ feed_after h (take_through 10 rest) → lines_after h (take_through 10 rest) ≡ []
    → next.fault ≡ Some fault
    → IsLineFault fault → PieceNotCalls fault held old piece
bad_line held h next old mid piece rest fault a calls held_is none failures is =
    let first = take_through 10 rest in
    let left = drop (length first) rest in
    let taken : next ≡ feed_after held (a.front ++ first) =
    held_is ∙ (ap (λ (x : FeedState). feed_after x first) a.taken ∙ sym (feed_after-append held a.front first)) in
    let lines : old ++ lines_after held (a.front ++ first) ≡ mid =
    ap (λ (x : List Line). old ++ x) (lines_after-append held a.front first
    ∙ (ap (λ (x : FeedState). lines_after held a.front ++ lines_after x first) (sym a.taken)
    ∙ (ap (λ (x : List Line). lines_after held a.front ++ x) none ∙ append-nil (lines_after held a.front)))) ∙ sym a.lines in
    no_line (a.front ++ first) left
    (a.parts ∙ (ap (λ (x : List ℕ). a.front ++ x) (through_parts rest) ∙ sym (append_assoc a.front first left)))
    (ap (λ (x : FeedState). x.fault) (sym taken) ∙ failures) is (subst (λ (ls : List Line). AreCalls ls) (sym lines) calls)

-- an event that begins no call does
pub other_event : (held h next : FeedState) (old mid : List Line) (piece rest left : List ℕ) (line : Option Line) (n : ℕ)
    → Adding held h old mid piece rest → AreCalls mid → TookLine h next line rest left
    → IsSomeAnd line (λ l. IsCallLine l → ⊥)
    → n ≡ next.lines → PieceNotCalls (BadLine n) held old piece
other_event held h next old mid piece rest left None n a calls t other is = absurd other
other_event held h next old mid piece rest left (Some (header s)) n a calls t other is = absurd (other tt)
other_event held h next old mid piece rest left (Some (event e)) n a calls t other is =
    let first = take_through 10 rest in
    let taken : next ≡ feed_after held (a.front ++ first) =
    t.held ∙ (ap (λ (x : FeedState). feed_after x first) a.taken ∙ sym (feed_after-append held a.front first)) in
    let lines : old ++ lines_after held (a.front ++ first) ≡ mid ++ event e ∷ [] =
    ap (λ (x : List Line). old ++ x) (lines_after-append held a.front first
    ∙ (ap (λ (x : FeedState). lines_after held a.front ++ lines_after x first) (sym a.taken)
    ∙ ap (λ (x : List Line). lines_after held a.front ++ x) (sym t.lines)))
    ∙ (sym (append_assoc old (lines_after held a.front) (event e ∷ [])) ∙ ap (λ (x : List Line). x ++ event e ∷ []) (sym a.lines)) in
    no_call (a.front ++ first) left mid e
    (a.parts ∙ (ap (λ (x : List ℕ). a.front ++ x) (through_parts rest ∙ ap (λ (x : List ℕ). first ++ x) (sym t.left_is))
    ∙ sym (append_assoc a.front first left)))
    (ap (λ (x : FeedState). x.fault) (sym taken) ∙ t.ok) lines calls other
    (ap (λ (k : ℕ). BadLine k) (is ∙ ap (λ (x : FeedState). x.lines) taken))

-- ---- between two reads

-- what is wrong with all bytes of the reader
known : (from to : Option (List ℕ)) (bytes : List ℕ) (P : List ℕ → Type 0) → Consumes from to bytes
    → ((left : List ℕ) → P (bytes ++ left)) → IfSome from P
known None to bytes P reads all = tt
known (Some whole) None bytes P reads all = absurd reads
known (Some whole) (Some left) bytes P reads all = subst P (sym reads) (all left)

known_at_end : (from to : Option (List ℕ)) (bytes : List ℕ) (P : List ℕ → Type 0) → Consumes from to bytes → IsAtEnd to
    → P bytes → IfSome from P
known_at_end None to bytes P reads end is = tt
known_at_end (Some whole) None bytes P reads end is = absurd reads
known_at_end (Some whole) (Some left) bytes P reads end is =
    subst P (sym (reads ∙ (ap (λ (x : List ℕ). bytes ++ x) end ∙ append-nil bytes))) is

-- a piece that is no more of a script
pub piece_fault : (from mid to : Option (List ℕ)) (h : FeedState) (lines : List Line) (piece : List ℕ) (fault : ReplayFault)
    → Drafting from mid h lines → Consumes mid to piece → PieceNotCalls fault h lines piece
    → IfSome from (λ bytes. HasScriptFault bytes fault)
piece_fault from mid to h lines piece fault d read (no_line front back parts failures is calls) =
    let held : feed_after opening_feed (d.bytes ++ front) ≡ feed_after h front =
    feed_after-append opening_feed d.bytes front ∙ ap (λ (x : FeedState). feed_after x front) (sym d.held) in
    let all : lines_after opening_feed (d.bytes ++ front) ≡ lines ++ lines_after h front =
    lines_after-append opening_feed d.bytes front ∙ (ap (λ (x : List Line). x ++ lines_after (feed_after opening_feed d.bytes) front) (sym d.lines_are)
    ∙ ap (λ (x : FeedState). lines ++ lines_after x front) (sym d.held)) in
    known from to (d.bytes ++ piece) (λ bytes. HasScriptFault bytes fault) (Consumes-trans from mid to d.bytes piece d.reads read)
    (λ left. subst (λ (x : List ℕ). HasScriptFault x fault)
    (append_assoc d.bytes front (back ++ left) ∙ (ap (λ (x : List ℕ). d.bytes ++ x) (sym (append_assoc front back left))
    ∙ (ap (λ (x : List ℕ). d.bytes ++ (x ++ left)) (sym parts) ∙ sym (append_assoc d.bytes piece left))))
    (fed_fault (d.bytes ++ front) fault (back ++ left) (ap (λ (x : FeedState). x.fault) held ∙ failures)
    (subst (λ (ls : List Line). AreCalls ls) (sym all) calls)))
piece_fault from mid to h lines piece fault d read (no_call front back before e parts ok are calls other is) =
    let held : feed_after opening_feed (d.bytes ++ front) ≡ feed_after h front =
    feed_after-append opening_feed d.bytes front ∙ ap (λ (x : FeedState). feed_after x front) (sym d.held) in
    let all : lines_after opening_feed (d.bytes ++ front) ≡ before ++ event e ∷ [] =
    lines_after-append opening_feed d.bytes front ∙ (ap (λ (x : List Line). x ++ lines_after (feed_after opening_feed d.bytes) front) (sym d.lines_are)
    ∙ (ap (λ (x : FeedState). lines ++ lines_after x front) (sym d.held) ∙ are)) in
    let named : BadLine (feed_after opening_feed (d.bytes ++ front)).lines ≡ fault = ap (λ (x : FeedState). BadLine x.lines) held ∙ sym is in
    known from to (d.bytes ++ piece) (λ bytes. HasScriptFault bytes fault) (Consumes-trans from mid to d.bytes piece d.reads read)
    (λ left. subst (λ (f : ReplayFault). HasScriptFault ((d.bytes ++ piece) ++ left) f) named
    (subst (λ (x : List ℕ). HasScriptFault x (BadLine (feed_after opening_feed (d.bytes ++ front)).lines))
    (append_assoc d.bytes front (back ++ left) ∙ (ap (λ (x : List ℕ). d.bytes ++ x) (sym (append_assoc front back left))
    ∙ (ap (λ (x : List ℕ). d.bytes ++ (x ++ left)) (sym parts) ∙ sym (append_assoc d.bytes piece left))))
    (other_fault (d.bytes ++ front) (back ++ left) before e (ap (λ (x : FeedState). x.fault) held ∙ ok) all calls other)))
piece_fault from mid to h lines piece fault d read (no_memory is) =
    for_some from _ (λ bytes. subst (λ (f : ReplayFault). HasScriptFault bytes f) (sym is) tt)

pub piece_no_read : (fault : ReplayFault) (h : FeedState) (lines : List Line) (piece : List ℕ) (failures : ℕ)
    → PieceNotCalls fault h lines piece
    → failures ≡ source_at fault failures
piece_no_read fault h lines piece failures (no_line front back parts bad is calls) = line_no_read fault failures is
piece_no_read fault h lines piece failures (no_call front back before e parts ok are calls other is) =
    subst (λ (f : ReplayFault). failures ≡ source_at f failures) (sym is) refl
piece_no_read fault h lines piece failures (no_memory is) = subst (λ (f : ReplayFault). failures ≡ source_at f failures) (sym is) refl

-- what is wrong at the end
end_line : (h : FeedState) (fault : ReplayFault) → h.fault ≡ None → end_of h ≡ Err fault
    → (fault ≡ fault_at h.lines) × (0 < h.lines → 0 < length h.rest)
end_line h fault ok ended = by (end_cases h (Err fault) ok ended)
  where
    by : ((with_error fault ≡ Ok tt) × (h.rest ≡ []) × (0 < h.lines))
        ⊎ ((with_error fault ≡ Err (fault_at h.lines)) × (0 < h.lines → 0 < length h.rest))
        → (fault ≡ fault_at h.lines) × (0 < h.lines → 0 < length h.rest)
    by (inl (is, none, some)) = absurd (err_ok fault is)
    by (inr (is, some)) = (err_is fault (fault_at h.lines) is, some)

pub end_fault_of : (from mid to : Option (List ℕ)) (h : FeedState) (lines : List Line) (fault : ReplayFault) → Drafting from mid h lines
    → AreCalls lines → Consumes mid to [] → IsAtEnd to → end_of h ≡ Err fault
    → IfSome from (λ bytes. HasScriptFault bytes fault)
end_fault_of from mid to h lines fault d calls read end ended =
    let line = end_line h fault d.no_fault ended in
    let named : fault_at (feed_after opening_feed d.bytes).lines ≡ fault = ap (λ (x : FeedState). fault_at x.lines) (sym d.held) ∙ sym line.0 in
    known_at_end from to (d.bytes ++ []) (λ bytes. HasScriptFault bytes fault) (Consumes-trans from mid to d.bytes [] d.reads read) end
    (subst (λ (x : List ℕ). HasScriptFault x fault) (sym (append-nil d.bytes))
    (subst (λ (f : ReplayFault). HasScriptFault d.bytes f) named
    (over_fault d.bytes (held_ok h lines d) (subst (λ (ls : List Line). AreCalls ls) d.lines_are calls)
    (subst (λ (x : FeedState). 0 < x.lines → 0 < length x.rest) d.held line.1))))

pub no_script : (from : Option (List ℕ)) (fault : ReplayFault) → IfSome from (λ bytes. HasScriptFault bytes fault)
    → IsLineFault fault
    → IfSome from (λ bytes. ¬ (SpellsSomeScript bytes))
no_script None fault bad is = tt
no_script (Some all) fault bad is = λ (s : SpellsSomeScript all). no_script_fault all fault s.sizes s.calls is bad s.spells

-- the events of a script's trace begin calls
pub events_call : (lines : List Line) (s : Sizes) (events : List Event) → AreCalls lines
    → lines ≡ header s ∷ map event events → All IsCall events
events_call lines s events calls is = all_calls events (subst (λ (ls : List Line). AreCalls ls) is calls).1

pub script_read : (from mid to : Option (List ℕ)) (h : FeedState) (lines : List Line) (s z : Sizes) (events : List Event) (calls : List (ℕ × Op))
    → Drafting from mid h lines → Consumes mid to [] → IsAtEnd to → end_of h ≡ Ok tt
    → lines ≡ header s ∷ map event events
    → z ≡ s → map begin_of calls ≡ events → ReadsTrace from to z (map begin_of calls)
script_read from mid to h lines s z events calls d read end ended is sizes_are calls_are =
    subst (λ (x : Sizes). ReadsTrace from to x (map begin_of calls)) (sym sizes_are)
    (subst (λ (es : List Event). ReadsTrace from to s es) (sym calls_are) (trace_read from mid to h lines s events d read end ended is))

-- ---- a trace of which nothing is kept

-- so much of the piece is taken
pub record Taking (held now : FeedState) (piece rest : List ℕ) : Type 0 where
  pub front : List ℕ
  pub parts : piece ≡ front ++ rest
  pub taken : now ≡ feed_after held front
  pub no_fault : now.fault ≡ None

pub takes_none : (held : FeedState) (piece : List ℕ) → held.fault ≡ None → Taking held held piece piece
unfolding feed_after
takes_none held piece ok = record { front = []; parts = refl; taken = refl; no_fault = ok }

pub takes_more : (held h next : FeedState) (piece rest left : List ℕ) → Taking held h piece rest
    → next ≡ feed_after h (take_through 10 rest)
    → left ≡ drop (length (take_through 10 rest)) rest → next.fault ≡ None → Taking held next piece left
takes_more held h next piece rest left t is left_is ok =
    let first = take_through 10 rest in
    record {
      front = t.front ++ first;
      parts =
          t.parts ∙ (ap (λ (x : List ℕ). t.front ++ x) (through_parts rest ∙ ap (λ (x : List ℕ). first ++ x) (sym left_is))
          ∙ sym (append_assoc t.front first left));
      taken = is ∙ (ap (λ (x : FeedState). feed_after x first) t.taken ∙ sym (feed_after-append held t.front first));
      no_fault = ok;
    }

pub takes_fault : (held h next : FeedState) (piece rest : List ℕ) (fault : ReplayFault) → Taking held h piece rest
    → next ≡ feed_after h (take_through 10 rest) → next.fault ≡ Some fault → (feed_after held piece).fault ≡ Some fault
takes_fault held h next piece rest fault t is failures =
    let first = take_through 10 rest in
    let left = drop (length first) rest in
    let s = stays next fault left failures in
    let whole : feed_after held piece ≡ next =
    ap (λ (x : List ℕ). feed_after held x) (t.parts ∙ ap (λ (x : List ℕ). t.front ++ x) (through_parts rest))
    ∙ (feed_after-append held t.front (first ++ left) ∙ (ap (λ (x : FeedState). feed_after x (first ++ left)) (sym t.taken)
    ∙ (feed_after-append h first left ∙ (ap (λ (x : FeedState). feed_after x left) (sym is) ∙ s.0)))) in
    ap (λ (x : FeedState). x.fault) whole ∙ failures

pub takes_all : (held now : FeedState) (piece rest : List ℕ) → length rest ≡ 0 → Taking held now piece rest
    → now ≡ feed_after held piece
takes_all held now piece [] none t = t.taken ∙ ap (λ (x : List ℕ). feed_after held x) (sym (t.parts ∙ append-nil t.front))
takes_all held now piece (x ∷ rest) none t = absurd (omega (arith, none))

-- what was read so far, and the lines that it has
abbrev pub Checking : Option (List ℕ) → Option (List ℕ) → FeedState → Type 0
Checking from to h = (lines : List Line) × Drafting from to h lines

pub checks_on : (from mid to : Option (List ℕ)) (h next : FeedState) (piece : List ℕ) → Checking from mid h → Consumes mid to piece
    → next ≡ feed_after h piece → next.fault ≡ None → Checking from to next
checks_on from mid to h next piece (lines, d) read is ok = (
  lines ++ lines_after h piece,
  record {
    bytes = d.bytes ++ piece;
    reads = Consumes-trans from mid to d.bytes piece d.reads read;
    held = is ∙ (ap (λ (x : FeedState). feed_after x piece) d.held ∙ sym (feed_after-append opening_feed d.bytes piece));
    lines_are =
        ap (λ (x : List Line). x ++ lines_after h piece) d.lines_are
        ∙ (ap (λ (x : FeedState). lines_after opening_feed d.bytes ++ lines_after x piece) d.held
        ∙ sym (lines_after-append opening_feed d.bytes piece));
    no_fault = ok;
  },
)

pub piece_bad : (from mid to : Option (List ℕ)) (h : FeedState) (piece : List ℕ) (fault : ReplayFault) → Checking from mid h
    → Consumes mid to piece
    → (feed_after h piece).fault ≡ Some fault → IfSome from (λ bytes. HasFault bytes fault)
piece_bad from mid to h piece fault (lines, d) read failures =
    let held : feed_after opening_feed (d.bytes ++ piece) ≡ feed_after h piece =
    feed_after-append opening_feed d.bytes piece ∙ ap (λ (x : FeedState). feed_after x piece) (sym d.held) in
    known from to (d.bytes ++ piece) (λ bytes. HasFault bytes fault) (Consumes-trans from mid to d.bytes piece d.reads read)
    (λ left. fault_of (d.bytes ++ piece) fault left (ap (λ (x : FeedState). x.fault) held ∙ failures))

pub end_bad : (from mid to : Option (List ℕ)) (h : FeedState) (fault : ReplayFault) → Checking from mid h → Consumes mid to []
    → IsAtEnd to
    → end_of h ≡ Err fault → IfSome from (λ bytes. HasFault bytes fault)
end_bad from mid to h fault (lines, d) read end ended =
    known_at_end from to (d.bytes ++ []) (λ bytes. HasFault bytes fault) (Consumes-trans from mid to d.bytes [] d.reads read) end
    (subst (λ (x : List ℕ). HasFault x fault) (sym (append-nil d.bytes)) (end_fault d.bytes fault (ap end_of (sym d.held) ∙ ended)))

pub checked : (from mid to : Option (List ℕ)) (h : FeedState) (n : ℕ) → Checking from mid h → Consumes mid to []
    → IsAtEnd to → end_of h ≡ Ok tt
    → n ≡ h.lines - 1 → ReadsEvents n from to
checked from mid to h n (lines, d) read end ended is =
    let t = end_trace d.bytes (ap end_of (sym d.held) ∙ ended) in
    let count = t.lines.count in
    let all = (taken d.bytes (held_ok h lines d)).lines in
    let same : h.lines ≡ (feed_after opening_feed d.bytes).lines = ap (λ (x : FeedState). x.lines) d.held in
    record {
      sizes = t.lines.sizes;
      events = t.lines.events;
      reads = trace_read from mid to h lines t.lines.sizes t.lines.events d read end ended (d.lines_are ∙ t.lines.is);
      count = omega (arith, is, same, all, count);
    }

pub some_line : (from to : Option (List ℕ)) (h : FeedState) → Checking from to h → end_of h ≡ Ok tt → 0 < h.lines
some_line from to h (lines, d) ended =
    let t = end_trace d.bytes (ap end_of (sym d.held) ∙ ended) in
    let count = t.lines.count in
    let all = (taken d.bytes (held_ok h lines d)).lines in
    let same : h.lines ≡ (feed_after opening_feed d.bytes).lines = ap (λ (x : FeedState). x.lines) d.held in
    omega (arith, same, all, count)

pub line_read_fault : (fault : ReplayFault) → IsLineFault fault → IsReadFault fault
line_read_fault BadHeader is = tt
line_read_fault (BadLine n) is = tt
line_read_fault Read is = absurd is
line_read_fault Write is = absurd is
line_read_fault Memory is = absurd is

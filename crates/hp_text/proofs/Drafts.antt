-- A trace that is kept while it is read, piece by piece.
use Rattle.std.proofs.Common.{◌≡◌, ℕ, zero, suc, ◌+◌, ◌<◌, List, [], ◌∷◌, ◌++◌, length, drop, Option, Some, None, refl, sym, ap}
use Rattle.std.proofs.Common.{subst, ◌∙◌, append_assoc, length-append, arith, inl, inr, ◌⊎◌}
use Rattle.std.specs.Prelude.{map, IfSome, IsSome, Ok, Err}
use Rattle.std.specs.Io.BufRead.{take_through}
use Rattle.std.specs.Io.KnownBytes.{Consumes, Keeps, IsAtEnd}
use Rattle.std.proofs.KnownBytes.{Consumes-nil, Consumes-trans, Consumes-kept}
use Rattle.std.proofs.lemmas.List.{append-nil}
use Rattle.hp_base.specs.Text.{Sizes}
use Rattle.hp_base.specs.declared.event.Event.{Event}
use Rattle.hp_text.specs.declared.fault.ReplayFault.{ReplayFault}
use Rattle.hp_text.specs.declared.fault.ReplayFault.TheVariants.{Read, Memory}
use Rattle.hp_text.specs.Lines.{FeedState, opening_feed, Line, header, event, fault_at, feed_after, lines_after, listed, AreLines, end_of}
use Rattle.hp_text.specs.Traces.{HasFault, IsLineFault, SpellsSome}
use Rattle.hp_text.specs.Collecting.{CanFollow, CanFollowIfSome, NoRoom, PieceNotKept, ReadsTrace, NotRead}
use Rattle.hp_text.proofs.Feeding.{feed_after-append, lines_after-append, stays}
use Rattle.hp_text.proofs.Spelled.{spelled}
use Rattle.hp_text.proofs.Bytes.{IsHeld, room}
use Rattle.hp_text.proofs.BadLines.{stops, cut}
use Rattle.hp_text.proofs.ReadStops.{line_cut, memory_cut, lines_of}
use Rattle.hp_text.proofs.OneReading.{no_fault}
use Rattle.hp_text.proofs.FirstLines.{TookLine, through_parts}
use Rattle.hp_text.proofs.LastLines.{for_some, end_cases, with_error, err_is, err_ok, cut_at_end}
use Rattle.hp_text.proofs.Whole.{opening_is, holds, taken, fault_of, end_fault, end_trace}

-- the lines of the front of the piece are added, and this is left
pub record Adding (held now : FeedState) (old new : List Line) (piece rest : List ℕ) : Type 0 where
  pub front : List ℕ
  pub parts : piece ≡ front ++ rest
  pub taken : now ≡ feed_after held front
  pub lines : new ≡ old ++ lines_after held front
  pub no_fault : now.fault ≡ None
  pub count : now.lines ≡ length new

pub starts : (held : FeedState) (old : List Line) (piece : List ℕ) → held.fault ≡ None → held.lines ≡ length old
    → Adding held held old old piece piece
unfolding feed_after lines_after
starts held old piece ok count =
    record { front = []; parts = refl; taken = refl; lines = sym (append-nil old); no_fault = ok; count = count }

can_follow : (n : ℕ) (line : Line) (lines : List Line) → n ≡ length lines → AreLines n (line ∷ []) → CanFollow lines line
can_follow zero (header s) [] count are = tt
can_follow zero (header s) (l ∷ lines) count are = absurd (omega arith)
can_follow zero (event e) lines count are = absurd are
can_follow (suc n) (header s) lines count are = absurd are
can_follow (suc n) (event e) [] count are = absurd (omega arith)
can_follow (suc n) (event e) (l ∷ lines) count are = tt

-- a line that comes follows those that are there
pub line_can_follow : (h next : FeedState) (line : Option Line) (rest : List ℕ) (lines : List Line)
    → next ≡ feed_after h (take_through 10 rest) → listed line [] ≡ lines_after h (take_through 10 rest)
    → next.fault ≡ None → h.lines ≡ length lines → CanFollowIfSome lines line
line_can_follow h next None rest lines held is ok count = tt
line_can_follow h next (Some line) rest lines held is ok count =
    let s = spelled h (take_through 10 rest) (ap (λ (x : FeedState). x.fault) (sym held) ∙ ok) in
    can_follow h.lines line lines count (subst (λ (ls : List Line). AreLines h.lines ls) (sym is) s.are)

pub adds : (held h next : FeedState) (old mid new : List Line) (piece rest left : List ℕ) (line : Option Line)
    → Adding held h old mid piece rest → TookLine h next line rest left → new ≡ mid ++ listed line []
    → Adding held next old new piece left
adds held h next old mid new piece rest left line a t is =
    let first = take_through 10 rest in
    let s = spelled h first (ap (λ (x : FeedState). x.fault) (sym t.held) ∙ t.ok) in
    let taken : next ≡ feed_after held (a.front ++ first) =
    t.held ∙ ap (λ (x : FeedState). feed_after x first) a.taken ∙ sym (feed_after-append held a.front first) in
    let more : listed line [] ≡ lines_after (feed_after held a.front) first = t.lines ∙ ap (λ (x : FeedState). lines_after x first) a.taken in
    let all : lines_after held (a.front ++ first) ≡ lines_after held a.front ++ listed line [] =
    lines_after-append held a.front first ∙ ap (λ (x : List Line). lines_after held a.front ++ x) (sym more) in
    let count : next.lines ≡ h.lines + length (listed line []) =
    ap (λ (x : FeedState). x.lines) t.held ∙ s.lines ∙ ap (λ (x : List Line). h.lines + length x) (sym t.lines) in
    let longer : length new ≡ length mid + length (listed line []) =
    ap (λ (x : List Line). length x) is ∙ length-append mid (listed line []) in
    let before = a.count in
    record {
      front = a.front ++ first;
      parts =
          a.parts ∙ ap (λ (x : List ℕ). a.front ++ x)
          (through_parts rest ∙ ap (λ (x : List ℕ). first ++ x) (sym t.left_is)) ∙ sym (append_assoc a.front first left);
      taken = taken;
      lines =
          is ∙ ap (λ (x : List Line). x ++ listed line []) a.lines
          ∙ append_assoc old (lines_after held a.front) (listed line []) ∙ ap (λ (x : List Line). old ++ x) (sym all);
      no_fault = t.ok;
      count = omega arith;
    }

-- an event for which there is no memory
pub no_room : (held h next : FeedState) (old mid : List Line) (piece rest left : List ℕ) (line : Option Line)
    → Adding held h old mid piece rest → TookLine h next line rest left → 0 < length mid → IsSome line → NoRoom held piece
no_room held h next old mid piece rest left None a t some is = absurd cc
no_room held h next old mid piece rest left (Some line) a t some is =
    let first = take_through 10 rest in
    let s = spelled h first (ap (λ (x : FeedState). x.fault) (sym t.held) ∙ t.ok) in
    let taken : next ≡ feed_after held (a.front ++ first) =
    t.held ∙ ap (λ (x : FeedState). feed_after x first) a.taken ∙ sym (feed_after-append held a.front first) in
    let count : next.lines ≡ h.lines + 1 =
    ap (λ (x : FeedState). x.lines) t.held ∙ s.lines ∙ ap (λ (x : List Line). h.lines + length x) (sym t.lines) in
    let before = a.count in
    record {
      front = a.front ++ first;
      back = left;
      parts =
          a.parts ∙ ap (λ (x : List ℕ). a.front ++ x)
          (through_parts rest ∙ ap (λ (x : List ℕ). first ++ x) (sym t.left_is)) ∙ sym (append_assoc a.front first left);
      ok = ap (λ (x : FeedState). x.fault) (sym taken) ∙ t.ok;
      event = subst (λ (x : FeedState). 1 < x.lines) taken (omega arith);
    }

-- a bad line ends the piece
pub not_added : (held h next : FeedState) (old mid : List Line) (piece rest : List ℕ) (fault : ReplayFault)
    → Adding held h old mid piece rest → next ≡ feed_after h (take_through 10 rest) → next.fault ≡ Some fault
    → IsLineFault fault → PieceNotKept fault held piece next
not_added held h next old mid piece rest fault a held_is failed is =
    let first = take_through 10 rest in
    let left = drop (length first) rest in
    let s = stays next fault left failed in
    let whole : next ≡ feed_after h (first ++ left) =
    sym s.0 ∙ ap (λ (x : FeedState). feed_after x left) held_is ∙ sym (feed_after-append h first left) in
    let all : next ≡ feed_after held (a.front ++ rest) =
    whole ∙ ap (λ (x : List ℕ). feed_after h x) (sym (through_parts rest))
    ∙ ap (λ (x : FeedState). feed_after x rest) a.taken ∙ sym (feed_after-append held a.front rest) in
    inl (failed, is, all ∙ ap (λ (x : List ℕ). feed_after held x) (sym a.parts))

-- ---- between two reads

pub record Drafting (from to : Option (List ℕ)) (h : FeedState) (lines : List Line) : Type 0 where
  pub bytes : List ℕ
  pub reads : Consumes from to bytes
  pub held : h ≡ feed_after opening_feed bytes
  pub lines_are : lines ≡ lines_after opening_feed bytes
  pub no_fault : h.fault ≡ None

pub begins : (from : Option (List ℕ)) → Drafting from from opening_feed []
unfolding feed_after lines_after
begins from = record { bytes = []; reads = Consumes-nil from; held = refl; lines_are = refl; no_fault = refl }

pub held_ok : {from to : Option (List ℕ)} (h : FeedState) (lines : List Line) (d : Drafting from to h lines)
    → (feed_after opening_feed d.bytes).fault ≡ None
held_ok h lines d = ap (λ (x : FeedState). x.fault) (sym d.held) ∙ d.no_fault

pub counts : (from to : Option (List ℕ)) (h : FeedState) (lines : List Line) → Drafting from to h lines → h.lines ≡ length lines
counts from to h lines d =
    let t = taken d.bytes (held_ok h lines d) in
    ap (λ (x : FeedState). x.lines) d.held ∙ t.lines ∙ ap (λ (x : List Line). length x) (sym d.lines_are)

pub goes_on : (from mid to : Option (List ℕ)) (h h' : FeedState) (lines more : List Line) (piece : List ℕ)
    → Drafting from mid h lines → Consumes mid to piece → h' ≡ feed_after h piece → more ≡ lines ++ lines_after h piece
    → h'.fault ≡ None → Drafting from to h' more
goes_on from mid to h h' lines more piece d read held is ok =
    record {
      bytes = d.bytes ++ piece;
      reads = Consumes-trans from mid to d.bytes piece d.reads read;
      held = held ∙ ap (λ (x : FeedState). feed_after x piece) d.held ∙ sym (feed_after-append opening_feed d.bytes piece);
      lines_are =
          is ∙ ap (λ (x : List Line). x ++ lines_after h piece) d.lines_are
          ∙ ap (λ (x : FeedState). lines_after opening_feed d.bytes ++ lines_after x piece) d.held
          ∙ sym (lines_after-append opening_feed d.bytes piece);
      no_fault = ok;
    }

pub smaller : (from to : Option (List ℕ)) (h h' : FeedState) (lines : List Line) (piece : List ℕ)
    → Drafting from to h lines → h' ≡ feed_after h piece → h'.fault ≡ None → 0 < length piece → room h' < room h
smaller from to h h' lines piece d held ok some =
    let is : IsHeld h = subst (λ (x : FeedState). IsHeld x) (sym d.held) (holds opening_feed d.bytes opening_is (held_ok h lines d)).held in
    let later = holds h piece is (ap (λ (x : FeedState). x.fault) (sym held) ∙ ok) in
    let less = later.room in
    let same : room h' ≡ room (feed_after h piece) = ap room held in
    omega arith

-- ---- what is answered

-- what is wrong with all bytes of the reader
known_fault : (from to : Option (List ℕ)) (bytes : List ℕ) (fault : ReplayFault) → Consumes from to bytes
    → IfSome to (λ left. HasFault (bytes ++ left) fault) → IfSome from (λ all. HasFault all fault)
known_fault None to bytes fault reads bad = tt
known_fault (Some all) None bytes fault reads bad = absurd reads
known_fault (Some all) (Some left) bytes fault reads bad = subst (λ (x : List ℕ). HasFault x fault) (sym reads) bad

-- a fault that is told, what was read, and what is wrong with the bytes
pub record Answers (from to : Option (List ℕ)) (fault : ReplayFault) : Type 0 where
  pub is : NotRead fault from to
  pub bad : IfSome from (λ all. HasFault all fault)
  pub only : IsLineFault fault → IfSome from (λ all. ¬ (SpellsSome all))

pub none_spelled : (from : Option (List ℕ)) (fault : ReplayFault) → IfSome from (λ all. HasFault all fault)
    → IsLineFault fault → IfSome from (λ all. ¬ (SpellsSome all))
none_spelled None fault bad is = tt
none_spelled (Some all) fault bad is = λ (s : SpellsSome all). no_fault all fault s.sizes s.events is bad s.spells

answers : (from to : Option (List ℕ)) (fault : ReplayFault) → NotRead fault from to → IfSome from (λ all. HasFault all fault)
    → Answers from to fault
answers from to fault is bad = record { is = is; bad = bad; only = none_spelled from fault bad }

pub read_failed : (from mid to : Option (List ℕ)) (h : FeedState) (lines : List Line) → Drafting from mid h lines → Keeps mid to
    → Answers from to Read
read_failed from mid to h lines d kept =
    answers from to Read
    (record {
      bytes = d.bytes;
      reads = Consumes-kept from mid to d.bytes d.reads kept;
      lines = lines_of d.bytes (held_ok h lines d);
    })
    (for_some from _ (λ _. tt))

memory : (from mid to : Option (List ℕ)) (h : FeedState) (lines : List Line) (piece : List ℕ) → Drafting from mid h lines
    → Consumes mid to piece → NoRoom h piece → Answers from to Memory
memory from mid to h lines piece d read n =
    let same : feed_after opening_feed (d.bytes ++ n.front) ≡ feed_after h n.front =
    feed_after-append opening_feed d.bytes n.front ∙ ap (λ (x : FeedState). feed_after x n.front) (sym d.held) in
    let parts : d.bytes ++ piece ≡ (d.bytes ++ n.front) ++ n.back =
    ap (λ (x : List ℕ). d.bytes ++ x) n.parts ∙ sym (append_assoc d.bytes n.front n.back) in
    answers from to Memory
    (memory_cut from to (d.bytes ++ n.front) n.back
    (subst (λ (x : List ℕ). Consumes from to x) parts (Consumes-trans from mid to d.bytes piece d.reads read))
    (ap (λ (x : FeedState). x.fault) same ∙ n.ok) (subst (λ (x : FeedState). 1 < x.lines) (sym same) n.event))
    (for_some from _ (λ _. tt))

pub piece_failed : (from mid to : Option (List ℕ)) (h h' : FeedState) (lines : List Line) (piece : List ℕ)
    (fault : ReplayFault) → Drafting from mid h lines → Consumes mid to piece → PieceNotKept fault h piece h' → Answers from to fault
piece_failed from mid to h h' lines piece fault d read (inr (is, n)) =
    subst (λ (f : ReplayFault). Answers from to f) (sym is) (memory from mid to h lines piece d read n)
piece_failed from mid to h h' lines piece fault d read (inl (failed, line, held)) =
    let whole : h' ≡ feed_after opening_feed (d.bytes ++ piece) =
    held ∙ ap (λ (x : FeedState). feed_after x piece) d.held ∙ sym (feed_after-append opening_feed d.bytes piece) in
    let stopped : (feed_after opening_feed (d.bytes ++ piece)).fault ≡ Some fault = ap (λ (x : FeedState). x.fault) (sym whole) ∙ failed in
    let s = stops opening_feed (d.bytes ++ piece) fault refl opening_is stopped in
    let reads : Consumes from to (d.bytes ++ piece) = Consumes-trans from mid to d.bytes piece d.reads read in
    let some = s.some in
    answers from to fault
    (subst (λ (f : ReplayFault). NotRead f from to) (sym s.fault_is)
    (line_cut from to s.front s.back (subst (λ (x : List ℕ). Consumes from to x) s.parts reads) s.ok
    (λ _. simp (length-append) (omega arith)) (for_some to _ s.bad)))
    (known_fault from to (d.bytes ++ piece) fault reads
    (for_some to _ (λ left. fault_of (d.bytes ++ piece) fault left stopped)))

pub end_failed : (from mid to : Option (List ℕ)) (h : FeedState) (lines : List Line) (fault : ReplayFault)
    → Drafting from mid h lines → Consumes mid to [] → IsAtEnd to → end_of h ≡ Err fault → Answers from to fault
end_failed from mid to h lines fault d read all ended = by (end_cases h (Err fault) d.no_fault ended)
  where
    reads : Consumes from to (d.bytes ++ [])
    reads = Consumes-trans from mid to d.bytes [] d.reads read

    at_end : (to : Option (List ℕ)) → IsAtEnd to → HasFault d.bytes fault → IfSome to (λ left. HasFault ((d.bytes ++ []) ++ left) fault)
    at_end None e bad = tt
    at_end (Some left) e bad =
        subst (λ (x : List ℕ). HasFault ((d.bytes ++ []) ++ x) fault) (sym e)
        (subst (λ (x : List ℕ). HasFault x fault) (sym (append-nil (d.bytes ++ []) ∙ append-nil d.bytes)) bad)

    by : ((with_error fault ≡ Ok tt) × (h.rest ≡ []) × (0 < h.lines))
        ⊎ ((with_error fault ≡ Err (fault_at h.lines)) × (0 < h.lines → 0 < length h.rest)) → Answers from to fault
    by (inl (is, none, some)) = absurd (err_ok fault is)
    by (inr (is, some)) =
        let ok = held_ok h lines d in
        let now = feed_after opening_feed d.bytes in
        answers from to fault
        (subst (λ (f : ReplayFault). NotRead f from to)
        (ap (λ (x : FeedState). fault_at x.lines) (sym d.held) ∙ sym (err_is fault (fault_at h.lines) is))
        (line_cut from to d.bytes [] reads ok
        (λ more. subst (λ (x : List ℕ). 0 < length x) (sym (append-nil now.rest))
        (subst (λ (x : FeedState). 0 < x.lines → 0 < length x.rest) d.held some more))
        (cut_at_end to now.lines now.rest all (cut now.lines now.rest (taken d.bytes ok).held.no_end))))
        (known_fault from to (d.bytes ++ []) fault reads
        (at_end to all (end_fault d.bytes fault (ap end_of (sym d.held) ∙ ended))))

-- the trace is that of the bytes
pub some_lines : (from to : Option (List ℕ)) (h : FeedState) (lines : List Line) → Drafting from to h lines → end_of h ≡ Ok tt → 0 < length lines
some_lines from to h lines d ended =
    let t = end_trace d.bytes (ap end_of (sym d.held) ∙ ended) in
    let count = t.lines.count in
    let same : length lines ≡ length (lines_after opening_feed d.bytes) = ap (λ (x : List Line). length x) d.lines_are in
    omega arith

map_event : (a b : List Event) → map event a ≡ map event b → a ≡ b
map_event [] [] e = refl
map_event [] (y ∷ b) e = absurd cc
map_event (x ∷ a) [] e = absurd cc
map_event (x ∷ a) (y ∷ b) e =
    let first : x ≡ y = cc in
    let others : map event a ≡ map event b = cc in
    rw (first, map_event a b others) refl

pub trace_read : (from mid to : Option (List ℕ)) (h : FeedState) (lines : List Line) (s : Sizes) (events : List Event)
    → Drafting from mid h lines → Consumes mid to [] → IsAtEnd to → end_of h ≡ Ok tt
    → lines ≡ header s ∷ map event events → ReadsTrace from to s events
trace_read from mid to h lines s events d read all ended is =
    let t = end_trace d.bytes (ap end_of (sym d.held) ∙ ended) in
    let same : header t.lines.sizes ∷ map event t.lines.events ≡ header s ∷ map event events = sym t.lines.is ∙ sym d.lines_are ∙ is in
    let sizes_are : t.lines.sizes ≡ s = cc in
    let mapped : map event t.lines.events ≡ map event events = cc in
    let events_are : t.lines.events ≡ events = map_event t.lines.events events mapped in
    subst (λ (x : Sizes). ReadsTrace from to x events) sizes_are
    (subst (λ (x : List Event). ReadsTrace from to t.lines.sizes x) events_are
    (record {
      trace = t.spells.trace;
      reads =
          subst (λ (x : List ℕ). Consumes from to x) (append-nil d.bytes ∙ t.spells.text)
          (Consumes-trans from mid to d.bytes [] d.reads read);
      all = all;
    }))

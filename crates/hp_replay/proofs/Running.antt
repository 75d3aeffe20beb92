-- Lines that run one after the other, piece by piece.
use Rattle.std.proofs.Common.{◌≡◌, ℕ, zero, suc, ◌+◌, ◌<◌, List, [], ◌∷◌, ◌++◌, length, drop, Option}
use Rattle.std.proofs.Common.{Some, None, refl, sym, ap, subst, ◌∙◌, append_assoc, arith, inl, inr}
use Rattle.std.specs.Prelude.{IsSome, OnOk, Result, Ok, Err}
use Rattle.std.specs.declared.alloc.AllocError.{AllocError}
use Rattle.std.specs.Io.BufRead.{take_through}
use Rattle.std.proofs.KnownBytes.{Appends-nil, Appends-trans}
use Rattle.std.proofs.lemmas.List.{append-nil}
use Rattle.hp_base.specs.declared.config.Config.{Config}
use Rattle.hp_base.specs.declared.event.Event.{Event}
use Rattle.hp_machine.specs.declared.outcome.Outcome.{Outcome}
use Rattle.hp_core.specs.Runs.{Row, IsOpening}
use Rattle.hp_core.specs.State.{CoreState}
use Rattle.hp_text.specs.declared.fault.ReplayFault.{ReplayFault}
use Rattle.hp_text.specs.declared.fault.ReplayFault.TheVariants.{Memory}
use Rattle.hp_text.specs.declared.feed.TraceLine.{TraceLine}
use Rattle.hp_text.specs.declared.feed.TraceLine.TheVariants as lines
use Rattle.hp_text.specs.Lines.{FeedState, Line, header, event, line_of, feed_after, lines_after, listed, AreLines}
use Rattle.hp_replay.specs.Outcomes.{outcome_line}
use Rattle.hp_text.specs.Traces.{IsLineFault}
use Rattle.hp_replay.specs.Running.{LineRuns, LinesRun, LinesRan, PieceRan, PieceRanPartly}
use Rattle.hp_replay.specs.Running.{PieceStopped, CanRun, CanRunIfSome, IsOpened}
use Rattle.hp_text.proofs.Feeding.{feed_after-append, lines_after-append, stays}
use Rattle.hp_text.proofs.Spelled.{spelled}
use Rattle.hp_text.proofs.FirstLines.{TookLine, through_parts}
use Rattle.hp_text.proofs.Writes.{Wrote-behind}

pub LinesRun-append : (a : Option CoreState) (xs : List Line) (b : Option CoreState) (s : List ℕ) (ys : List Line)
    (c : Option CoreState) (t : List ℕ) → LinesRun a xs b s → LinesRun b ys c t → LinesRun a (xs ++ ys) c (s ++ t)
LinesRun-append a [] b s ys c t p q =
    subst (λ (x : List ℕ). LinesRun a ys c (x ++ t)) (sym p.1) (subst (λ (x : Option CoreState). LinesRun x ys c t) p.0 q)
LinesRun-append a (x ∷ xs) b s ys c t (mid, first, others, one, more, text) q = (
  mid,
  first,
  others ++ t,
  one,
  LinesRun-append mid xs b others ys c t more q,
  ap (λ (x : List ℕ). x ++ t) text ∙ append_assoc first others t,
)

-- ---- one line

pub no_lines : (old : Option CoreState) (o : Option (List ℕ)) → LinesRan old [] old o o
no_lines old o = record { text = []; runs = (refl, refl); wrote = Appends-nil o }

one_runs : (old : Option CoreState) (line : Line) (new : Option CoreState) (text : List ℕ)
    → LineRuns old line new text → LinesRun old (line ∷ []) new text
one_runs old line new text runs = (new, text, [], runs, (refl, refl), sym (append-nil text))

-- the first line opens the core
pub opened_ran : (old : Option CoreState) (line : TraceLine) (config : Config) (core : CoreState)
    (o : Option (List ℕ)) → line ≡ lines.Header config → IsOpening config core → LinesRan old (line_of line ∷ []) (Some core) o o
opened_ran old line config core o is opening =
    subst (λ (l : TraceLine). LinesRan old (line_of l ∷ []) (Some core) o o) (sym is)
    (record {
      text = [];
      runs = one_runs old (line_of (lines.Header config)) (Some core) [] (config, refl, opening, refl);
      wrote = Appends-nil o;
    })

-- another line is an event
event_runs : (old : Option CoreState) (core new : CoreState) (line : TraceLine) (e : Event) (outcome : Outcome)
    → line ≡ lines.Event e → old ≡ Some core → Row core e outcome new
    → LinesRun old (line_of line ∷ []) (Some new) (outcome_line outcome)
event_runs old core new line e outcome is some row =
    subst (λ (l : TraceLine). LinesRun old (line_of l ∷ []) (Some new) (outcome_line outcome)) (sym is)
    (subst (λ (c : Option CoreState). LinesRun c (event e ∷ []) (Some new) (outcome_line outcome)) (sym some)
    (one_runs (Some core) (event e) (Some new) (outcome_line outcome) (outcome, row, refl)))

pub event_ran : (old : Option CoreState) (core new : CoreState) (line : TraceLine) (e : Event) (outcome : Outcome)
    (l l' : List ℕ) (r : Result (Unit {0}) AllocError) → line ≡ lines.Event e → old ≡ Some core → Row core e outcome new
    → OnOk r (l' ≡ l ++ outcome_line outcome) → OnOk r (LinesRan old (line_of line ∷ []) (Some new) (Some l) (Some l'))
event_ran old core new line e outcome l l' (Err x) is some row wrote = tt
event_ran old core new line e outcome l l' (Ok x) is some row wrote =
    record { text = outcome_line outcome; runs = event_runs old core new line e outcome is some row; wrote = wrote }

-- ---- pieces

-- the front of the piece has run, and this is left
pub record Running (held now : FeedState) (core new : Option CoreState) (before after : Option (List ℕ))
    (piece rest : List ℕ) : Type 0 where
  pub front : List ℕ
  pub parts : piece ≡ front ++ rest
  pub ran : PieceRan held front now core new before after
  pub no_fault : now.fault ≡ None
  pub opened : IsOpened now new

pub starts : (held : FeedState) (core : Option CoreState) (before : Option (List ℕ)) (piece : List ℕ) → held.fault ≡ None
    → IsOpened held core → Running held held core core before before piece piece
unfolding feed_after lines_after
starts held core before piece ok opened =
    record {
      front = [];
      parts = refl;
      ran = record { text = []; taken = refl; runs = (refl, refl); wrote = Appends-nil before };
      no_fault = ok;
      opened = opened;
    }

-- the lines of a longer piece
lines_run : (h h' : FeedState) (a b : List ℕ) (c c' c'' : Option CoreState) (s t : List ℕ) → h' ≡ feed_after h a
    → LinesRun c (lines_after h a) c' s → LinesRun c' (lines_after h' b) c'' t → LinesRun c (lines_after h (a ++ b)) c'' (s ++ t)
lines_run h h' a b c c' c'' s t is p q =
    let more : LinesRun c' (lines_after (feed_after h a) b) c'' t = subst (λ (x : FeedState). LinesRun c' (lines_after x b) c'' t) is q in
    subst (λ (ls : List Line). LinesRun c ls c'' (s ++ t)) (sym (lines_after-append h a b))
    (LinesRun-append c (lines_after h a) c' s (lines_after (feed_after h a) b) c'' t p more)

pub PieceRan-append : (h h' h'' : FeedState) (a b : List ℕ) (c c' c'' : Option CoreState) (o o' o'' : Option (List ℕ))
    → PieceRan h a h' c c' o o' → PieceRan h' b h'' c' c'' o' o'' → PieceRan h (a ++ b) h'' c c'' o o''
PieceRan-append h h' h'' a b c c' c'' o o' o'' p q =
    record {
      text = p.text ++ q.text;
      taken = q.taken ∙ ap (λ (x : FeedState). feed_after x b) p.taken ∙ sym (feed_after-append h a b);
      runs = lines_run h h' a b c c' c'' p.text q.text p.taken p.runs q.runs;
      wrote = Appends-trans o o' o'' p.text q.text p.wrote q.wrote;
    }

-- a piece that ran, and then one that did in part
pub PieceRanPartly-behind : (h h' : FeedState) (a b : List ℕ) (c c' : Option CoreState) (o o' o'' : Option (List ℕ))
    → PieceRan h a h' c c' o o' → PieceRanPartly h' b c' o' o'' → PieceRanPartly h (a ++ b) c o o''
PieceRanPartly-behind h h' a b c c' o o' o'' p q =
    record {
      front = a ++ q.front;
      back = q.back;
      parts = ap (λ (x : List ℕ). a ++ x) q.parts ∙ sym (append_assoc a q.front q.back);
      ok = ap (λ (x : FeedState). x.fault) (feed_after-append h a q.front ∙ ap (λ (x : FeedState). feed_after x q.front) (sym p.taken))
          ∙ q.ok;
      ran = record {
        new = q.ran.new;
        text = p.text ++ q.ran.text;
        runs = lines_run h h' a q.front c c' q.ran.new p.text q.ran.text p.taken p.runs q.ran.runs;
        wrote = Wrote-behind o o' o'' p.text q.ran.text p.wrote q.ran.wrote;
      };
    }

can_run : (n : ℕ) (line : Line) (core : Option CoreState) → AreLines n (line ∷ []) → (0 < n → IsSome core) → CanRun core line
can_run zero (header s) core are opened = tt
can_run zero (event e) core are opened = absurd are
can_run (suc n) (header s) core are opened = tt
can_run (suc n) (event e) None are opened = absurd (none_is (opened (omega arith)))
  where
    none_is : IsSome {T = CoreState} None → ⊥
    none_is e = cc
can_run (suc n) (event e) (Some core) are opened = tt

-- a line that comes finds the core that it needs
pub line_can_run : (h next : FeedState) (line : Option Line) (rest : List ℕ) (core : Option CoreState)
    → next ≡ feed_after h (take_through 10 rest) → listed line [] ≡ lines_after h (take_through 10 rest)
    → next.fault ≡ None → IsOpened h core → CanRunIfSome core line
line_can_run h next None rest core held lines ok opened = tt
line_can_run h next (Some line) rest core held lines ok opened =
    let s = spelled h (take_through 10 rest) (ap (λ (x : FeedState). x.fault) (sym held) ∙ ok) in
    can_run h.lines line core (subst (λ (ls : List Line). AreLines h.lines ls) (sym lines) s.are) opened

some_core : (old : Option CoreState) (line : Line) (new : Option CoreState) (text : List ℕ) → LineRuns old line new text → IsSome new
some_core old (header s) None text runs = absurd runs
some_core old (header s) (Some new) text runs = refl
some_core None (event e) new text runs = absurd runs
some_core (Some old) (event e) None text runs = absurd runs
some_core (Some old) (event e) (Some new) text runs = refl

opened_on : (n m : ℕ) (mid new : Option CoreState) (line : Option Line) (text : List ℕ)
    → LinesRun mid (listed line []) new text → m ≡ n + length (listed line []) → (0 < n → IsSome mid) → 0 < m → IsSome new
opened_on n m mid new None text runs count opened some = subst (λ (x : Option CoreState). IsSome x) (sym runs.0) (opened (omega arith))
opened_on n m mid new (Some line) text (next, first, others, one, more, parts) count opened some =
    subst (λ (x : Option CoreState). IsSome x) (sym more.0) (some_core mid line next first one)

-- the line that the bytes begin with ran
pub line_ran : (h next : FeedState) (mid new : Option CoreState) (o o' : Option (List ℕ)) (rest left : List ℕ) (line : Option Line)
    → TookLine h next line rest left → LinesRan mid (listed line []) new o o' → PieceRan h (take_through 10 rest) next mid new o o'
line_ran h next mid new o o' rest left line t ran =
    record {
      text = ran.text;
      taken = t.held;
      runs = subst (λ (ls : List Line). LinesRun mid ls new ran.text) t.lines ran.runs;
      wrote = ran.wrote;
    }

pub line_opened : (h next : FeedState) (mid new : Option CoreState) (o o' : Option (List ℕ)) (rest left : List ℕ) (line : Option Line)
    → TookLine h next line rest left → LinesRan mid (listed line []) new o o' → IsOpened h mid → IsOpened next new
line_opened h next mid new o o' rest left line t ran opened =
    let s = spelled h (take_through 10 rest) (ap (λ (x : FeedState). x.fault) (sym t.held) ∙ t.ok) in
    let count : next.lines ≡ h.lines + length (listed line []) =
    ap (λ (x : FeedState). x.lines) t.held ∙ s.lines ∙ ap (λ (x : List Line). h.lines + length x) (sym t.lines) in
    opened_on h.lines next.lines mid new line ran.text ran.runs count opened

-- the line was taken, and memory was wanted to run it: of the bytes nothing ran, and no text came
pub line_unrun : (h after : FeedState) (mid new : Option CoreState) (l l' rest : List ℕ) → h.fault ≡ None → l' ≡ l
    → PieceStopped Memory h rest after mid new (Some l) (Some l')
unfolding feed_after lines_after
line_unrun h after mid new l l' rest ok same =
    inr (
      refl,
      record {
        front = [];
        back = rest;
        parts = refl;
        ok = ok;
        ran = record {
          new = mid;
          text = [];
          runs = (refl, refl);
          wrote = record { front = []; back = []; parts = refl; appends = same ∙ sym (append-nil l) };
        };
      },
    )

-- a fault: no line comes of the bytes
pub fails : (h next : FeedState) (mid : Option CoreState) (o : Option (List ℕ)) (rest : List ℕ) (fault : ReplayFault)
    → next ≡ feed_after h (take_through 10 rest) → lines_after h (take_through 10 rest) ≡ [] → next.fault ≡ Some fault
    → IsLineFault fault → PieceStopped fault h rest next mid mid o o
fails h next mid o rest fault held_is none failed is =
    let t = take_through 10 rest in
    let left = drop (length t) rest in
    let s = stays next fault left failed in
    let taken : next ≡ feed_after h (t ++ left) =
    sym s.0 ∙ ap (λ (x : FeedState). feed_after x left) held_is ∙ sym (feed_after-append h t left) in
    let no_lines : lines_after h (t ++ left) ≡ [] = lines_after-append h t left ∙ rw (none, ← held_is) s.1 in
    let all : PieceRan h (t ++ left) next mid mid o o =
    record {
      text = [];
      taken = taken;
      runs = subst (λ (ls : List Line). LinesRun mid ls mid []) (sym no_lines) (refl, refl);
      wrote = Appends-nil o;
    } in
    inl (failed, is, subst (λ (x : List ℕ). PieceRan h x next mid mid o o) (sym (through_parts rest)) all)

-- the next line of the piece ran
pub piece_moves : (held h next : FeedState) (core mid new : Option CoreState) (o o' o'' : Option (List ℕ)) (piece rest left : List ℕ)
    → Running held h core mid o o' piece rest → PieceRan h (take_through 10 rest) next mid new o' o'' → next.fault ≡ None
    → IsOpened next new → left ≡ drop (length (take_through 10 rest)) rest → Running held next core new o o'' piece left
piece_moves held h next core mid new o o' o'' piece rest left r one ok opened left_is =
    record {
      front = r.front ++ take_through 10 rest;
      parts =
          r.parts ∙ ap (λ (x : List ℕ). r.front ++ x)
          (through_parts rest ∙ ap (λ (x : List ℕ). take_through 10 rest ++ x) (sym left_is))
          ∙ sym (append_assoc r.front (take_through 10 rest) left);
      ran = PieceRan-append held h next r.front (take_through 10 rest) core mid new o o' o'' r.ran one;
      no_fault = ok;
      opened = opened;
    }

-- the rest of the piece did not run to its end
pub piece_stops : (held h next : FeedState) (core mid new : Option CoreState) (o o' o'' : Option (List ℕ)) (piece rest : List ℕ)
    (fault : ReplayFault) → Running held h core mid o o' piece rest → PieceStopped fault h rest next mid new o' o''
    → PieceStopped fault held piece next core new o o''
piece_stops held h next core mid new o o' o'' piece rest fault r (inl (failed, is, ran)) =
    inl (
      failed,
      is,
      subst (λ (x : List ℕ). PieceRan held x next core new o o'') (sym r.parts)
          (PieceRan-append held h next r.front rest core mid new o o' o'' r.ran ran),
    )
piece_stops held h next core mid new o o' o'' piece rest fault r (inr (is, part)) =
    inr (
      is,
      subst (λ (x : List ℕ). PieceRanPartly held x core o o'') (sym r.parts)
          (PieceRanPartly-behind held h r.front rest core mid o o' o'' r.ran part),
    )

-- What all bytes say: a trace, or the fault of their first bad line.
use Rattle.std.proofs.Common.{◌≡◌, ℕ, zero, suc, ◌+◌, ◌<◌, ◌≤◌, List, [], ◌∷◌, ◌++◌, length, Option, Some, None, refl, sym, ap}
use Rattle.std.proofs.Common.{subst, ◌∙◌, arith, append_assoc, length-append}
use Rattle.std.specs.Prelude.{Ok, Err, map, All}
use Rattle.std.specs.List.{flat_map}
use Rattle.std.proofs.lemmas.List.{append-nil}
use Rattle.std.proofs.lemmas.List.Elements.{All-nil, All-cons}
use Rattle.hp_base.specs.Text.{Sizes}
use Rattle.hp_base.specs.declared.event.Event.{Event}
use Rattle.hp_text.specs.declared.fault.ReplayFault.{ReplayFault}
use Rattle.hp_text.specs.declared.fault.ReplayFault.TheVariants.{BadLine, BadHeader}
use Rattle.hp_text.specs.Fits.{EventFits}
use Rattle.hp_text.specs.Lines.{FeedState, opening_feed, Line, header, event, line_text, AreLines, take_byte, fault_at, feed_after}
use Rattle.hp_text.specs.Lines.{lines_after, end_of, end_at}
use Rattle.hp_text.specs.Traces.{IsTrace, Spells, HasFault, trace_text, events_text}
use Rattle.hp_text.proofs.Bytes.{IsHeld, keeps_held, room}
use Rattle.hp_text.proofs.BadLines.{NoLine, stops, cut}
use Rattle.hp_text.proofs.LastLines.{err_is, err_ok, ok_err}
use Rattle.hp_text.proofs.Spelled.{spelled, no_fault_before}

pub opening_is : IsHeld opening_feed
opening_is = record { lines = omega arith; rest = omega arith; no_end = refl }

-- what is held stays so, and each byte takes room
pub record Holds (h : FeedState) (bytes : List ℕ) : Type 0 where
  pub held : IsHeld (feed_after h bytes)
  pub room : room (feed_after h bytes) + length bytes ≤ room h

pub holds : (h : FeedState) (bytes : List ℕ) → IsHeld h → (feed_after h bytes).fault ≡ None → Holds h bytes
unfolding feed_after
holds h [] is ok = record { held = is; room = omega arith }
holds h (b ∷ bytes) is ok =
    let after = no_fault_before (take_byte h b).0 bytes ok in
    let before = no_fault_before h (b ∷ bytes) ok in
    let first = keeps_held h b before is in
    let more = holds (take_byte h b).0 bytes first.held ok in
    let smaller = first.smaller after in
    record { held = more.held; room = omega (arith, more.room) }

-- the lines behind a header
pub record EventLines (lines : List Line) : Type 0 where
  pub events : List Event
  pub is : lines ≡ map event events
  pub each : All EventFits events
  pub text : flat_map line_text lines ≡ events_text events
  pub count : length lines ≡ length events

pub event_lines : (n : ℕ) (lines : List Line) → AreLines (suc n) lines → EventLines lines
event_lines n [] are = record { events = []; is = refl; each = All-nil EventFits; text = refl; count = refl }
event_lines n (header s ∷ lines) are = absurd are
event_lines n (event e ∷ lines) are =
    let later : AreLines (suc (suc n)) lines = let add : suc n + 1 ≡ suc (suc n) = omega arith in
    subst (λ (k : ℕ). AreLines k lines) add are.1 in
    let more = event_lines (suc n) lines later in
    record {
      events = e ∷ more.events;
      is = ap (λ (x : List Line). event e ∷ x) more.is;
      each = All-cons EventFits e more.events are.0 more.each;
      text = ap (λ (x : List ℕ). line_text (event e) ++ x) more.text;
      count = ap suc more.count;
    }

-- the lines of a trace
pub record TraceLines (lines : List Line) : Type 0 where
  pub sizes : Sizes
  pub events : List Event
  pub is : lines ≡ header sizes ∷ map event events
  pub trace : IsTrace sizes events
  pub text : flat_map line_text lines ≡ trace_text sizes events
  pub count : length lines ≡ length events + 1

pub trace_lines : (lines : List Line) → AreLines 0 lines → length lines ≤ 1000001 → 0 < length lines → TraceLines lines
trace_lines [] are few some = absurd (omega arith)
trace_lines (event e ∷ lines) are few some = absurd are
trace_lines (header s ∷ lines) are few some =
    let more = event_lines 0 lines are.1 in
    let count = more.count in
    record {
      sizes = s;
      events = more.events;
      is = ap (λ (x : List Line). header s ∷ x) more.is;
      trace = record { within = are.0; each = more.each; few = omega arith };
      text = ap (λ (x : List ℕ). line_text (header s) ++ x) more.text;
      count = omega arith;
    }

-- what was taken without a fault
pub record Taken (bytes : List ℕ) : Type 0 where
  pub held : IsHeld (feed_after opening_feed bytes)
  pub text : flat_map line_text (lines_after opening_feed bytes) ++ (feed_after opening_feed bytes).rest ≡ bytes
  pub lines : (feed_after opening_feed bytes).lines ≡ length (lines_after opening_feed bytes)
  pub are : AreLines 0 (lines_after opening_feed bytes)

pub taken : (bytes : List ℕ) → (feed_after opening_feed bytes).fault ≡ None → Taken bytes
taken bytes ok =
    let s = spelled opening_feed bytes ok in
    record { held = (holds opening_feed bytes opening_is ok).held; text = s.text; lines = s.lines ∙ omega arith; are = s.are }

-- the trace that was taken, and what is left
pub record TakenTrace (bytes : List ℕ) (lines : List Line) (rest : List ℕ) : Type 0 where
  pub trace : TraceLines lines
  pub text : trace_text trace.sizes trace.events ++ rest ≡ bytes

pub taken_trace : (bytes : List ℕ) (n : ℕ) → (feed_after opening_feed bytes).fault ≡ None
    → (feed_after opening_feed bytes).lines ≡ suc n
    → TakenTrace bytes (lines_after opening_feed bytes) (feed_after opening_feed bytes).rest
taken_trace bytes n ok count =
    let t = taken bytes ok in
    let few = t.held.lines in
    let lines = t.lines in
    let trace = trace_lines (lines_after opening_feed bytes) t.are (omega arith) (omega arith) in
    record { trace = trace; text = ap (λ (x : List ℕ). x ++ (feed_after opening_feed bytes).rest) (sym trace.text) ∙ t.text }

pub rest_is : (lines : List Line) (rest bytes : List ℕ) → length lines ≡ 0 → flat_map line_text lines ++ rest ≡ bytes → rest ≡ bytes
rest_is [] rest bytes e t = t
rest_is (l ∷ lines) rest bytes e t = absurd (omega arith)

-- no line stands behind those that were taken
pub front_fault : (front back : List ℕ) → (feed_after opening_feed front).fault ≡ None
    → (0 < (feed_after opening_feed front).lines → 0 < length ((feed_after opening_feed front).rest ++ back))
    → NoLine (feed_after opening_feed front).lines ((feed_after opening_feed front).rest ++ back)
    → HasFault (front ++ back) (fault_at (feed_after opening_feed front).lines)
front_fault front back ok some bad = by (feed_after opening_feed front).lines refl bad
  where
    by : (n : ℕ) → (feed_after opening_feed front).lines ≡ n → NoLine n ((feed_after opening_feed front).rest ++ back)
        → HasFault (front ++ back) (fault_at n)
    by zero none bad =
        let t = taken front ok in
        let no_lines = t.lines in
        let rest : (feed_after opening_feed front).rest ≡ front =
        rest_is (lines_after opening_feed front) (feed_after opening_feed front).rest front (omega arith) t.text in
        subst (λ (x : List ℕ). NoLine 0 (x ++ back)) rest bad
    by (suc n) count bad =
        let t = taken_trace front n ok count in
        let lines = (taken front ok).lines in
        let counted = t.trace.count in
        let same : n ≡ length t.trace.events = omega arith in
        record {
          sizes = t.trace.sizes;
          events = t.trace.events;
          rest = (feed_after opening_feed front).rest ++ back;
          parts =
              ap (λ (x : List ℕ). x ++ back) (sym t.text)
              ∙ append_assoc (trace_text t.trace.sizes t.trace.events) (feed_after opening_feed front).rest back;
          trace = t.trace.trace;
          number = omega arith;
          bad = (some (omega arith), subst (λ (k : ℕ). NoLine (suc k) ((feed_after opening_feed front).rest ++ back)) same bad);
        }

-- a fault with which bytes are not taken, whatever follows
pub fault_of : (bytes : List ℕ) (fault : ReplayFault) (later : List ℕ)
    → (feed_after opening_feed bytes).fault ≡ Some fault → HasFault (bytes ++ later) fault
fault_of bytes fault later failed =
    let s = stops opening_feed bytes fault refl opening_is failed in
    let some = s.some in
    subst (λ (f : ReplayFault). HasFault (bytes ++ later) f) (sym s.fault_is)
    (subst (λ (x : List ℕ). HasFault x (fault_at (feed_after opening_feed s.front).lines))
    (sym (ap (λ (x : List ℕ). x ++ later) s.parts ∙ append_assoc s.front s.back later))
    (front_fault s.front (s.back ++ later) s.ok (λ _. simp (length-append) (omega arith)) (s.bad later)))

-- what is wrong where the bytes are over
pub end_fault : (bytes : List ℕ) (fault : ReplayFault) → end_of (feed_after opening_feed bytes) ≡ Err fault → HasFault bytes fault
end_fault bytes fault e =
    by (feed_after opening_feed bytes).fault (feed_after opening_feed bytes).lines
    (feed_after opening_feed bytes).rest refl refl refl e
  where
    over : (feed_after opening_feed bytes).fault ≡ None
        → (0 < (feed_after opening_feed bytes).lines → 0 < length (feed_after opening_feed bytes).rest)
        → HasFault bytes (fault_at (feed_after opening_feed bytes).lines)
    over ok some =
        let h = feed_after opening_feed bytes in
        let t = taken bytes ok in
        subst (λ (x : List ℕ). HasFault x (fault_at h.lines)) (append-nil bytes)
        (front_fault bytes [] ok (λ more. rw (append-nil h.rest) (some more))
        (subst (λ (x : List ℕ). NoLine h.lines x) (sym (append-nil h.rest)) (cut h.lines h.rest t.held.no_end)))

    by : (f : Option ReplayFault) (n : ℕ) (rest : List ℕ) → (feed_after opening_feed bytes).fault ≡ f
        → (feed_after opening_feed bytes).lines ≡ n → (feed_after opening_feed bytes).rest ≡ rest
        → end_at f n rest ≡ Err fault → HasFault bytes fault
    by (Some f) n rest failed count is e =
        subst (λ (x : List ℕ). HasFault x fault) (append-nil bytes) (fault_of bytes fault [] (failed ∙ ap Some (err_is f fault e)))
    by None zero rest ok count is e =
        subst (λ (f : ReplayFault). HasFault bytes f) (ap fault_at count ∙ err_is BadHeader fault e)
        (over ok (λ more. absurd (omega arith)))
    by None (suc n) [] ok count is e = absurd (ok_err fault e)
    by None (suc n) (b ∷ rest) ok count is e =
        subst (λ (f : ReplayFault). HasFault bytes f) (ap fault_at count ∙ err_is (BadLine (n + 2)) fault e)
        (over ok (λ _. rw is (omega arith)))

-- and what they spell where nothing is
pub record EndTrace (bytes : List ℕ) : Type 0 where
  pub lines : TraceLines (lines_after opening_feed bytes)
  pub spells : Spells bytes lines.sizes lines.events

pub end_trace : (bytes : List ℕ) → end_of (feed_after opening_feed bytes) ≡ Ok tt → EndTrace bytes
end_trace bytes e =
    by (feed_after opening_feed bytes).fault (feed_after opening_feed bytes).lines
    (feed_after opening_feed bytes).rest refl refl refl e
  where
    by : (f : Option ReplayFault) (n : ℕ) (rest : List ℕ) → (feed_after opening_feed bytes).fault ≡ f
        → (feed_after opening_feed bytes).lines ≡ n → (feed_after opening_feed bytes).rest ≡ rest
        → end_at f n rest ≡ Ok tt → EndTrace bytes
    by (Some f) n rest failed count is e = absurd (err_ok f e)
    by None zero rest ok count is e = absurd (err_ok BadHeader e)
    by None (suc n) (b ∷ rest) ok count is e = absurd (err_ok (BadLine (n + 2)) e)
    by None (suc n) [] ok count is e =
        let t = taken_trace bytes n ok count in
        record {
          lines = t.trace;
          spells =
              record {
                text = sym t.text ∙ ap (λ (x : List ℕ). trace_text t.trace.sizes t.trace.events ++ x) is
                    ∙ append-nil (trace_text t.trace.sizes t.trace.events);
                trace = t.trace.trace;
              };
        }

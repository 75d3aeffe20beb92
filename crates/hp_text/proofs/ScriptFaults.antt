-- What is wrong with bytes that are no script.
use Rattle.std.proofs.Common.{◌≡◌, ℕ, zero, suc, ◌+◌, ◌<◌, ◌≤◌, List, [], ◌∷◌, ◌++◌, length}
use Rattle.std.proofs.Common.{map, Some, None, refl, sym, ap, subst, ◌∙◌}
use Rattle.std.proofs.Common.{arith, append_assoc, length-append, inl, inr, ◌⊎◌}
use Rattle.std.specs.Prelude.{All}
use Rattle.std.proofs.lemmas.List.{append-nil}
use Rattle.std.proofs.lemmas.Grind.{flat_map-append}
use Rattle.hp_base.specs.Text.{Sizes, event_text}
use Rattle.hp_base.specs.declared.event.Op.{Op}
use Rattle.hp_base.specs.declared.event.Event.{Event}
use Rattle.hp_base.specs.declared.event.Event.TheVariants.{Begin, Step, Kill, Resize}
use Rattle.hp_text.specs.declared.fault.ReplayFault.{ReplayFault}
use Rattle.hp_text.specs.declared.fault.ReplayFault.TheVariants.{BadLine, BadHeader, Read, Write, Memory}
use Rattle.hp_text.specs.Fits.{EventFits}
use Rattle.hp_text.specs.Lines.{Line, header, event, opening_feed, feed_after, lines_after, fault_at}
use Rattle.hp_text.specs.Traces.{IsTrace, IsLineFault, header_line, event_line, events_text, trace_text}
use Rattle.hp_text.specs.Scripts.{begin_of, IsCall, AreCalls, BeginsNoCall, IsBadCall, HasBadCall, HasScriptFault, SpellsScript}
use Rattle.hp_text.proofs.BadLines.{NoLine, stops, cut}
use Rattle.hp_text.proofs.OneReading.{same_event, same_header, first_is}
use Rattle.hp_text.proofs.Whole.{opening_is, taken, taken_trace, rest_is}

-- lines that begin calls, apart and together
pub calls_front : (xs ys : List Line) → AreCalls (xs ++ ys) → AreCalls xs
calls_front [] ys h = tt
calls_front (x ∷ xs) ys h = (h.0, calls_front xs ys h.1)

pub calls_both : (xs ys : List Line) → AreCalls xs → AreCalls ys → AreCalls (xs ++ ys)
calls_both [] ys h k = k
calls_both (x ∷ xs) ys h k = (h.0, calls_both xs ys h.1 k)

-- as many events begin calls as there are calls
length_calls : (calls : List (ℕ × Op)) → length (map begin_of calls) ≡ length calls
length_calls [] = refl
length_calls (c ∷ calls) = ap suc (length_calls calls)

-- the calls that events begin
pub calls_in : (events : List Event) → AreCalls (map event events) → (calls : List (ℕ × Op)) × (map begin_of calls ≡ events)
calls_in [] h = ([], refl)
calls_in (Begin t op ∷ events) h =
    let more = calls_in events h.1 in
    ((t, op) ∷ more.0, ap (λ (es : List Event). Begin t op ∷ es) more.1)
calls_in (Step t granted ∷ events) h = absurd h.0
calls_in (Kill t ∷ events) h = absurd h.0
calls_in (Resize n ∷ events) h = absurd h.0

pub all_calls : (events : List Event) → AreCalls (map event events) → All IsCall events
all_calls [] h = λ k d within. absurd (omega (arith, within))
all_calls (e ∷ events) h = first (all_calls events h.1)
  where
    first : All IsCall events → All IsCall (e ∷ events)
    first rest zero d within = h.0
    first rest (suc k) d within = rest k d (omega (arith, within))

-- the script before the first bad line
script_before : (s : Sizes) (events : List Event) (rest bytes : List ℕ) (n : ℕ) → AreCalls (map event events)
    → bytes ≡ trace_text s events ++ rest → IsTrace s events → n ≡ length events + 2
    → IsBadCall (length events) rest → HasBadCall n bytes
script_before s events rest bytes n calls parts trace number bad =
    let in_it = calls_in events calls in
    let same : length in_it.0 ≡ length events = sym (length_calls in_it.0) ∙ ap (λ (es : List Event). length es) in_it.1 in
    record {
      sizes = s;
      calls = in_it.0;
      rest = rest;
      parts = parts ∙ ap (λ (es : List Event). trace_text s es ++ rest) (sym in_it.1);
      script = subst (λ (es : List Event). IsTrace s es) (sym in_it.1) trace;
      number = omega (arith, number, same);
      bad = subst (λ (k : ℕ). IsBadCall k rest) (sym same) bad;
    }

-- no call stands where no event does
no_call : (n : ℕ) (rest : List ℕ) → NoLine (suc n) rest → (n ≡ 1000000) ⊎ BeginsNoCall rest
no_call n rest (inl all) = inl all
no_call n rest (inr none) = inr (λ t op more fits. none (Begin t op) more fits)

-- no line stands behind those that were taken
front_fault : (front back : List ℕ) → (feed_after opening_feed front).fault ≡ None → AreCalls (lines_after opening_feed front)
    → (0 < (feed_after opening_feed front).lines → 0 < length ((feed_after opening_feed front).rest ++ back))
    → NoLine (feed_after opening_feed front).lines ((feed_after opening_feed front).rest ++ back)
    → HasScriptFault (front ++ back) (fault_at (feed_after opening_feed front).lines)
front_fault front back ok calls some bad = by (feed_after opening_feed front).lines refl bad
  where
    by : (n : ℕ) → (feed_after opening_feed front).lines ≡ n → NoLine n ((feed_after opening_feed front).rest ++ back)
        → HasScriptFault (front ++ back) (fault_at n)
    by zero none bad =
        let t = taken front ok in
        let no_lines = t.lines in
        let rest : (feed_after opening_feed front).rest ≡ front =
        rest_is (lines_after opening_feed front) (feed_after opening_feed front).rest front (omega (arith, no_lines, none)) t.text in
        subst (λ (x : List ℕ). NoLine 0 (x ++ back)) rest bad
    by (suc n) count bad =
        let t = taken_trace front n ok count in
        let lines = (taken front ok).lines in
        let counted = t.trace.count in
        let same : n ≡ length t.trace.events = omega (arith, count, lines, counted) in
        let rest = (feed_after opening_feed front).rest ++ back in
        script_before t.trace.sizes t.trace.events rest (front ++ back) (n + 2)
        (subst (λ (ls : List Line). AreCalls ls) t.trace.is calls).1
        (ap (λ (x : List ℕ). x ++ back) (sym t.text)
        ∙ append_assoc (trace_text t.trace.sizes t.trace.events) (feed_after opening_feed front).rest back)
        t.trace.trace (omega (arith, same))
        (some (omega (arith, count)), subst (λ (k : ℕ). (k ≡ 1000000) ⊎ BeginsNoCall rest) same (no_call n rest bad))

-- a fault of the feed, whatever follows
pub fed_fault : (bytes : List ℕ) (fault : ReplayFault) (later : List ℕ) → (feed_after opening_feed bytes).fault ≡ Some fault
    → AreCalls (lines_after opening_feed bytes) → HasScriptFault (bytes ++ later) fault
fed_fault bytes fault later failed calls =
    let s = stops opening_feed bytes fault refl opening_is failed in
    let some = s.some in
    subst (λ (f : ReplayFault). HasScriptFault (bytes ++ later) f) (sym s.fault_is)
    (subst (λ (x : List ℕ). HasScriptFault x (fault_at (feed_after opening_feed s.front).lines))
    (sym (ap (λ (x : List ℕ). x ++ later) s.parts ∙ append_assoc s.front s.back later))
    (front_fault s.front (s.back ++ later) s.ok (subst (λ (ls : List Line). AreCalls ls) s.lines calls)
    (λ _. simp (length-append) (omega arith)) (s.bad later)))

-- what is wrong where the bytes are over
pub over_fault : (bytes : List ℕ) → (feed_after opening_feed bytes).fault ≡ None → AreCalls (lines_after opening_feed bytes)
    → (0 < (feed_after opening_feed bytes).lines → 0 < length (feed_after opening_feed bytes).rest)
    → HasScriptFault bytes (fault_at (feed_after opening_feed bytes).lines)
over_fault bytes ok calls some =
    let h = feed_after opening_feed bytes in
    let t = taken bytes ok in
    subst (λ (x : List ℕ). HasScriptFault x (fault_at h.lines)) (append-nil bytes)
    (front_fault bytes [] ok calls (λ more. rw (append-nil h.rest) (some more))
    (subst (λ (x : List ℕ). NoLine h.lines x) (sym (append-nil h.rest)) (cut h.lines h.rest t.held.no_end)))

-- the last of the lines
split_last : (es : List Event) (ls : List Line) (e : Event) → map event es ≡ ls ++ event e ∷ []
    → (front : List Event) × (es ≡ front ++ e ∷ []) × (ls ≡ map event front)
split_last [] [] e is = absurd (cc)
split_last [] (l ∷ ls) e is = absurd (cc)
split_last (x ∷ []) [] e is = (let same : x ≡ e = (cc) in ([], ap (λ (y : Event). y ∷ []) same, refl))
split_last (x ∷ y ∷ es) [] e is = absurd (cc)
split_last (x ∷ es) (l ∷ ls) e is =
    let first : l ≡ event x = (cc) in
    let rest : map event es ≡ ls ++ event e ∷ [] = (cc) in
    let more = split_last es ls e rest in
    (x ∷ more.0, ap (λ (ys : List Event). x ∷ ys) more.1, λ i. first i ∷ more.2 i)

-- behind the header
split_lines : (s : Sizes) (es : List Event) (ls : List Line) (e : Event) → header s ∷ map event es ≡ ls ++ event e ∷ []
    → (front : List Event) × (es ≡ front ++ e ∷ []) × (ls ≡ header s ∷ map event front)
split_lines s es [] e is = absurd (cc)
split_lines s es (l ∷ ls) e is =
    let first : l ≡ header s = (cc) in
    let rest : map event es ≡ ls ++ event e ∷ [] = (cc) in
    let more = split_last es ls e rest in
    (more.0, more.1, λ i. first i ∷ more.2 i)

all_front : (xs : List Event) (y : Event) → All EventFits (xs ++ y ∷ []) → All EventFits xs × EventFits y
all_front [] y h = (λ k d within. absurd (omega (arith, within)), (first_is y [] h).0)
all_front (x ∷ xs) y h =
    let p = first_is x (xs ++ y ∷ []) h in
    let more = all_front xs y p.1 in
    (together p.0 more.0, more.1)
  where
    together : EventFits x → All EventFits xs → All EventFits (x ∷ xs)
    together one rest zero d within = one
    together one rest (suc k) d within = rest k d (omega (arith, within))

-- the line of an event that begins no call is none of a script
other_line : (e : Event) (more : List ℕ) → (IsCall e → ⊥) → EventFits e → BeginsNoCall (event_line e ++ more)
other_line e more other fits t op xs of same =
    let is = (same_event e (Begin t op) more xs fits of same).0 in other (subst (λ (x : Event). IsCall x) (sym is) tt)

-- an event that begins no call
pub other_fault : (front later : List ℕ) (lines : List Line) (e : Event) → (feed_after opening_feed front).fault ≡ None
    → lines_after opening_feed front ≡ lines ++ event e ∷ [] → AreCalls lines → (IsCall e → ⊥)
    → HasBadCall (feed_after opening_feed front).lines (front ++ later)
other_fault front later lines e ok is calls other = by (feed_after opening_feed front).lines refl
  where
    by : (n : ℕ) → (feed_after opening_feed front).lines ≡ n → HasBadCall n (front ++ later)
    by zero none =
        let long : length (lines_after opening_feed front) ≡ length lines + 1 =
        ap (λ (ls : List Line). length ls) is ∙ length-append lines (event e ∷ []) in
        absurd (omega (arith, (taken front ok).lines, none, long))
    by (suc n) count =
        let t = taken_trace front n ok count in
        let s = t.trace.sizes in
        let lines_are = (taken front ok).lines in
        let counted = t.trace.count in
        let split = split_lines s t.trace.events lines e (sym t.trace.is ∙ is) in
        let es = split.0 in
        let rest = (feed_after opening_feed front).rest in
        let long : length t.trace.events ≡ length es + 1 = ap (λ (xs : List Event). length xs) split.1 ∙ length-append es (e ∷ []) in
        let fits = all_front es e (subst (λ (xs : List Event). All EventFits xs) split.1 t.trace.trace.each) in
        let text : events_text t.trace.events ≡ events_text es ++ event_line e =
        ap events_text split.1 ∙ (flat_map-append event_line es (e ∷ [])
        ∙ ap (λ (x : List ℕ). events_text es ++ x) (append-nil (event_line e))) in
        let whole : front ++ later ≡ trace_text s es ++ (event_line e ++ (rest ++ later)) =
        ap (λ (x : List ℕ). x ++ later) (sym t.text)
        ∙ (append_assoc (trace_text s t.trace.events) rest later
        ∙ (ap (λ (x : List ℕ). (header_line s ++ x) ++ (rest ++ later)) text
        ∙ (ap (λ (x : List ℕ). x ++ (rest ++ later)) (sym (append_assoc (header_line s) (events_text es) (event_line e)))
        ∙ append_assoc (trace_text s es) (event_line e) (rest ++ later)))) in
        let few = t.trace.trace.few in
        let line : length (event_line e) ≡ length (event_text e) + 1 = length-append (event_text e) (10 ∷ []) in
        let some : length (event_line e ++ (rest ++ later)) ≡ length (event_line e) + length (rest ++ later) =
        length-append (event_line e) (rest ++ later) in
        script_before s es (event_line e ++ (rest ++ later)) (front ++ later) (suc n)
        (subst (λ (ls : List Line). AreCalls ls) split.2 calls).1 whole
        (record { within = t.trace.trace.within; each = fits.0; few = omega (arith, few, long) })
        (omega (arith, count, lines_are, counted, long))
        (omega (arith, line, some), inr (other_line e (rest ++ later) other fits.1))

-- bytes that are a script have no such fault
no_more_calls : (n : ℕ) (cs ds : List (ℕ × Op)) (rest : List ℕ) → All EventFits (map begin_of cs)
    → All EventFits (map begin_of ds)
    → IsBadCall (n + length cs) rest → n + length ds ≤ 1000000
    → events_text (map begin_of cs) ++ rest ≡ events_text (map begin_of ds) → ⊥
no_more_calls n [] [] rest each every bad few same =
    let none : length rest ≡ 0 = ap (λ (x : List ℕ). length x) same in omega (arith, bad.0, none)
no_more_calls n [] (d ∷ ds) rest each every (some, inl all) few same = omega (arith, all, few)
no_more_calls n [] (d ∷ ds) rest each every (some, inr none) few same =
    none d.0 d.1 (events_text (map begin_of ds)) (first_is (begin_of d) (map begin_of ds) every).0 same
no_more_calls n (c ∷ cs) [] rest each every bad few same =
    let line : length (event_line (begin_of c)) ≡ length (event_text (begin_of c)) + 1 = length-append (event_text (begin_of c)) (10 ∷ []) in
    let first : length (events_text (map begin_of (c ∷ cs))) ≡ length (event_line (begin_of c)) + length (events_text (map begin_of cs)) =
    length-append (event_line (begin_of c)) (events_text (map begin_of cs)) in
    let all : length (events_text (map begin_of (c ∷ cs)) ++ rest) ≡ length (events_text (map begin_of (c ∷ cs))) + length rest =
    length-append (events_text (map begin_of (c ∷ cs))) rest in
    let none : length (events_text (map begin_of (c ∷ cs)) ++ rest) ≡ 0 = ap (λ (x : List ℕ). length x) same in
    omega (arith, line, first, all, none)
no_more_calls n (c ∷ cs) (d ∷ ds) rest each every bad few same =
    let p = first_is (begin_of c) (map begin_of cs) each in
    let q = first_is (begin_of d) (map begin_of ds) every in
    let next = same_event (begin_of c) (begin_of d) (events_text (map begin_of cs) ++ rest) (events_text (map begin_of ds)) p.0 q.0
    (sym (append_assoc (event_line (begin_of c)) (events_text (map begin_of cs)) rest) ∙ same) in
    no_more_calls (n + 1) cs ds rest p.1 q.1 (subst (λ (k : ℕ). IsBadCall k rest) (omega arith) bad) (omega (arith, few)) next.1

pub no_script_fault : (bytes : List ℕ) (fault : ReplayFault) (s : Sizes) (calls : List (ℕ × Op)) → IsLineFault fault
    → HasScriptFault bytes fault → SpellsScript bytes s calls → ⊥
no_script_fault bytes BadHeader s calls is bad spells = bad s (events_text (map begin_of calls)) spells.trace.within spells.text
no_script_fault bytes (BadLine n) s calls is bad spells =
    let h = same_header bad.sizes s (events_text (map begin_of bad.calls) ++ bad.rest) (events_text (map begin_of calls))
    bad.script.within spells.trace.within
    (sym (append_assoc (header_line bad.sizes) (events_text (map begin_of bad.calls)) bad.rest) ∙ (sym bad.parts ∙ spells.text)) in
    let long : length (map begin_of calls) ≡ length calls = length_calls calls in
    no_more_calls 0 bad.calls calls bad.rest bad.script.each spells.trace.each
    (subst (λ (k : ℕ). IsBadCall k bad.rest) (omega arith) bad.bad) (omega (arith, long, spells.trace.few)) h.1
no_script_fault bytes Read s calls is bad spells = absurd is
no_script_fault bytes Write s calls is bad spells = absurd is
no_script_fault bytes Memory s calls is bad spells = absurd is

-- Bytes have one reading: a trace, or a first bad line.
use Rattle.std.proofs.Common.{◌≡◌, ℕ, suc, ◌+◌, ◌<◌, ◌≤◌, List, [], ◌∷◌, ◌++◌, length, refl, sym, ap, subst, ◌∙◌}
use Rattle.std.proofs.Common.{arith, append_assoc, length-append, inl, inr, ◌⊎◌}
use Rattle.std.specs.Prelude.{All}
use Rattle.std.proofs.lemmas.List.{append-nil}
use Rattle.std.proofs.lemmas.List.Elements.{recursion_from_All, All-from_recursion}
use Rattle.hp_base.specs.Text.{Sizes, sizes_text, event_text}
use Rattle.hp_base.specs.declared.event.Event.{Event}
use Rattle.hp_text.specs.declared.fault.ReplayFault.{ReplayFault}
use Rattle.hp_text.specs.declared.fault.ReplayFault.TheVariants.{BadLine, BadHeader, Read, Write, Memory}
use Rattle.hp_text.specs.Fits.{EventFits}
use Rattle.hp_text.specs.Reading.{header_at, event_at}
use Rattle.hp_text.specs.Traces.{AreWithinLimits, IsTrace, Spells, HasFault, HasBadLine, IsBadRest, IsLineFault}
use Rattle.hp_text.specs.Traces.{trace_text, events_text, event_line, header_line}
use Rattle.hp_text.proofs.Options.{some_is}
use Rattle.hp_text.proofs.Lines.{header_again, event_again}
use Rattle.hp_text.proofs.Ends.{line_is}
use Rattle.hp_text.proofs.Widths.{event_width, sizes_width}

-- equal lines are of equal events, and what follows them is equal
pub same_event : (e f : Event) (xs ys : List ℕ) → EventFits e → EventFits f → event_line e ++ xs ≡ event_line f ++ ys → (e ≡ f) × (xs ≡ ys)
same_event e f xs ys is of same =
    let t = line_is (event_text e) (event_text f) xs ys (event_width e is).no_end (event_width f of).no_end
    (sym (append_assoc (event_text e) (10 ∷ []) xs) ∙ same ∙ append_assoc (event_text f) (10 ∷ []) ys) in
    (some_is e f (sym (event_again e is) ∙ ap event_at t.0 ∙ event_again f of), t.1)

pub same_header : (s t : Sizes) (xs ys : List ℕ) → AreWithinLimits s → AreWithinLimits t
    → header_line s ++ xs ≡ header_line t ++ ys → (s ≡ t) × (xs ≡ ys)
same_header s t xs ys is of same =
    let l = line_is (sizes_text s) (sizes_text t) xs ys (sizes_width s is).no_end (sizes_width t of).no_end
    (sym (append_assoc (sizes_text s) (10 ∷ []) xs) ∙ same ∙ append_assoc (sizes_text t) (10 ∷ []) ys) in
    (some_is s t (sym (header_again s is) ∙ ap header_at l.0 ∙ header_again t of), l.1)

-- the events end here
abbrev pub EndsAt : ℕ → List ℕ → Type 0
EndsAt n rest = IsBadRest n rest ⊎ (rest ≡ [])

pub first_is : (e : Event) (events : List Event) → All EventFits (e ∷ events) → EventFits e × All EventFits events
first_is e events all = let p = recursion_from_All EventFits (e ∷ events) all in (p.0, All-from_recursion EventFits events p.1)

-- where the events end, no more event follows
no_more : (n : ℕ) (rest : List ℕ) (e : Event) (events : List Event) (more : List ℕ) → EndsAt n rest
    → n + suc (length events) ≤ 1000000 → All EventFits (e ∷ events) → rest ≡ events_text (e ∷ events) ++ more → ⊥
no_more n rest e events more (inl (some, inl all)) few each same = omega arith
no_more n rest e events more (inl (some, inr none)) few each same =
    none e (events_text events ++ more) (first_is e events each).0 (same ∙ append_assoc (event_line e) (events_text events) more)
no_more n rest e events more (inr over) few each same =
    let len : length rest ≡ length (events_text (e ∷ events)) + length more =
    ap length same ∙ length-append (events_text (e ∷ events)) more in
    let first : length (events_text (e ∷ events)) ≡ length (event_line e) + length (events_text events) =
    length-append (event_line e) (events_text events) in
    let line : length (event_line e) ≡ length (event_text e) + 1 = length-append (event_text e) (10 ∷ []) in
    let none : length rest ≡ 0 = ap length over in
    omega arith

pub same_events : (n : ℕ) (es fs : List Event) (xs ys : List ℕ) → All EventFits es → All EventFits fs
    → n + length es ≤ 1000000 → n + length fs ≤ 1000000 → EndsAt (n + length es) xs → EndsAt (n + length fs) ys
    → events_text es ++ xs ≡ events_text fs ++ ys → (es ≡ fs) × (xs ≡ ys)
same_events n [] [] xs ys each every few short end over same = (refl, same)
same_events n [] (f ∷ fs) xs ys each every few short end over same =
    absurd (no_more n xs f fs ys (subst (λ (k : ℕ). EndsAt k xs) (omega arith) end) short every same)
same_events n (e ∷ es) [] xs ys each every few short end over same =
    absurd (no_more n ys e es xs (subst (λ (k : ℕ). EndsAt k ys) (omega arith) over) few each (sym same))
same_events n (e ∷ es) (f ∷ fs) xs ys each every few short end over same =
    let p = first_is e es each in
    let q = first_is f fs every in
    let t = same_event e f (events_text es ++ xs) (events_text fs ++ ys) p.0 q.0
    (sym (append_assoc (event_line e) (events_text es) xs) ∙ same ∙ append_assoc (event_line f) (events_text fs) ys) in
    let more = same_events (n + 1) es fs xs ys p.1 q.1 (omega arith) (omega arith)
    (subst (λ (k : ℕ). EndsAt k xs) (omega arith) end) (subst (λ (k : ℕ). EndsAt k ys) (omega arith) over) t.1 in
    (rw (t.0, more.0) refl, more.1)

-- two readings of the same bytes
pub same_reading : (s t : Sizes) (es fs : List Event) (xs ys : List ℕ) → IsTrace s es → IsTrace t fs
    → EndsAt (length es) xs → EndsAt (length fs) ys → trace_text s es ++ xs ≡ trace_text t fs ++ ys → (s ≡ t) × (es ≡ fs) × (xs ≡ ys)
same_reading s t es fs xs ys is of end over same =
    let h = same_header s t (events_text es ++ xs) (events_text fs ++ ys) is.within of.within
    (sym (append_assoc (header_line s) (events_text es) xs) ∙ same ∙ append_assoc (header_line t) (events_text fs) ys) in
    let few = is.few in
    let short = of.few in
    let more = same_events 0 es fs xs ys is.each of.each (omega arith) (omega arith)
    (subst (λ (k : ℕ). EndsAt k xs) (omega arith) end) (subst (λ (k : ℕ). EndsAt k ys) (omega arith) over) h.1 in
    (h.0, more.0, more.1)

pub one_trace : (bytes : List ℕ) (s t : Sizes) (es fs : List Event) → Spells bytes s es → Spells bytes t fs → (s ≡ t) × (es ≡ fs)
one_trace bytes s t es fs p q =
    let same = same_reading s t es fs [] [] p.trace q.trace (inr refl) (inr refl)
    (append-nil (trace_text s es) ∙ sym p.text ∙ q.text ∙ sym (append-nil (trace_text t fs))) in
    (same.0, same.1)

pub one_bad_line : (bytes : List ℕ) (m n : ℕ) → HasBadLine m bytes → HasBadLine n bytes → m ≡ n
one_bad_line bytes m n p q =
    let same = same_reading p.sizes q.sizes p.events q.events p.rest q.rest p.trace q.trace (inl p.bad) (inl q.bad)
    (sym p.parts ∙ q.parts) in
    let lengths : length p.events ≡ length q.events = ap length same.1 in
    let first = p.number in
    let second = q.number in
    omega arith

-- a trace has no bad line
pub no_fault : (bytes : List ℕ) (fault : ReplayFault) (s : Sizes) (es : List Event) → IsLineFault fault
    → HasFault bytes fault → Spells bytes s es → ⊥
no_fault bytes (BadLine n) s es is p q =
    let same = same_reading p.sizes s p.events es p.rest [] p.trace q.trace (inl p.bad) (inr refl)
    (sym p.parts ∙ q.text ∙ sym (append-nil (trace_text s es))) in
    let none : length p.rest ≡ 0 = ap length same.2 in
    let some : 0 < length p.rest = p.bad.0 in
    omega arith
no_fault bytes BadHeader s es is p q = p s (events_text es) q.trace.within q.text
no_fault bytes Read s es is p q = is
no_fault bytes Write s es is p q = is
no_fault bytes Memory s es is p q = is

-- a line without a header is no line behind one
pub no_header : (bytes : List ℕ) (n : ℕ) → HasFault bytes BadHeader → HasBadLine n bytes → ⊥
no_header bytes n p q =
    p q.sizes (events_text q.events ++ q.rest) q.trace.within
    (q.parts ∙ append_assoc (header_line q.sizes) (events_text q.events) q.rest)

-- A line whose text is known, at the front of a piece, gives what it gives byte by byte.
use Rattle.std.proofs.Common.{◌≡◌, ◌≢◌, ℕ, suc, zero, ◌+◌, ◌-◌, ◌≤◌, Bool, true, false, not, eqb, List, [], ◌∷◌, ◌++◌}
use Rattle.std.proofs.Common.{length, take, drop}
use Rattle.std.proofs.Common.{Option, Some, None, refl, sym, ap, subst, ◌∙◌, arith, append_assoc, append-nil, length-append}
use Rattle.std.specs.Io.BufRead.{take_through}
use Rattle.std.proofs.lemmas.Bool.{ne_eqb, and_parts}
use Rattle.std.proofs.lemmas.List.{take-append-drop, take-append-le, take_all, length-take-le}
use Rattle.std.proofs.lemmas.Grind.{common_steps}
use Rattle.hp_base.specs.Text.{event_text}
use Rattle.hp_base.specs.declared.event.Event.{Event}
use Rattle.hp_text.specs.Fits.{EventFits}
use Rattle.hp_text.specs.Lines.{FeedState, Line, event, feed_after, lines_after, line_at, listed}
use Rattle.hp_text.specs.Reading.{◌>>=◌}
use Rattle.hp_text.specs.Traces.{HasNoEnd, event_line}
use Rattle.hp_text.proofs.Feeding.{turns, ends}
use Rattle.hp_text.proofs.Lines.{event_again}
use Rattle.hp_text.proofs.Widths.{event_width}
use Rattle.hp_text.proofs.WholeLines.{IsWhole, line_taken, inside_byte, end_byte}

-- a byte that is no end, and the bytes behind it
inside_parts : (b : ℕ) (text : List ℕ) → HasNoEnd (b ∷ text) → (eqb b 10 ≡ false) × HasNoEnd text
inside_parts b text is = let p = and_parts _ _ is in (not_true (eqb b 10) p.0, p.1)
  where
    not_true : (x : Bool) → not x ≡ true → x ≡ false
    not_true true e = absurd cc
    not_true false e = refl

-- from any byte of the line on
pub whole_text : (h : FeedState) (text rest : List ℕ) (l : Line) → h.fault ≡ None → eqb h.lines 1000001 ≡ false → HasNoEnd text
    → length h.rest + length text ≤ 56 → line_at h.lines (h.rest ++ text) ≡ Some l → IsWhole h (text ++ 10 ∷ rest) (length text) l
whole_text h [] rest l sound few no_end short is =
    let e = ends h 10 rest refl in
    let byte = end_byte h 10 l sound few refl (ap (λ (t : List ℕ). line_at h.lines t) (sym (append-nil h.rest)) ∙ is) in
    record {
      held = e.held ∙ ap (λ (p : FeedState × Option Line). p.0) byte;
      lines = e.lines ∙ ap (λ (p : FeedState × Option Line). listed p.1 []) byte;
      used = e.used;
    }
whole_text h (b ∷ text) rest l sound few no_end short is =
    let other = inside_parts b text no_end in
    let t = turns h b (text ++ 10 ∷ rest) other.0 in
    let byte = inside_byte h b sound few other.0 (ne_eqb (length h.rest) 56 (λ e. omega (arith, e, short))) in
    let next : FeedState = record h { rest = h.rest ++ b ∷ [] } in
    let longer : length (h.rest ++ b ∷ []) ≡ length h.rest + 1 = grind (arith, common_steps) in
    let later = whole_text next text rest l sound few other.1 (omega (arith, longer, short))
    (ap (λ (x : List ℕ). line_at h.lines x) (append_assoc h.rest (b ∷ []) text) ∙ is) in
    record {
      held = t.held ∙ (ap (λ (p : FeedState × Option Line). feed_after p.0 (take_through 10 (text ++ 10 ∷ rest))) byte ∙ later.held);
      lines = t.lines ∙ (ap (λ (p : FeedState × Option Line). lines_after p.0 (take_through 10 (text ++ 10 ∷ rest))) byte ∙ later.lines);
      used = (let u = later.used in let v = t.used in omega (arith, u, v));
    }

-- the line of an event, where nothing of it was taken before
pub event_whole : (h : FeedState) (piece : List ℕ) (e : Event) (rest : List ℕ) → h.rest ≡ [] → h.fault ≡ None → h.lines ≢ 0
    → h.lines ≢ 1000001 → EventFits e → piece ≡ event_line e ++ rest → IsWhole h piece (length (event_text e)) (event e)
event_whole h piece e rest new sound some few fits parts =
    let width = event_width e fits in
    let none : length h.rest ≡ 0 = ap (λ (xs : List ℕ). length xs) new in
    subst (λ (x : List ℕ). IsWhole h x (length (event_text e)) (event e)) (sym (parts ∙ append_assoc (event_text e) (10 ∷ []) rest))
    (whole_text h (event_text e) rest (event e) sound (ne_eqb h.lines 1000001 few) width.no_end (omega (arith, none, width.width))
    (ap (λ (xs : List ℕ). line_at h.lines (xs ++ event_text e)) new ∙ by h.lines some))
  where
    by : (n : ℕ) → n ≢ 0 → line_at n (event_text e) ≡ Some (event e)
    by zero not_zero = absurd (not_zero refl)
    by (suc n) not_zero = ap (λ (o : Option Event). o >>= λ x. Some (event x)) (event_again e fits)

-- what stands before the rest of some bytes
pub front_of : (bytes line rest : List ℕ) → bytes ≡ line ++ rest → take (length bytes - length rest) bytes ≡ line
front_of bytes line rest parts =
    let long : length bytes ≡ length line + length rest = ap (λ (xs : List ℕ). length xs) parts ∙ length-append line rest in
    let count : length bytes - length rest ≡ length line = omega (arith, long) in
    ap (λ (n : ℕ). take n bytes) count ∙ ap (λ (xs : List ℕ). take (length line) xs) parts
    ∙ take-append-le (length line) line rest (omega arith) ∙ take_all (length line) line (omega arith)

-- the line of an event that a piece begins with, by its length
pub record IsTaken (h : FeedState) (piece : List ℕ) (n : ℕ) (l : Line) : Type 0 where
  pub held : feed_after h (take_through 10 piece) ≡ line_taken h
  pub lines : lines_after h (take_through 10 piece) ≡ l ∷ []
  pub used : length (take_through 10 piece) ≡ n

pub event_taken : (h : FeedState) (piece : List ℕ) (used : ℕ) (e : Event) → h.rest ≡ [] → h.fault ≡ None → h.lines ≢ 0
    → h.lines ≢ 1000001 → EventFits e → used ≤ length piece → take used piece ≡ event_line e → IsTaken h piece used (event e)
event_taken h piece used e new sound some few fits within is =
    let w = event_whole h piece e (drop used piece) new sound some few fits
    (sym (take-append-drop used piece) ∙ ap (λ (xs : List ℕ). xs ++ drop used piece) is) in
    let count : length (take used piece) ≡ used = length-take-le used piece within in
    let line : length (take used piece) ≡ length (event_text e) + 1 =
    ap (λ (xs : List ℕ). length xs) is ∙ length-append (event_text e) (10 ∷ []) in
    record { held = w.held; lines = w.lines; used = (let u = w.used in omega (arith, u, count, line)) }

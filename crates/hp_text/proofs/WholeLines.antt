-- A line that stands whole in a piece gives what it gives byte by byte.
use Rattle.std.proofs.Common.{◌≡◌, ◌≢◌, ℕ, zero, suc, ◌+◌, ◌<◌, ◌≤◌, true, false, eqb, List, [], ◌∷◌, ◌++◌, length, take, get_or}
use Rattle.std.proofs.Common.{Option, Some, None, refl, sym, ap, ◌∙◌, arith, append_assoc, append-nil}
use Rattle.std.specs.Io.BufRead.{take_through}
use Rattle.std.proofs.lemmas.Bool.{ne_eqb, eq-eqb}
use Rattle.std.proofs.lemmas.Grind.{common_steps}
use Rattle.hp_text.specs.declared.fault.ReplayFault.{ReplayFault}
use Rattle.hp_text.specs.Lines.{FeedState, IsFirstEnd, Line, take_byte, next_byte, end_line, unless_fault, feed_after}
use Rattle.hp_text.specs.Lines.{lines_after, line_at, listed}
use Rattle.hp_text.proofs.Feeding.{turns, ends}

-- what is held once the line is taken
abbrev pub line_taken : FeedState → FeedState
line_taken h = record { lines = h.lines + 1; rest = []; fault = None }

-- the piece begins with that line, whose end is at `end`
pub record IsWhole (h : FeedState) (piece : List ℕ) (end : ℕ) (l : Line) : Type 0 where
  pub held : feed_after h (take_through 10 piece) ≡ line_taken h
  pub lines : lines_after h (take_through 10 piece) ≡ l ∷ []
  pub used : length (take_through 10 piece) ≡ end + 1

-- a byte inside a line
pub inside_byte : (h : FeedState) (b : ℕ) → h.fault ≡ None → eqb h.lines 1000001 ≡ false → eqb b 10 ≡ false → eqb (length h.rest) 56 ≡ false
    → take_byte h b ≡ (record h { rest = h.rest ++ b ∷ [] }, None)
unfolding take_byte
inside_byte h b sound few other short =
    ap (λ (f : Option ReplayFault). unless_fault f h (next_byte h b)) sound ∙ rw (few, other, short) refl

-- and the one that ends it
pub end_byte : (h : FeedState) (b : ℕ) (l : Line) → h.fault ≡ None → eqb h.lines 1000001 ≡ false → eqb b 10 ≡ true
    → line_at h.lines h.rest ≡ Some l → take_byte h b ≡ (line_taken h, Some l)
unfolding take_byte
end_byte h b l sound few end is =
    ap (λ (f : Option ReplayFault). unless_fault f h (next_byte h b)) sound
    ∙ rw (few, end) (ap (λ (o : Option Line). end_line h o) is)

-- so from any byte of the line on
pub whole : (h : FeedState) (piece : List ℕ) (end : ℕ) (l : Line) → h.fault ≡ None → eqb h.lines 1000001 ≡ false
    → end < length piece → length h.rest + end ≤ 56 → get_or piece end 0 ≡ 10 → ((j : ℕ) → j < end → get_or piece j 0 ≢ 10)
    → line_at h.lines (h.rest ++ take end piece) ≡ Some l → IsWhole h piece end l
whole h [] end l sound few within short at before is = absurd (omega (arith, within))
whole h (b ∷ rest) zero l sound few within short at before is =
    let e = ends h b rest (eq-eqb b 10 at) in
    let byte = end_byte h b l sound few (eq-eqb b 10 at) (ap (λ (t : List ℕ). line_at h.lines t) (sym (append-nil h.rest)) ∙ is) in
    record {
      held = e.held ∙ ap (λ (p : FeedState × Option Line). p.0) byte;
      lines = e.lines ∙ ap (λ (p : FeedState × Option Line). listed p.1 []) byte;
      used = e.used;
    }
whole h (b ∷ rest) (suc end) l sound few within short at before is =
    let t = turns h b rest (ne_eqb b 10 (before 0 (omega arith))) in
    let byte = inside_byte h b sound few (ne_eqb b 10 (before 0 (omega arith))) (ne_eqb (length h.rest) 56 (λ e. omega (arith, e, short))) in
    let next : FeedState = record h { rest = h.rest ++ b ∷ [] } in
    let longer : length (h.rest ++ b ∷ []) ≡ length h.rest + 1 = grind (arith, common_steps) in
    let later = whole next rest end l sound few (omega (arith, within)) (omega (arith, longer, short)) at (λ j m. before (suc j) (omega (arith, m)))
    (ap (λ (x : List ℕ). line_at h.lines x) (append_assoc h.rest (b ∷ []) (take end rest)) ∙ is) in
    record {
      held = t.held ∙ (ap (λ (p : FeedState × Option Line). feed_after p.0 (take_through 10 rest)) byte ∙ later.held);
      lines = t.lines ∙ (ap (λ (p : FeedState × Option Line). lines_after p.0 (take_through 10 rest)) byte ∙ later.lines);
      used = (let u = later.used in let v = t.used in omega (arith, u, v));
    }

-- and where nothing of the line was taken before
pub taken_whole : (h : FeedState) (piece : List ℕ) (end : ℕ) (l : Line) → h.rest ≡ [] → h.fault ≡ None → h.lines ≢ 1000001
    → IsFirstEnd piece end → end ≤ 56 → line_at h.lines (take end piece) ≡ Some l → IsWhole h piece end l
taken_whole h piece end l new sound few first short is =
    let none : length h.rest ≡ 0 = ap (λ (xs : List ℕ). length xs) new in
    whole h piece end l sound (ne_eqb h.lines 1000001 few) first.0 (omega (arith, none, short)) first.1 first.2
    (ap (λ (xs : List ℕ). line_at h.lines (xs ++ take end piece)) new ∙ is)

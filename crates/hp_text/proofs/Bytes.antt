-- What one byte does to what is held.
use Rattle.std.proofs.Common.{◌≡◌, ℕ, ◌+◌, ◌-◌, ◌*◌, ◌<◌, ◌≤◌, Bool, true, false, cond, eqb, [], ◌∷◌, ◌++◌, length, Option, Some}
use Rattle.std.proofs.Common.{None, refl, sym, subst, arith, length-append}
use Rattle.std.proofs.lemmas.Bool.{eqb-true, eqb-false}
use Rattle.hp_text.specs.declared.fault.ReplayFault.{ReplayFault}
use Rattle.hp_text.specs.Lines.{FeedState, Line, line_at, end_line, take_byte, next_byte, unless_fault, with_fault}
use Rattle.hp_text.proofs.Ends.{HasNoEnd-append}
use Rattle.hp_text.specs.Traces.{HasNoEnd, inside}

-- what happens at a byte where there is no fault
pub data ByteCase (h : FeedState) (b : ℕ) (next : FeedState × Option Line) : Type 0 where
  full : h.lines ≡ 1000001 → next ≡ (with_fault h, None) → ByteCase h b next
  takes_line : (l : Line) → (h.lines ≡ 1000001 → ⊥) → b ≡ 10 → line_at h.lines h.rest ≡ Some l
      → next ≡ (record { lines = h.lines + 1; rest = []; fault = None }, Some l) → ByteCase h b next
  takes_none : b ≡ 10 → line_at h.lines h.rest ≡ None → next ≡ (with_fault h, None) → ByteCase h b next
  too_long : inside b ≡ true → length h.rest ≡ 56 → next ≡ (with_fault h, None) → ByteCase h b next
  grows : (h.lines ≡ 1000001 → ⊥) → inside b ≡ true → (length h.rest ≡ 56 → ⊥)
      → next ≡ (record h { rest = h.rest ++ b ∷ [] }, None) → ByteCase h b next

pub byte_case : (h : FeedState) (b : ℕ) → h.fault ≡ None → ByteCase h b (take_byte h b)
unfolding take_byte
byte_case h b none =
    subst (λ (f : Option ReplayFault). ByteCase h b (unless_fault f h (next_byte h b))) (sym none)
    (by_lines (eqb h.lines 1000001) refl)
  where
    by_long : (is_long : Bool) → eqb (length h.rest) 56 ≡ is_long → eqb h.lines 1000001 ≡ false → eqb b 10 ≡ false
        → ByteCase h b (cond {A = FeedState × Option Line} is_long (with_fault h, None) (record h { rest = h.rest ++ b ∷ [] }, None))
    by_long true is few other = too_long (rw other refl) (eqb-true _ _ is) refl
    by_long false is few other = grows (eqb-false _ _ few) (rw other refl) (eqb-false _ _ is) refl

    by_line : (o : Option Line) → line_at h.lines h.rest ≡ o → eqb h.lines 1000001 ≡ false → b ≡ 10 → ByteCase h b (end_line h o)
    by_line (Some l) is few end = takes_line l (eqb-false _ _ few) end is refl
    by_line None is few end = takes_none end is refl

    by_end : (end : Bool) → eqb b 10 ≡ end → eqb h.lines 1000001 ≡ false
        → ByteCase h b (cond {A = FeedState × Option Line} end (end_line h (line_at h.lines h.rest))
        (cond (eqb (length h.rest) 56) (with_fault h, None) (record h { rest = h.rest ++ b ∷ [] }, None)))
    by_end true is few = by_line (line_at h.lines h.rest) refl few (eqb-true _ _ is)
    by_end false is few = by_long (eqb (length h.rest) 56) refl few is

    by_lines : (all : Bool) → eqb h.lines 1000001 ≡ all
        → ByteCase h b (cond {A = FeedState × Option Line} all (with_fault h, None)
        (cond (eqb b 10) (end_line h (line_at h.lines h.rest))
        (cond (eqb (length h.rest) 56) (with_fault h, None) (record h { rest = h.rest ++ b ∷ [] }, None))))
    by_lines true is = full (eqb-true _ _ is) refl
    by_lines false is = by_end (eqb b 10) refl is

-- what every feed holds
pub record IsHeld (h : FeedState) : Type 0 where
  pub lines : h.lines ≤ 1000001
  pub rest : length h.rest ≤ 56
  pub no_end : HasNoEnd h.rest

-- at most so many bytes can follow
abbrev pub room : FeedState → ℕ
room h = 57 * (1000001 - h.lines) - length h.rest

-- a byte without a fault takes room
pub record KeepsHeld (h next : FeedState) : Type 0 where
  pub held : IsHeld next
  pub smaller : next.fault ≡ None → room next < room h

failed : (h : FeedState) → IsHeld h → KeepsHeld h (with_fault h)
failed h is =
    record {
      held = record { lines = is.lines; rest = is.rest; no_end = is.no_end };
      smaller = λ (e : (with_fault h).fault ≡ None). absurd (some_none e);
    }
  where
    some_none : {A : Type 0} {x : A} → Some x ≡ None → ⊥
    some_none e = cc

pub keeps_held : (h : FeedState) (b : ℕ) → h.fault ≡ None → IsHeld h → KeepsHeld h (take_byte h b).0
keeps_held h b none is = by (take_byte h b) (byte_case h b none)
  where
    same : (next x : FeedState × Option Line) → next ≡ x → KeepsHeld h x.0 → KeepsHeld h next.0
    same next x e k = subst (λ (y : FeedState × Option Line). KeepsHeld h y.0) (sym e) k

    by : (next : FeedState × Option Line) → ByteCase h b next → KeepsHeld h next.0
    by next (full n e) = same next (with_fault h, None) e (failed h is)
    by next (takes_none end n e) = same next (with_fault h, None) e (failed h is)
    by next (too_long other n e) = same next (with_fault h, None) e (failed h is)
    by next (takes_line l few end n e) =
        let le = is.lines in
        let fits = is.rest in
        same next (record { lines = h.lines + 1; rest = []; fault = None }, Some l) e
        (record { held = record { lines = omega arith; rest = omega arith; no_end = refl }; smaller = λ _. omega arith })
    by next (grows few other short e) =
        let le = is.lines in
        let fits = is.rest in
        let len : length (h.rest ++ (b ∷ [])) ≡ length h.rest + 1 = length-append h.rest (b ∷ []) in
        same next (record h { rest = h.rest ++ b ∷ [] }, None) e
        (record {
          held = record {
            lines = is.lines;
            rest = omega arith;
            no_end = HasNoEnd-append h.rest (b ∷ []) is.no_end (rw other refl);
          };
          smaller = λ _. omega arith;
        })

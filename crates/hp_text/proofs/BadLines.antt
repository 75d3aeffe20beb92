-- Where a fault comes, no line stands.
use Rattle.std.proofs.Common.{◌≡◌, ℕ, zero, suc, ◌+◌, ◌<◌, List, [], ◌∷◌, ◌++◌, length, Option, Some, None, refl, sym, ap, subst}
use Rattle.std.proofs.Common.{◌∙◌, arith, append_assoc, length-append, inl, inr, ◌⊎◌}
use Rattle.std.proofs.lemmas.List.{append-nil}
use Rattle.hp_base.specs.Text.{sizes_text, event_text}
use Rattle.hp_text.specs.declared.fault.ReplayFault.{ReplayFault}
use Rattle.hp_text.specs.Lines.{FeedState, Line, header, event, line_at, take_byte, with_fault, fault_at, feed_after, lines_after, listed}
use Rattle.hp_text.specs.Traces.{BeginsNoHeader, BeginsNoEvent, HasNoEnd}
use Rattle.hp_text.proofs.Lines.{header_again, event_again}
use Rattle.hp_text.proofs.Feeding.{stays}
use Rattle.hp_text.proofs.Ends.{HasNoEnd-append, line_is, no_line_within}
use Rattle.hp_text.proofs.Widths.{event_width, sizes_width}
use Rattle.hp_text.proofs.Bytes.{ByteCase, full, takes_line, takes_none, too_long, grows, byte_case, IsHeld, keeps_held}

-- behind n others, no line stands at the front of the bytes
abbrev pub NoLine : ℕ → List ℕ → Type 0
NoLine zero bytes = BeginsNoHeader bytes
NoLine (suc n) bytes = (n ≡ 1000000) ⊎ BeginsNoEvent bytes

-- the text of a line that does
line_first : (bytes text more : List ℕ) → bytes ≡ (text ++ (10 ∷ [])) ++ more → bytes ≡ text ++ (10 ∷ more)
line_first bytes text more e = e ∙ append_assoc text (10 ∷ []) more

none_some : {A : Type 0} (o : Option A) (x : A) → o ≡ None → o ≡ Some x → ⊥
none_some o x p q = cc

-- a whole line that can't be read
unread : (n : ℕ) (rest back : List ℕ) → HasNoEnd rest → line_at n rest ≡ None → NoLine n (rest ++ (10 ∷ back))
unread zero rest back no_end none = λ s more within e.
    let is = line_is rest (sizes_text s) back more no_end (sizes_width s within).no_end (line_first _ (sizes_text s) more e) in
    let read : line_at 0 rest ≡ Some (header s) = rw (is.0, header_again s within) refl in
    none_some _ (header s) none read
unread (suc n) rest back no_end none = inr (λ x more trace e.
    let is = line_is rest (event_text x) back more no_end (event_width x trace).no_end (line_first _ (event_text x) more e) in
    let read : line_at (suc n) rest ≡ Some (event x) = rw (is.0, event_again x trace) refl in
    none_some _ (event x) none read)

-- more bytes than a line has, and no end
past_width : (n : ℕ) (rest back : List ℕ) → HasNoEnd rest → 56 < length rest → NoLine n (rest ++ back)
past_width zero rest back no_end lt = λ s more within e.
    let fits = (sizes_width s within).width in
    no_line_within rest back (sizes_text s) more no_end (omega arith) (line_first _ (sizes_text s) more e)
past_width (suc n) rest back no_end lt = inr (λ x more trace e.
    let fits = (event_width x trace).width in
    no_line_within rest back (event_text x) more no_end (omega arith) (line_first _ (event_text x) more e))

-- the bytes are over, and no line ended in them
pub cut : (n : ℕ) (rest : List ℕ) → HasNoEnd rest → NoLine n rest
cut zero rest no_end = λ s more within e. cut_line rest (sizes_text s) more no_end (line_first rest (sizes_text s) more e)
  where
    cut_line : (rest text more : List ℕ) → HasNoEnd rest → rest ≡ text ++ (10 ∷ more) → ⊥
    cut_line rest text more no_end e =
        let len : length rest ≡ length text + length (10 ∷ more) = ap length e ∙ length-append text (10 ∷ more) in
        no_line_within rest [] text more no_end (omega arith) (append-nil rest ∙ e)
cut (suc n) rest no_end = inr (λ x more trace e. cut_line rest (event_text x) more no_end (line_first rest (event_text x) more e))
  where
    cut_line : (rest text more : List ℕ) → HasNoEnd rest → rest ≡ text ++ (10 ∷ more) → ⊥
    cut_line rest text more no_end e =
        let len : length rest ≡ length text + length (10 ∷ more) = ap length e ∙ length-append text (10 ∷ more) in
        no_line_within rest [] text more no_end (omega arith) (append-nil rest ∙ e)

-- a byte with which a fault comes
pub record Refuses (h : FeedState) (b : ℕ) (next : FeedState × Option Line) : Type 0 where
  pub is : next ≡ (with_fault h, None)
  pub bad : (back : List ℕ) → NoLine h.lines (h.rest ++ (b ∷ back))

all_lines : (n : ℕ) (bytes : List ℕ) → n ≡ 1000001 → NoLine n bytes
all_lines n bytes e = subst (λ (k : ℕ). NoLine k bytes) (sym e) (inl refl)

pub refuses : (h : FeedState) (b : ℕ) (fault : ReplayFault) → h.fault ≡ None → IsHeld h
    → (take_byte h b).0.fault ≡ Some fault → Refuses h b (take_byte h b)
refuses h b fault none is bad = by (take_byte h b) (byte_case h b none) bad
  where
    by : (next : FeedState × Option Line) → ByteCase h b next → next.0.fault ≡ Some fault → Refuses h b next
    by next (full n e) bad = record { is = e; bad = λ back. all_lines h.lines _ n }
    by next (takes_none end n e) bad =
        record {
          is = e;
          bad = λ back. subst (λ (x : ℕ). NoLine h.lines (h.rest ++ (x ∷ back))) (sym end)
              (unread h.lines h.rest back is.no_end n);
        }
    by next (too_long other n e) bad =
        let len : length (h.rest ++ (b ∷ [])) ≡ length h.rest + 1 = length-append h.rest (b ∷ []) in
        record {
          is = e;
          bad =
              λ back. subst (λ (x : List ℕ). NoLine h.lines x) (append_assoc h.rest (b ∷ []) back)
              (past_width h.lines (h.rest ++ (b ∷ [])) back
              (HasNoEnd-append h.rest (b ∷ []) is.no_end (rw other refl)) (omega arith));
        }
    by next (takes_line l few end n e) bad =
        absurd (no_fault next (record { lines = h.lines + 1; rest = []; fault = None }, Some l) e refl bad)
      where
        no_fault : (next x : FeedState × Option Line) → next ≡ x → x.0.fault ≡ None → next.0.fault ≡ Some fault → ⊥
        no_fault next x e p q = let same = ap (λ (y : FeedState × Option Line). y.0.fault) e in cc
    by next (grows few other short e) bad = absurd (no_fault next (record h { rest = h.rest ++ b ∷ [] }, None) e none bad)
      where
        no_fault : (next x : FeedState × Option Line) → next ≡ x → x.0.fault ≡ None → next.0.fault ≡ Some fault → ⊥
        no_fault next x e p q = let same = ap (λ (y : FeedState × Option Line). y.0.fault) e in cc

-- the bytes before the fault, and those from the one with which it came
pub record Stops (h : FeedState) (bytes : List ℕ) (fault : ReplayFault) : Type 0 where
  pub front : List ℕ
  pub back : List ℕ
  pub parts : bytes ≡ front ++ back
  pub some : 0 < length back
  pub ok : (feed_after h front).fault ≡ None
  pub held : IsHeld (feed_after h front)
  pub lines : lines_after h bytes ≡ lines_after h front
  pub fault_is : fault ≡ fault_at (feed_after h front).lines
  pub bad : (later : List ℕ) → NoLine (feed_after h front).lines ((feed_after h front).rest ++ (back ++ later))

pub stops : (h : FeedState) (bytes : List ℕ) (fault : ReplayFault) → h.fault ≡ None → IsHeld h
    → (feed_after h bytes).fault ≡ Some fault → Stops h bytes fault
unfolding feed_after lines_after
stops h [] fault none is bad = absurd (none_some h.fault fault none bad)
stops h (b ∷ bytes) fault none is bad =
    by (take_byte h b).0.fault refl
    (λ (ok : (take_byte h b).0.fault ≡ None). stops (take_byte h b).0 bytes fault ok (keeps_held h b none is).held bad)
  where
    by : (f : Option ReplayFault) → (take_byte h b).0.fault ≡ f
        → ((take_byte h b).0.fault ≡ None → Stops (take_byte h b).0 bytes fault) → Stops h (b ∷ bytes) fault
    by None ok later =
        let more = later ok in
        record {
          front = b ∷ more.front;
          back = more.back;
          parts = ap (λ (x : List ℕ). b ∷ x) more.parts;
          some = more.some;
          ok = more.ok;
          held = more.held;
          lines = ap (λ (x : List Line). listed (take_byte h b).1 x) more.lines;
          fault_is = more.fault_is;
          bad = more.bad;
        }
    by (Some f) failed later =
        let kept = stays (take_byte h b).0 f bytes failed in
        let r = refuses h b f none is failed in
        let same : Some f ≡ Some fault = sym failed ∙ ap (λ (x : FeedState). x.fault) (sym kept.0) ∙ bad in
        let this : Some f ≡ Some (fault_at h.lines) = sym failed ∙ ap (λ (x : FeedState × Option Line). x.0.fault) r.is in
        record {
          front = [];
          back = b ∷ bytes;
          parts = refl;
          some = omega arith;
          ok = none;
          held = is;
          lines = ap (λ (x : FeedState × Option Line). listed x.1 (lines_after (take_byte h b).0 bytes)) r.is ∙ kept.1;
          fault_is = cc;
          bad = λ later. r.bad (bytes ++ later);
        }

-- The bytes that were taken are the lines that came of them, and the rest.
use Rattle.std.proofs.Common.{◌≡◌, ℕ, zero, suc, ◌+◌, List, [], ◌∷◌, ◌++◌, length, Option, Some, None, refl, sym, ap, subst, ◌∙◌}
use Rattle.std.proofs.Common.{arith, append_assoc}
use Rattle.std.specs.List.{flat_map}
use Rattle.std.proofs.lemmas.List.{append-nil}
use Rattle.std.proofs.lemmas.List.Concat.{flat_map-cons}
use Rattle.hp_text.specs.declared.fault.ReplayFault.{ReplayFault}
use Rattle.hp_text.specs.Reading.{header_at, event_at}
use Rattle.hp_text.specs.Lines.{FeedState, Line, header, event, line_at, take_byte, with_fault, feed_after, lines_after, listed}
use Rattle.hp_text.specs.Lines.{line_text, AreLines}
use Rattle.hp_text.proofs.Options.{some_is}
use Rattle.hp_text.proofs.Numbers.{bind_some}
use Rattle.hp_text.proofs.Lines.{header_takes, event_takes}
use Rattle.hp_text.proofs.Feeding.{stays}
use Rattle.hp_text.proofs.Bytes.{ByteCase, full, takes_line, takes_none, too_long, grows, byte_case}

-- what one byte did where there is no fault after it
pub record Took (h : FeedState) (next : FeedState × Option Line) (b : ℕ) : Type 0 where
  pub text : flat_map line_text (listed next.1 []) ++ next.0.rest ≡ h.rest ++ (b ∷ [])
  pub lines : next.0.lines ≡ h.lines + length (listed next.1 [])
  pub are : AreLines h.lines (listed next.1 [])

-- the line that the rest spells
pub line_takes : (n : ℕ) (rest : List ℕ) (l : Line) → line_at n rest ≡ Some l → (rest ++ (10 ∷ []) ≡ line_text l) × AreLines n (l ∷ [])
line_takes zero rest l e =
    let a = bind_some (header_at rest) (λ s. Some (header s)) l e in
    let t = header_takes rest a.0 a.1 in
    subst (λ (x : Line). (rest ++ (10 ∷ []) ≡ line_text x) × AreLines 0 (x ∷ [])) (some_is (header a.0) l a.2)
    (ap (λ (x : List ℕ). x ++ (10 ∷ [])) t.0, (t.1, tt))
line_takes (suc n) rest l e =
    let a = bind_some (event_at rest) (λ s. Some (event s)) l e in
    let t = event_takes rest a.0 a.1 in
    subst (λ (x : Line). (rest ++ (10 ∷ []) ≡ line_text x) × AreLines (suc n) (x ∷ [])) (some_is (event a.0) l a.2)
    (ap (λ (x : List ℕ). x ++ (10 ∷ [])) t.0, (t.1, tt))

byte_took : (h : FeedState) (b : ℕ) → h.fault ≡ None → (take_byte h b).0.fault ≡ None → Took h (take_byte h b) b
byte_took h b none ok = by (take_byte h b) (byte_case h b none) ok
  where
    fails : (next : FeedState × Option Line) → next ≡ (with_fault h, None) → next.0.fault ≡ None → ⊥
    fails next e ok =
        let failed = ap (λ (x : FeedState × Option Line). x.0.fault) e in
        cc

    same : (next x : FeedState × Option Line) → next ≡ x → Took h x b → Took h next b
    same next x e t = subst (λ (y : FeedState × Option Line). Took h y b) (sym e) t

    by : (next : FeedState × Option Line) → ByteCase h b next → next.0.fault ≡ None → Took h next b
    by next (full n e) ok = absurd (fails next e ok)
    by next (takes_none end n e) ok = absurd (fails next e ok)
    by next (too_long other n e) ok = absurd (fails next e ok)
    by next (takes_line l few end is e) ok =
        let t = line_takes h.lines h.rest l is in
        same next (record { lines = h.lines + 1; rest = []; fault = None }, Some l) e
        (record {
          text = append-nil (line_text l ++ []) ∙ append-nil (line_text l) ∙ sym t.0
              ∙ ap (λ (x : ℕ). h.rest ++ (x ∷ [])) (sym end);
          lines = refl;
          are = t.1;
        })
    by next (grows few other short e) ok =
        same next (record h { rest = h.rest ++ b ∷ [] }, None) e (record { text = refl; lines = omega arith; are = tt })

listed_text : (o : Option Line) (lines : List Line)
    → flat_map line_text (listed o lines) ≡ flat_map line_text (listed o []) ++ flat_map line_text lines
listed_text None lines = refl
listed_text (Some l) lines =
    flat_map-cons line_text l lines
    ∙ ap (λ (x : List ℕ). x ++ flat_map line_text lines) (sym (flat_map-cons line_text l [] ∙ append-nil (line_text l)))

are_more : (n m : ℕ) (o : Option Line) (lines : List Line) → AreLines n (listed o []) → m ≡ n + length (listed o [])
    → AreLines m lines → AreLines n (listed o lines)
are_more n m None lines first is more = let e : m ≡ n = omega arith in subst (λ (k : ℕ). AreLines k lines) e more
are_more zero m (Some (header s)) lines first is more = let e : m ≡ 1 = omega arith in (first.0, subst (λ (k : ℕ). AreLines k lines) e more)
are_more zero m (Some (event s)) lines first is more = absurd first
are_more (suc n) m (Some (header s)) lines first is more = absurd first
are_more (suc n) m (Some (event s)) lines first is more =
    let e : m ≡ suc n + 1 = omega arith in (first.0, subst (λ (k : ℕ). AreLines k lines) e more)

-- what the bytes were, where there is no fault after them
pub record Spelled (h : FeedState) (bytes : List ℕ) : Type 0 where
  pub text : flat_map line_text (lines_after h bytes) ++ (feed_after h bytes).rest ≡ h.rest ++ bytes
  pub lines : (feed_after h bytes).lines ≡ h.lines + length (lines_after h bytes)
  pub are : AreLines h.lines (lines_after h bytes)

-- there was none before either
pub no_fault_before : (h : FeedState) (bytes : List ℕ) → (feed_after h bytes).fault ≡ None → h.fault ≡ None
no_fault_before h bytes ok = by h.fault refl
  where
    by : (f : Option ReplayFault) → h.fault ≡ f → h.fault ≡ None
    by None is = is
    by (Some f) is =
        let kept = ap (λ (x : FeedState). x.fault) (stays h f bytes is).0 in
        absurd cc

no_fault_before_byte : (h : FeedState) (b : ℕ) → (take_byte h b).0.fault ≡ None → h.fault ≡ None
unfolding feed_after
no_fault_before_byte h b ok = no_fault_before h (b ∷ []) ok

pub spelled : (h : FeedState) (bytes : List ℕ) → (feed_after h bytes).fault ≡ None → Spelled h bytes
unfolding feed_after lines_after
spelled h [] ok = record { text = sym (append-nil h.rest); lines = omega arith; are = tt }
spelled h (b ∷ bytes) ok =
    let next = take_byte h b in
    let after = no_fault_before next.0 bytes ok in
    let first = byte_took h b (no_fault_before_byte h b after) after in
    let more = spelled next.0 bytes ok in
    let lines = lines_after next.0 bytes in
    let rest = (feed_after next.0 bytes).rest in
    record {
      text =
          ap (λ (x : List ℕ). x ++ rest) (listed_text next.1 lines)
          ∙ append_assoc (flat_map line_text (listed next.1 [])) (flat_map line_text lines) rest
          ∙ ap (λ (x : List ℕ). flat_map line_text (listed next.1 []) ++ x) more.text
          ∙ sym (append_assoc (flat_map line_text (listed next.1 [])) next.0.rest bytes)
          ∙ ap (λ (x : List ℕ). x ++ bytes) first.text
          ∙ append_assoc h.rest (b ∷ []) bytes;
      lines = more.lines ∙ counted next.1 lines h.lines next.0.lines first.lines;
      are = are_more h.lines next.0.lines next.1 lines first.are first.lines more.are;
    }
  where
    counted : (o : Option Line) (lines : List Line) (n m : ℕ) → m ≡ n + length (listed o [])
        → m + length lines ≡ n + length (listed o lines)
    counted None lines n m e = omega arith
    counted (Some l) lines n m e = omega arith
